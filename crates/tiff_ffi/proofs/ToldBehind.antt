-- What C gets for pages behind a file.
use Rattle.std.proofs.Common.{◌≡◌, ◌⊎◌, inr, ℕ, List, Result, Ok, Err}
use Rattle.tiff_base.specs.declared.error.TiffError.{TiffError}
use Rattle.tiff_ffi.specs.declared.appended.Appended.{Appended}
use Rattle.tiff_ffi.specs.declared.appended.BehindFile.{BehindFile}
use Rattle.tiff_ffi.specs.declared.pages.NewPage.{NewPage}
use Rattle.tiff_ffi.specs.Appended.{AnswersAppend, AppendTells, TellsAppended}
use Rattle.tiff_ffi.proofs.Delivered.{kept_pages}

pub told_appended : (file : List ℕ) (pages : List NewPage) (answer : Result BehindFile TiffError)
    (status : ℕ) (old new : List ℕ) (appended : Appended)
    → AnswersAppend file pages answer → TellsAppended answer status old new appended
    → AppendTells file pages status old new appended
told_appended file pages answer status old new appended a t = (answer, (a, t))

pub kept_appended : (answer : Result BehindFile TiffError) (status : ℕ) (old new : List ℕ)
    (appended : Appended) → TellsAppended answer status old new appended
    → (status ≡ 0) ⊎ (new ≡ old)
kept_appended (Ok b) status old new appended (len, (end, (t, is))) =
    kept_pages (Ok b.pages) status old new 0 len end t
kept_appended (Err e) status old new appended t = inr t.1.0
