-- Calls that show directories of a file, one after another.
use Rattle.std.proofs.Common.{◌≡◌, ℕ, ◌<◌, ◌≤◌, Result, Ok, Err, IfErr, OnOk, refl, ap, ◌∙◌, subst, arith}
use Rattle.tiff_base.specs.declared.error.TiffError.{TiffError}
use Rattle.tiff_base.specs.declared.tags.IfdPointer.{IfdPointer}
use Rattle.tiff_base.specs.Answers.{IsCause}
use Rattle.tiff_base.specs.Field.{DirectoryRecord}
use Rattle.tiff_decode.specs.Machine.{Decoding}
use Rattle.tiff_pages.specs.declared.tree.DirectoryItem.{DirectoryItem}
use Rattle.tiff_pages.specs.Listed.{ListingRecord}
use Rattle.tiff_pages.specs.Tree.{Shows, expand, level, list_named, shown_as}

-- No call shows the directory that was shown before.
pub shows_none : {X : Type 0} (x : X) (d : Decoding) → Shows (Ok x) d d
shows_none x d = record { shows = refl; failures = omega (arith); stays = refl; refused = tt }

-- A call behind another one.
pub then_shows : {X Y : Type 0} (x : X) (r : Result Y TiffError) (a b c : Decoding)
    → Shows (Ok x) a b → Shows r b c → Shows r a c
then_shows x r a b c h k =
    let N : ℕ → Type 0 = λ n. n ≤ c.failures in
    let S : ℕ → Type 0 = λ n. OnOk r (c.failures ≡ n) in
    let R : ℕ → Type 0 = λ n. IfErr r (λ e. IsCause (Unit {0}) (n < c.failures) e ⊥) in
    record {
      shows = k.shows ∙ ap (λ (d : Decoding). shown_as d c) h.shows;
      failures = subst N h.stays k.failures;
      stays = subst S h.stays k.stays;
      refused = subst R h.stays k.refused;
    }

-- The same call with another result.
pub ok_again : {X Y : Type 0} (x : X) (y : Y) (a b : Decoding) → Shows (Ok x) a b → Shows (Ok y) a b
ok_again x y a b h =
    record { shows = h.shows; failures = h.failures; stays = h.stays; refused = tt }

pub err_again : {X Y : Type 0} (e : TiffError) (a b : Decoding) → Shows {X = X} (Err e) a b
    → Shows {X = Y} (Err e) a b
err_again e a b h =
    record { shows = h.shows; failures = h.failures; stays = tt; refused = h.refused }

-- What is read after such a call is the same.
module _ {X : Type 0} (r : Result X TiffError) (a b : Decoding) (h : Shows r a b) where
  pub named_same : (place : IfdPointer) (depth : ℕ) (l : ListingRecord)
      (read : Result DirectoryRecord TiffError)
      → list_named b place depth l read ≡ list_named a place depth l read
  named_same place depth l read = ap (λ (d : Decoding). list_named d place depth l read) h.shows

  pub expand_same : (depth : ℕ) (l : ListingRecord) (item : DirectoryItem)
      → expand b depth l item ≡ expand a depth l item
  expand_same depth l item = ap (λ (d : Decoding). expand d depth l item) h.shows

  pub level_same : (depth : ℕ) (l : ListingRecord) → level b depth l ≡ level a depth l
  level_same depth l = ap (λ (d : Decoding). level d depth l) h.shows
