-- The worked examples of `Ifd.Stretches` hold.
use Rattle.std.specs.Prelude.{Result, Ok, Err, refl}
use Rattle.std.proofs.Common.{ℕ, arith, sym, ◌∙◌}
use Rattle.std.proofs.lemmas.Bool.{false≢true}
use Rattle.std.proofs.lemmas.Option.{none-some}
use Rattle.std.specs.FinMap.{get-empty}
use Rattle.std.specs.Ordering.{nat_cmp}
use Rattle.tiff_base.specs.declared.error.TiffError.{TiffError}
use Rattle.test_definitions.specs.Ifd.Stretches as s
use Rattle.tiff.proofs.OnLiterals.{tiff_on_literals}

-- the number of entries that is read
abbrev pub count_in : Result ℕ TiffError → ℕ
count_in (Ok n) = n
count_in (Err e) = 0

pub directory_with_link : s.directory_with_link
unfolding tiff_on_literals
directory_with_link r = false≢true (r.entries 1 refl 14 (omega arith) (omega arith))

pub tag_missing : s.tag_missing
tag_missing = record { field = λ f h. Prim.absurd (none-some f (sym (get-empty nat_cmp _) ∙ h)) }

pub ruleset worked = (directory_with_link, tag_missing)
