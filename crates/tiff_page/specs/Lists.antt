-- The lists of a page, of which one item alone may be known.
use Rattle.std.specs.Prelude.{ℕ, List, replicate, set}
use Rattle.tiff_base.specs.declared.tags.ExtraSamples.{ExtraSamples}
use Rattle.tiff_page.specs.declared.lists.KnownNumbers.{KnownNumbers}
use Rattle.tiff_page.specs.declared.lists.KnownNumbers.TheVariants.{All, One}
use Rattle.tiff_page.specs.declared.lists.KnownSamples.{KnownSamples}
use Rattle.tiff_page.specs.declared.lists.KnownSamples.TheVariants as samples

-- a list of `count` numbers of which the one at an index is known, and the others are 0
abbrev pub one_known : ℕ → ℕ → ℕ → List ℕ
one_known count index number = set (replicate count 0) index number

-- the list of the numbers of a tag
abbrev pub numbers_of : KnownNumbers → List ℕ
numbers_of (All numbers) = numbers.items
numbers_of (One count index number) = one_known count index number

-- the list of what the extra samples mean
abbrev pub samples_of : KnownSamples → List ExtraSamples
samples_of (samples.All extra) = extra.items
samples_of (samples.Alike count sample) = replicate count sample
