-- What a directory contains (TIFF 6.0 section 2).
use Rattle.std.specs.Prelude.{◌≡◌, ℕ, ◌^◌, ◌<◌, ◌⊎◌, List, [], ◌∷◌, length, Option}
use Rattle.std.specs.FinMap.{FinMap, entries}
use Rattle.std.specs.Ordering.{nat_cmp}
use Rattle.tiff_base.specs.declared.tags.«Type».{«Type»}
use Rattle.tiff_base.specs.SourceAndSink.{AreOctets}

-- a field: the type of its values, their number, and the eight bytes of its value field
pub record Field : Type 0 where
  pub field_type : «Type»
  pub count : ℕ
  pub value : List ℕ

-- a field for each of some tag numbers, and the offset of the next directory
pub record DirectoryRecord : Type 0 where
  pub entries : FinMap nat_cmp Field
  pub next : Option ℕ

-- x is a member of the list
abbrev pub In : {A : Type 0} → A → List A → Type 0
In x [] = ⊥
In x (y ∷ ys) = (x ≡ y) ⊎ In x ys

-- an entry that a directory in memory can have: a tag number of 16 bits, a number of values of 64
-- bits, and a value field of eight bytes
pub record IsEntry (e : ℕ × Field) : Type 0 where
  pub tag : e.0 < 2 ^ 16
  pub count : e.1.count < 2 ^ 64
  pub whole : length e.1.value ≡ 8
  pub octets : AreOctets e.1.value

-- each entry of the directory is an entry that a directory in memory can have
abbrev pub AreEntries : FinMap nat_cmp Field → Type 0
AreEntries fields = (e : ℕ × Field) → In e (entries fields) → IsEntry e
