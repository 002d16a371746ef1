-- The model of what the encoder wrote into a file, and when a file contains it (this project's).
use Rattle.std.specs.Prelude.{◌≡◌, ℕ, ◌+◌, ◌*◌, ◌≤◌, ◌⊎◌, ◌==◌, List, [], ◌∷◌, length, if◌then◌else◌, Ok}
use Rattle.std.specs.FinMap.{FinMap, len}
use Rattle.std.specs.Ordering.{nat_cmp}
use Rattle.tiff_base.specs.declared.tags.FileKind.{FileKind}
use Rattle.tiff_base.specs.declared.tags.ByteOrder.TheVariants.{LittleEndian}
use Rattle.tiff_base.specs.Field.{Field}
pub use Rattle.tiff_base.specs.Field.{In}
use Rattle.tiff_base.specs.SourceAndSink.{exactly_at}
use Rattle.tiff_base.specs.Number.{number_at}
use Rattle.tiff_base.specs.Directory.{count_width, offset_width, entry_len, link, link_offset, directory_at}
use Rattle.tiff_base.specs.FieldBytes.{field_len, field_offset, field_bytes}
use Rattle.tiff_value.specs.FileBytes.{offset_len, count_len, header_mark}

-- the n bytes at p and the l bytes at q don't overlap
abbrev pub BytesAreApart : ℕ → ℕ → ℕ → ℕ → Type 0
BytesAreApart p n q l = (p + n ≤ q) ⊎ (q + l ≤ p)

-- a finished directory: its offset, and its field for each tag number
pub record FinishedDirectory : Type 0 where
  pub offset : ℕ
  pub fields : FinMap nat_cmp Field

-- a field, with the bytes that the caller passed for it
pub record SuppliedField : Type 0 where
  pub field : Field
  pub bytes : List ℕ

-- bytes that were appended
pub record ByteRegion : Type 0 where
  pub offset : ℕ
  pub bytes : List ℕ

-- the model of what a file contains; `links` has the target of the link at each offset
pub record Model : Type 0 where
  pub directories : List FinishedDirectory
  pub supplied : List SuppliedField
  pub regions : List ByteRegion
  pub links : ℕ → ℕ

module _ (kind : FileKind) where
  -- the offset of the header's link, and of the link of a directory
  abbrev pub header_link : ℕ
  header_link = length (header_mark kind)

  abbrev pub own_link : FinishedDirectory → ℕ
  own_link d = link_offset kind d.offset (len d.fields)

  -- the offset of a link: the header's link, or the link of a finished directory
  abbrev pub IsLink : Model → ℕ → Type 0
  IsLink m q =
      (q ≡ header_link) ⊎ ((d : FinishedDirectory) × (In d m.directories × (q ≡ own_link d)))

  -- the link at q doesn't overlap the n bytes at p
  abbrev pub IsClear : ℕ → ℕ → ℕ → Type 0
  IsClear q p n = BytesAreApart p n q (offset_len kind)

  -- the number of bytes of a directory without its link
  abbrev pub body_len : FinishedDirectory → ℕ
  body_len d = count_len kind + entry_len kind * len d.fields

  -- the number of bytes of a directory with its link
  abbrev pub whole_len : FinishedDirectory → ℕ
  whole_len d = body_len d + offset_len kind

  -- the link at q is within the file and overlaps nothing else that the model has
  pub record IsApart (file : List ℕ) (m : Model) (q : ℕ) : Type 0 where
    pub header : header_link ≤ q
    pub within : q + offset_len kind ≤ length file
    pub directories : (d : FinishedDirectory) → In d m.directories → IsClear q d.offset (body_len d)
    pub supplied : (h : SuppliedField) → In h m.supplied
        → (field_len h.field ≤ offset_len kind) ⊎ IsClear q (field_offset kind LittleEndian h.field)
        (field_len h.field)
    pub regions : (r : ByteRegion) → In r m.regions → IsClear q r.offset (length r.bytes)
    pub links : (p : ℕ) → IsLink m p → (p ≡ q) ⊎ IsClear q p (offset_len kind)

  -- The file contains the model: the header, whose link has its target; each finished directory,
  -- whose entries are its fields, each once, and whose link has its target; each field, with the
  -- bytes that the caller passed for it; each region. Directories and regions are within the file,
  -- and no two of them overlap. No link overlaps anything else.
  pub record FileContains (file : List ℕ) (m : Model) : Type 0 where
    pub header : exactly_at file 0 header_link ≡ Ok (header_mark kind)
    pub first : number_at LittleEndian (offset_width kind) file header_link
        ≡ Ok (m.links header_link)
    pub directories : (d : FinishedDirectory) → In d m.directories
        → directory_at kind LittleEndian file d.offset
        ≡ Ok (record { entries = d.fields; next = link (m.links (own_link d)) })
    pub counts : (d : FinishedDirectory) → In d m.directories
        → number_at LittleEndian (count_width kind) file d.offset ≡ Ok (len d.fields)
    pub supplied : (h : SuppliedField) → In h m.supplied
        → field_bytes kind LittleEndian file h.field ≡ Ok h.bytes
    pub regions : (r : ByteRegion) → In r m.regions
        → exactly_at file r.offset (length r.bytes) ≡ Ok r.bytes
    pub within : (r : ByteRegion) → In r m.regions → r.offset + length r.bytes ≤ length file
    pub disjoint : (r s : ByteRegion) → In r m.regions → In s m.regions
        → (r ≡ s) ⊎ BytesAreApart r.offset (length r.bytes) s.offset (length s.bytes)
    pub directories_within : (d : FinishedDirectory) → In d m.directories
        → d.offset + whole_len d ≤ length file
    pub directories_apart : (d e : FinishedDirectory) → In d m.directories → In e m.directories
        → (d ≡ e) ⊎ BytesAreApart d.offset (whole_len d) e.offset (whole_len e)
    pub regions_apart : (d : FinishedDirectory) (r : ByteRegion) → In d m.directories
        → In r m.regions
        → BytesAreApart d.offset (whole_len d) r.offset (length r.bytes)
    pub apart : (q : ℕ) → IsLink m q → IsApart file m q

  -- the model of a header alone, with link 0
  abbrev pub header_model : Model
  header_model = record { directories = []; supplied = []; regions = []; links = λ p. 0 }

  -- the model with target t of the link at q
  abbrev pub with_link : Model → ℕ → ℕ → Model
  with_link m q t = record m { links = λ p. if p == q then t else m.links p }

  -- the model with another finished directory, with link 0
  abbrev pub with_directory : Model → FinishedDirectory → Model
  with_directory m d =
      record m {
        directories = d ∷ m.directories;
        links = λ p. if p == own_link d then 0
            else m.links p;
      }

-- the model with another region of appended bytes
abbrev pub with_region : Model → ByteRegion → Model
with_region m r = record m { regions = r ∷ m.regions }

-- the model with another field and the bytes that the caller passed for it
abbrev pub with_supplied : Model → SuppliedField → Model
with_supplied m h = record m { supplied = h ∷ m.supplied }

-- n has everything that m has
pub record Grows (m n : Model) : Type 0 where
  pub directories : (d : FinishedDirectory) → In d m.directories → In d n.directories
  pub supplied : (h : SuppliedField) → In h m.supplied → In h n.supplied
  pub regions : (r : ByteRegion) → In r m.regions → In r n.regions
