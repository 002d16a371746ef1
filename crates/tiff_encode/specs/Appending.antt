-- An encoder that goes on behind a file (this project's).
use Rattle.std.specs.Prelude.{◌≡◌, ℕ, ◌+◌, ◌-◌, ◌≤◌, ◌⊎◌, ◌==◌, List, [], ◌∷◌, ◌++◌, length, None, Ok, if◌then◌else◌}
use Rattle.std.specs.FinMap.{len}
use Rattle.tiff_base.specs.declared.tags.FileKind.{FileKind}
use Rattle.tiff_base.specs.declared.tags.ByteOrder.TheVariants.{LittleEndian}
use Rattle.tiff_base.specs.declared.tags.Predictor.TheVariants as predictor
use Rattle.tiff_base.specs.SourceAndSink.{bytes_at, exactly_at, put}
use Rattle.tiff_base.specs.Number.{number_at}
use Rattle.tiff_base.specs.Directory.{count_width, offset_width, directory_at}
use Rattle.tiff_encode.specs.declared.encoder.settings.Compression.TheVariants.{Uncompressed}
use Rattle.tiff_value.specs.FileBytes.{offset_len, header_mark}
use Rattle.tiff_value.specs.WriteOps.{WriteOp, Appended, Supplied, Listed, Linked, bytes_after}
use Rattle.tiff_encode.specs.Machine.{FileState}
use Rattle.tiff_value.specs.Model.{FinishedDirectory, ByteRegion, Model, header_link, IsLink, FileContains, whole_len}

-- the file of an encoder that goes on behind these bytes, with its last link at an offset
abbrev pub continued_file : FileKind → List ℕ → ℕ → ℕ → FileState
continued_file kind contents failures link = record {
  kind = kind;
  bytes = contents;
  failures = failures;
  fault = None;
  chain = link;
  predictor = predictor.None;
  compression = Uncompressed;
}

-- ---- the former file

-- the offset behind the header
abbrev pub header_end : FileKind → ℕ
header_end kind = header_link kind + offset_len kind

-- A little-endian file of a kind has a header, whose link has this number.
pub record HasHeader (kind : FileKind) (file : List ℕ) (first : ℕ) : Type 0 where
  pub mark : exactly_at file 0 (header_link kind) ≡ Ok (header_mark kind)
  pub link : number_at LittleEndian (offset_width kind) file (header_link kind) ≡ Ok first

-- A little-endian file has no directory: its last link is that of the header.
abbrev pub EndsInHeader : FileKind → List ℕ → Type 0
EndsInHeader kind file = HasHeader kind file 0

-- A directory of a little-endian file links to no other: its link is the last. It is behind the
-- header, and has as many entries as fields: each entry has a known type, and no two have one tag
-- number.
pub record EndsIn (kind : FileKind) (file : List ℕ) (first : ℕ) (d : FinishedDirectory)
    : Type 0 where
  pub header : HasHeader kind file first
  pub behind : header_end kind ≤ d.offset
  pub last : directory_at kind LittleEndian file d.offset
      ≡ Ok (record { entries = d.fields; next = None })
  pub count : number_at LittleEndian (count_width kind) file d.offset ≡ Ok (len d.fields)

-- the bytes of a file from one offset to another
abbrev pub bytes_between : List ℕ → ℕ → ℕ → ByteRegion
bytes_between file from to = record { offset = from; bytes = bytes_at file from (to - from) }

-- the model of a file without a directory: all bytes behind its header
abbrev pub header_file_model : FileKind → List ℕ → Model
header_file_model kind file = record {
  directories = [];
  supplied = [];
  regions = bytes_between file (header_end kind) (length file) ∷ [];
  links = λ p. 0;
}

-- the model of a file whose last directory is given: this directory, and all bytes between the
-- header and the directory, and behind it
abbrev pub former_model : FileKind → List ℕ → ℕ → FinishedDirectory → Model
former_model kind file first d = record {
  directories = d ∷ [];
  supplied = [];
  regions = bytes_between file (header_end kind) d.offset
      ∷ bytes_between file (d.offset + whole_len kind d) (length file) ∷ [];
  links = λ p. if p == header_link kind then first else 0;
}

-- The file of an encoder contains the model of the former file, and the last link of its IFD chain
-- is a link of this model and has the number 0. So each law of a file that contains a model
-- (`FileContains`) holds for what the encoder appends.
pub record GoesOnBehind (kind : FileKind) (file : List ℕ) (chain : ℕ) (former : Model)
    : Type 0 where
  pub stands : FileContains kind file former
  pub link : IsLink kind former chain
  pub last : former.links chain ≡ 0

-- ---- the bytes of the former file

-- A file has the bytes of a former file, except those of the link at q, and more bytes behind them.
pub record Continues (kind : FileKind) (q : ℕ) (file new : List ℕ) : Type 0 where
  pub over : List ℕ
  pub whole : length over ≡ offset_len kind
  pub more : List ℕ
  pub bytes : new ≡ put file q over ++ more

-- each write of a link among these writes is to the link at q, or behind the first n bytes
abbrev pub LinksFrom : ℕ → ℕ → List WriteOp → Type 0
LinksFrom q n [] = Unit {0}
LinksFrom q n (Appended more ∷ ops) = LinksFrom q n ops
LinksFrom q n (Supplied supplied ∷ ops) = LinksFrom q n ops
LinksFrom q n (Listed fields ∷ ops) = LinksFrom q n ops
LinksFrom q n (Linked offset target ∷ ops) = ((offset ≡ q) ⊎ (n ≤ offset)) × LinksFrom q n ops

-- The law: a file continues a former file, whose link at q is within it, after writes that change
-- no other link of the former file: as the former file stands, after all of the writes, after a
-- part of appended bytes, and after a part of a link.
pub record FormerStays (kind : FileKind) (q : ℕ) (file : List ℕ) : Type 0 where
  pub begun : Continues kind q file file
  pub written : (bytes : List ℕ) (ops : List WriteOp) → Continues kind q file bytes
      → LinksFrom q (length file) ops → Continues kind q file (bytes_after kind bytes ops)
  pub cut : (bytes more : List ℕ) → Continues kind q file bytes
      → Continues kind q file (bytes ++ more)
  pub torn : (bytes over : List ℕ) (offset : ℕ) → Continues kind q file bytes
      → length over ≤ offset_len kind → (offset ≡ q) ⊎ (length file ≤ offset)
      → Continues kind q file (put bytes offset over)

abbrev pub FormerBytesStay : Type 0
FormerBytesStay = (kind : FileKind) (q : ℕ) (file : List ℕ) → q + offset_len kind ≤ length file
    → FormerStays kind q file
