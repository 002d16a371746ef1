-- The last link of a file, and the chain of a file that goes on from there (TIFF 6.0 section 2).
use Rattle.std.specs.Prelude.{◌≡◌, ℕ, ◌+◌, ◌≤◌, ◌⊎◌, List, [], ◌∷◌, ◌++◌, length, map, Option, None, Some, Result, Ok, Err}
use Rattle.std.specs.FinMap.{len}
use Rattle.tiff_base.specs.declared.error.TiffError.{TiffError}
use Rattle.tiff_base.specs.declared.tags.FileKind.{FileKind}
use Rattle.tiff_base.specs.declared.tags.ByteOrder.TheVariants.{LittleEndian}
use Rattle.tiff_base.specs.Answers.{◌>>=◌}
use Rattle.tiff_base.specs.Directory.{count_width, offset_width, link, link_offset, directory_at}
use Rattle.tiff_base.specs.Number.{number_at}
use Rattle.tiff_ifd.specs.Chain.{Chain, chain, link_from}
use Rattle.tiff_encode.specs.Appending.{header_end, Continues, HasHeader, EndsInHeader, EndsIn}
use Rattle.tiff_value.specs.FileBytes.{offset_len, count_len}
use Rattle.tiff_value.specs.Model.{In, FinishedDirectory, Model, FileContains, IsLink, IsClear, header_link, own_link}

-- the chain of a little-endian file from a link on
abbrev pub chain_behind : FileKind → List ℕ → Option ℕ → Chain
chain_behind kind file None = record { offsets = []; end = None }
chain_behind kind file (Some first) = chain kind LittleEndian file first

-- the chain of a little-endian file from the header's link on
abbrev pub file_chain : FileKind → List ℕ → Result Chain TiffError
file_chain kind file = do
  first ← number_at LittleEndian (offset_width kind) file (header_link kind)
  Ok (chain_behind kind file (link first))

-- the offset of the link of the directory at an offset
abbrev pub link_offset_at : FileKind → List ℕ → ℕ → Result ℕ TiffError
link_offset_at kind file offset = do
  count ← number_at LittleEndian (count_width kind) file offset
  Ok (link_offset kind offset count)

-- the offset of the link behind a list of directories: that of the last of them, or the header's
abbrev pub link_behind : FileKind → List ℕ → List ℕ → Result ℕ TiffError
link_behind kind file [] = Ok (header_link kind)
link_behind kind file (offset ∷ []) = link_offset_at kind file offset
link_behind kind file (offset ∷ next ∷ offsets) = link_behind kind file (next ∷ offsets)

-- a result, unless a chain ends with an error
abbrev pub unless_cut : Option TiffError → Result ℕ TiffError → Result ℕ TiffError
unless_cut None result = result
unless_cut (Some e) result = Err e

-- the offset of the last link of a file, or the error with which its chain ends
abbrev pub last_link_at : FileKind → List ℕ → Result ℕ TiffError
last_link_at kind file = do
  found ← file_chain kind file
  unless_cut found.end (link_behind kind file found.offsets)

-- The link at q is that of the header, or behind the header. No directory at one of these offsets
-- has a byte of its number of entries in that link, and each has its own link there or apart from
-- it.
pub record IsReadOnce (kind : FileKind) (file : List ℕ) (q : ℕ) (offsets : List ℕ) : Type 0 where
  pub header : (q ≡ header_link kind) ⊎ (header_end kind ≤ q)
  pub counts : (offset : ℕ) → In offset offsets → IsClear kind q offset (count_len kind)
  pub links : (offset own : ℕ) → In offset offsets → link_offset_at kind file offset ≡ Ok own
      → (own ≡ q) ⊎ IsClear kind q own (offset_len kind)

-- Each directory at one of these offsets links to none, or to one at a given offset or behind it.
abbrev pub LinkBehind : FileKind → List ℕ → ℕ → List ℕ → Type 0
LinkBehind kind file least offsets =
    (offset next : ℕ) → In offset offsets → link_from kind LittleEndian file offset ≡ Ok (Some next)
    → least ≤ next

-- The law: the last link of a file has another number in a file that continues it, and that number
-- is 0, or the offset of a directory behind the former end from which the chain doesn't go back
-- before that end. Then the chain is the former chain and then the chain from that link on.
abbrev pub ChainGoesOn : Type 0
ChainGoesOn =
    (kind : FileKind) (file new : List ℕ) (q offset : ℕ) (former rest : Chain)
    → file_chain kind file ≡ Ok former → last_link_at kind file ≡ Ok q
    → IsReadOnce kind file q former.offsets → Continues kind q file new
    → number_at LittleEndian (offset_width kind) new q ≡ Ok offset
    → (offset ≡ 0) ⊎ (length file ≤ offset)
    → chain_behind kind new (link offset) ≡ rest → LinkBehind kind new (length file) rest.offsets
    → file_chain kind new
    ≡ Ok (record { offsets = former.offsets ++ rest.offsets; end = rest.end })

-- Directories of a model are linked one after another from the link at q on, each at or behind an
-- offset and behind the one before it. The link of the last is 0.
abbrev pub AreLinked : FileKind → Model → ℕ → ℕ → List FinishedDirectory → Type 0
AreLinked kind m least q [] = m.links q ≡ 0
AreLinked kind m least q (d ∷ ds) =
    In d m.directories × ((m.links q ≡ d.offset) × ((least ≤ d.offset)
    × AreLinked kind m (d.offset + 1) (own_link kind d) ds))

-- The law: a file that continues a file, and contains a model in which directories behind the
-- former end are linked one after another from the former last link on, has the former chain and
-- then these directories.
abbrev pub PagesGoOn : Type 0
PagesGoOn =
    (kind : FileKind) (file new : List ℕ) (q : ℕ) (former : Chain) (m : Model)
    (ds : List FinishedDirectory)
    → file_chain kind file ≡ Ok former → last_link_at kind file ≡ Ok q
    → IsReadOnce kind file q former.offsets → Continues kind q file new
    → FileContains kind new m → IsLink kind m q → AreLinked kind m (length file) q ds
    → file_chain kind new
    ≡ Ok (record { offsets = former.offsets ++ map (λ d. d.offset) ds; end = None })

-- The last link of a file with a header is where an encoder can go on: that of the header if the
-- chain has no directory, and else that of the last one.
pub record LastEnds (kind : FileKind) (file : List ℕ) (q first : ℕ) (former : Chain)
    : Type 0 where
  pub none : former.offsets ≡ [] → EndsInHeader kind file × (q ≡ header_link kind)
  pub last : (before : List ℕ) (d : FinishedDirectory) (next : Option ℕ)
      → former.offsets ≡ before ++ d.offset ∷ []
      → directory_at kind LittleEndian file d.offset
      ≡ Ok (record { entries = d.fields; next = next })
      → number_at LittleEndian (count_width kind) file d.offset ≡ Ok (len d.fields)
      → header_end kind ≤ d.offset → EndsIn kind file first d × (q ≡ own_link kind d)

abbrev pub LastLinkEnds : Type 0
LastLinkEnds = (kind : FileKind) (file : List ℕ) (q first : ℕ) (former : Chain)
    → HasHeader kind file first → file_chain kind file ≡ Ok former
    → last_link_at kind file ≡ Ok q → LastEnds kind file q first former
