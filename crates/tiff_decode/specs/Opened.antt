-- A file that is opened by its header alone, before a page of it is read (this project's).
use Rattle.std.specs.Prelude.{◌≡◌, ℕ, List, [], ◌∷◌, None, true, Result, Ok}
use Rattle.std.specs.FinMap as map
use Rattle.tiff_base.specs.declared.color.ChunkType.TheVariants.{Strip}
use Rattle.tiff_base.specs.declared.error.TiffError.{TiffError}
use Rattle.tiff_base.specs.declared.tags.CompressionMethod.TheVariants as method
use Rattle.tiff_base.specs.declared.tags.FileKind.{FileKind}
use Rattle.tiff_base.specs.declared.tags.PhotometricInterpretation.TheVariants.{TransparencyMask}
use Rattle.tiff_base.specs.declared.tags.PlanarConfiguration.TheVariants.{Chunky}
use Rattle.tiff_base.specs.declared.tags.Predictor.TheVariants as predictor
use Rattle.tiff_base.specs.declared.tags.SampleFormat.TheVariants.{Uint}
use Rattle.tiff_base.specs.Answers.{◌>>=◌}
use Rattle.tiff_base.specs.Header.{Header, header_at}
use Rattle.tiff_base.specs.Field.{DirectoryRecord}
use Rattle.tiff_page.specs.Page.{PageRecord}
use Rattle.tiff_decode.specs.DefaultLimits.{default_limits}
use Rattle.tiff_decode.specs.Machine.{State, Decoding, Outcome}
use Rattle.tiff_decode.specs.Outcome.{decoder_of, header_end, seek_to_image}

-- What stands in place of a page before one is entered: a transparency mask of one pixel, in one
-- strip without bytes. It has no color, so each call that reads pixels returns an error.
abbrev pub no_page : PageRecord
no_page = record {
  width = 1;
  height = 1;
  interpretation = TransparencyMask;
  method = method.None;
  samples = 1;
  extra = [];
  format = Uint;
  depth = 1;
  predictor = predictor.None;
  planar = Chunky;
  subsampling = (1, 1);
  chunk_type = Strip;
  chunk_width = 1;
  chunk_height = 1;
  offsets = 0 ∷ [];
  byte_counts = 0 ∷ [];
}

-- a directory without entries
abbrev pub no_directory : DirectoryRecord
no_directory = record { entries = map.empty; next = None }

-- the state before the first page: no directory is entered, and the first one follows
abbrev pub before_first : FileKind → State
before_first kind = record {
  pointer = None;
  more = true;
  page = no_page;
  directory = no_directory;
  offset = header_end kind;
  limits = default_limits;
}

-- the decoder of a file with this header
abbrev pub opened_by : List ℕ → ℕ → Header → Decoding
opened_by bytes failures header = record {
  bytes = bytes;
  readable = None;
  kind = header.kind;
  order = header.order;
  first = header.first;
  failures = failures;
  state = before_first header.kind;
}

-- the decoder of a file of which all bytes are readable, before its first page, with this count of
-- failed reads; or the first error of the header
unfoldable pub opened_of : List ℕ → ℕ → Result Decoding TiffError
opened_of bytes failures = do
  header ← header_at bytes
  Ok (opened_by bytes failures header)

-- a decoder that goes back before its first page; its page and its directory stay
abbrev pub rewound : Decoding → Decoding
rewound d = record d { state = record d.state { pointer = None; more = true } }

-- a decoder after a call, or the error of the call
abbrev pub moved : Decoding → Outcome (Unit {0}) → Result Decoding TiffError
moved d outcome = do
  _ ← outcome.answer
  Ok (record d { state = outcome.next })

-- a decoder opened at its first page is one that was opened by its header and then entered the
-- first page
abbrev pub OpensFirst : Type 0
OpensFirst = (bytes : List ℕ) (failures : ℕ)
    → decoder_of bytes failures ≡ (opened_of bytes failures >>= λ d. moved d (seek_to_image d 0))
