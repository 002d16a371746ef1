-- What an encoder writes behind a file: the bytes behind it, and its last link (this project's).
use Rattle.std.specs.Prelude.{◌≡◌, ℕ, ◌+◌, ◌≤◌, ◌<◌, ◌⊎◌, List, length}
use Rattle.tiff_base.specs.declared.error.TiffError.{TiffError}
use Rattle.tiff_base.specs.declared.error.TiffError.TheVariants.{IoError, OutOfMemory}
use Rattle.tiff_base.specs.declared.io.IoKind.TheVariants.{InvalidInput}
use Rattle.tiff_base.specs.declared.tags.FileKind.{FileKind}
use Rattle.tiff_encode.specs.declared.encoder.script.Job.{Job}
use Rattle.tiff_encode.specs.declared.encoder.script.JobReply.{JobReply}
use Rattle.tiff_encode.specs.Appending.{continued_file}
use Rattle.tiff_value.specs.FileBytes.{offset_len}
use Rattle.tiff_encode.specs.Machine.{FileState}
use Rattle.tiff_encode.specs.Running.{JobsMove}
use Rattle.tiff_append.specs.declared.sink.Addition.{Addition}
use Rattle.tiff_append.specs.declared.sink.BehindSink.{BehindSink}
pub use Rattle.tiff_append.specs.Added.{added_to}

-- the bytes of a sink that goes on behind a file
abbrev pub behind_contents : BehindSink → List ℕ
behind_contents s = added_to s.file.now s.at s.link.items s.more.items

-- The bytes of a sink are those of a file of `len` bytes, with a link of `size` bytes at an offset,
-- and more bytes behind it.
pub record IsAddedTo (contents : List ℕ) (len at size : ℕ) (a : Addition) : Type 0 where
  pub file : List ℕ
  pub whole : contents ≡ added_to file at a.link.items a.more.items
  pub len_is : length file ≡ len
  pub size_is : length a.link.items ≡ size

-- The error of a link of `size` bytes at an offset of a file of `len` bytes: it isn't within the
-- file; or it is, and memory is out.
abbrev pub RefusesLink : ℕ → ℕ → ℕ → TiffError → Type 0
RefusesLink len at size e = ((len < at + size) × (e ≡ IoError InvalidInput))
    ⊎ ((at + size ≤ len) × (e ≡ OutOfMemory))

-- Jobs are run by `run_jobs_in` with an encoder that goes on behind these bytes at the link at q
-- (`append_to`), and leave other bytes. `failures` counts the writes that had failed before.
pub record RunsAt (kind : FileKind) (bytes : List ℕ) (q : ℕ) (jobs : List Job)
    (earlier all : List JobReply) (left : List ℕ) : Type 0 where
  pub within : q + offset_len kind ≤ length bytes
  pub failures : ℕ
  pub last : FileState
  pub moves : JobsMove jobs earlier all (continued_file kind bytes failures q) last
  pub left_is : left ≡ last.bytes

-- What is written behind a file whose last link is at q, is what `run_jobs_in` leaves of an encoder
-- that goes on behind it: the file of the encoder is the former one with the new bytes of that
-- link, and the other bytes behind it.
pub record RunsBehind (kind : FileKind) (file : List ℕ) (q : ℕ) (jobs : List Job)
    (earlier all : List JobReply) (link more : List ℕ) : Type 0 where
  pub runs : RunsAt kind file q jobs earlier all (added_to file q link more)
  pub width : length link ≡ offset_len kind
