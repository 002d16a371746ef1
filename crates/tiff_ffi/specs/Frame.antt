-- A file of one image around samples that are elsewhere in memory.
use Rattle.std.specs.Prelude.{◌≡◌, ℕ, List, [], ◌++◌, length}
use Rattle.tiff_ffi.specs.declared.frame.Frame.{Frame}
use Rattle.tiff_ffi.specs.declared.frame.FrameSink.{FrameSink}
use Rattle.tiff_ffi.specs.declared.frame.NewFile.{NewFile}
use Rattle.tiff_ffi.specs.declared.frame.NewFile.TheVariants.{Whole, Around}

-- the bytes of a sink that keeps a frame: also those that it only counts
abbrev pub frame_contents : FrameSink → List ℕ
frame_contents s = s.front.items ++ (s.passed ++ s.behind.items)

-- the bytes before the samples, the samples, and the bytes behind them
abbrev pub framed : Frame → List ℕ
framed f = f.front.items ++ (f.samples.now ++ f.behind.items)

-- the bytes of a file
abbrev pub file_of : NewFile → List ℕ
file_of (Whole file) = file.items
file_of (Around frame) = framed frame

-- the bytes of a file before the samples that are elsewhere in memory, and those behind them; a
-- file without such samples has all bytes before them
abbrev pub front_of : NewFile → List ℕ
front_of (Whole file) = file.items
front_of (Around frame) = frame.front.items

abbrev pub behind_of : NewFile → List ℕ
behind_of (Whole file) = []
behind_of (Around frame) = frame.behind.items

-- the samples that are elsewhere in memory
abbrev pub samples_of : NewFile → List ℕ
samples_of (Whole file) = []
samples_of (Around frame) = frame.samples.now

-- If samples of a file are elsewhere in memory, they are these bytes.
abbrev pub IsAround : List ℕ → NewFile → Type 0
IsAround bytes (Whole file) = Unit {0}
IsAround bytes (Around frame) = frame.samples.now ≡ bytes

-- The bytes of a sink are those of a frame, with other bytes in the place of the samples: as many,
-- behind so many bytes.
pub record IsFrameOf (contents : List ℕ) (start : ℕ) (samples : List ℕ) (f : Frame) : Type 0 where
  pub passed : List ℕ
  pub whole : contents ≡ f.front.items ++ (passed ++ f.behind.items)
  pub front_len : length f.front.items ≡ start
  pub passed_len : length passed ≡ length samples
  pub samples_are : f.samples.now ≡ samples
