-- Lists of jobs as lines of text.
use Rattle.std.specs.Prelude.{ℕ, ◌+◌, ◌-◌, ◌^◌, ◌==◌, ◌&&◌, ◌||◌, Bool, true, false, List, [], ◌∷◌, ◌++◌, length, map, min, slice_index, Option, None, Some, Result, Ok, Err, codes, if◌then◌else◌}
use Rattle.std.specs.Option.{option_map}
use Rattle.std.specs.Str.{bytes_eq}
use Rattle.std.specs.Str.Lines.{lines}
use Rattle.tiff_base.specs.Tags.{predictor_of, unit_of}
use Rattle.tiff_encode.specs.declared.encoder.script.DirectoryEnd.{DirectoryEnd}
use Rattle.tiff_encode.specs.declared.encoder.script.DirectoryEnd.TheVariants as directory_end
use Rattle.tiff_encode.specs.declared.encoder.script.ImageEnd.{ImageEnd}
use Rattle.tiff_encode.specs.declared.encoder.script.ImageEnd.TheVariants as image_end
use Rattle.tiff_encode.specs.declared.encoder.script.ImageStep.TheVariants as i
use Rattle.tiff_encode.specs.declared.encoder.script.Job.{Job}
use Rattle.tiff_encode.specs.declared.encoder.script.Job.TheVariants as job
use Rattle.tiff_value.specs.declared.encoder.colortype.ColorTypeName.{ColorTypeName}
use Rattle.tiff_script.specs.declared.jobs.Begun.{Begun}
use Rattle.tiff_script.specs.declared.jobs.Begun.TheVariants.{Directory, Image}
use Rattle.tiff_script.specs.declared.jobs.BegunImage.{BegunImage}
use Rattle.tiff_script.specs.declared.jobs.JobList.{JobList}
use Rattle.tiff_script.specs.declared.samples.SampleWords.{SampleWords}
use Rattle.tiff_script.specs.Line.{◌>>=◌, first_word, has, pair, space, words_behind}
use Rattle.tiff_script.specs.Numbers.{magnitude, unsigned}
use Rattle.tiff_script.specs.Samples.{extended, samples, tiled, written}
use Rattle.tiff_script.specs.Stands.{color, compression, fraction, numbered}
use Rattle.tiff_script.specs.Steps.{DirectoryStepData, Extra, ImageStepData, Plain, directory_step, directory_step_held, image_step, image_step_held}

-- ---- jobs

-- a job: a setting, a directory with its parent, or an image
pub data JobData : Type 0 where
  Setting : Job → JobData
  OfDirectory : Bool → Option ℕ → List DirectoryStepData → DirectoryEnd → JobData
  OfImage : ColorTypeName → ℕ → ℕ → List ImageStepData → ImageEnd → JobData

-- the job that a list of jobs holds
abbrev pub job_held : Job → JobData
job_held (job.Directory j) = OfDirectory j.chained j.parent (map directory_step_held j.steps.items) j.end
job_held (job.Image j) =
    OfImage j.color j.width j.height (map image_step_held j.steps.items) j.end
job_held setting = Setting setting

-- ---- between lines

-- what was read of the lines so far: the jobs, the one that has begun, and its steps
pub record Lines : Type 0 where
  pub jobs : List JobData
  pub begun : Option Begun
  pub directory_steps : List DirectoryStepData
  pub image_steps : List ImageStepData

-- what a list of the code holds
unfoldable pub lines_held : JobList → Lines
lines_held list = record {
  jobs = map job_held list.jobs.items;
  begun = list.begun;
  directory_steps = map directory_step_held list.directory_steps.items;
  image_steps = map image_step_held list.image_steps.items;
}

abbrev pub no_lines : Lines
no_lines = record { jobs = []; begun = None; directory_steps = []; image_steps = [] }

-- one more job
abbrev pub with_job : Lines → JobData → Lines
with_job s j = record s { jobs = s.jobs ++ j ∷ [] }

-- a job has begun
abbrev pub begins : Lines → Begun → Lines
begins s begun = record s { begun = Some begun }

-- ---- the beginning of a job

-- a directory, whose parent may stand behind its name
unfoldable pub directory_begun : Bool → List ℕ → Option Begun
directory_begun chained words =
    if bytes_eq words (codes "") then Some (Directory chained None)
    else option_map (λ n. Directory chained (Some n)) (magnitude words)

abbrev pub image_of : ColorTypeName → ℕ → ℕ → BegunImage
image_of color width height =
    record { color = color; width = width; height = height; samples = written color width height }

-- an image: its color type, its width and its height
unfoldable pub image_begun : List ℕ → Option Begun
image_begun words = do
  named ← color (first_word words)
  sides ← pair (unsigned 32) (unsigned 32) (words_behind words)
  Some (Image (image_of named sides.0 sides.1))

-- a line outside of jobs: a setting, or the beginning of a job
unfoldable pub begin : Lines → List ℕ → List ℕ → Option Lines
begin s name words =
    if bytes_eq name (codes "predictor")
    then option_map (λ p. with_job s (Setting (job.Predictor p))) (numbered predictor_of words)
    else (if bytes_eq name (codes "compression")
    then option_map (λ c. with_job s (Setting (job.Compression c))) (compression words)
    else (if bytes_eq name (codes "directory")
    then option_map (begins s) (directory_begun true words)
    else (if bytes_eq name (codes "extra_directory")
    then option_map (begins s) (directory_begun false words)
    else (if bytes_eq name (codes "image") then option_map (begins s) (image_begun words)
    else None))))

-- ---- a line of a directory

-- the job of the directory
abbrev pub with_directory : Lines → Bool → Option ℕ → DirectoryEnd → Lines
with_directory s chained parent ends = with_job (record s { begun = None; directory_steps = [] })
    (OfDirectory chained parent s.directory_steps ends)

-- one more step of the directory
abbrev pub with_directory_step : Lines → DirectoryStepData → Lines
with_directory_step s step = record s { directory_steps = s.directory_steps ++ step ∷ [] }

-- a step, or the end
unfoldable pub directory_line : Lines → Bool → Option ℕ → List ℕ → Option Lines
directory_line s chained parent line =
    if bytes_eq line (codes "finish") then Some (with_directory s chained parent directory_end.Finish)
    else (if bytes_eq line (codes "discard")
    then Some (with_directory s chained parent directory_end.Discard)
    else option_map (with_directory_step s) (directory_step (first_word line) (words_behind line)))

-- ---- a line of an image

-- the job of the image
abbrev pub with_image : Lines → BegunImage → ImageEnd → Lines
with_image s image ends = with_job (record s { begun = None; image_steps = [] })
    (OfImage image.color image.width image.height s.image_steps ends)

-- how samples are written after a step
unfoldable pub samples_after : SampleWords → ImageStepData → SampleWords
samples_after w (Plain (i.Tiles width height)) = tiled w width height
samples_after w (Extra extra) = extended w (length extra)
samples_after w step = w

-- one more step of the image
abbrev pub with_step : Lines → ImageStepData → Lines
with_step s step = record s { image_steps = s.image_steps ++ step ∷ [] }

-- the image after a step
abbrev pub image_after : BegunImage → ImageStepData → BegunImage
image_after image step = record image { samples = samples_after image.samples step }

abbrev pub with_image_step : Lines → BegunImage → ImageStepData → Lines
with_image_step s image step = with_step (begins s (Image (image_after image step))) step

-- the end of an image, if a line is one
unfoldable pub end_of_image : SampleWords → List ℕ → List ℕ → Option (Option ImageEnd)
end_of_image w name words =
    if bytes_eq name (codes "finish") && bytes_eq words (codes "") then Some (Some image_end.Finish)
    else (if bytes_eq name (codes "discard") && bytes_eq words (codes "")
    then Some (Some image_end.Discard)
    else (if bytes_eq name (codes "write_data")
    then option_map (λ numbers. Some (image_end.WriteData numbers)) (samples w words)
    else Some None))

-- a resolution for each axis: three steps
unfoldable pub with_resolutions : Lines → List ℕ → List ℕ → List ℕ → Option Lines
with_resolutions s unit_word x_word y_word = do
  unit ← numbered unit_of unit_word
  x ← fraction x_word
  y ← fraction y_word
  Some (with_step (with_step (with_step s (Plain (i.ResolutionUnit unit)))
      (Plain (i.XResolution x))) (Plain (i.YResolution y)))

-- whether there are three words
abbrev pub are_three : List ℕ → Bool
are_three words = has space words && has space (words_behind words)

-- a step of an image
unfoldable pub image_step_line : Lines → BegunImage → List ℕ → List ℕ → Option Lines
image_step_line s image name words =
    if bytes_eq name (codes "resolution") && are_three words
    then with_resolutions s (first_word words) (first_word (words_behind words))
    (words_behind (words_behind words))
    else option_map (with_image_step s image) (image_step image.samples name words)

-- the job of an image that has an end, or its next step
abbrev pub ended_or : Lines → BegunImage → List ℕ → List ℕ → Option ImageEnd → Option Lines
ended_or s image name words (Some ends) = Some (with_image s image ends)
ended_or s image name words None = image_step_line s image name words

-- a step, or the end
unfoldable pub image_line : Lines → BegunImage → List ℕ → List ℕ → Option Lines
image_line s image name words = do
  ends ← end_of_image image.samples name words
  ended_or s image name words ends

-- ---- lists

-- a line outside or inside of a job
unfoldable pub job_line : Lines → Option Begun → List ℕ → Option Lines
job_line s None line = begin s (first_word line) (words_behind line)
job_line s (Some (Directory chained parent)) line = directory_line s chained parent line
job_line s (Some (Image image)) line = image_line s image (first_word line) (words_behind line)

-- the character in front of a comment
abbrev pub hash : ℕ
hash = 35

-- whether a line is empty or a comment
abbrev pub says_nothing : List ℕ → Bool
says_nothing line = (length line == 0) || (slice_index line 0 == hash)

-- the next line is read
unfoldable pub with_line : Lines → List ℕ → Option Lines
with_line s line = if says_nothing line then Some s else job_line s s.begun line

-- the jobs of lines that are read, or the number of the line behind the last one, if a job has no
-- end
abbrev pub ended_at : ℕ → Option Begun → List JobData → Result (List JobData) ℕ
ended_at n None jobs = Ok jobs
ended_at n (Some begun) jobs = Err n

-- the number of the next line, as far as a `usize` counts
abbrev pub next : ℕ → ℕ
next n = min (n + 1) (2 ^ 64 - 1)

-- the rest of the lines behind one that is read, or the number of one that can't be
abbrev pub or_refused : ℕ → Option Lines → (Lines → Result (List JobData) ℕ)
    → Result (List JobData) ℕ
or_refused n None rest = Err n
or_refused n (Some s) rest = rest s

-- the jobs of the lines from a number on, or the number of the first that can't be read
abbrev pub jobs_from : ℕ → Lines → List (List ℕ) → Result (List JobData) ℕ
jobs_from n s [] = ended_at n s.begun s.jobs
jobs_from n s (line ∷ more) = or_refused n (with_line s line) (λ t. jobs_from (next n) t more)

-- the jobs that a text spells, or the number, from 1, of the first line that spells none
unfoldable pub jobs_spelled : List ℕ → Result (List JobData) ℕ
jobs_spelled text = jobs_from 1 no_lines (lines text)
