-- Worked examples of lists of jobs, and of what is handed back after them.
use Rattle.std.specs.Prelude.{◌≡◌, ℕ, false, List, [], ◌∷◌, ◌++◌, take, Option, Some, None, Ok, Err}
use Rattle.tiff_base.specs.declared.error.TiffError.{TiffError}
use Rattle.tiff_base.specs.declared.error.TiffError.TheVariants.{IoError, IntSizeError, OutOfMemory}
use Rattle.tiff_base.specs.declared.io.IoKind.TheVariants.{Device}
use Rattle.tiff_base.specs.declared.io.SinkFault.{SinkFault}
use Rattle.tiff_base.specs.declared.io.SinkFault.TheVariants as fault
use Rattle.tiff_base.specs.declared.tags.FileKind.TheVariants.{Classic}
use Rattle.tiff_base.specs.declared.tags.Predictor.TheVariants as predictor
use Rattle.tiff_value.specs.declared.encoder.colortype.ColorTypeName.TheVariants as name
use Rattle.tiff_encode.specs.declared.encoder.script.DirectoryEnd.TheVariants as end
use Rattle.tiff_encode.specs.declared.encoder.script.DirectoryJob.{DirectoryJob}
use Rattle.tiff_encode.specs.declared.encoder.script.ImageEnd.TheVariants as iend
use Rattle.tiff_encode.specs.declared.encoder.script.ImageJob.{ImageJob}
use Rattle.tiff_encode.specs.declared.encoder.script.Job.{Job}
use Rattle.tiff_encode.specs.declared.encoder.script.Job.TheVariants as job
use Rattle.tiff_encode.specs.declared.encoder.script.EndReply.TheVariants as last
use Rattle.tiff_encode.specs.declared.encoder.script.JobReply.{JobReply}
use Rattle.tiff_encode.specs.Encoder.{HeaderFails}
use Rattle.tiff_encode.specs.Jobs.{LeavesJobs, RefusesJobs, RunsJobs}
use Rattle.test_definitions.specs.Files.{gray_file}
use Rattle.test_definitions.specs.Encode.Calls.{header}

-- ---- three jobs

-- a setting; an image of one gray pixel with one sample too many; a directory without entries
-- outside the chain
pub record AreThree (jobs : List Job) : Type 0 where
  pub image : ImageJob
  pub samples : List ℕ
  pub directory : DirectoryJob
  pub are : jobs ≡ job.Predictor predictor.None ∷ job.Image image ∷ job.Directory directory ∷ []
  pub color : image.color ≡ name.Gray8
  pub width : image.width ≡ 1
  pub height : image.height ≡ 1
  pub steps : image.steps.items ≡ []
  pub ending : image.end ≡ iend.WriteData samples
  pub given : samples ≡ 7 ∷ 8 ∷ []
  pub chained : directory.chained ≡ false
  pub parent : directory.parent ≡ None
  pub no_steps : directory.steps.items ≡ []
  pub finish : directory.end ≡ end.Finish

-- the replies to the three jobs, the last of which has these offsets
pub record AreReplies (replies : List JobReply) (pointer link : ℕ) : Type 0 where
  pub first : JobReply
  pub second : JobReply
  pub third : JobReply
  pub are : replies ≡ first ∷ second ∷ third ∷ []
  pub first_steps : first.steps.items ≡ []
  pub first_last : first.last ≡ Ok last.Nothing
  pub second_steps : second.steps.items ≡ []
  pub second_last : second.last ≡ Ok last.Nothing
  pub third_steps : third.steps.items ≡ []
  pub third_last : third.last ≡ Ok (last.Offsets pointer link)

-- the page at 25, a zero, and the directory at 200 without entries and with link 0
abbrev pub three_file : List ℕ
three_file = gray_file ++ (0 ∷ []) ++ (0 ∷ 0 ∷ []) ++ (0 ∷ 0 ∷ 0 ∷ 0 ∷ [])

-- the three jobs leave `three_file` with its contents and the image at 25
abbrev pub three_jobs : Type 0
three_jobs = (jobs : List Job) (replies : List JobReply) → AreThree jobs
    → AreReplies replies 200 202
    → LeavesJobs Classic jobs replies [] 0 three_file 0

-- the three jobs leave no file if the last reply has another link
abbrev pub three_wrong : Type 0
three_wrong = (jobs : List Job) (replies : List JobReply) → AreThree jobs
    → AreReplies replies 200 206
    → (bytes : List ℕ) (after : ℕ) → LeavesJobs Classic jobs replies [] 0 bytes after → ⊥

-- ---- jobs that aren't called

-- a sink: its bytes, the number of its failed writes, and the error of the last one
abbrev pub SinkRecord : Type 0
SinkRecord = List ℕ × (ℕ × Option SinkFault)

abbrev pub contents : SinkRecord → List ℕ
contents s = s.0

abbrev pub failures : SinkRecord → ℕ
failures s = s.1.0

abbrev pub last_fault : SinkRecord → Option SinkFault
last_fault s = s.1.1

-- an empty sink
abbrev pub fresh : SinkRecord
fresh = ([], (0, None))

-- no memory for the replies, and no reply is added
abbrev pub no_room : Type 0
no_room = RefusesJobs contents failures last_fault Classic fresh OutOfMemory

abbrev pub no_room_run : Type 0
no_room_run = (jobs : List Job) (earlier : List JobReply)
    → RunsJobs contents failures last_fault Classic jobs fresh earlier earlier (Err OutOfMemory)

-- the device fails after three bytes of the header
abbrev pub cut_sink : SinkRecord
cut_sink = (take 3 header, (1, Some fault.Device))

abbrev pub header_cut : Type 0
header_cut = (r : HeaderFails Classic contents failures last_fault fresh (IoError Device))
    × (r.last ≡ cut_sink)

abbrev pub header_cut_run : Type 0
header_cut_run = (jobs : List Job)
    → RunsJobs contents failures last_fault Classic jobs fresh [] [] (Err (IoError Device))

-- a device error in the header isn't returned as an out-of-memory error
abbrev pub header_swapped : Type 0
header_swapped = (r : HeaderFails Classic contents failures last_fault fresh OutOfMemory)
    → r.last ≡ cut_sink → ⊥

-- if the whole header is written, it didn't fail
abbrev pub header_whole : Type 0
header_whole = (e : TiffError) (r : HeaderFails Classic contents failures last_fault fresh e)
    → contents r.last ≡ header → ⊥

-- jobs aren't refused with another error, and there is no reply
abbrev pub other_cause : Type 0
other_cause = RefusesJobs contents failures last_fault Classic fresh IntSizeError → ⊥

abbrev pub replied : Type 0
replied = (jobs : List Job) (e : TiffError) (r : JobReply)
    → RunsJobs contents failures last_fault Classic jobs fresh [] (r ∷ []) (Err e) → ⊥
