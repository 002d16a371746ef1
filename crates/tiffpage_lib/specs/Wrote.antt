-- What a list of jobs wrote into a file, and whether the file is to be written.
use Rattle.std.specs.Prelude.{◌≡◌, ◌&&◌, ◌||◌, ℕ, Bool, true, false, List, [], Option, IfNone, IfSome, is_ok}
use Rattle.std.specs.Bool.{then_some}
use Rattle.std.specs.List.{list_all}
use Rattle.tiff_base.specs.declared.tags.FileKind.{FileKind}
use Rattle.tiff_encode.specs.declared.encoder.script.Job.{Job}
use Rattle.tiff_encode.specs.declared.encoder.script.JobReply.{JobReply}
use Rattle.tiff_encode.specs.Jobs.{LeavesJobs}
use Rattle.tiff_append.specs.declared.sink.Addition.{Addition}
use Rattle.tiff_append.specs.Behind.{RunsBehind}

-- whether no reply of a job is an error: neither a step nor its end was refused
abbrev pub is_well : JobReply → Bool
is_well reply = list_all is_ok reply.steps.items && is_ok reply.last

-- The jobs leave these bytes on an empty sink: what they wrote stands in the bytes, and each image
-- that was finished with every chunk is shown. The bytes are the file to be written if all replies
-- are well, or if the command keeps going; else there is no file. `well` says whether all replies
-- are well.
pub record Wrote (kind : FileKind) (keep_going : Bool) (jobs : List Job) (file : Option (List ℕ))
    (well : Bool) : Type 0 where
  pub replies : List JobReply
  pub bytes : List ℕ
  pub before : ℕ
  pub after : ℕ
  pub leaves : LeavesJobs kind jobs replies [] before bytes after
  pub well_is : well ≡ list_all is_well replies
  pub file_is : file ≡ then_some (well || keep_going) bytes

-- What jobs write that are run behind a file, whose last link is at q: the new bytes of that link,
-- and bytes behind the file. It is what is to be written if all replies are well.
pub record WroteBehind (kind : FileKind) (file : List ℕ) (q : ℕ) (jobs : List Job)
    (written : Option Addition) (well : Bool) : Type 0 where
  pub replies : List JobReply
  pub well_is : well ≡ list_all is_well replies
  pub some : IfSome written (λ a. (well ≡ true)
      × RunsBehind kind file q jobs [] replies a.link.items a.more.items)
  pub none : IfNone written (well ≡ false)
