-- Memory may be out.
use Rattle.tiff_base.specs.declared.error.TiffError.TheVariants.{OutOfMemory}
use Rattle.tiff_base.specs.Answers.{IsCause}

-- where a call may allocate, that memory is out is a reason for its error
pub memory_out : {failed given : Type 0} → IsCause (Unit {0}) failed OutOfMemory given
memory_out = record { memory = λ is. tt; device = λ is. absurd (cc); other = λ is. absurd (cc) }
