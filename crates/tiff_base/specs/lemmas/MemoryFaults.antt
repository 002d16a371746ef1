-- A sink in memory fails only when it is out of memory.
use Rattle.std.proofs.Common.{◌≡◌, ◌⊎◌, inl, inr, Bool, true, false, cond, Option, None, Some, IsSome, refl, sym}
use Rattle.tiff_base.specs.declared.error.TiffError.{TiffError}
use Rattle.tiff_base.specs.declared.error.TiffError.TheVariants.{OutOfMemory}
use Rattle.tiff_base.specs.declared.io.SinkFault.{SinkFault}
use Rattle.tiff_base.specs.declared.io.SinkFault.TheVariants as sink
use Rattle.tiff_base.specs.SourceAndSink.{sink_error}

-- the error of a sink in memory, if memory was refused
abbrev pub memory_fault : Bool → Option SinkFault
memory_fault refused = cond refused (Some sink.OutOfMemory) None

-- the error of a sink in memory is `OutOfMemory`
pub only_memory : (fault : Option SinkFault) (refused : Bool)
    → (IsSome fault → memory_fault refused ≡ fault)
    → (fault ≡ None) ⊎ (fault ≡ Some sink.OutOfMemory)
only_memory None refused h = inl refl
only_memory (Some f) true h = inr (sym (h refl))
only_memory (Some f) false h = let e = h refl in absurd cc

-- the error of a header that a sink in memory takes in part is `OutOfMemory`
pub header_refused : (cause : SinkFault) (refused : Bool) (e : TiffError)
    → memory_fault refused ≡ Some cause → e ≡ sink_error cause → e ≡ OutOfMemory
header_refused sink.OutOfMemory refused e t a = a
header_refused sink.Device true e t a = absurd cc
header_refused sink.Device false e t a = absurd cc
