-- The cause of an error, where one call returns the error of another.
use Rattle.std.proofs.Common.{◌≡◌, true, false, refl}
use Rattle.std.specs.Prelude.{◌||◌}
use Rattle.tiff_base.specs.declared.error.TiffError.{TiffError}
use Rattle.tiff_base.specs.declared.error.TiffError.TheVariants.{IoError, OutOfMemory}
use Rattle.tiff_base.specs.declared.io.IoKind.TheVariants.{Device}
use Rattle.tiff_base.specs.Answers.{IsCause, is_device, is_memory}

pub memory_is : (e : TiffError) → is_memory e ≡ true → e ≡ OutOfMemory
memory_is OutOfMemory is = refl
memory_is e is = absurd (cc)

pub memory_not_device : (e : TiffError) → is_memory e ≡ true → is_device e ≡ false
memory_not_device OutOfMemory is = refl
memory_not_device e is = absurd (cc)

pub other_not_memory : (e : TiffError) → is_memory e || is_device e ≡ false → is_memory e ≡ false
other_not_memory OutOfMemory is = is
other_not_memory e is = refl

pub other_not_device : (e : TiffError) → is_memory e || is_device e ≡ false → is_device e ≡ false
other_not_device OutOfMemory is = refl
other_not_device e is = is

-- a cause remains one under weaker conditions
pub cause_along : {wanting failed wanting' failed' given given' : Type 0} (e : TiffError)
    → (wanting → wanting') → (failed → failed') → (given → given') → IsCause wanting failed e given
    → IsCause wanting' failed' e given'
cause_along e w f g h = record {
  memory = λ is. w (h.memory is);
  device = λ is. f (h.device is);
  other = λ is. g (h.other is);
}

-- what follows from each cause
pub from_cause : {wanting failed given P : Type 0} (e : TiffError)
    → (wanting → P) → (failed → P) → (given → P) → IsCause wanting failed e given → P
from_cause OutOfMemory w f g h = w (h.memory refl)
from_cause (IoError Device) w f g h = f (h.device refl)
from_cause e w f g h = g (h.other refl)

-- an error that is neither that memory is out nor that the device failed
pub named_cause : {wanting failed given : Type 0} (e : TiffError)
    → is_memory e || is_device e ≡ false → given → IsCause wanting failed e given
named_cause OutOfMemory named g = absurd (cc)
named_cause (IoError Device) named g = absurd (cc)
named_cause e named g =
    record { memory = λ is. absurd (cc); device = λ is. absurd (cc); other = λ _. g }
