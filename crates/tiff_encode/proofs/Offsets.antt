-- Where the resolutions of an image are in the file.
use Rattle.std.proofs.Common.{◌≡◌, ℕ, ◌+◌, ◌-◌, ◌%◌, ap}
use Rattle.std.proofs.lemmas.List.{length-replicate}
use Rattle.tiff_value.specs.FileBytes.{resolutions_offset}

pub resolutions_of : (n : ℕ) → resolutions_offset n ≡ n + (4 - n % 4) % 4
resolutions_of n = ap (λ k. n + k) (length-replicate ((4 - n % 4) % 4) 0)
