-- The worked examples of `Encode.Open` hold.
use Rattle.std.specs.Prelude.{refl}
use Rattle.std.proofs.Common.{[], ◌∷◌, inl, inr, lit<, lit≤}
use Rattle.test_definitions.specs.Encode.Chunks.{new_pixel}
use Rattle.test_definitions.specs.Encode.ImageJobs as tasks
use Rattle.test_definitions.specs.Encode.Open as s
use Rattle.test_definitions.proofs.OfEncode.Chunks as images
use Rattle.test_definitions.proofs.OnePixel.{end_held}
use Rattle.tiff.proofs.OnLiterals.{tiff_on_literals}

pub data_whole : s.data_whole
unfolding tiff_on_literals
data_whole =
    inl ((7 ∷ []) ∷ [], ((refl, tt), (refl, (tasks.page_offset, record { answer = images.pixel_data.0; state = refl }))))

pub data_within : s.data_within
unfolding tiff_on_literals
data_within =
    inr ((1 ∷ 2 ∷ []) ∷ [], ((refl, tt), inr (inr (lit< tt, record { fresh = refl; fault = refl; begun = tt; count = 2; within = lit≤ tt; state = refl }))))

pub image_written : s.image_written
unfolding tiff_on_literals
image_written =
    inr (new_pixel, (tasks.after_begin.file, (record { answer = refl; state = refl }, data_whole)))

pub held : s.held
held = end_held

pub ruleset worked = (data_whole, data_within, image_written, held)
