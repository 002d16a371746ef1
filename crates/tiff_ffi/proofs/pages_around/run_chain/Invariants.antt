use Rattle.std.specs.Prelude.{map}
use Rattle.tiff_ffi.proofs.pages_around.run_chain.Given as goal

-- The samples that the sink lends are those that it gets.
abbrev pub ghosts-run_around : goal.ghosts-run_around
ghosts-run_around a = record { samples = map (λ s. s.now) a.samples.items }

abbrev pub ghosts-run_around-2 : goal.ghosts-run_around-2
ghosts-run_around-2 a = record { samples = map (λ s. s.now) a.samples.items }
