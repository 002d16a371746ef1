-- The sink that keeps the frame of a file of pages.
use Rattle.std.specs.Prelude.{ℕ, List, ◌++◌, length, map, take}
use Rattle.tiff_ffi.specs.declared.pages_sink.LentSamples.{Ghosts}
use Rattle.tiff_ffi.specs.declared.pages_sink.PagesSink.{PagesSink}
use Rattle.tiff_ffi.specs.declared.pages_sink.Stretch.{Stretch}
use Rattle.tiff_ffi.specs.Spliced.{IsStretch, spliced, samples_at}

-- the samples of each page
abbrev pub page_samples : {P : Type 0} {g : Ghosts P} → PagesSink P g → List (List ℕ)
page_samples s = map (λ b. b.now) s.samples.items

-- the samples of the page that is next
abbrev pub next_samples : {P : Type 0} {g : Ghosts P} → PagesSink P g → List ℕ
next_samples s = samples_at (page_samples s) (length s.fronts.items)

-- the bytes of the sink: also those that it only counts
abbrev pub pages_contents : {P : Type 0} {g : Ghosts P} → PagesSink P g → List ℕ
pages_contents s =
    spliced s.around.items s.fronts.items (page_samples s) ++ take s.count (next_samples s)

-- how many writes failed
abbrev pub failed_writes : {P : Type 0} {g : Ghosts P} → PagesSink P g → ℕ
failed_writes s = length s.failed.writes

-- The sink stores the bytes of a stretch.
abbrev pub IsStored : {P : Type 0} {g : Ghosts P} → PagesSink P g → Stretch → Type 0
IsStored s stretch =
    IsStretch s.around.items s.fronts.items (page_samples s) stretch.at stretch.from stretch.len
