-- What the steps of an image do to a file: the calls that set the tags and the layout of the image.
use Rattle.std.proofs.Common.{◌≡◌, ℕ, ◌^◌, ◌<◌, Bool, true, List, Result, Ok, Err, refl, sym, subst}
use Rattle.std.specs.Prelude.{OnErr}
use Rattle.tiff_base.specs.declared.error.TiffError.{TiffError}
use Rattle.tiff_encode.specs.declared.encoder.script.StepReply.{StepReply}
use Rattle.tiff_value.specs.Model.{Model, FileContains, Grows}
use Rattle.tiff_encode.specs.Machine.{FileState, OpenImage, WriteCall}
use Rattle.tiff_encode.specs.Ends.{Ends}
use Rattle.tiff_encode.specs.Leaves.{Leaves}
use Rattle.tiff_encode.specs.Open.{RecordsImage, KeepsOpen}
use Rattle.tiff_encode.specs.Jobs as jobs
use Rattle.tiff_encode.specs.Jobs.{FileAndModel, Drawn}
use Rattle.tiff_encode.specs.Stepping.{DrawMoves}
use Rattle.tiff_encode.specs.ImageStepping.{reply_to}
use Rattle.tiff_encode.proofs.Joining.{IsAdding}
use Rattle.tiff_encode.proofs.Moving.{Seen, grows_here, moves_so}
use Rattle.tiff_encode.proofs.Image.Table.{Setting, Extra, Rows, Sides, Planes, Both, Across, Down, Measure, call_of, setting_adding}
use Rattle.tiff_encode.proofs.Open.Held.{grown_open}
use Rattle.tiff_encode.proofs.Open.Kept.{resolutions_keep_open}
use Rattle.tiff_encode.proofs.Open.Settings.{settings_keep_open}

-- ---- a call that returns an open image

-- what such a call does from each `FileAndModel` of its file
abbrev pub CallDraws : (OpenImage → WriteCall OpenImage) → OpenImage → Result StepReply TiffError
    → FileState → FileState → OpenImage → Type 0
CallDraws call i r = DrawMoves i (λ s before t after. jobs.DrawStep call before r s t after) true

-- the call succeeds, or it fails and the image stays the same
changed : (call : OpenImage → WriteCall OpenImage) (i j : OpenImage)
    (r : Result (Unit {0}) TiffError) (s t : FileAndModel)
    → OnErr r (j ≡ i) → Seen (λ _. j) (call i s.file) r s t
    → jobs.Changes (call i) i (reply_to r) s t j
changed call i j (Ok x) s t o e = e
changed call i j (Err f) s t o e = (o, e)

-- the image stays held after the call
kept_changed : (call : OpenImage → WriteCall OpenImage) (i j : OpenImage)
    (r : Result (Unit {0}) TiffError) (s t : FileAndModel) (samples : List (List ℕ))
    → KeepsOpen call → OnErr r (j ≡ i) → Grows s.model t.model → Seen (λ _. j) (call i s.file) r s t
    → RecordsImage s.file.kind s.model i samples → RecordsImage s.file.kind t.model j samples
kept_changed call i j (Ok x) s t samples k o g e h =
    subst (λ m. RecordsImage s.file.kind m j samples) (sym e.model)
    (k s.file s.model i j samples h e.ended.answer)
kept_changed call i j (Err f) s t samples k o g e h =
    subst (λ n. RecordsImage s.file.kind t.model n samples) (sym o)
    (grown_open s.file.kind s.model t.model i samples h g)

pub call_draws : (call : OpenImage → WriteCall OpenImage) (i j : OpenImage)
    (r : Result (Unit {0}) TiffError) (old new : FileState)
    → IsAdding (call i old) old → KeepsOpen call → OnErr r (j ≡ i)
    → Ends (λ _. j) (call i old) r old new
    → ((m : Model) → FileContains old.kind old.bytes m → Leaves (call i old) r old new m)
    → CallDraws call i (reply_to r) old new j
call_draws call i j r old new a k o e l known s before q f =
    let led = moves_so (λ _. j) (call i) r old new a e l known s q f in
    let t : FileAndModel = led.0 in
    let seen : Seen (λ _. j) (call i s.file) r s t = led.1.1.0 in
    let grows : Grows s.model t.model = led.1.1.1.1 in
    (t, (before, (led.1.0, ((refl, changed call i j r s t o seen), (led.1.1.1.0, (grows, λ _ h. kept_changed call i j r s t before k o grows seen h))))))

-- ---- the calls

-- the numbers of a call have 32 bits
abbrev pub IsAllowed : Setting → Type 0
IsAllowed (Rows rows) = rows < 2 ^ 32
IsAllowed (Sides width length) = (width < 2 ^ 32) × (length < 2 ^ 32)
IsAllowed s = Unit {0}

-- an image stays held after each call of the table
keeps_open : (s : Setting) → IsAllowed s → KeepsOpen (call_of s)
keeps_open (Extra extra) a = settings_keep_open.0 extra
keeps_open (Rows rows) a = settings_keep_open.1.0 rows a
keeps_open (Sides width length) a = settings_keep_open.1.1.0 width length a.0 a.1
keeps_open Planes a = settings_keep_open.1.1.1
keeps_open (Both u value) a = resolutions_keep_open.0 u value
keeps_open (Across value) a = resolutions_keep_open.1.0 value
keeps_open (Down value) a = resolutions_keep_open.1.1.0 value
keeps_open (Measure u) a = resolutions_keep_open.1.1.1 u

-- a call of the table ends as specified and leaves a file that the model describes
pub setting_draws : (s : Setting) (i j : OpenImage) (r : Result (Unit {0}) TiffError)
    (old new : FileState) → IsAllowed s → OnErr r (j ≡ i)
    → Ends (λ _. j) (call_of s i old) r old new
    → ((m : Model) → FileContains old.kind old.bytes m → Leaves (call_of s i old) r old new m)
    → CallDraws (call_of s) i (reply_to r) old new j
setting_draws s i j r old new a o e l =
    call_draws (call_of s) i j r old new (setting_adding s i old) (keeps_open s a) o e l

-- ---- counts

-- a call that only returns a value keeps the image and the file
pub asked : (i : OpenImage) (Said : FileAndModel → Drawn → FileAndModel → Drawn → Type 0)
    (apart : Bool) (file : FileState)
    → ((s : FileAndModel) (before : List (List ℕ))
    → Said s (record { image = i; samples = before }) s (record { image = i; samples = before }))
    → DrawMoves i Said apart file file i
asked i Said apart file said known s before q f =
    (s, (before, (q, (said s before, (f, (grows_here s.model, λ _ h. h))))))
