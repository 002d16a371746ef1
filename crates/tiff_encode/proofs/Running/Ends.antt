-- The end of a directory or an image leads from a `FileAndModel` of the file before it to a
-- `FileAndModel`
-- of the file after it.
use Rattle.std.proofs.Common.{◌≡◌, ℕ, ◌^◌, ◌<◌, inl, inr, Bool, true, false, Option, Some, None, Ok, Err, refl, ap, sym, ◌∙◌, subst}
use Rattle.std.specs.FinMap.{len}
use Rattle.tiff_base.specs.declared.error.TiffError.{TiffError}
use Rattle.tiff_base.specs.Field.{AreEntries}
use Rattle.tiff_value.specs.Model.{Model, IsLink, FileContains, Grows, with_link}
use Rattle.tiff_value.specs.WriteOps.{model_after}
use Rattle.tiff_encode.specs.Machine.{FileState, OpenDirectory, OpenImage, WriteOutcome, WriteCall}
use Rattle.tiff_encode.specs.Causes.{end_of}
use Rattle.tiff_encode.specs.Calls.{Offsets, finish, finish_image}
use Rattle.tiff_encode.specs.Ends.{EndsAsDefined, LinkWriteFailed, CallFails}
use Rattle.tiff_encode.specs.Leaves.{LeavesTorn}
use Rattle.tiff_encode.specs.ImageData.{IsShortFile}
use Rattle.tiff_encode.specs.Open.{model_by}
use Rattle.tiff_encode.specs.declared.encoder.script.EndReply.TheVariants as last
use Rattle.tiff_encode.specs.Jobs.{FileAndModel, IsDone, Refuses, FinishesWith, FinishesSilently}
use Rattle.tiff_encode.specs.Stepping.{StandsIfKnown, HasLink, EndMoves}
use Rattle.tiff_base.specs.lemmas.Slices.{some_inj, none_some}
use Rattle.tiff_encode.proofs.Moving.{grows_here}
use Rattle.tiff_value.specs.lemmas.File.WriteOps.{ops_grow, link_kept}
use Rattle.tiff_encode.proofs.Leaving.{begun_leaves, torn_leaves, entries_fit, finish_plain}
use Rattle.tiff_encode.proofs.Guarding.{finish_left}
use Rattle.tiff_encode.proofs.Image.Fits.{finish_image_fits}
use Rattle.tiff_encode.proofs.Image.FitsCalls.{Fits}
use Rattle.tiff_encode.proofs.Data.Calls.{Patches}
use Rattle.tiff_encode.proofs.Data.Chunks.{finish_patches, image_patches}
use Rattle.tiff_encode.proofs.Data.Leaves.{appended_stands, patched_stands, patched_torn}
use Rattle.tiff_encode.proofs.EndLinks.{EndLinks, finish_links, image_links}

-- ---- what the file contains after an end

-- What the model describes after an end succeeds, and after the sink fails at the parent's link.
pub record CanStand (told : WriteOutcome Offsets) (old new : FileState) (m : Model) : Type 0 where
  pub done : (offsets : Offsets) → EndsAsDefined told (Ok offsets) new
      → FileContains old.kind new.bytes (model_by old m told)
  pub torn : (e : TiffError) → LinkWriteFailed told.ops e old new → LeavesTorn told e old new m

-- the link of a parent, if there is one
abbrev pub Parent : Option ℕ → FileState → Model → Type 0
Parent parent file m = (offset : ℕ) → parent ≡ Some offset → IsLink file.kind m offset

-- The properties of an end: its changes, its links, and what the model describes after it.
pub record IsEnding (parent : Option ℕ) (told : WriteOutcome Offsets) (old new : FileState) : Type 0 where
  pub patches : Patches parent told old
  pub links : (m : Model) → EndLinks told old m
  pub stands : (m : Model) → FileContains old.kind old.bytes m → Parent parent old m
      → CanStand told old new m

-- the properties of a directory's end
pub directory_ending : (d : OpenDirectory) (old new : FileState) → AreEntries d.fields
    → len d.fields < 2 ^ 64
    → (old.fault ≡ None → end_of old < 2 ^ 64) → IsEnding d.parent (finish d old) old new
directory_ending d old new a n fits = record {
  patches = finish_patches d old;
  links = finish_links d old;
  stands = λ m s p. record {
    done =
        λ offsets t. let view : Offsets → Offsets =
        λ o. o in finish_left old new m d a n fits s p view (Ok offsets) t;
    torn =
        λ e t. torn_leaves (finish d old) e old new m (finish_plain d old)
        (entries_fit old m d a n p (fits t.fresh)) s t;
  };
}

-- the properties of an image's end
pub image_ending : (i : OpenImage) (old new : FileState) → AreEntries i.directory.fields
    → IsShortFile new
    → IsEnding i.directory.parent (finish_image i old) old new
image_ending i old new a short =
    let told : WriteOutcome Offsets = finish_image i old in
    let patches = image_patches i old in
    record {
      patches = patches;
      links = image_links i old;
      stands = λ m s p.
          let fits : Fits told old m (λ _. Unit {0}) =
          λ offsets h l. (finish_image_fits old m i offsets a h l p, tt) in
          record {
            done =
                λ offsets t. patched_stands i.directory.parent told offsets old new m patches fits short s t;
            torn = λ e t. patched_torn i.directory.parent told e old new m patches fits p short s t;
          };
    }

-- ---- the `FileAndModel` after an end

-- The properties of the `FileAndModel` after an end, except those of its result.
pub record Leads (known : Bool) (s t : FileAndModel) (offset : Option Offsets) : Type 0 where
  pub known_so : StandsIfKnown known t
  pub grows : Grows s.model t.model
  pub own : (o : Offsets) → offset ≡ Some o → IsLink t.file.kind t.model o.link
  pub chain : IsLink s.file.kind s.model s.file.chain → IsLink t.file.kind t.model t.file.chain

-- a `FileAndModel` of the file that an end leaves
abbrev pub Led : Bool → FileAndModel → FileState
    → (FileAndModel → FileAndModel → Option Offsets → Type 0)
    → (FileAndModel → FileAndModel → Option Offsets → Type 0) → Type 0
Led known s new Ended Held =
    (t : FileAndModel) × ((offset : Option Offsets)
    × ((t.file ≡ new) × (Ended s t offset × (StandsIfKnown known t × (Grows s.model t.model
    × (((o : Offsets) → offset ≡ Some o → IsLink t.file.kind t.model o.link)
    × ((IsLink s.file.kind s.model s.file.chain → IsLink t.file.kind t.model t.file.chain)
    × Held s t offset)))))))

pub led : (known : Bool) (s t : FileAndModel) (new : FileState)
    (Ended Held : FileAndModel → FileAndModel → Option Offsets → Type 0)
    (offset : Option Offsets) → t.file ≡ new → Ended s t offset → Held s t offset
    → Leads known s t offset → Led known s new Ended Held
led known s t new Ended Held offset f e h l =
    (t, (offset, (f, (e, (l.known_so, (l.grows, (l.own, (l.chain, h))))))))

-- the `FileAndModel` of a file with a model
abbrev pub at : FileState → Model → FileAndModel
at file m = record { file = file; model = m }

-- an end leads on from each `FileAndModel` of the file
pub moves_from : (Ended Held : FileAndModel → FileAndModel → Option Offsets → Type 0)
    (parent : Option ℕ) (old new : FileState)
    → ((known : Bool) (m : Model) → StandsIfKnown known (at old m) → HasLink known (at old m) parent
    → Led known (at old m) new Ended Held)
    → EndMoves Ended parent old new Held
moves_from Ended Held parent old new f known s same k l =
    let P : FileState → Type 0 =
    λ file. StandsIfKnown known (at file s.model) → HasLink known (at file s.model) parent
    → Led known (at file s.model) new Ended Held in
    subst P (sym same) (f known s.model) k l

-- a call whose outcome keeps the model
module _ (known : Bool) (old new : FileState) (m : Model) where
  -- the `FileAndModel` after a call that keeps the model
  pub leads_still : new.kind ≡ old.kind → new.chain ≡ old.chain
      → (known ≡ true → FileContains old.kind new.bytes m)
      → Leads known (at old m) (at new m) None
  leads_still kind chain s = record {
    known_so = λ q. subst (λ k. FileContains k new.bytes m) (sym kind) (s q);
    grows = grows_here m;
    own = λ o h. absurd (none_some h);
    chain =
        λ i. subst (λ k. IsLink k m new.chain) (sym kind) (subst (λ q. IsLink old.kind m q) (sym chain) i);
  }

module _ (parent : Option ℕ) (told : WriteOutcome Offsets) (old new : FileState)
    (ending : IsEnding parent told old new) (known : Bool) (m : Model)
    (k : StandsIfKnown known (at old m)) (l : HasLink known (at old m) parent) where
  -- what the model describes after an end, if it is known to describe the file before
  can_stand : known ≡ true → CanStand told old new m
  can_stand q = ending.stands m (k q) (l q)

  -- the end succeeds
  pub leads_told : (offsets : Offsets) → EndsAsDefined told (Ok offsets) new
      → Leads known (at old m) (at new (model_by old m told)) (Some offsets)
  leads_told offsets t =
      let n : Model = model_by old m told in
      let kind : new.kind ≡ old.kind = ap (λ f. f.kind) t.state ∙ ending.patches.done.kind in
      let links = ending.links m in
      record {
        known_so =
            λ q. subst (λ x. FileContains x new.bytes n) (sym kind) ((can_stand q).done offsets t);
        grows = ops_grow old.kind old.bytes m told.ops;
        own = λ o h.
            subst (λ x. IsLink x n o.link) (sym kind)
            (subst (λ p. IsLink old.kind n p.link) (some_inj offsets o h) (links.own offsets t.answer));
        chain = λ i.
            subst (λ x. IsLink x n new.chain) (sym kind)
            (subst (λ q. IsLink old.kind n q) (sym (ap (λ f. f.chain) t.state)) (links.chain offsets t.answer i));
      }

  -- the model after the sink fails at the parent's link
  abbrev torn_model : (e : TiffError) → LinkWriteFailed told.ops e old new → ℕ → Model
  torn_model e t holds =
      with_link old.kind (model_after old.kind old.bytes m t.before) t.offset holds

  leads_torn : (e : TiffError) (t : LinkWriteFailed told.ops e old new) (holds : ℕ)
      → (known ≡ true → FileContains old.kind new.bytes (torn_model e t holds))
      → Leads known (at old m) (at new (torn_model e t holds)) None
  leads_torn e t holds s =
      let n : Model = torn_model e t holds in
      let kind : new.kind ≡ old.kind = ap (λ f. f.kind) t.state in
      let grown = ops_grow old.kind old.bytes m t.before in
      let grows : Grows m n =
      record { directories = grown.directories; supplied = grown.supplied; regions = grown.regions } in
      record {
        known_so = λ q. subst (λ x. FileContains x new.bytes n) (sym kind) (s q);
        grows = grows;
        own = λ o h. absurd (none_some h);
        chain = λ i.
            subst (λ x. IsLink x n new.chain) (sym kind)
            (subst (λ q. IsLink old.kind n q) (sym (ap (λ f. f.chain) t.state)) (link_kept old.kind m n old.chain grows i));
      }

  -- the end fails
  abbrev Failed : TiffError → Type 0
  Failed e =
      (n : Model) × (Refuses told e (at old m) (at new n) × Leads known (at old m) (at new n) None)

  torn_away : (e : TiffError) (t : LinkWriteFailed told.ops e old new) (holds : ℕ)
      → (known ≡ true → FileContains old.kind new.bytes (torn_model e t holds)) → Failed e
  torn_away e t holds s = (
    torn_model e t holds,
    (inr (inl (record { torn = t; holds = holds; model = refl })), leads_torn e t holds s),
  )

  -- the end fails at the parent's link, by whether the model is known to describe the file
  torn_failed : (e : TiffError) → LinkWriteFailed told.ops e old new → (b : Bool) → known ≡ b
      → Failed e
  torn_failed e t true h =
      let x = (can_stand h).torn e t in torn_away e x.torn x.holds (λ _. x.stands)
  torn_failed e t false h = torn_away e t 0 (λ q. absurd (no_truth (sym q ∙ h))) where
    no_truth : true ≡ false → ⊥
    no_truth h = cc

  pub failed : (e : TiffError) → CallFails told e old new → Failed e
  failed e h =
      let here : Refuses told e (at old m) (at new m) → new.kind ≡ old.kind → new.chain ≡ old.chain
      → ((n : Model) → FileContains old.kind old.bytes n → FileContains old.kind new.bytes n)
      → Failed e = λ r kind chain s.
      (m, (r, leads_still known old new m kind chain (λ q. s m (k q)))) in
      elim h as (λ _. Failed e) [
        | inl t ↦ here (inl (refl, t)) (ap (λ f. f.kind) t.state ∙ ending.patches.done.kind)
            (ap (λ f. f.chain) t.state ∙ (ending.links m).refused e t.answer)
            (appended_stands told old new ending.patches.done (ending.patches.refused e t.answer) t.state)
        | inr h ↦ elim h [
          | inl c ↦ here (inr (inr (inl (refl, c)))) (ap (λ f. f.kind) c.state) (ap (λ f. f.chain) c.state)
              (λ n s. begun_leaves told.ops c.count old new.bytes n (ap (λ f. f.bytes) c.state) s)
          | inr h ↦ elim h [
            | inl t ↦ torn_failed e t known refl
            | inr c ↦ here (inr (inr (inr (refl, c)))) (ap (λ f. f.kind) c.state) (ap (λ f. f.chain) c.state)
                (λ n s. begun_leaves told.ops c.count old new.bytes n (ap (λ f. f.bytes) c.state) s)
          ]
        ]
      ]

-- ---- ends by their results

module _ (Ended Held : FileAndModel → FileAndModel → Option Offsets → Type 0) (parent : Option ℕ)
    (told : WriteOutcome Offsets) (old new : FileState)
    (ending : IsEnding parent told old new) where
  -- an end that succeeds
  pub told_moves : (offsets : Offsets) → EndsAsDefined told (Ok offsets) new
      → ((m : Model) → IsDone told (Ok offsets) (at old m) (at new (model_by old m told))
      → Ended (at old m) (at new (model_by old m told)) (Some offsets))
      → ((m : Model) → Held (at old m) (at new (model_by old m told)) (Some offsets))
      → EndMoves Ended parent old new Held
  told_moves offsets t ended held =
      moves_from Ended Held parent old new
      (λ known m k l.
      led known (at old m) (at new (model_by old m told)) new Ended Held (Some offsets) refl
      (ended m (record { ended = t; model = refl })) (held m)
      (leads_told parent told old new ending known m k l offsets t))

  -- an end that fails
  pub fails_moves : (e : TiffError) → CallFails told e old new
      → ((m n : Model) → Refuses told e (at old m) (at new n) → Ended (at old m) (at new n) None)
      → ((m n : Model) → Held (at old m) (at new n) None)
      → EndMoves Ended parent old new Held
  fails_moves e h ended held =
      moves_from Ended Held parent old new
      (λ known m k l.
      let x = failed parent told old new ending known m k l e h in
      led known (at old m) (at new x.0) new Ended Held None refl (ended m x.0 x.1.0) (held m x.0) x.1.1)

-- the properties of an end imply weaker ones
pub moves_as : (Ended Held Known_so Held_so : FileAndModel → FileAndModel → Option Offsets → Type 0)
    (parent : Option ℕ) (old new : FileState)
    → ((s t : FileAndModel) (offset : Option Offsets) → Ended s t offset → Known_so s t offset)
    → ((s t : FileAndModel) (offset : Option Offsets) → Held s t offset → Held_so s t offset)
    → EndMoves Ended parent old new Held → EndMoves Known_so parent old new Held_so
moves_as Ended Held Known_so Held_so parent old new f g e known s same k l =
    let x = e known s same k l in
    let t : FileAndModel = x.0 in
    let offset : Option Offsets = x.1.0 in
    let y = x.1.1 in
    let z = y.1.1.1.1.1 in
    (t, (offset, (y.0, (f s t offset y.1.0, (y.1.1.0, (y.1.1.1.0, (y.1.1.1.1.0, (z.0, g s t offset z.1))))))))

-- ---- ends that return nothing

module _ (call : WriteCall Offsets) (Held : FileAndModel → FileAndModel → Option Offsets → Type 0)
    (parent : Option ℕ) (old new : FileState)
    (ending : IsEnding parent (call old) old new) where
  pub silently_told : (offsets : Offsets) → EndsAsDefined (call old) (Ok offsets) new
      → ((m : Model) → Held (at old m) (at new (model_by old m (call old))) (Some offsets))
      → EndMoves (λ s t offset. FinishesSilently (call s.file) (Ok last.Nothing) s t offset) parent old new Held
  silently_told offsets t held =
      told_moves (λ s t offset. FinishesSilently (call s.file) (Ok last.Nothing) s t offset) Held parent (call old) old new ending
      offsets t (λ m done. (offsets, (done, refl))) held

  pub silently_failed : (e : TiffError) → CallFails (call old) e old new
      → ((m n : Model) → Held (at old m) (at new n) None)
      → EndMoves (λ s t offset. FinishesSilently (call s.file) (Err e) s t offset) parent old new Held
  silently_failed e h held =
      fails_moves (λ s t offset. FinishesSilently (call s.file) (Err e) s t offset) Held parent
      (call old) old new ending
      e h (λ m n r. (r, refl)) held

-- ---- a directory

-- a directory's end holds no image
abbrev pub Nothing_held : FileAndModel → FileAndModel → Option Offsets → Type 0
Nothing_held s t offset = Unit {0}

module _ (d : OpenDirectory) (old new : FileState) (ending : IsEnding d.parent (finish d old) old new) where
  pub offsets_told : (offsets : Offsets) (pointer link : ℕ) → offsets.pointer ≡ pointer
      → offsets.link ≡ link
      → EndsAsDefined (finish d old) (Ok offsets) new
      → EndMoves (λ s t offset. FinishesWith (finish d s.file) (Ok (last.Offsets pointer link)) s t offset) d.parent old new Nothing_held
  offsets_told offsets pointer link p l t =
      let told : WriteOutcome Offsets = finish d old in
      let all : Offsets = record { pointer = pointer; link = link } in
      let same : offsets ≡ all = λ i. record { pointer = p i; link = l i } in
      told_moves (λ s t offset. FinishesWith (finish d s.file) (Ok (last.Offsets pointer link)) s t offset) Nothing_held d.parent told old new ending
      all (subst (λ o. EndsAsDefined told (Ok o) new) same t) (λ m done. (done, refl)) (λ m. tt)

  pub offsets_failed : (e : TiffError) → CallFails (finish d old) e old new
      → EndMoves (λ s t offset. FinishesWith (finish d s.file) (Err e) s t offset) d.parent old new Nothing_held
  offsets_failed e h =
      fails_moves (λ s t offset. FinishesWith (finish d s.file) (Err e) s t offset) Nothing_held d.parent (finish d old) old new ending
      e h (λ m n r. (r, refl)) (λ m n. tt)
