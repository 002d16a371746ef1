-- What `resolution` does from a `FileAndModel` of its file: after an error of the sink, or if the
-- call
-- runs out of memory, the file may contain its first tags.
use Rattle.std.proofs.Common.{zero, suc, ◌≡◌, ℕ, ◌^◌, ◌<◌, ◌≤◌, ◌⊎◌, Bool, true, List, [], ◌∷◌, ◌++◌, length, take, drop, None, Result, Ok, Err, refl, ap, sym, ◌∙◌, inl, inr, subst, arith, length-append}
use Rattle.std.proofs.lemmas.List.{take-map, drop-map, take-append-drop}
use Rattle.std.specs.Prelude.{IfErr, nat_lt, ◌&&◌}
use Rattle.tiff_base.specs.declared.error.TiffError.{TiffError}
use Rattle.tiff_base.specs.declared.tags.ResolutionUnit.{ResolutionUnit}
use Rattle.tiff_base.specs.declared.tags.Tag.{Tag}
use Rattle.tiff_base.specs.declared.tags.Tag.TheVariants as tag
use Rattle.tiff_base.specs.Field.{AreEntries}
use Rattle.tiff_base.specs.Tags.{tag_number}
use Rattle.tiff_value.specs.Data.{FieldData, Scalars, units, rationals, data_of}
use Rattle.tiff_page.specs.Checks.{is_page_tag}
use Rattle.tiff_value.specs.Model.{Model, FileContains, Grows}
use Rattle.tiff_value.specs.WriteOps.{all_appended}
use Rattle.tiff_value.specs.FileLaws.{AreAppending}
use Rattle.tiff_encode.specs.Machine.{FileState, OpenDirectory, OpenImage, WriteOutcome, gives, and_then, ◌>>=◌}
use Rattle.tiff_encode.specs.Causes.{end_of, resolution_cause}
use Rattle.tiff_encode.specs.Calls.{write_tags, with_directory_of, with_tags, resolution_tags, resolution}
use Rattle.tiff_encode.specs.Ends.{EndsAsDefined, AppendFailed, IsShortOfMemory, CallFails, Ends}
use Rattle.tiff_encode.specs.Leaves.{Leaves}
use Rattle.tiff_encode.specs.Tagging.{write_fields, fields_of, StopsInPart, StopsResolving}
use Rattle.tiff_encode.specs.Open.{RecordsImage, model_by}
use Rattle.tiff_encode.specs.Jobs as jobs
use Rattle.tiff_encode.specs.Jobs.{FileAndModel, IsCutShort, IsWithoutMemory}
use Rattle.tiff_encode.specs.Stepping.{StandsIfKnown}
use Rattle.tiff_encode.specs.ImageStepping.{reply_to, ResolutionDraws}
use Rattle.tiff_value.specs.lemmas.File.WriteOps.{ops_grow}
use Rattle.tiff_encode.proofs.Image.Fits.{are_short, both, row_fits}
use Rattle.tiff_encode.proofs.Image.FitsCalls.{Fits}
use Rattle.tiff_encode.proofs.Image.Steps.{CallDraws, call_draws}
use Rattle.tiff_encode.proofs.Image.Table.{tagged, Both, row_adding, setting_adding}
use Rattle.tiff_encode.proofs.Image.StepsDirected.{few_none}
use Rattle.tiff_encode.proofs.Image.StepsUnrefused.{never_refused}
use Rattle.tiff_encode.proofs.Joining.{IsAdding, Adds, bind_fails, bind_told, ends_torn}
use Rattle.tiff_encode.proofs.Keeping.{left_so}
use Rattle.tiff_encode.proofs.Open.Kept.{resolutions_keep_open, with_tags_kept}
use Rattle.tiff_encode.proofs.Open.Tags.{no_answer}
use Rattle.tiff_encode.proofs.Settings.{several_adds}
use Rattle.tiff_encode.proofs.Tagging.{tags_are_fields, fields_told}

-- ---- an image with some more tags

with_adding : (i : OpenImage) (values : List (Tag × Scalars)) (file : FileState)
    → IsAdding (with_tags i values file) file
with_adding i values file = row_adding (tagged (λ f. None) values) i file

-- the first tags of some have short numbers if all have
few_short : (k : ℕ) (xs : List (Tag × Scalars)) → are_short xs ≡ true → are_short (take k xs) ≡ true
few_short zero xs h = refl
few_short (suc k) [] h = refl
few_short (suc k) (x ∷ xs) h =
    let each = both (nat_lt (tag_number x.0) (2 ^ 16)) (are_short xs) h in
    ap (λ b. b && are_short (take k xs)) each.0 ∙ few_short k xs each.1

-- equal results have equal errors
refused_alike : {B : Type 0} (f e : TiffError)
    → (let a : Result B TiffError = Err f in let b : Result B TiffError = Err e in a ≡ b) → f ≡ e
refused_alike f e h = cc

-- if an image with the tags is refused, the tags are refused
gives_refused : {A B : Type 0} (r : Result A TiffError) (told : WriteOutcome A) (g : A → B)
    (file : FileState) (e : TiffError) → told.answer ≡ r
    → (((λ (f : FileState). told) >>= (λ x. gives (g x))) file).answer ≡ Err e → told.answer ≡ Err e
gives_refused (Ok x) told g file e q h =
    absurd (no_answer (sym (sym (ap (λ r. (and_then r told.ops told.next (λ x. gives (g x))).answer) q) ∙ h)))
gives_refused (Err f) told g file e q h =
    q ∙ ap Err (refused_alike f e (sym (ap (λ r. (and_then r told.ops told.next (λ x. gives (g x))).answer) q) ∙ h))

-- ---- the tags of both resolutions and their unit

module _ (u : ResolutionUnit) (value : ℕ × ℕ) where
  abbrev tags : List (Tag × Scalars)
  tags = resolution_tags u value

  abbrev fields : List (Tag × FieldData)
  fields = fields_of (resolution_tags u value)

  -- writing the tags that are left makes a change unless it is refused
  left_adds : (k : ℕ) → k < 3 → (d : OpenDirectory) (file : FileState)
      → Adds (write_tags d (drop k tags) file) file
  left_adds zero l d file =
      several_adds tag.ResolutionUnit (units (u ∷ [])) ((tag.XResolution, rationals (value ∷ []))
      ∷ (tag.YResolution, rationals (value ∷ [])) ∷ []) d file
  left_adds (suc zero) l d file =
      several_adds tag.XResolution (rationals (value
      ∷ [])) ((tag.YResolution, rationals (value ∷ [])) ∷ []) d file
  left_adds (suc (suc zero)) l d file =
      several_adds tag.YResolution (rationals (value ∷ [])) [] d file
  left_adds (suc (suc (suc k))) l d file = absurd (omega (arith, l))

  -- The first tags are written, and the others fail.
  module _ (i : OpenImage) (d : OpenDirectory) (k : ℕ) (l : k < 3) (old mid new : FileState) (e : TiffError)
      (h : EndsAsDefined (write_fields i.directory (take k fields) old) (Ok d) mid)
      (f : CallFails (write_fields d (drop k fields) mid) e mid new) where
    abbrev image : OpenImage
    image = with_directory_of i d

    first_told : EndsAsDefined (with_tags i (take k tags) old) (Ok image) mid
    first_told =
        bind_told (write_tags i.directory (take k tags)) (λ d. gives (with_directory_of i d)) d
        (Ok image) old mid mid
        (subst (λ told. EndsAsDefined told (Ok d) mid)
        (ap (λ vs. write_fields i.directory vs old) (take-map (λ v. (v.0, data_of v.1)) k tags) ∙ sym (tags_are_fields i.directory (take k tags) old)) h)
        (record { answer = refl; state = refl })

    others : write_fields d (drop k fields) mid ≡ write_tags d (drop k tags) mid
    others =
        ap (λ vs. write_fields d vs mid) (drop-map (λ v. (v.0, data_of v.1)) k tags)
        ∙ sym (tags_are_fields d (drop k tags) mid)

    others_fail : CallFails (with_tags image (drop k tags) mid) e mid new
    others_fail =
        bind_fails (write_tags d (drop k tags)) (λ x. gives (with_directory_of image x)) e mid new
        (left_adds k l d mid)
        (subst (λ told. CallFails told e mid new) others f)

    unrefused : resolution_cause old ≡ None → (with_tags image (drop k tags) mid).answer ≡ Err e → ⊥
    unrefused c r =
        let told : WriteOutcome OpenDirectory = write_fields d (drop k fields) mid in
        let refused : told.answer ≡ Err e =
        ap (λ x. x.answer) others ∙ gives_refused _ (write_tags d (drop k tags) mid)
        (λ x. with_directory_of image x) mid e refl r in
        let whole =
        fields_told i.directory d (take k fields) (drop k fields) (Err e) old mid told.next h
        (record { answer = refused; state = refl }) in
        let all : EndsAsDefined (write_tags i.directory tags old) (Err e) told.next =
        subst (λ x. EndsAsDefined x (Err e) told.next)
        (ap (λ vs. write_fields i.directory vs old) (take-append-drop k fields)
        ∙ sym (tags_are_fields i.directory tags old)) whole in
        never_refused i.directory u value old e c all.answer

    -- the sink fails, or the call runs out of memory
    abbrev Stops : Type 0
    Stops =
        AppendFailed (with_tags image (drop k tags) mid).ops e mid new
        ⊎ IsShortOfMemory (with_tags image (drop k tags) mid) e mid new

    stops : resolution_cause old ≡ None → Stops
    stops c =
        elim others_fail as (λ _. Stops) [
          | inl t ↦ absurd (unrefused c t.answer)
          | inr r ↦ elim r [
            | inl x ↦ inl x
            | inr r ↦ elim r [
              | inl t ↦ absurd (ends_torn t.before t.offset t.target (subst (λ ds. AreAppending ds) t.last (with_adding image (drop k tags) mid).appending))
              | inr x ↦ inr x
            ]
          ]
        ]

-- the later file has the same kind and at least the same length
record IsLonger (mid new : FileState) : Type 0 where
  kind : new.kind ≡ mid.kind
  longer : end_of mid ≤ end_of new

longer_by : (told : WriteOutcome OpenImage) (e : TiffError) (mid new : FileState)
    → AppendFailed told.ops e mid new ⊎ IsShortOfMemory told e mid new → IsLonger mid new
longer_by told e mid new (inl x) =
    let l : end_of new ≡ length (mid.bytes ++ take x.count (all_appended mid.kind told.ops)) =
    ap (λ f. end_of f) x.state in
    record { kind = ap (λ f. f.kind) x.state; longer = omega (arith, l, length-append mid.bytes (take x.count (all_appended mid.kind told.ops))) }
longer_by told e mid new (inr x) =
    let l : end_of new ≡ length (mid.bytes ++ take x.count (all_appended mid.kind told.ops)) =
    ap (λ f. end_of f) x.state in
    record { kind = ap (λ f. f.kind) x.state; longer = omega (arith, l, length-append mid.bytes (take x.count (all_appended mid.kind told.ops))) }

either_fails : (told : WriteOutcome OpenImage) (e : TiffError) (mid new : FileState)
    → AppendFailed told.ops e mid new ⊎ IsShortOfMemory told e mid new
    → CallFails told e mid new
either_fails told e mid new (inl x) = inr (inl x)
either_fails told e mid new (inr x) = inr (inr (inr x))

-- what the file contains after two calls of an image, the second of which fails
stands_after : (one two : WriteOutcome OpenImage) (j : OpenImage) (e : TiffError)
    (old mid new : FileState) (m : Model) → EndsAsDefined one (Ok j) mid
    → IsAdding one old → IsAdding two mid → Fits one old m (λ j. Unit {0})
    → AppendFailed two.ops e mid new ⊎ IsShortOfMemory two e mid new
    → end_of new < 2 ^ 64 → FileContains old.kind old.bytes m
    → FileContains new.kind new.bytes (model_by old m one)
stands_after one two j e old mid new m told a b f x short s =
    let view : OpenImage → OpenImage = λ n. n in
    let n : Model = model_by old m one in
    let l = longer_by two e mid new x in
    let longer = l.longer in
    let end : end_of one.next ≡ end_of mid = ap (λ f. end_of f) (sym told.state) in
    let same : mid.kind ≡ old.kind = ap (λ f. f.kind) (told.state ∙ a.next) in
    let first : FileContains old.kind mid.bytes n =
    left_so view one (Ok j) old mid m a (λ y _. (f j told.answer (omega (arith, end, longer, short))).0) s told in
    let then_ : FileContains mid.kind mid.bytes n =
    subst (λ kind. FileContains kind mid.bytes n) (sym same) first in
    let last : Result OpenImage TiffError = Err e in
    subst (λ kind. FileContains kind new.bytes n) (sym l.kind)
    (left_so view two last mid new n b (λ y q. absurd (no_answer q)) then_ (either_fails two e mid new x))

module _ (u : ResolutionUnit) (value : ℕ × ℕ) (i j : OpenImage) (e : TiffError) (new : FileState)
    (a : AreEntries i.directory.fields) (short : end_of new < 2 ^ 64) where
  -- from a `FileAndModel` of the file before to one of the file after the call
  abbrev Resolved : Bool → FileAndModel → List (List ℕ) → Type 0
  Resolved known s before =
      (t : FileAndModel) × ((after : List (List ℕ)) × ((t.file ≡ new)
      × (((after ≡ before) × jobs.ResolvesInPart i (resolution_tags u value) e s t j)
      × (StandsIfKnown known t × (Grows s.model t.model
      × (true ≡ true → RecordsImage s.file.kind s.model i before → RecordsImage s.file.kind t.model j after))))))

  in_part : (known : Bool) (s : FileAndModel) (before : List (List ℕ)) → StandsIfKnown known s
      → resolution_cause s.file ≡ None
      → (d : OpenDirectory) → j ≡ with_directory_of i d
      → StopsInPart i.directory (fields_of (resolution_tags u value)) e s.file new d
      → Resolved known s before
  in_part known s before q c d w p =
      let k : ℕ = p.0 in
      let mid : FileState = p.1.1.0 in
      let all : List (Tag × Scalars) = resolution_tags u value in
      let told : EndsAsDefined (with_tags i (take k all) s.file) (Ok (with_directory_of i d)) mid =
      first_told u value i d k p.1.0 s.file mid new e p.1.1.1.0 p.1.1.1.1 in
      let stop = stops u value i d k p.1.0 s.file mid new e p.1.1.1.0 p.1.1.1.1 c in
      let one : WriteOutcome OpenImage = with_tags i (take k all) s.file in
      let two : WriteOutcome OpenImage = with_tags (with_directory_of i d) (drop k all) mid in
      let m : Model = model_by s.file s.model one in
      let middle : FileAndModel = record { file = mid; model = m } in
      let t : FileAndModel = record { file = new; model = m } in
      let failed : IsCutShort two e middle t ⊎ IsWithoutMemory two e middle t = elim stop [
        | inl x ↦ inl (refl, x)
        | inr x ↦ inr (refl, x)
      ] in
      let part : jobs.ResolvesInPart i all e s t (with_directory_of i d) =
      (c, (k, (p.1.0, (middle, (record { ended = told; model = refl }, failed))))) in
      let stands : StandsIfKnown known t =
      λ y. stands_after one two (with_directory_of i d) e s.file mid new s.model told
      (with_adding i (take k all) s.file) (with_adding (with_directory_of i d) (drop k all) mid)
      (λ x h l. ((row_fits (tagged (λ f. None) (take k all)) (few_short k all refl) (λ j d e. e) i s.file s.model a x h l).0, tt)) stop short (q y) in
      let kept : RecordsImage s.file.kind s.model i before
      → RecordsImage s.file.kind m (with_directory_of i d) before = λ h.
      with_tags_kept (λ f. None) (take k all) (few_none (λ v. is_page_tag (tag_number v.0)) all k refl) s.file s.model i (with_directory_of i d) before h told.answer in (
        t,
        (
          before,
          (
            refl,
            (
              (refl, subst (λ n. jobs.ResolvesInPart i all e s t n) (sym w) part),
              (stands, (ops_grow s.file.kind s.file.bytes s.model one.ops, λ _ h. subst (λ n. RecordsImage s.file.kind m n before) (sym w) (kept h))),
            ),
          ),
        ),
      )

-- `resolution`
pub resolution_draws : (i j : OpenImage) (u : ResolutionUnit) (value : ℕ × ℕ)
    (r : Result (Unit {0}) TiffError) (old new : FileState)
    → AreEntries i.directory.fields → end_of new < 2 ^ 64
    → IfErr r (λ e. StopsResolving i u value e old new j)
    → Ends (λ _. j) (resolution i u value old) r old new
    → ((m : Model) → FileContains old.kind old.bytes m
    → Leaves (resolution i u value old) r old new m)
    → ResolutionDraws i u value (reply_to r) old new j
resolution_draws i j u value (Ok x) old new a short p e l =
    call_draws (λ i. resolution i u value) i j (Ok x) old new (setting_adding (Both u value) i old)
    (resolutions_keep_open.0 u value) tt e l
resolution_draws i j u value (Err f) old new a short p e l =
    elim p as (λ _. ResolutionDraws i u value (Err f) old new j) [
      | inl x ↦ (let drawn : CallDraws (λ i. resolution i u value) i (Err f) old new j =
          call_draws (λ i. resolution i u value) i j (Err f) old new (setting_adding (Both u value) i old) (resolutions_keep_open.0 u value) x.0 e l in
          λ known s before q k. let d = drawn known s before q k in (d.0, (d.1.0, (d.1.1.0, ((d.1.1.1.0.0, inl d.1.1.1.0.1), d.1.1.1.1)))))
      | inr y ↦ (λ known s before q k.
          let P : FileState → Type 0 =
          λ old. resolution_cause old ≡ None
          → StopsInPart i.directory (fields_of (resolution_tags u value)) f old new y.1.0
          → Resolved u value i j f new a short known s before in
          let d =
          subst P q (λ c z. in_part u value i j f new a short known s before k c y.1.0 y.1.1.0 z) y.0 y.1.1.1 in
          (d.0, (d.1.0, (d.1.1.0, ((d.1.1.1.0.0, inr d.1.1.1.0.1), d.1.1.1.1)))))
    ]
