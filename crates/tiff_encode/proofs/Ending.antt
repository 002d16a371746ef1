-- What the end of a directory does, and what it returns.
use Rattle.std.proofs.Common.{◌≡◌, ℕ, ◌*◌, ◌+◌, ◌-◌, ◌<◌, ◌≤◌, Bool, true, false, cond, List, [], ◌∷◌, ◌++◌, length, take, Option, Some, None, Result, Ok, Err, refl, ap, sym, ◌∙◌, inl, inr, subst, arith, append_assoc, append-nil, length-append, length-take-le}
use Rattle.std.proofs.lemmas.Bool.{ltb-false}
use Rattle.std.specs.Prelude.{◌⊎◌, nat_lt}
use Rattle.std.specs.FinMap.{FinMap, len, entries, len-entries}
use Rattle.std.specs.List.{flat_map}
use Rattle.std.specs.Ordering.{nat_cmp}
use Rattle.tiff_base.specs.declared.error.TiffError.{TiffError}
use Rattle.tiff_base.specs.declared.error.TiffError.TheVariants.{OutOfMemory}
use Rattle.tiff_base.specs.declared.tags.FileKind.{FileKind}
use Rattle.tiff_base.specs.declared.tags.FileKind.TheVariants.{Classic, Big}
use Rattle.tiff_base.specs.Directory.{entry_len, link_offset}
use Rattle.tiff_base.specs.Field.{Field, In, IsEntry, AreEntries}
use Rattle.tiff_base.specs.Number.{le}
use Rattle.tiff_base.specs.SourceAndSink.{put}
use Rattle.tiff_value.specs.FileBytes.{offset_len, count_len, entry_bytes, directory_bytes}
use Rattle.tiff_encode.specs.Machine.{FileState, OpenDirectory, WriteCall, does, ◌>>=◌}
use Rattle.tiff_value.specs.WriteOps.{WriteOp, Listed, bytes_after, all_appended}
use Rattle.tiff_encode.specs.Encoder.{AppendIsCut, IsTorn}
use Rattle.tiff_encode.specs.FileWrites.{file_with_bytes}
use Rattle.tiff_encode.specs.Causes.{end_of, parent_cause, finish_cause}
use Rattle.tiff_encode.specs.Calls.{Offsets, offsets_of, links_to, chain_after, chains, finish}
use Rattle.tiff_encode.specs.Ends.{EndsAsDefined, LinkWriteFailed, Ends}
use Rattle.tiff_encode.proofs.Calling.{fresh_cause, refused, uncaused, wanting, cut_off}
use Rattle.tiff_base.specs.lemmas.Slices.{length-le}

-- ---- the length of a directory

length-entry : (kind : FileKind) (e : ℕ × Field) → length e.1.value ≡ 8
    → length (entry_bytes kind e) ≡ entry_len kind
length-entry Classic e w =
    let t : length (take 4 e.1.value) ≡ 4 =
    length-take-le 4 e.1.value (omega (arith, w)) in omega (arith, t)
length-entry Big e w =
    let t : length (take 8 e.1.value) ≡ 8 =
    length-take-le 8 e.1.value (omega (arith, w)) in omega (arith, t)

length-entries : (kind : FileKind) (es : List (ℕ × Field)) → ((e : ℕ × Field) → In e es → IsEntry e)
    → length (flat_map (entry_bytes kind) es) ≡ entry_len kind * length es
length-entries kind [] w = omega arith
length-entries kind (e ∷ es) w =
    let a = length-entry kind e (w e (inl refl)).whole in
    let b = length-entries kind es (λ x i. w x (inr i)) in
    omega (arith, a, b, length-append (entry_bytes kind e) (flat_map (entry_bytes kind) es))

-- the link of a directory is its last part
pub length-listed : (kind : FileKind) (offset : ℕ) (fields : FinMap nat_cmp Field)
    → AreEntries fields
    → offset + length (directory_bytes kind fields) ≡ link_offset kind offset (len fields)
    + offset_len kind
unfolding directory_bytes
length-listed kind offset fields w =
    let n : ℕ = len fields in
    let C : List ℕ = le (count_len kind) n in
    let B : List ℕ = flat_map (entry_bytes kind) (entries fields) in
    let Z : List ℕ = le (offset_len kind) 0 in
    let x : length B ≡ entry_len kind * n =
    length-entries kind (entries fields) w
    ∙ ap (λ (n : ℕ). entry_len kind * n) (sym (len-entries fields)) in
    omega (
      arith,
      length-append C (B ++ Z),
      length-append B Z,
      length-le 0 (count_len kind) n,
      length-le 0 (offset_len kind) 0,
      x,
    )

-- the own link of a directory ends the file that the directory is appended to
pub own_link_is : (old new : FileState) (fields : FinMap nat_cmp Field) (width at : ℕ)
    → AreEntries fields
    → new ≡ file_with_bytes old (directory_bytes old.kind fields) → at ≡ end_of new
    → width ≡ offset_len old.kind
    → at - width ≡ link_offset old.kind (end_of old) (len fields)
own_link_is old new fields width at w s a k =
    let D : List ℕ = directory_bytes old.kind fields in
    let l = length-listed old.kind (end_of old) fields w in
    let g : length new.bytes ≡ length old.bytes + length D =
    ap (λ m. length m.bytes) s ∙ length-append old.bytes D in
    omega (arith, l, g, a, k)

pub own_link_within : (old new : FileState) (fields : FinMap nat_cmp Field) (link : ℕ)
    (kind : FileKind) → AreEntries fields
    → new ≡ file_with_bytes old (directory_bytes old.kind fields)
    → link ≡ link_offset old.kind (end_of old) (len fields) → old.kind ≡ kind
    → link + offset_len kind ≤ end_of new
own_link_within old new fields link kind w s l k =
    let D : List ℕ = directory_bytes old.kind fields in
    let x = length-listed old.kind (end_of old) fields w in
    let g : length new.bytes ≡ length old.bytes + length D =
    ap (λ m. length m.bytes) s ∙ length-append old.bytes D in
    omega (arith, x, g, l, ap offset_len k)

-- ---- errors that refuse the end of a directory

-- if the tests return no error, the first test isn't met and the others return none
passed : (b : Bool) (e : TiffError) (cause : Option TiffError) → cond b (Some e) cause ≡ None
    → (b ≡ false) × (cause ≡ None)
passed true e cause h = absurd cc
passed false e cause h = (refl, h)

-- where nothing refuses the end of a directory, its parent's link lies within the file
pub end_within : (file : FileState) (d : OpenDirectory) → file.fault ≡ None
    → finish_cause file d ≡ None
    → (offset : ℕ) → d.parent ≡ Some offset → offset + offset_len file.kind ≤ end_of file
unfolding finish_cause
end_within file d f h offset p =
    let rest = (passed _ _ _ (sym (fresh_cause file.fault _ f) ∙ h)).1 in
    let b =
    passed (nat_lt (end_of file) (offset + offset_len file.kind)) _ None
    (sym (ap (parent_cause file) p) ∙ rest) in
    ltb-false (end_of file) (offset + offset_len file.kind) b.0

-- the parent's link stays within a file that grows
pub within_grown : (old mid : FileState) (d : OpenDirectory) (kind : FileKind) (more : List ℕ)
    (parent : Option ℕ) → old.kind ≡ kind
    → old.fault ≡ None → finish_cause old d ≡ None → mid ≡ file_with_bytes old more
    → parent ≡ d.parent
    → (offset : ℕ) → parent ≡ Some offset → offset + offset_len kind ≤ length mid.bytes
within_grown old mid d kind more parent k f h s q offset p =
    let w = end_within old d f h offset (sym q ∙ p) in
    let g : length mid.bytes ≡ length old.bytes + length more =
    ap (λ m. length m.bytes) s ∙ length-append old.bytes more in
    omega (arith, w, g, ap offset_len k)

-- ---- links

-- the file after the end of a directory, by whether the directory is chained
chain_is : (file : FileState) (chained : Bool) (offsets : Offsets)
    → cond chained (record file { chain = offsets.link }) file ≡ chain_after file chained offsets
chain_is file true offsets = refl
chain_is file false offsets = refl

-- ---- ends

-- the end of a directory appends the directory
appended_is : (kind : FileKind) (fields : FinMap nat_cmp Field) (parent : Option ℕ) (target : ℕ)
    → all_appended kind ((Listed fields ∷ links_to parent target) ++ [])
    ≡ directory_bytes kind fields
appended_is kind fields None target = append-nil (directory_bytes kind fields)
appended_is kind fields (Some offset) target = append-nil (directory_bytes kind fields)

module _ {X : Type 0} (view : X → Offsets) (d : OpenDirectory) (old : FileState) where
  -- the offsets that the end of a directory returns if nothing refuses it
  abbrev offsets : Offsets
  offsets = offsets_of old.kind (end_of old) (len d.fields)

  abbrev ops : List WriteOp
  ops = Listed d.fields ∷ links_to d.parent (end_of old)

  abbrev call : WriteCall Offsets
  call = does ops >>= (λ _. chains d.chained offsets)

  pub end_refused : (e : TiffError) → finish_cause old d ≡ Some e
      → Ends view (finish d old) (Err e) old old
  unfolding finish
  end_refused e c = refused view (finish_cause old d) call old e c

  uncaused_end : (r : Result X TiffError) (new : FileState) → finish_cause old d ≡ None
      → Ends view (call old) r old new
      → Ends view (finish d old) r old new
  unfolding finish
  uncaused_end r new c h = uncaused view (finish_cause old d) call r old new c h

  pub end_cut : (e : TiffError) (new : FileState) → finish_cause old d ≡ None
      → AppendIsCut (directory_bytes old.kind d.fields) e old new
      → Ends view (finish d old) (Err e) old new
  end_cut e new c cut =
      uncaused_end (Err e) new c
      (inr (inl (cut_off (call old).ops e old new
      (subst (λ xs. AppendIsCut xs e old new) (sym (appended_is old.kind d.fields d.parent (end_of old))) cut))))

  pub end_wanting : (e : TiffError) → finish_cause old d ≡ None → old.fault ≡ None → e ≡ OutOfMemory
      → Ends view (finish d old) (Err e) old old
  end_wanting e c f q = uncaused_end (Err e) old c (wanting view (call old) e old f q tt)

  -- the end fails before it appends the whole directory
  pub end_unlisted : (e : TiffError) (new : FileState) → finish_cause old d ≡ None
      → old.fault ≡ None
      → AppendIsCut (directory_bytes old.kind d.fields) e old new
      ⊎ ((e ≡ OutOfMemory) × (new ≡ old))
      → Ends view (finish d old) (Err e) old new
  end_unlisted e new c f h = elim h as (λ _. Ends view (finish d old) (Err e) old new) [
    | inl cut ↦ end_cut e new c cut
    | inr w ↦ subst (λ n. Ends view (finish d old) (Err e) old n) (sym w.1) (end_wanting e c f w.0)
  ]

  -- the end appends the directory, and the sink fails at its parent's link
  pub end_torn : (e : TiffError) (mid new : FileState) (target : ℕ) (parent : Option ℕ)
      → finish_cause old d ≡ None → old.fault ≡ None
      → target ≡ end_of old → mid ≡ file_with_bytes old (directory_bytes old.kind d.fields)
      → parent ≡ d.parent
      → (offset : ℕ) × ((parent ≡ Some offset) × IsTorn [] offset target e mid new)
      → Ends view (finish d old) (Err e) old new
  end_torn e mid new target parent c f a s q (offset, (p, t)) =
      let D : List ℕ = directory_bytes old.kind d.fields in
      let torn : LinkWriteFailed (call old).ops e old new = record {
        fresh = f;
        fault = t.fault;
        answer = t.answer;
        before = Listed d.fields ∷ [];
        offset = offset;
        target = end_of old;
        last = ap (λ x. Listed d.fields ∷ (links_to x (end_of old) ++ [])) (sym q ∙ p);
        count = t.count;
        within = subst (λ m. t.count < offset_len m.kind) s t.within;
        state = t.state
            ∙ (λ i. record (s i) {
              bytes =
                  put ((s i).bytes ++ []) offset (take t.count (le (offset_len (s i).kind) (a i)));
              failures = (s i).failures + 1;
              fault = Some t.fault;
            })
            ∙ (λ i. record old {
              bytes =
                  put (append_assoc old.bytes D [] i) offset (take t.count (le (offset_len old.kind) (end_of old)));
              failures = old.failures + 1;
              fault = Some t.fault;
            });
      } in
      uncaused_end (Err e) new c (inr (inr (inl torn)))

  -- the end of a directory succeeds
  pub end_done : (x : X) (mid linked new : FileState) (target link : ℕ) (parent : Option ℕ)
      (chained : Bool) → finish_cause old d ≡ None → target ≡ end_of old
      → mid ≡ file_with_bytes old (directory_bytes old.kind d.fields)
      → linked ≡ record mid { bytes = bytes_after mid.kind mid.bytes (links_to parent target) }
      → parent ≡ d.parent → chained ≡ d.chained
      → link ≡ link_offset old.kind (end_of old) (len d.fields)
      → view x ≡ record { pointer = target; link = link }
      → new ≡ cond chained (record linked { chain = link }) linked
      → Ends view (finish d old) (Ok x) old new
  end_done x mid linked new target link parent chained c a s l q b k v n =
      let found : view x ≡ offsets = v ∙ λ i. record { pointer = a i; link = k i } in
      let all : linked ≡ record old { bytes = bytes_after old.kind old.bytes ops } =
      l ∙ λ i. record (s i) { bytes = bytes_after (s i).kind (s i).bytes (links_to (q i) (a i)) } in
      let told : EndsAsDefined (call old) (Ok (view x)) new = record {
        answer = ap Ok (sym found);
        state =
            n ∙ (λ i. cond (b i) (record (all i) { chain = k i }) (all i))
            ∙ chain_is _ d.chained offsets;
      } in
      uncaused_end (Ok x) new c told
