-- Visits to pages.
use Rattle.std.proofs.Common.{◌≡◌, ℕ, ◌+◌, ◌<◌, ◌≤◌, ◌⊎◌, inl, inr, List, [], ◌∷◌, Option, Some, Result, Ok, Err, refl, ap, sym, ◌∙◌, subst, arith}
use Rattle.std.specs.Result.{result_and}
use Rattle.tiff_base.specs.declared.error.TiffError.{TiffError}
use Rattle.tiff_base.specs.declared.error.TiffError.TheVariants.{FormatError, UnsupportedError, IoError, LimitsExceeded, IntSizeError, UsageError, OutOfMemory}
use Rattle.tiff_base.specs.declared.io.IoKind.TheVariants.{UnexpectedEof, InvalidData, InvalidInput, WriteZero, Device}
use Rattle.tiff_base.specs.declared.tags.IfdPointer.{IfdPointer}
use Rattle.tiff.specs.lemmas.Causes.{cause_along}
use Rattle.tiff_base.specs.Sparing.{IsOkOrList}
use Rattle.tiff_base.specs.Field.{DirectoryRecord}
use Rattle.tiff_page.specs.EarlyFaults.{image_early}
use Rattle.tiff_decode.specs.declared.result.DecodingResult.{DecodingResult}
use Rattle.tiff_decode.specs.declared.script.Call.TheVariants as call
use Rattle.tiff_decode.specs.declared.script.Reply.{Reply}
use Rattle.tiff_decode.specs.declared.script.Reply.TheVariants as reply
use Rattle.tiff_decode.specs.NextState.{IsNamedFault}
use Rattle.tiff_decode.specs.Failures.{fault_of, device_count}
use Rattle.tiff_decode.specs.Machine.{State, Decoding, Outcome, Follows, FollowsBut}
use Rattle.tiff_decode.specs.Outcome as outcome
use Rattle.tiff_decode.specs.Result.{decoded_as}
use Rattle.tiff_decode.specs.Step.{Step}
use Rattle.tiff_decode.specs.Steps.{Steps}
use Rattle.tiff.specs.lemmas.NextState.{IsTold, told}
use Rattle.tiff.specs.Answers.{Answers, IsCause, ◌>>=◌}
use Rattle.tiffpage_lib.specs.AtPage.{VisitsPage, at_page, page_decoder}
use Rattle.tiffpage_lib.specs.Listing.{listing, listing_at, page_pointer}
use Rattle.tiffpage_lib.specs.Samples.{page_image}

-- ---- results

-- An error that is given is returned where it is named.
pub fault_cause : {G : Type 0} (e : TiffError) (before after : ℕ) → (IsNamedFault (Some e) → G)
    → before + device_count (Some e) ≤ after
    → IsCause (Unit {0}) (before < after) e G
fault_cause OutOfMemory before after g l =
    record { memory = λ is. tt; device = λ is. absurd (cc); other = λ is. absurd (cc) }
fault_cause (IoError Device) before after g l =
    record { memory = λ is. absurd (cc); device = λ is. omega (arith, l); other = λ is. absurd (cc) }
fault_cause e before after g l =
    record { memory = λ is. absurd (cc); device = λ is. absurd (cc); other = λ is. g tt }

-- An error is named or it isn't.
named_or_not : (f : Option TiffError) → IsNamedFault f ⊎ (IsNamedFault f → ⊥)
named_or_not (Some (FormatError e)) = inl tt
named_or_not (Some (UnsupportedError e)) = inl tt
named_or_not (Some (IoError UnexpectedEof)) = inl tt
named_or_not (Some (IoError InvalidData)) = inl tt
named_or_not (Some (IoError InvalidInput)) = inl tt
named_or_not (Some (IoError WriteZero)) = inl tt
named_or_not (Some (IoError Device)) = inr (λ n. n)
named_or_not (Some LimitsExceeded) = inl tt
named_or_not (Some IntSizeError) = inl tt
named_or_not (Some (UsageError e)) = inl tt
named_or_not (Some OutOfMemory) = inr (λ n. n)
named_or_not f = inl tt

-- The same result, over an earlier count of failed reads.
pub answers_along : {X Y : Type 0} (view : X → Y) (r : Result X TiffError)
    (given given' : Result Y TiffError) (earlier before after : ℕ)
    → given ≡ given' → earlier ≤ before → Answers view r given before after
    → Answers view r given' earlier after
answers_along view (Ok x) given given' earlier before after e l a = sym e ∙ a
answers_along view (Err f) given given' earlier before after e l a =
    cause_along f (λ w. w) (λ g. omega (arith, l, g)) (λ h. sym e ∙ h) a

-- A call that moves nothing: what it returns, and what it keeps.
pub record Moves {X Y : Type 0} (view : X → Y) (given : Result Y TiffError) (r : Result X TiffError)
    (old new : Decoding) : Type 0 where
  pub answer : Answers view r given old.failures new.failures
  pub kept : new ≡ record old { failures = new.failures }
  pub failures : old.failures ≤ new.failures

answer_told : {X Y : Type 0} (view : X → Y) (o : Outcome Y) (r : Result X TiffError) (old new : Decoding)
    → IsTold view o r old new → Answers view r o.answer old.failures new.failures
answer_told view o (Ok x) old new t = sym (t.next tt).0
answer_told view o (Err e) old new t =
    fault_cause e old.failures new.failures (λ n. sym (t.next n).0) t.failed

state_told : {X Y : Type 0} (view : X → Y) (o : Outcome Y) (r : Result X TiffError) (old new : Decoding)
    → o.next ≡ old.state → IsTold view o r old new → new.state ≡ old.state
state_told view o r old new same t =
    elim (named_or_not (fault_of r)) [ inl n ↦ (t.next n).1 ∙ same | inr n ↦ t.stays n ]

-- A call leaves the decoder where it is.
pub stays_there : {X Y : Type 0} (wanting : Type 0) (view : X → Y) (o : Outcome Y)
    (r : Result X TiffError) (old new : Decoding)
    → o.next ≡ old.state → FollowsBut wanting view o r old new → Moves view o.answer r old new
stays_there wanting view o r old new same f =
    let t : IsTold view o r old new = told wanting view o r old new f in
    record {
      answer = answer_told view o r old new t;
      kept =
          t.file ∙ ap (λ (s : State). record old { failures = new.failures; state = s })
          (state_told view o r old new same t);
      failures = omega (arith, t.failed);
    }

-- ---- a seek, and what follows it

-- The file of a decoder that moved, and then stayed, is the same.
file_along : (old mid new : Decoding)
    → mid ≡ record old { failures = mid.failures; state = mid.state }
    → new ≡ record mid { failures = new.failures }
    → new ≡ record old { failures = new.failures; state = new.state }
file_along old mid new e f =
    f ∙ (λ i. record (e i) { failures = new.failures })
    ∙ ap (λ (s : State). record old { failures = new.failures; state = s })
    (sym (ap (λ (d : Decoding). d.state) f))

-- What a decoder returns that was moved to a page.
given_there : {Y : Type 0} (given : Decoding → Result Y TiffError) (old mid : Decoding) (k : ℕ)
    → ((d : Decoding) (n : ℕ) → given (record d { failures = n }) ≡ given d)
    → mid ≡ record old { failures = mid.failures; state = mid.state }
    → mid.state ≡ (outcome.seek_to_image old k).next
    → given mid ≡ given (page_decoder old k)
given_there given old mid k same file at =
    ap given (file ∙ ap (λ (s : State). record old { failures = mid.failures; state = s }) at)
    ∙ same (page_decoder old k) mid.failures

-- A seek that is not refused, and a result at the page.
pub seek_then : {X Y : Type 0} (view : X → Y) (given : Decoding → Result Y TiffError)
    (old mid : Decoding) (k : ℕ) (u : Unit {0}) (r : Result X TiffError) (failures : ℕ)
    → ((d : Decoding) (n : ℕ) → given (record d { failures = n }) ≡ given d)
    → Follows (λ u. u) (outcome.seek_to_image old k) (Ok u) old mid
    → Answers view r (given mid) mid.failures failures
    → Answers view r (at_page given old k) old.failures failures
seek_then view given old mid k u r failures same f a =
    let t : IsTold (λ u. u) (outcome.seek_to_image old k) (Ok u) old mid =
    told (Unit {0}) (λ u. u) (outcome.seek_to_image old k) (Ok u) old mid f in
    let there : given mid ≡ at_page given old k =
    given_there given old mid k same t.file (t.next tt).1
    ∙ ap (λ (a : Result (Unit {0}) TiffError). a
    >>= λ _. given (page_decoder old k)) (t.next tt).0 in
    answers_along view r (given mid) (at_page given old k) old.failures mid.failures failures there
    (omega (arith, t.failed)) a

-- A seek, and a call that stays at the page.
pub visit : {X Y : Type 0} (view : X → Y) (given : Decoding → Result Y TiffError)
    (old mid new : Decoding) (k : ℕ) (x : Result (Unit {0}) TiffError) (y : Result X TiffError)
    → ((d : Decoding) (n : ℕ) → given (record d { failures = n }) ≡ given d)
    → Follows (λ u. u) (outcome.seek_to_image old k) x old mid → Moves view (given mid) y mid new
    → VisitsPage view given (result_and x y) k old new
visit view given old mid new k (Ok u) y same f m =
    let t : IsTold (λ u. u) (outcome.seek_to_image old k) (Ok u) old mid =
    told (Unit {0}) (λ u. u) (outcome.seek_to_image old k) (Ok u) old mid f in
    record {
      answer = seek_then view given old mid k u y new.failures same f m.answer;
      file = file_along old mid new t.file m.kept;
      failures = omega (arith, t.failed, m.failures);
      stands = λ _. ap (λ (d : Decoding). d.state) m.kept ∙ (t.next tt).1;
    }
visit view given old mid new k (Err e) y same f m =
    let t : IsTold (λ u. u) (outcome.seek_to_image old k) (Err e) old mid =
    told (Unit {0}) (λ u. u) (outcome.seek_to_image old k) (Err e) old mid f in
    record {
      answer =
          fault_cause e old.failures new.failures (λ n. ap (λ (a : Result (Unit {0}) TiffError). a
          >>= λ _. given (page_decoder old k)) (sym (t.next n).0)) (omega (arith, t.failed, m.failures));
      file = file_along old mid new t.file m.kept;
      failures = omega (arith, t.failed, m.failures);
      stands = λ n. ap (λ (d : Decoding). d.state) m.kept ∙ (t.next n).1;
    }

-- The image of a page, by two calls.
pub image_visit : (old new : Decoding) (k : ℕ) (a b : Reply) (x : Result (Unit {0}) TiffError)
    (y : Result DecodingResult TiffError)
    → Steps old (call.SeekToImage k ∷ call.ReadImage ∷ []) (a ∷ b ∷ []) new
    → a ≡ reply.SeekToImage x → b ≡ reply.ReadImage y
    → VisitsPage decoded_as page_image (result_and x y) k old new
unfolding outcome.read_image
image_visit old new k a b x y s p q =
    let P : Reply → Type 0 = λ r. Step old (call.SeekToImage k) r s.0 in
    let Q : Reply → Type 0 = λ r. Step s.0 call.ReadImage r s.2.0 in
    let R : Decoding → Type 0 = λ d. Step s.0 call.ReadImage (reply.ReadImage y) d in
    let wanting : Type 0 = IsOkOrList (image_early s.0.bytes s.0.state.page s.0.state.limits) in
    let read : FollowsBut wanting decoded_as (outcome.read_image s.0) y s.0 new =
    subst R (sym s.2.2) (subst Q q s.2.1) in
    visit decoded_as page_image old s.0 new k x y (λ d n. refl) (subst P p s.1)
    (stays_there wanting decoded_as (outcome.read_image s.0) y s.0 new refl read)

-- The pointer of a page, by two calls.
pub pointer_visit : (old new : Decoding) (k : ℕ) (a b : Reply) (x : Result (Unit {0}) TiffError)
    (p : Option IfdPointer)
    → Steps old (call.SeekToImage k ∷ call.IfdPointer ∷ []) (a ∷ b ∷ []) new
    → a ≡ reply.SeekToImage x → b ≡ reply.IfdPointer p
    → VisitsPage (λ p. p) page_pointer (result_and x (Ok p)) k old new
pointer_visit old new k a b x p s e f =
    let P : Reply → Type 0 = λ r. Step old (call.SeekToImage k) r s.0 in
    let Q : Reply → Type 0 = λ r. Step s.0 call.IfdPointer r s.2.0 in
    let asked = subst Q f s.2.1 in
    let same : new ≡ s.0 = s.2.2 ∙ asked.1 in
    visit (λ p. p) page_pointer old s.0 new k x (Ok p) (λ d n. refl) (subst P e s.1)
    (record {
      answer = ap (λ (o : Option IfdPointer). Ok o) (sym asked.0);
      kept =
          same ∙ ap (λ n. record s.0 { failures = n }) (sym (ap (λ (d : Decoding). d.failures) same));
      failures =
          (let l : new.failures ≡ s.0.failures = ap (λ (d : Decoding). d.failures) same in omega (arith, l));
    })

-- ---- a visit, and what follows it

-- A seek that is not refused.
answered : {Y : Type 0} (given : Decoding → Result Y TiffError) (old : Decoding) (k : ℕ) (y : Y)
    (a : Result (Unit {0}) TiffError)
    → (a >>= λ _. given (page_decoder old k)) ≡ Ok y → given (page_decoder old k) ≡ Ok y
answered given old k y (Ok u) e = e
answered given old k y (Err f) e = cc

-- Behind a seek that is not refused, the whole is what the decoder returns at the page.
answered_on : {Y Z : Type 0} (given : Decoding → Result Y TiffError)
    (whole : Decoding → Result Z TiffError) (old : Decoding) (k : ℕ) (y : Y) (a : Result (Unit {0}) TiffError)
    → (a >>= λ _. given (page_decoder old k)) ≡ Ok y
    → whole (page_decoder old k) ≡ (a >>= λ _. whole (page_decoder old k))
answered_on given whole old k y (Ok u) e = refl
answered_on given whole old k y (Err f) e = cc

-- A visit, and a call that stays at the page.
pub visit_more : {W X Y Z : Type 0} (first : W → Y) (view : X → Z)
    (given : Decoding → Result Y TiffError) (whole : Decoding → Result Z TiffError)
    (old mid new : Decoding) (k : ℕ) (w : W) (r : Result X TiffError)
    → ((d : Decoding) (n : ℕ) → whole (record d { failures = n }) ≡ whole d)
    → VisitsPage first given (Ok w) k old mid
    → (given mid ≡ Ok (first w) → Moves view (whole mid) r mid new)
    → ((d : Decoding) (n : ℕ) → given (record d { failures = n }) ≡ given d)
    → VisitsPage view whole r k old new
visit_more first view given whole old mid new k w r same v more steady =
    let at : mid.state ≡ (outcome.seek_to_image old k).next = v.stands tt in
    let there : given mid ≡ Ok (first w) =
    given_there given old mid k steady v.file at
    ∙ answered given old k (first w) (outcome.seek_to_image old k).answer v.answer in
    let m : Moves view (whole mid) r mid new = more there in
    let on : whole mid ≡ at_page whole old k =
    given_there whole old mid k same v.file at
    ∙ answered_on given whole old k (first w) (outcome.seek_to_image old k).answer v.answer in
    record {
      answer =
          answers_along view r (whole mid) (at_page whole old k) old.failures mid.failures new.failures on v.failures m.answer;
      file = file_along old mid new v.file m.kept;
      failures = omega (arith, v.failures, m.failures);
      stands = λ _. ap (λ (d : Decoding). d.state) m.kept ∙ at;
    }

-- A directory that is read.
pub directory_moves : (old new : Decoding) (p : IfdPointer) (a : Reply) (r : Result DirectoryRecord TiffError)
    → Steps old (call.ReadDirectory p ∷ []) (a ∷ []) new → a ≡ reply.ReadDirectory r
    → Moves (λ d. d) (outcome.read_directory old p).answer r old new
unfolding outcome.read_directory
directory_moves old new p a r s e =
    let P : Reply → Type 0 = λ r. Step old (call.ReadDirectory p) r s.0 in
    let Q : Decoding → Type 0 = λ d. Step old (call.ReadDirectory p) (reply.ReadDirectory r) d in
    stays_there (Unit {0}) (λ d. d) (outcome.read_directory old p) r old new refl
    (subst Q (sym s.2) (subst P e s.1))

-- The lines of a page, from its pointer on.
pub listing_visit : {X : Type 0} (view : X → List ℕ) (old mid new : Decoding) (k : ℕ)
    (p : Option IfdPointer) (r : Result X TiffError)
    → ((d : Decoding) (n : ℕ) → listing (record d { failures = n }) ≡ listing d)
    → VisitsPage (λ p. p) page_pointer (Ok p) k old mid → Moves view (listing_at mid p) r mid new
    → VisitsPage view listing r k old new
listing_visit view old mid new k p r same v m =
    visit_more (λ p. p) view page_pointer listing old mid new k p r same v
    (λ e. (let P : Option IfdPointer → Type 0 = λ o. Moves view (listing_at mid o) r mid new in
    let q : mid.state.pointer ≡ p = cc e in subst P (sym q) m))
    (λ d n. refl)

-- A seek that is refused.
pub seek_refused : {X Y : Type 0} (view : X → Y) (given : Decoding → Result Y TiffError)
    (old new : Decoding) (k : ℕ) (e : TiffError)
    → Follows (λ u. u) (outcome.seek_to_image old k) (Err e) old new
    → Answers {X = X} view (Err e) (at_page given old k) old.failures new.failures
seek_refused view given old new k e f =
    let t : IsTold (λ u. u) (outcome.seek_to_image old k) (Err e) old new =
    told (Unit {0}) (λ u. u) (outcome.seek_to_image old k) (Err e) old new f in
    fault_cause e old.failures new.failures (λ n. ap (λ (a : Result (Unit {0}) TiffError). a
    >>= λ _. given (page_decoder old k)) (sym (t.next n).0)) (omega (arith, t.failed))
