-- A decoder whose reads never fail: its results are those of the file, unless memory is out.
use Rattle.std.proofs.Common.{◌≡◌, ℕ, ◌<◌, true, Result, Ok, Err, ap, arith, OnOk}
use Rattle.tiff_base.specs.declared.error.TiffError.{TiffError}
use Rattle.tiff_base.specs.lemmas.Causes.{cause_along, from_cause}
use Rattle.tiff_base.specs.Answers.{Answers, AnswersBut, AnswersWithoutMemory, AnswersWithoutSource}
use Rattle.tiff_decode.specs.Outcome.{next_image}
use Rattle.tiff_decode.specs.Machine.{Decoding, Follows, FollowsBut, Outcome, Refused, source_of}

not_more : (m n : ℕ) → m ≡ 0 → n ≡ 0 → m < n → ⊥
not_more m n a b h = omega (arith, a, b, h)

refused : {X Y : Type 0} → (wanting : Type 0) (view : X → Y) → (o : Outcome Y) → (e : TiffError)
    → (old new : Decoding) → Refused wanting e o old new
    → old.failures ≡ 0 → new.failures ≡ 0 → AnswersWithoutSource view (Err e) o.answer
refused wanting view o e old new r a b =
    cause_along e (λ w. tt) (λ f. not_more old.failures new.failures a b f.grew) (λ g. g.answer) r

pub here : {X Y : Type 0} → (view : X → Y) → (o : Outcome Y) → (result : Result X TiffError)
    → (old new : Decoding) → Follows view o result old new
    → old.failures ≡ 0 → new.failures ≡ 0 → AnswersWithoutSource view result o.answer
here view o (Ok x) old new f a b = f.answer
here view o (Err e) old new f a b = refused (Unit {0}) view o e old new f a b

pub gone : {X Y : Type 0} → (view : X → Y) → (o : Outcome Y) → (result : Result X TiffError)
    → (old new : Decoding) → Follows view o result old new
    → old.failures ≡ 0 → new.failures ≡ 0 → OnOk result (new ≡ record old { state = o.next })
gone view o (Ok x) old new f a b = f.at
gone view o (Err e) old new f a b = tt

-- The source of a decoder is the same after a call.
source_refused : {Y : Type 0} → (wanting : Type 0) (o : Outcome Y) → (e : TiffError)
    → (old new : Decoding) → Refused wanting e o old new → source_of new ≡ source_of old
source_refused wanting o e old new r =
    from_cause e (λ w. ap source_of w.1) (λ f. ap source_of f.at.stands) (λ g. ap source_of g.at) r

pub source_stays : {X Y : Type 0} → (view : X → Y) → (o : Outcome Y) → (result : Result X TiffError)
    → (old new : Decoding) → Follows view o result old new → source_of new ≡ source_of old
source_stays view o (Ok x) old new f = ap source_of f.at
source_stays view o (Err e) old new f = source_refused (Unit {0}) o e old new f

-- The result of a call that allocates only where there is a next page.
pub next_here : (result : Result (Unit {0}) TiffError) → (old new : Decoding)
    → FollowsBut (old.state.more ≡ true) (λ x. x) (next_image old) result old new
    → old.failures ≡ 0 → new.failures ≡ 0
    → AnswersWithoutSource (λ x. x) result (next_image old).answer
next_here (Ok x) old new f a b = f.answer
next_here (Err e) old new f a b =
    refused (old.state.more ≡ true) (λ x. x) (next_image old) e old new f a b

pub next_gone : (result : Result (Unit {0}) TiffError) → (old new : Decoding)
    → FollowsBut (old.state.more ≡ true) (λ x. x) (next_image old) result old new
    → old.failures ≡ 0 → new.failures ≡ 0
    → OnOk result (new ≡ record old { state = (next_image old).next })
next_gone (Ok x) old new f a b = f.at
next_gone (Err e) old new f a b = tt

tag_refused : {X Y : Type 0} → (wanting : Type 0) (view : X → Y) → (given : Result Y TiffError)
    → (e : TiffError) → (m n : ℕ) → AnswersBut wanting (m < n) view (Err e) given
    → m ≡ 0 → n ≡ 0 → AnswersWithoutSource view (Err e) given
tag_refused wanting view given e m n r a b =
    cause_along e (λ w. tt) (not_more m n a b) (λ g. g) r

pub answer_here : {X Y : Type 0} → (view : X → Y) → (given : Result Y TiffError)
    → (result : Result X TiffError) → (m n : ℕ) → Answers view result given m n
    → m ≡ 0 → n ≡ 0 → AnswersWithoutSource view result given
answer_here view given (Ok x) m n r a b = r
answer_here view given (Err e) m n r a b = tag_refused (Unit {0}) view given e m n r a b

-- The result of a call that doesn't allocate.
exact : {X Y : Type 0} → (view : X → Y) → (given : Result Y TiffError) → (e : TiffError) → (m n : ℕ)
    → AnswersWithoutMemory view (Err e) given m n
    → m ≡ 0 → n ≡ 0 → AnswersWithoutSource view (Err e) given
exact view given e m n r a b = cause_along e (λ w. tt) (not_more m n a b) (λ g. g) r

pub exactly_here : {X Y : Type 0} → (view : X → Y) → (given : Result Y TiffError)
    → (result : Result X TiffError) → (m n : ℕ) → AnswersWithoutMemory view result given m n
    → m ≡ 0 → n ≡ 0 → AnswersWithoutSource view result given
exactly_here view given (Ok x) m n r a b = r
exactly_here view given (Err e) m n r a b = exact view given e m n r a b
