-- Calls with slices of zeros, and one more call of a list.
use Rattle.std.proofs.Common.{◌≡◌, ℕ, ◌+◌, ◌<◌, ◌≤◌, List, [], get_or, ◌∷◌, ◌++◌, length, take, replicate, Option, Result, Ok, Err, Vec, refl, ap, sym, ◌∙◌, subst, arith}
use Rattle.std.specs.declared.alloc.Global.{Global}
use Rattle.std.proofs.lemmas.List.{append-nil, append_assoc, take_more, take_all}
use Rattle.tiff_base.specs.declared.error.TiffError.{TiffError}
use Rattle.tiff_base.specs.declared.error.TiffError.TheVariants.{OutOfMemory}
use Rattle.tiff_base.specs.declared.tags.Tag.{Tag}
use Rattle.tiff_base.specs.Answers.{Answers, AnswersWithoutMemory, NoneSwallowed}
use Rattle.tiff_base.specs.Sparing.{IsOkOrList}
use Rattle.tiff_base.specs.lemmas.Causes.{cause_along, memory_is}
use Rattle.tiff_page.specs.EarlyFaults.{AllocatesAfter}
use Rattle.tiff_decode.specs.declared.script.Call.{Call}
use Rattle.tiff_decode.specs.declared.script.Reply.{Reply}
use Rattle.tiff_decode.specs.Failures.{all_failures}
use Rattle.tiff_decode.specs.Machine.{Decoding, Outcome, StandsAt, Follows, FollowsBut}
use Rattle.tiff_decode.specs.Outcome as outcome
use Rattle.tiff_decode.specs.Reader.{TagsRead}
use Rattle.tiff_decode.specs.ReplyView.{items_of}
use Rattle.tiff_decode.specs.Step.{Step}
use Rattle.tiff_decode.specs.Steps.{Steps, Ran}
use Rattle.tiff_decode.specs.lemmas.NextState.{along}

-- a decoder that is left as it was
pub stands_here : (d : Decoding) → StandsAt d.state d d
stands_here d = record { stands = refl; failures = omega arith }

-- a call that may run out of memory only after certain errors
pub wanted_after : {X Y : Type 0} (early : Result (Unit {0}) TiffError) (view : X → Y)
    (o : Outcome Y) (r : Result X TiffError) (old new : Decoding)
    → Follows view o r old new → AllocatesAfter early r
    → FollowsBut (IsOkOrList early) view o r old new
wanted_after early view o (Ok x) old new h w = h
wanted_after early view o (Err e) old new h w =
    record {
      memory = λ is. (w (memory_is e is), (h.memory is).1);
      device = h.device;
      other = h.other;
    }

-- ---- slices of zeros

-- a read into a slice of zeros
zeros_read : (read : List ℕ → Outcome (List ℕ)) (old new : Decoding) (len : ℕ) (xs : List ℕ)
    (r : Result (Unit {0}) TiffError) (b : Vec ℕ Global)
    → xs ≡ replicate len 0 → Follows (λ _. items_of b) (read xs) r old new
    → Follows (λ _. items_of b) (read (replicate len 0)) r old new
zeros_read read old new len xs r b zeros h =
    subst (λ (xs : List ℕ). Follows (λ _. items_of b) (read xs) r old new) zeros h

pub image_bytes : (old new : Decoding) (len : ℕ) (xs : List ℕ) (r : Result (Unit {0}) TiffError)
    (b : Vec ℕ Global)
    → xs ≡ replicate len 0 → Follows (λ _. items_of b) (outcome.read_image_bytes old xs) r old new
    → Follows (λ _. items_of b) (outcome.read_image_bytes old (replicate len 0)) r old new
image_bytes old new len xs r b zeros h =
    zeros_read (outcome.read_image_bytes old) old new len xs r b zeros h

pub chunk_bytes : (old new : Decoding) (chunk len : ℕ) (xs : List ℕ)
    (r : Result (Unit {0}) TiffError) (b : Vec ℕ Global)
    → xs ≡ replicate len 0 → Follows (λ _. items_of b) (outcome.read_chunk_bytes old chunk xs) r old new
    → Follows (λ _. items_of b) (outcome.read_chunk_bytes old chunk (replicate len 0)) r old new
chunk_bytes old new chunk len xs r b zeros h =
    zeros_read (outcome.read_chunk_bytes old chunk) old new len xs r b zeros h

pub unit_bytes : (old new : Decoding) (unit len : ℕ) (xs : List ℕ) (r : Result (Unit {0}) TiffError)
    (b : Vec ℕ Global)
    → xs ≡ replicate len 0 → Follows (λ _. items_of b) (outcome.read_coding_unit_bytes old unit xs) r old new
    → Follows (λ _. items_of b) (outcome.read_coding_unit_bytes old unit (replicate len 0)) r old new
unit_bytes old new unit len xs r b zeros h =
    zeros_read (outcome.read_coding_unit_bytes old unit) old new len xs r b zeros h

-- a call that cannot run out of memory follows the outcome of a call that can
may_want : {X Y : Type 0} (view : X → Y) (r : Result X TiffError) (given : Result Y TiffError)
    (before after : ℕ)
    → AnswersWithoutMemory view r given before after → Answers view r given before after
may_want view (Ok x) given before after h = h
may_want view (Err e) given before after h = cause_along e (λ w. absurd w) (λ f. f) (λ g. g) h

pub tag_bytes : (old new : Decoding) (tag : Tag) (len at : ℕ) (xs : List ℕ)
    (r : Result (Option ℕ) TiffError) (b : Vec ℕ Global)
    → xs ≡ replicate len 0
    → AnswersWithoutMemory (λ n. (n, items_of b)) r (outcome.find_tag_bytes old tag xs at).answer old.failures new.failures
    → new ≡ record old { failures = new.failures } → old.failures ≤ new.failures
    → NoneSwallowed r old.failures new.failures
    → TagsRead (Unit {0}) (λ n. (n, items_of b)) (outcome.find_tag_bytes old tag (replicate len 0) at) r old new
tag_bytes old new tag len at xs r b zeros h state l swallowed =
    let P : List ℕ → Type 0 =
    λ xs. Answers (λ n. (n, items_of b)) r (outcome.find_tag_bytes old tag xs at).answer old.failures new.failures in
    record { answer = subst P zeros (may_want _ r _ old.failures new.failures h); state = state; failures = l; swallowed = swallowed }

pub nothing_read : {Y : Type 0} (view : Option ℕ → Y) (given : Outcome Y) (d : Decoding)
    → TagsRead (Unit {0}) view given (Err OutOfMemory) d d
nothing_read view given d =
    record {
      answer = record { memory = λ _. tt; device = λ is. absurd (cc); other = λ is. absurd (cc) };
      state = refl;
      failures = omega arith;
      swallowed = λ _. refl;
    }

-- ---- lists of calls

steps_more : (old between new : Decoding) (calls : List Call) (replies : List Reply) (call : Call)
    (reply : Reply)
    → Steps old calls replies between → Step between call reply new
    → Steps old (calls ++ call ∷ []) (replies ++ reply ∷ []) new
steps_more old between new [] [] call reply s t =
    (new, (let P : Decoding → Type 0 = λ d. Step d call reply new in subst P s t), refl)
steps_more old between new [] (r ∷ replies) call reply s t = absurd s
steps_more old between new (c ∷ calls) [] call reply s t = absurd s
steps_more old between new (c ∷ calls) (r ∷ replies) call reply s t =
    (s.0, s.1, steps_more s.0 between new calls replies call reply s.2 t)

steps_fail : (old new : Decoding) (calls : List Call) (replies : List Reply)
    → Steps old calls replies new → old.failures + all_failures replies ≤ new.failures
steps_fail old new [] [] s =
    let same : new.failures ≡ old.failures = ap (λ (d : Decoding). d.failures) s in
    omega (arith, same)
steps_fail old new [] (r ∷ replies) s = absurd s
steps_fail old new (c ∷ calls) [] s = absurd s
steps_fail old new (c ∷ calls) (r ∷ replies) s =
    omega (arith, (along old c r s.0 s.1).failed, steps_fail s.0 new calls replies s.2)

-- no call
pub none_made : (d : Decoding) (earlier : List Reply) → Ran d [] earlier earlier d
none_made d earlier =
    record { replies = []; added = sym (append-nil earlier); steps = refl; failed = omega arith }

-- one more
one_more : (old between new : Decoding) (calls : List Call) (earlier all : List Reply) (call : Call)
    (reply : Reply)
    → Ran old calls earlier all between → Step between call reply new
    → Ran old (calls ++ call ∷ []) earlier (all ++ reply ∷ []) new
one_more old between new calls earlier all call reply m t =
    let steps : Steps old (calls ++ call ∷ []) (m.replies ++ reply ∷ []) new =
    steps_more old between new calls m.replies call reply m.steps t in
    record {
      replies = m.replies ++ reply ∷ [];
      added =
          ap (λ (xs : List Reply). xs ++ reply ∷ []) m.added
          ∙ append_assoc earlier m.replies (reply ∷ []);
      steps = steps;
      failed = steps_fail old new (calls ++ call ∷ []) (m.replies ++ reply ∷ []) steps;
    }

-- a turn of the loop
pub turn : (old between new : Decoding) (calls : List Call) (earlier all after : List Reply) (i : ℕ)
    (d : Call) (reply : Reply)
    → i < length calls → Ran old (take i calls) earlier all between
    → Step between (get_or calls i d) reply new → after ≡ all ++ reply ∷ []
    → Ran old (take (i + 1) calls) earlier after new
turn old between new calls earlier all after i d reply l m t e =
    let made : Ran old (take i calls ++ get_or calls i d ∷ []) earlier (all ++ reply ∷ []) new =
    one_more old between new (take i calls) earlier all (get_or calls i d) reply m t in
    let P : List Reply → Type 0 = λ xs. Ran old (take (i + 1) calls) earlier xs new in
    let Q : List Call → Type 0 = λ cs. Ran old cs earlier (all ++ reply ∷ []) new in
    subst P (sym e) (subst Q (sym (take_more calls i d l)) made)

-- the last turn
pub all_made : (old new : Decoding) (calls : List Call) (earlier all : List Reply) (i : ℕ)
    → length calls ≤ i → Ran old (take i calls) earlier all new → Ran old calls earlier all new
all_made old new calls earlier all i l m =
    (let Q : List Call → Type 0 = λ cs. Ran old cs earlier all new in subst Q (take_all i calls l) m)
