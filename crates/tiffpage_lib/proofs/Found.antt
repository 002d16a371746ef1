-- Replies to calls that find fields.
use Rattle.std.proofs.Common.{◌≡◌, ℕ, ◌+◌, ◌<◌, ◌≤◌, List, [], ◌∷◌, drop, length, get_or, refl, ap, sym, ◌∙◌, subst, arith}
use Rattle.std.proofs.lemmas.List.{length-drop, length-map}
use Rattle.tiff_base.specs.declared.tags.Tag.{Tag}
use Rattle.tiff_decode.specs.declared.script.Call.TheVariants as call
use Rattle.tiff_decode.specs.declared.script.Reply.{Reply}
use Rattle.tiff_decode.specs.declared.script.Reply.TheVariants as reply
use Rattle.tiff_decode.specs.Machine.{Decoding}
use Rattle.tiff_decode.specs.Step.{Step}
use Rattle.tiff_decode.specs.Steps.{Steps}
use Rattle.tiff.specs.Tags.{tag_of}
use Rattle.tiffpage_lib.specs.Listing.{finds}
use Rattle.tiffpage_lib.specs.Replied.{IsFound}
use Rattle.tiffpage_lib.proofs.Lines.{next_and_rest}
use Rattle.tiffpage_lib.proofs.Replied.{found_step}
use Rattle.tiffpage_lib.proofs.CallsMade.{steps_length}

-- The decoder is the same, except for its count of failed reads, which doesn't fall.
pub record Keeps (old new : Decoding) : Type 0 where
  pub kept : new ≡ record old { failures = new.failures }
  pub failures : old.failures ≤ new.failures

-- Some replies are left, from a decoder that is the same except for its count of failed reads.
pub record Between (old : Decoding) (numbers : List ℕ) (replies : List Reply) (new : Decoding) : Type 0 where
  pub mid : Decoding
  pub keeps : Keeps old mid
  pub steps : Steps mid (finds numbers) replies new

-- The next reply, and the replies that are left behind it.
pub record Next (old : Decoding) (number : ℕ) (numbers : List ℕ) (reply : Reply)
    (replies : List Reply) (new : Decoding) : Type 0 where
  pub mid : Decoding
  pub keeps : Keeps old mid
  pub next : Decoding
  pub step : Step mid (call.FindTagBuf (tag_of number)) reply next
  pub left : Between old numbers replies new
  pub grows : next.failures ≤ new.failures

keeps_none : (d e : Decoding) → e ≡ d → Keeps d e
keeps_none d e p = record {
  kept = p ∙ ap (λ n. record d { failures = n }) (sym (ap (λ (d : Decoding). d.failures) p));
  failures =
      (let l : e.failures ≡ d.failures = ap (λ (d : Decoding). d.failures) p in omega (arith, l));
}

keeps_on : (old mid new : Decoding) → Keeps old mid → Keeps mid new → Keeps old new
keeps_on old mid new a b = record {
  kept = b.kept ∙ (λ i. record (a.kept i) { failures = new.failures });
  failures = omega (arith, a.failures, b.failures);
}

found_keeps : (old new : Decoding) (tag : Tag) (r : Reply) → Step old (call.FindTagBuf tag) r new
    → Keeps old new
found_keeps old new tag (reply.FindTagBuf x b) s =
    record { kept = s.0.state; failures = s.0.failures }
found_keeps old new tag r s = absurd s

-- All replies keep the decoder.
pub all_keep : (old new : Decoding) (numbers : List ℕ) (replies : List Reply)
    → Steps old (finds numbers) replies new → Keeps old new
all_keep old new [] [] s = keeps_none old new s
all_keep old new [] (r ∷ replies) s = absurd s
all_keep old new (n ∷ numbers) [] s = absurd s
all_keep old new (n ∷ numbers) (r ∷ replies) s =
    keeps_on old s.0 new (found_keeps old s.0 (tag_of n) r s.1) (all_keep s.0 new numbers replies s.2)

-- Before the first reply is taken, all replies are left.
pub between_all : (old new : Decoding) (numbers : List ℕ) (replies rest : List Reply)
    → rest ≡ replies → Steps old (finds numbers) replies new → Between old numbers rest new
between_all old new numbers replies rest e s =
    let P : List Reply → Type 0 = λ rs. Steps old (finds numbers) rs new in
    record { mid = old; keeps = keeps_none old old refl; steps = subst P (sym e) s }

-- Some replies are left.
pub between_some : (old new : Decoding) (numbers : List ℕ) (i : ℕ) (replies : List Reply)
    → i < length numbers → Between old (drop i numbers) replies new → 0 < length replies
between_some old new numbers i replies h b =
    let l : length replies ≡ length (finds (drop i numbers)) =
    steps_length b.mid new (finds (drop i numbers)) replies b.steps in
    let m : length (finds (drop i numbers)) ≡ length (drop i numbers) =
    length-map (drop i numbers) (λ n. call.FindTagBuf (tag_of n)) in
    omega (arith, h, l, m, length-drop i numbers)

-- The next reply is taken.
pub between_next : (old new : Decoding) (numbers : List ℕ) (i x : ℕ) (replies rest : List Reply)
    (r : Reply) → i < length numbers
    → Between old (drop i numbers) replies new → replies ≡ r ∷ rest
    → Next old (get_or numbers i x) (drop (i + 1) numbers) r rest new
between_next old new numbers i x replies rest r h b e =
    let n = get_or numbers i x in
    let P : List ℕ → Type 0 = λ ns. Steps b.mid (finds ns) replies new in
    let Q : List Reply → Type 0 = λ rs. Steps b.mid (finds (n ∷ drop (i + 1) numbers)) rs new in
    let s = subst Q e (subst P (next_and_rest numbers i x h) b.steps) in
    record {
      mid = b.mid;
      keeps = b.keeps;
      next = s.0;
      step = s.1;
      left =
          record { mid = s.0; keeps = keeps_on old b.mid s.0 b.keeps (found_keeps b.mid s.0 (tag_of n) r s.1); steps = s.2 };
      grows = (all_keep s.0 new (drop (i + 1) numbers) rest s.2).failures;
    }

-- The next reply belongs to a call that finds a field.
pub next_found : (old new : Decoding) (number : ℕ) (numbers : List ℕ) (r : Reply)
    (rest : List Reply) → Next old number numbers r rest new → IsFound r
next_found old new number numbers r rest n = found_step n.mid n.next (tag_of number) r n.step
