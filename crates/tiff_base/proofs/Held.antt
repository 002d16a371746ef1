-- A read from the bytes in a buffer is a read from the bytes of the source.
use Rattle.std.proofs.Common.{◌≡◌, ℕ, zero, suc, ◌+◌, ◌-◌, ◌≤◌, List, ◌++◌, length, take, drop, refl, subst, ap, ◌∙◌, arith, length-drop}
use Rattle.std.proofs.lemmas.List.{drop-drop, drop-take, length-take, take-take}
use Rattle.tiff_base.specs.SourceAndSink.{bytes_at, HoldsByte, Reads}

same_part : (bytes : List ℕ) (from count k n : ℕ) → n ≤ length (bytes_at bytes from count) - k
    → bytes_at (bytes_at bytes from count) k n ≡ bytes_at bytes (from + k) n
same_part bytes from count k zero h = refl
same_part bytes from count k (suc n) h =
    let long = length-take count (drop from bytes) in
    let split : count ≡ k + (count - k) = omega (arith, h, long) in
    let fits : suc n ≤ count - k = omega (arith, h, long) in
    ap (λ m. take (suc n) (drop k (take m (drop from bytes)))) split
    ∙ ap (take (suc n)) (drop-take k (count - k) (drop from bytes))
    ∙ take-take (suc n) (count - k) (drop k (drop from bytes)) fits
    ∙ ap (take (suc n)) (drop-drop k from bytes)

pub held_read : (bytes held : List ℕ) (from count at : ℕ) (old : List ℕ) (n : ℕ) (new : List ℕ)
    → held ≡ bytes_at bytes from count
    → HoldsByte bytes from count at → Reads held (at - from) old n new → Reads bytes at old n new
held_read bytes held from count at old n new e h r =
    let f = h.before in
    let long = ap length e ∙ length-take count (drop from bytes) in
    let rest = length-drop from bytes in
    let offset : from + (at - from) ≡ at = omega (arith, f) in
    let in_part : n ≤ length (bytes_at bytes from count) - (at - from) =
    subst (λ l. n ≤ length l - (at - from)) e r.in_bytes in
    record {
      in_buffer = r.in_buffer;
      in_bytes = omega (arith, f, long, rest, r.in_bytes);
      some = λ b a. r.some b (let g = h.behind a in omega (arith, f, a, g, long, rest));
      next = r.next ∙ ap (λ l. l ++ drop n old)
          (ap (λ l. bytes_at l (at - from) n) e ∙ same_part bytes from count (at - from) n in_part
          ∙ ap (λ p. bytes_at bytes p n) offset);
    }
