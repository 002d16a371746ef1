-- Bytes and samples, made one list.
use Rattle.std.proofs.Common.{◌≡◌, ℕ, ◌+◌, ◌≤◌, ◌<◌, List, [], ◌∷◌, ◌++◌, length, take, drop, get_or, sum, refl, ap, sym, ◌∙◌, arith, append_assoc, length-drop}
use Rattle.std.proofs.lemmas.List.{take-append-le, drop-append-le, take_at, drop_at}
use Rattle.std.proofs.lemmas.List.Sums.{sum_by-cons}
use Rattle.tiff_ffi.specs.Spliced.{spliced}

sum_cons : (n : ℕ) (fronts : List ℕ) → sum (n ∷ fronts) ≡ n + sum fronts
sum_cons n fronts = sum_by-cons (λ x. x) n fronts

-- more bytes at the end
pub spliced_append : (a b fronts : List ℕ) (samples : List (List ℕ)) → sum fronts ≤ length a
    → spliced (a ++ b) fronts samples ≡ spliced a fronts samples ++ b
spliced_append a b [] samples le = refl
spliced_append a b (n ∷ fronts) [] le = refl
spliced_append a b (n ∷ fronts) (s ∷ samples) le =
    let here : n ≤ length a = omega (arith, le, sum_cons n fronts) in
    let rest : sum fronts ≤ length (drop n a) =
    omega (arith, le, sum_cons n fronts, length-drop n a) in
    (λ i. take-append-le n a b here i
    ++ (s ++ spliced (drop-append-le n a b here i) fronts samples))
    ∙ ap (λ l. take n a ++ (s ++ l)) (spliced_append (drop n a) b fronts samples rest)
    ∙ ap (λ l. take n a ++ l) (sym (append_assoc s (spliced (drop n a) fronts samples) b))
    ∙ sym (append_assoc (take n a) (s ++ spliced (drop n a) fronts samples) b)

-- One more front, and the samples behind it.
pub spliced_front : (a f b fronts : List ℕ) (n : ℕ) (samples : List (List ℕ))
    → sum fronts ≡ length a → length f ≡ n → length fronts < length samples
    → spliced (a ++ (f ++ b)) (fronts ++ n ∷ []) samples
    ≡ spliced a fronts samples ++ (f ++ (get_or samples (length fronts) [] ++ b))
spliced_front a f b [] n [] is len lt = absurd (omega (arith, lt))
spliced_front [] f b [] n (s ∷ samples) is len lt =
    (λ i. take_at f b n len i ++ (s ++ drop_at f b n len i))
spliced_front (x ∷ a) f b [] n (s ∷ samples) is len lt = absurd (omega (arith, is))
spliced_front a f b (m ∷ fronts) n [] is len lt = absurd (omega (arith, lt))
spliced_front a f b (m ∷ fronts) n (s ∷ samples) is len lt =
    let here : m ≤ length a = omega (arith, is, sum_cons m fronts) in
    let rest : sum fronts ≡ length (drop m a) =
    omega (arith, is, sum_cons m fronts, length-drop m a) in
    let more : length fronts < length samples = omega (arith, lt) in
    let behind : List ℕ = f ++ (get_or samples (length fronts) [] ++ b) in
    (λ i. take-append-le m a (f ++ b) here i
    ++ (s ++ spliced (drop-append-le m a (f ++ b) here i) (fronts ++ n ∷ []) samples))
    ∙ ap (λ l. take m a ++ (s ++ l)) (spliced_front (drop m a) f b fronts n samples rest len more)
    ∙ ap (λ l. take m a ++ l) (sym (append_assoc s (spliced (drop m a) fronts samples) behind))
    ∙ sym (append_assoc (take m a) (s ++ spliced (drop m a) fronts samples) behind)
