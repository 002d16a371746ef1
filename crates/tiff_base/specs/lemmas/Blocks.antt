-- A packed list by its blocks is what `runs` says.
use Rattle.std.proofs.Common.{zero, suc, ◌≡◌, ℕ, ◌+◌, ◌-◌, ◌<◌, ◌≤◌, ◌⊎◌, inl, inr, List, [], ◌∷◌, ◌++◌, length, take, drop, flat_map, Bool, cond, eqb, ltb, refl, ap, sym, ◌∙◌, subst, arith, length-append}
use lib.ListN.{replicate}
use Rattle.std.proofs.Math.Seq.{drop-append_seam, take-append_seam}
use Rattle.std.proofs.lemmas.Bool.{cases_order, cases_lt}
use Rattle.std.proofs.lemmas.Bool.Decides.{nat_tests}
use Rattle.std.proofs.lemmas.List.{append_assoc, append-nil, take-append-drop, length-take-le, take_all}
use Rattle.tiff_base.specs.Runs.{End, Plain, Broken, Unpacked, with_front, with_repeated, runs_after, runs}
use Rattle.tiff_base.specs.Blocks.{Block, Nothing, Literal, Repeated, IsBlock, packed_block, plain_block, Rest, Empty, Short, Headless, IsRest, rest_bytes, unpacked_end, AreBlocks, Unpacks, AreBytes}

-- ---- `runs`, header by header

pub runs_after_drop : (n : ℕ) (early : Bool) (P : List ℕ) → n ≤ length P
    → runs_after n early P ≡ runs early (drop n P)
unfolding runs_after
runs_after_drop zero early P h = refl
runs_after_drop (suc n) early [] h = absurd (omega (arith, h))
runs_after_drop (suc n) early (b ∷ P) h = runs_after_drop n early P (omega (arith, h))

pub runs_after_past : (n : ℕ) (early : Bool) (P : List ℕ) → length P < n
    → runs_after n early P ≡ record { out = []; end = Plain }
unfolding runs_after
runs_after_past zero early P h = absurd (omega (arith, h))
runs_after_past (suc n) early [] h = refl
runs_after_past (suc n) early (b ∷ P) h = runs_after_past n early P (omega (arith, h))

pub runs_cons : (early : Bool) (h : ℕ) (P : List ℕ)
    → runs early (h ∷ P) ≡ cond (eqb h 128) (runs early P) (cond (ltb h 128) (with_front (take (h + 1) P) (runs_after (h + 1) early P)) (with_repeated (257 - h) P (runs_after 1 early P)))
unfolding runs_after
runs_cons early h P = refl

pub runs_no_op : (early : Bool) (P : List ℕ) → runs early (128 ∷ P) ≡ runs early P
unfolding runs_after
runs_no_op early P = refl

pub runs_literal : (early : Bool) (h : ℕ) (P : List ℕ) → h < 128
    → runs early (h ∷ P) ≡ with_front (take (h + 1) P) (runs_after (h + 1) early P)
runs_literal early h P a = runs_cons early h P ∙ grind (arith, nat_tests)

pub runs_run : (early : Bool) (h v : ℕ) (P : List ℕ) → 128 < h
    → runs early (h ∷ v ∷ P) ≡ with_front (replicate (257 - h) v) (runs early P)
unfolding runs_after
runs_run early h v P a = runs_cons early h (v ∷ P) ∙ grind (arith, nat_tests)

pub runs_broken : (early : Bool) (h : ℕ) → 128 < h
    → runs early (h ∷ []) ≡ record { out = []; end = Broken }
runs_broken early h a = runs_cons early h [] ∙ grind (arith, nat_tests)

-- ---- a list unpacks to nothing else than `runs` says

literal_step : (early : Bool) (bytes Q : List ℕ) (h : ℕ) → h < 128 → h + 1 ≡ length bytes
    → runs early (h ∷ (bytes ++ Q)) ≡ with_front bytes (runs early Q)
literal_step early bytes Q h a e =
    let l : h + 1 ≤ length (bytes ++ Q) = omega (arith, e, length-append bytes Q) in
    let t : take (h + 1) (bytes ++ Q) ≡ bytes =
    ap (λ (k : ℕ). take k (bytes ++ Q)) e ∙ take-append_seam bytes Q in
    let d : drop (h + 1) (bytes ++ Q) ≡ Q =
    ap (λ (k : ℕ). drop k (bytes ++ Q)) e ∙ drop-append_seam bytes Q in
    runs_literal early h (bytes ++ Q) a
    ∙ ap (λ (u : Unpacked). with_front (take (h + 1) (bytes ++ Q)) u) (runs_after_drop (h
    + 1) early (bytes ++ Q) l)
    ∙ (λ i. with_front (t i) (runs early (d i)))

block_step : (early : Bool) (block : Block) (Q : List ℕ) → IsBlock block
    → runs early (packed_block block ++ Q) ≡ with_front (plain_block block) (runs early Q)
block_step early Nothing Q i = runs_no_op early Q
block_step early (Literal bytes) Q i =
    literal_step early bytes Q (length bytes - 1) (omega (arith, i.0, i.1)) (omega (arith, i.0, i.1))
block_step early (Repeated n v) Q i =
    let e : 257 - (257 - n) ≡ n = omega (arith, i.0, i.1) in
    runs_run early (257 - n) v Q (omega (arith, i.0, i.1))
    ∙ ap (λ (k : ℕ). with_front (replicate k v) (runs early Q)) e

rest_step : (early : Bool) (rest : Rest) → IsRest rest
    → runs early (rest_bytes rest) ≡ unpacked_end early rest
unfolding runs_after
rest_step early Empty i = refl
rest_step early (Short h bytes) i =
    runs_literal early h bytes i.0
    ∙ ap (λ (u : Unpacked). with_front (take (h + 1) bytes) u) (runs_after_past (h
    + 1) early bytes (omega (arith, i.1)))
    ∙ ap (λ (xs : List ℕ). let r : Unpacked = record { out = xs; end = Plain } in
    r) (append-nil (take (h + 1) bytes) ∙ take_all (h + 1) bytes (omega (arith, i.1)))
rest_step early (Headless n) i = runs_broken early (257 - n) (omega (arith, i.0, i.1))

one_list : (early : Bool) (blocks : List Block) (rest : Rest) → AreBlocks blocks → IsRest rest
    → runs early (flat_map packed_block blocks ++ rest_bytes rest)
    ≡ with_front (flat_map plain_block blocks) (unpacked_end early rest)
one_list early [] rest b r = rest_step early rest r
one_list early (block ∷ blocks) rest b r =
    ap (runs early) (append_assoc (packed_block block) (flat_map packed_block blocks) (rest_bytes rest))
    ∙ block_step early block (flat_map packed_block blocks ++ rest_bytes rest) b.0
    ∙ ap (with_front (plain_block block)) (one_list early blocks rest b.1 r)
    ∙ ap (λ (xs : List ℕ). let u : Unpacked =
    record { out = xs; end = (unpacked_end early rest).end } in u)
    (sym (append_assoc (plain_block block) (flat_map plain_block blocks) (unpacked_end early rest).out))

pub one_unpacked : (bytes : List ℕ) (early : Bool) (out : List ℕ) (end : End)
    → Unpacks bytes early out end → runs early bytes ≡ record { out = out; end = end }
one_unpacked bytes early out end u =
    ap (runs early) u.list ∙ one_list early u.blocks u.rest u.are_blocks u.is_rest
    ∙ (λ i. record { out = sym u.gives i; end = sym u.ends i })

-- ---- a list unpacks to what `runs` says

onto : (early : Bool) (block : Block) (Q out : List ℕ) (end : End) → IsBlock block
    → Unpacks Q early out end → Unpacks (packed_block block ++ Q) early (plain_block block
    ++ out) end
onto early block Q out end i u = record {
  blocks = block ∷ u.blocks;
  are_blocks = (i, u.are_blocks);
  rest = u.rest;
  is_rest = u.is_rest;
  list =
      ap (λ (xs : List ℕ). packed_block block ++ xs) u.list
      ∙ sym (append_assoc (packed_block block) (flat_map packed_block u.blocks) (rest_bytes u.rest));
  gives =
      ap (λ (xs : List ℕ). plain_block block ++ xs) u.gives
      ∙ sym (append_assoc (plain_block block) (flat_map plain_block u.blocks) (unpacked_end early u.rest).out);
  ends = u.ends;
}

-- another form of the list, and of what it unpacks to
written_as : (early : Bool) (P Q : List ℕ) (u v : Unpacked) → P ≡ Q → u ≡ v
    → Unpacks P early u.out u.end → Unpacks Q early v.out v.end
written_as early P Q u v p q h =
    (let S : List ℕ → Type 0 = λ xs. Unpacks xs early v.out v.end in
    let R : Unpacked → Type 0 = λ w. Unpacks P early w.out w.end in
    subst S p (subst R q h))

rest_alone : (early : Bool) (rest : Rest) → IsRest rest
    → Unpacks (rest_bytes rest) early (unpacked_end early rest).out (unpacked_end early rest).end
rest_alone early rest i =
    record { blocks = []; are_blocks = tt; rest = rest; is_rest = i; list = refl; gives = refl; ends = refl }

whole_literal : (early : Bool) (h : ℕ) (Q : List ℕ) (u : Unpacked) → h < 128 → h + 1 ≤ length Q
    → Unpacks (drop (h + 1) Q) early u.out u.end
    → runs early (h ∷ Q) ≡ with_front (take (h + 1) Q) u
    → Unpacks (h ∷ Q) early (runs early (h ∷ Q)).out (runs early (h ∷ Q)).end
whole_literal early h Q u a l n e =
    let t : length (take (h + 1) Q) ≡ h + 1 = length-take-le (h + 1) Q l in
    let k : length (take (h + 1) Q) - 1 ≡ h = omega (arith, t) in
    let p : (length (take (h + 1) Q) - 1) ∷ (take (h + 1) Q ++ drop (h + 1) Q) ≡ h ∷ Q =
    λ i. k i ∷ take-append-drop (h + 1) Q i in
    written_as early (packed_block (Literal (take (h + 1) Q)) ++ drop (h + 1) Q) (h
    ∷ Q) (with_front (take (h + 1) Q) u) (runs early (h ∷ Q)) p (sym e)
    (onto early (Literal (take (h + 1) Q)) (drop (h
    + 1) Q) u.out u.end (omega (arith, t), omega (arith, t, a)) n)

cut_literal : (early : Bool) (h : ℕ) (Q : List ℕ) → h < 128 → length Q < h + 1
    → Unpacks (h ∷ Q) early (runs early (h ∷ Q)).out (runs early (h ∷ Q)).end
cut_literal early h Q a l =
    let i : IsRest (Short h Q) = (a, omega (arith, l)) in
    written_as early (h ∷ Q) (h ∷ Q) (unpacked_end early (Short h Q)) (runs early (h
    ∷ Q)) refl (sym (rest_step early (Short h Q) i)) (rest_alone early (Short h Q) i)

run_of : (early : Bool) (h v : ℕ) (Q : List ℕ) → 128 < h → h < 256
    → Unpacks Q early (runs early Q).out (runs early Q).end
    → Unpacks (h ∷ v ∷ Q) early (runs early (h ∷ v ∷ Q)).out (runs early (h ∷ v ∷ Q)).end
run_of early h v Q a b n =
    let k : 257 - (257 - h) ≡ h = omega (arith, a, b) in
    let p : (257 - (257 - h)) ∷ v ∷ Q ≡ h ∷ v ∷ Q = λ i. k i ∷ v ∷ Q in
    written_as early (packed_block (Repeated (257 - h) v) ++ Q) (h ∷ v
    ∷ Q) (with_front (replicate (257 - h) v) (runs early Q)) (runs early (h ∷ v ∷ Q)) p
    (sym (runs_run early h v Q a)) (onto early (Repeated (257 - h) v) Q (runs early Q).out (runs early Q).end (omega (arith, a, b), omega (arith, a, b)) n)

headless : (early : Bool) (h : ℕ) → 128 < h → h < 256
    → Unpacks (h ∷ []) early (runs early (h ∷ [])).out (runs early (h ∷ [])).end
headless early h a b =
    let k : 257 - (257 - h) ≡ h = omega (arith, a, b) in
    let p : (257 - (257 - h)) ∷ [] ≡ h ∷ [] = λ i. k i ∷ [] in
    written_as early (rest_bytes (Headless (257 - h))) (h
    ∷ []) (unpacked_end early (Headless (257 - h))) (runs early (h ∷ [])) p
    (sym (runs_broken early h a)) (rest_alone early (Headless (257 - h)) (omega (arith, a, b), omega (arith, a, b)))

no_op : (early : Bool) (h : ℕ) (Q : List ℕ) → h ≡ 128
    → Unpacks Q early (runs early Q).out (runs early Q).end
    → Unpacks (h ∷ Q) early (runs early (h ∷ Q)).out (runs early (h ∷ Q)).end
no_op early h Q e n =
    let p : 128 ∷ Q ≡ h ∷ Q = λ i. sym e i ∷ Q in
    written_as early (128 ∷ Q) (h ∷ Q) (runs early Q) (runs early (h
    ∷ Q)) p (sym (runs_no_op early Q) ∙ ap (runs early) p)
    (onto early Nothing Q (runs early Q).out (runs early Q).end tt n)

after_one : (n : ℕ) (early : Bool) (x : ℕ) (P : List ℕ)
    → Unpacks (drop n P) early (runs_after n early P).out (runs_after n early P).end
    → Unpacks (drop (suc n) (x ∷ P)) early (runs_after (suc n) early (x
    ∷ P)).out (runs_after (suc n) early (x ∷ P)).end
unfolding runs_after
after_one n early x P u = u

behind_one : (early : Bool) (v : ℕ) (Q : List ℕ)
    → Unpacks (drop 1 (v ∷ Q)) early (runs_after 1 early (v ∷ Q)).out (runs_after 1 early (v
    ∷ Q)).end
    → Unpacks Q early (runs early Q).out (runs early Q).end
unfolding runs_after
behind_one early v Q u = u

header_by : (h : ℕ) → (h ≡ 128) ⊎ ((h < 128) ⊎ (128 < h)) → (h < 128) ⊎ ((h ≡ 128) ⊎ (128 < h))
header_by h (inl e) = inr (inl e)
header_by h (inr (inl a)) = inl a
header_by h (inr (inr b)) = inr (inr b)

fits_by : (n m : ℕ) → (m < n) ⊎ (n ≤ m) → (n ≤ m) ⊎ (m < n)
fits_by n m (inl a) = inr a
fits_by n m (inr b) = inl b

header_is : (h : ℕ) → (h < 128) ⊎ ((h ≡ 128) ⊎ (128 < h))
header_is h = header_by h (cases_order h 128)

fits : (n m : ℕ) → (n ≤ m) ⊎ (m < n)
fits n m = fits_by n m (cases_lt m n)

-- each part of a list after some first bytes unpacks to what `runs_after` says
abbrev IsEach : Bool → List ℕ → Type 0
IsEach early Q =
    (n : ℕ) → n ≤ length Q → Unpacks (drop n Q) early (runs_after n early Q).out (runs_after n early Q).end

literal : (early : Bool) (h : ℕ) (Q : List ℕ) → h < 128 → IsEach early Q
    → (h + 1 ≤ length Q) ⊎ (length Q < h + 1)
    → Unpacks (h ∷ Q) early (runs early (h ∷ Q)).out (runs early (h ∷ Q)).end
literal early h Q a each (inl l) =
    whole_literal early h Q (runs_after (h + 1) early Q) a l (each (h
    + 1) l) (runs_literal early h Q a)
literal early h Q a each (inr l) = cut_literal early h Q a l

run : (early : Bool) (h : ℕ) (Q : List ℕ) → 128 < h → h < 256 → IsEach early Q
    → Unpacks (h ∷ Q) early (runs early (h ∷ Q)).out (runs early (h ∷ Q)).end
run early h [] a b each = headless early h a b
run early h (v ∷ Q) a b each = run_of early h v Q a b (behind_one early v Q (each 1 (omega arith)))

block : (early : Bool) (h : ℕ) (Q : List ℕ) → h < 256 → IsEach early Q
    → (h < 128) ⊎ ((h ≡ 128) ⊎ (128 < h))
    → Unpacks (h ∷ Q) early (runs early (h ∷ Q)).out (runs early (h ∷ Q)).end
block early h Q l each (inl a) = literal early h Q a each (fits (h + 1) (length Q))
block early h Q l each (inr (inl e)) = no_op early h Q e (each 0 (omega arith))
block early h Q l each (inr (inr a)) = run early h Q a l each

nothing : (early : Bool) → IsEach early []
nothing early zero l =
    written_as early [] [] (unpacked_end early Empty) (runs early []) refl
    (sym (rest_step early Empty tt)) (rest_alone early Empty tt)
nothing early (suc n) l = absurd (omega (arith, l))

one_more : (early : Bool) (h : ℕ) (Q : List ℕ) → h < 256 → IsEach early Q → IsEach early (h ∷ Q)
one_more early h Q b each zero l = block early h Q b each (header_is h)
one_more early h Q b each (suc n) l = after_one n early h Q (each n (omega (arith, l)))

each_of : (early : Bool) (P : List ℕ) → AreBytes P → IsEach early P
each_of early [] b = nothing early
each_of early (h ∷ Q) b = one_more early h Q b.0 (each_of early Q b.1)

pub unpacked : (bytes : List ℕ) (early : Bool) → AreBytes bytes
    → Unpacks bytes early (runs early bytes).out (runs early bytes).end
unpacked bytes early b = each_of early bytes b 0 (omega arith)
