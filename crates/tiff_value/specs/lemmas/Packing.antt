-- Blocks, one after another.
use Rattle.std.proofs.Common.{◌≡◌, ◌≢◌, ℕ, suc, ◌+◌, ◌-◌, ◌*◌, ◌<◌, ◌≤◌, true, false, ◌&&◌, eqb, List, [], ◌∷◌, ◌++◌, take, drop, get_or, length, replicate, flat_map, refl, ap, sym, ◌∙◌, subst, ⊎_elim, append_assoc, append-nil, arith, length-append, length-drop}
use Rattle.std.proofs.lemmas.Bool.{ne_eqb, eq-eqb, cases_lt}
use Rattle.std.proofs.lemmas.Bool.Decides.{nat_tests, eqb_tells}
use Rattle.std.proofs.lemmas.List.{drop_all, length-take-le, take_all, drop-drop}
use Rattle.std.proofs.lemmas.List.Concat.{flat_map-append}
use Rattle.std.proofs.lemmas.List.Folds.{list_all-append}
use Rattle.std.proofs.Math.Seq.{take-add}
use Rattle.tiff_base.specs.Runs.{Plain, runs}
use Rattle.tiff_base.specs.Blocks.{Block, Literal, Repeated, Empty, AreBlocks, packed_block, plain_block}
use Rattle.tiff_base.specs.lemmas.Blocks.{one_unpacked}
use Rattle.tiff_value.specs.Packed.{begins_with_two, holds_three, is_sparing, may_be_written, Packs, IsPacked}
use Rattle.tiff_value.specs.Packing.{IsRun, IsVaried, IsVariedFront, BeginsWithThree, bound_slack, PacksAtEnd, AppendsPacked}

-- ---- a literal that is varied is sparing

begins_varied : (xs : List ℕ) → (1 < length xs → get_or xs 0 0 ≢ get_or xs 1 0)
    → begins_with_two xs ≡ false
begins_varied [] h = refl
begins_varied (a ∷ []) h = refl
begins_varied (a ∷ b ∷ xs) h = ne_eqb a b (h (omega arith))

abbrev NoThree : List ℕ → Type 0
NoThree xs =
    (k : ℕ) → k + 2 < length xs → get_or xs k 0 ≡ get_or xs (k + 1) 0
    → get_or xs (k + 1) 0 ≢ get_or xs (k + 2) 0

not_three : (a b c : ℕ) → (a ≡ b → b ≢ c) → (eqb a b && eqb b c) ≡ false
not_three a b c h =
    ⊎_elim (λ p. rw (p.0, ne_eqb b c (h p.1)) refl) (λ p. rw p.0 refl) (eqb_tells a b)

later : (a : ℕ) (xs : List ℕ) → NoThree (a ∷ xs) → NoThree xs
later a xs h k l =
    let Q : ℕ → ℕ → Type 0 =
    λ m n. get_or (a ∷ xs) (suc k) 0 ≡ get_or (a ∷ xs) m 0
    → get_or (a ∷ xs) m 0 ≢ get_or (a ∷ xs) n 0 in
    let one : suc k + 1 ≡ suc (k + 1) = omega arith in
    let two : suc k + 2 ≡ suc (k + 2) = omega arith in
    subst (λ (n : ℕ). Q (suc (k + 1)) n) two (subst (λ (m : ℕ). Q m (suc k
    + 2)) one (h (suc k) (omega (arith, l))))

none_held : (xs : List ℕ) → NoThree xs → holds_three xs ≡ false
none_held [] h = refl
none_held (a ∷ []) h = refl
none_held (a ∷ b ∷ []) h = grind (arith, nat_tests)
none_held (a ∷ b ∷ c ∷ xs) h =
    rw (not_three a b c (h 0 (omega arith))) (none_held (b ∷ c ∷ xs) (later a (b ∷ c ∷ xs) h))

sparing_of : (xs : List ℕ) → IsVaried xs → is_sparing xs ≡ true
sparing_of xs v = rw (begins_varied xs v.first, none_held xs v.no_three) refl

-- ---- blocks

pub no_two : (bytes : List ℕ) (n : ℕ) → IsRun bytes n → n ≤ 1 → 1 < length bytes
    → get_or bytes 0 0 ≢ get_or bytes 1 0
no_two bytes n r a b e =
    let d : n ≡ 1 =
    omega (arith, r.some) in subst (λ (m : ℕ). get_or bytes m 0 ≢ get_or bytes 0 0) d
    (r.longest (omega arith) (omega arith)) (sym e)

pub packs_nil : Packs [] []
packs_nil = record { blocks = []; are_blocks = tt; written = refl; is_list = refl; stands = refl }

are_appended : (p q : List Block) → AreBlocks p → AreBlocks q → AreBlocks (p ++ q)
are_appended [] q a b = b
are_appended (block ∷ p) q a b = (a.0, are_appended p q a.1 b)

pub packs_append : (w v xs ys : List ℕ) → Packs w xs → Packs v ys → Packs (w ++ v) (xs ++ ys)
packs_append w v xs ys p q = record {
  blocks = p.blocks ++ q.blocks;
  are_blocks = are_appended p.blocks q.blocks p.are_blocks q.are_blocks;
  written = list_all-append may_be_written p.blocks q.blocks ∙ rw (p.written, q.written) refl;
  is_list =
      (λ i. p.is_list i ++ q.is_list i) ∙ sym (flat_map-append packed_block p.blocks q.blocks);
  stands = (λ i. p.stands i ++ q.stands i) ∙ sym (flat_map-append plain_block p.blocks q.blocks);
}

packs_literal : (xs : List ℕ) (h : ℕ) → length xs ≡ h + 1 → h < 128 → IsVaried xs
    → Packs (h ∷ xs) xs
packs_literal xs h e a v =
    let l : h ≡ length xs - 1 = omega (arith, e) in
    record {
      blocks = Literal xs ∷ [];
      are_blocks = ((omega (arith, e), omega (arith, e, a)), tt);
      written = rw (sparing_of xs v) refl;
      is_list = λ i. l i ∷ sym (append-nil xs) i;
      stands = sym (append-nil xs);
    }

packs_run : (n v : ℕ) → 1 < n → n ≤ 128 → Packs ((257 - n) ∷ v ∷ []) (replicate n v)
packs_run n v a b = record {
  blocks = Repeated n v ∷ [];
  are_blocks = ((a, b), tt);
  written = refl;
  is_list = refl;
  stands = sym (append-nil (replicate n v));
}

-- blocks unpack to the bytes that they encode
pub packs_unpack : (bytes list : List ℕ) → Packs list bytes
    → runs false list ≡ record { out = bytes; end = Plain }
packs_unpack bytes list p = one_unpacked list false bytes Plain (record {
  blocks = p.blocks;
  are_blocks = p.are_blocks;
  rest = Empty;
  is_rest = tt;
  list = p.is_list ∙ sym (append-nil (flat_map packed_block p.blocks));
  gives = p.stands ∙ sym (append-nil (flat_map plain_block p.blocks));
  ends = refl;
})

-- packed bytes unpack to the original bytes
pub unpacks : (bytes list : List ℕ) → IsPacked bytes list
    → runs false list ≡ record { out = bytes; end = Plain }
unpacks bytes list p = packs_unpack bytes list p.packs

-- ---- the slack of blocks

owed_le : (bytes : List ℕ) → bound_slack bytes ≤ 128
owed_le [] = omega arith
owed_le (a ∷ []) = omega arith
owed_le (a ∷ b ∷ []) = omega arith
owed_le (a ∷ b ∷ c ∷ rest) = grind (arith, nat_tests)

owed_three : (bytes : List ℕ) → BeginsWithThree bytes → bound_slack bytes ≡ 128
owed_three [] t = absurd (omega (arith, t.long))
owed_three (a ∷ []) t = absurd (omega (arith, t.long))
owed_three (a ∷ b ∷ []) t = absurd (omega (arith, t.long))
owed_three (a ∷ b ∷ c ∷ rest) t = rw (eq-eqb a b t.first, eq-eqb b c t.second) refl

owed_none : (bytes : List ℕ) → 0 < length bytes
    → (1 < length bytes → get_or bytes 0 0 ≢ get_or bytes 1 0) → bound_slack bytes ≡ 0
owed_none [] l d = absurd (omega (arith, l))
owed_none (a ∷ []) l d = refl
owed_none (a ∷ b ∷ []) l d = refl
owed_none (a ∷ b ∷ c ∷ rest) l d = rw (ne_eqb a b (d (omega arith))) refl

owed_run : (bytes : List ℕ) (n : ℕ) → IsRun bytes n → 1 < n → 256 + bound_slack bytes ≤ 129 * n
owed_run [] n r a = absurd (omega (arith, r.within))
owed_run (x ∷ []) n r a = absurd (omega (arith, r.within))
owed_run (x ∷ y ∷ []) n r a = omega arith
owed_run (x ∷ y ∷ z ∷ rest) n r a =
    ⊎_elim
    (λ p. ⊎_elim
    (λ q.
    let h : n < 3 → z ≢ x =
    λ l. let e : n ≡ 2 =
    omega arith in subst (λ (m : ℕ). get_or (x ∷ y ∷ z
    ∷ rest) m 0 ≢ x) e (r.longest (omega arith) (omega arith)) in
    ⊎_elim (λ l. absurd (h l (sym (p.1 ∙ q.1)))) (λ l. omega (arith, owed_le (x ∷ y ∷ z ∷ rest))) (cases_lt n 3))
    (λ q. rw (p.0, q.0) (omega arith))
    (eqb_tells y z))
    (λ p. rw p.0 (omega arith))
    (eqb_tells x y)

literal_owes : (bytes : List ℕ) (n : ℕ) → IsVariedFront bytes n
    → 128 * (n + 1) ≤ 129 * n + bound_slack (drop n bytes)
literal_owes bytes n v =
    ⊎_elim (λ e. omega arith)
    (λ w. ⊎_elim (λ e. rw (drop_all n bytes (omega arith)) (omega (arith, v.some)))
    (λ t. omega (arith, owed_three (drop n bytes) t)) w)
    v.why

-- ---- one block, and all of them

pub block_run : (old bytes new : List ℕ) (n : ℕ) → IsRun bytes n → 1 < n
    → new ≡ old ++ (257 - n) ∷ [] ++ get_or bytes 0 0 ∷ [] → PacksAtEnd old bytes n new
block_run old bytes new n r a e = record {
  some = r.some;
  within = r.within;
  packed = (257 - n) ∷ get_or bytes 0 0 ∷ [];
  packs = rw r.same (packs_run n (get_or bytes 0 0) a r.most);
  short = omega (arith, owed_run bytes n r a);
  at_end = e ∙ append_assoc old ((257 - n) ∷ []) (get_or bytes 0 0 ∷ []);
}

pub block_literal : (old bytes new : List ℕ) (n : ℕ) → IsVariedFront bytes n
    → (1 < length bytes → get_or bytes 0 0 ≢ get_or bytes 1 0)
    → new ≡ old ++ (n - 1) ∷ [] ++ take n bytes → PacksAtEnd old bytes n new
block_literal old bytes new n v d e =
    let l : length (take n bytes) ≡ n = length-take-le n bytes v.within in
    record {
      some = v.some;
      within = v.within;
      packed = (n - 1) ∷ take n bytes;
      packs =
          packs_literal (take n bytes) (n - 1) (omega (arith, v.some)) (omega (arith, v.most, v.some)) v.varied;
      short =
          omega (arith, l, literal_owes bytes n v, owed_none bytes (omega (arith, v.some, v.within)) d);
      at_end = e ∙ append_assoc old ((n - 1) ∷ []) (take n bytes);
    }

-- the packed list is blocks for the first n bytes, short enough in all
pub record HasPacked (bytes : List ℕ) (n : ℕ) (packed_block : List ℕ) : Type 0 where
  pub within : n ≤ length bytes
  pub packs : Packs packed_block (take n bytes)
  pub short : 128 * length packed_block ≤ 129 * n + bound_slack (drop n bytes)

none_packed : (bytes : List ℕ) → HasPacked bytes 0 []
none_packed bytes = record { within = omega arith; packs = packs_nil; short = omega arith }

grown : (bytes mid packed_block : List ℕ) (i n : ℕ) → HasPacked bytes i mid
    → n ≤ length (drop i bytes) → Packs packed_block (take n (drop i bytes))
    → 128 * length packed_block + bound_slack (drop i bytes) ≤ 129 * n
    + bound_slack (drop n (drop i bytes)) → HasPacked bytes (i + n) (mid ++ packed_block)
grown bytes mid packed_block i n h w p s = record {
  within = omega (arith, h.within, w, length-drop i bytes);
  packs =
      rw take-add (packs_append mid packed_block (take i bytes) (take n (drop i bytes)) h.packs p);
  short =
      let e : bound_slack (drop n (drop i bytes)) ≡ bound_slack (drop (i + n) bytes) =
      ap bound_slack (drop-drop n i bytes) in
      omega (arith, h.short, s, e, length-append mid packed_block);
}

-- `new` is `old` with blocks for the first n bytes at its end, short enough in all
pub record AppendsBlocks (old bytes : List ℕ) (n : ℕ) (new : List ℕ) : Type 0 where
  pub packed : List ℕ
  pub has : HasPacked bytes n packed
  pub at_end : new ≡ old ++ packed

pub no_block : (old bytes : List ℕ) → AppendsBlocks old bytes 0 old
no_block old bytes = record { packed = []; has = none_packed bytes; at_end = sym (append-nil old) }

pub block_next : (old bytes mid new : List ℕ) (i n : ℕ) → AppendsBlocks old bytes i mid
    → PacksAtEnd mid (drop i bytes) n new → AppendsBlocks old bytes (i + n) new
block_next old bytes mid new i n h p = record {
  packed = h.packed ++ p.packed;
  has = grown bytes h.packed p.packed i n h.has p.within p.packs p.short;
  at_end =
      p.at_end ∙ (ap (λ (xs : List ℕ). xs ++ p.packed) h.at_end
      ∙ append_assoc old h.packed p.packed);
}

pub all_packed : (old bytes new : List ℕ) (i : ℕ) → AppendsBlocks old bytes i new → length bytes ≤ i
    → AppendsPacked old bytes new
all_packed old bytes new i h l = record {
  packed = h.packed;
  is_packed = record {
    packs = subst (Packs h.packed) (take_all i bytes l) h.has.packs;
    bound = omega (arith, h.has.short, h.has.within, ap bound_slack (drop_all i bytes l));
  };
  at_end = h.at_end;
}

-- a packed list at the end of an empty one
pub alone : (old bytes new : List ℕ) → old ≡ [] → AppendsPacked old bytes new → IsPacked bytes new
alone old bytes new e a =
    subst (IsPacked bytes) (sym (a.at_end ∙ ap (λ (xs : List ℕ). xs ++ a.packed) e)) a.is_packed
