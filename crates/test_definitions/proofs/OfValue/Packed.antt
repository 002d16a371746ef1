-- The worked examples of `Value.Packed` hold.
use Rattle.std.specs.Prelude.{refl, Bool, true, false}
use Rattle.std.specs.List.{list_all, concat, AllZip}
use Rattle.std.proofs.Common.{◌≡◌, ℕ, ◌+◌, ◌-◌, ◌<◌, ◌&&◌, List, [], ◌∷◌, ◌++◌, arith, ap, ap₂, drop, flat_map, get_or, length, length-append, subst, sym, take, ◌∙◌}
use Rattle.std.proofs.lemmas.List.{nil_from_length, take_all, take_at}
use Rattle.tiff_base.specs.Runs.{Unpacked, runs}
use Rattle.tiff_base.specs.Blocks.{Block, Nothing, Literal, Repeated, AreBlocks, packed_block}
use Rattle.tiff_value.specs.lemmas.Packing.{unpacks}
use Rattle.tiff_value.specs.Packed.{is_sparing, may_be_written, IsPacked}
use Rattle.test_definitions.specs.Value.Packed as s
use Rattle.tiff.proofs.OnLiterals.{tiff_on_literals}

abbrev IsTrue : Bool → Type 0
IsTrue true = Unit {0}
IsTrue false = ⊥

pub pack_one : s.pack_one
pack_one = record {
  packs =
      record { blocks = Literal (0x3f ∷ []) ∷ []; are_blocks = ((omega arith, omega arith), tt); written = refl; is_list = refl; stands = refl };
  bound = omega arith;
}

pub pack_pairs : s.pack_pairs
pack_pairs = record {
  packs =
      record { blocks = Repeated 2 0x41 ∷ Repeated 2 0x42 ∷ []; are_blocks = ((omega arith, omega arith), ((omega arith, omega arith), tt)); written = refl; is_list = refl; stands = refl };
  bound = omega arith;
}

pub pack_literal : s.pack_literal
pack_literal = record {
  packs =
      record { blocks = Literal (0x41 ∷ 0x42 ∷ 0x42 ∷ []) ∷ []; are_blocks = ((omega arith, omega arith), tt); written = refl; is_list = refl; stands = refl };
  bound = omega arith;
}

pub pack_128 : s.pack_128
pack_128 = record {
  packs =
      record { blocks = Repeated 128 0x41 ∷ []; are_blocks = ((omega arith, omega arith), tt); written = refl; is_list = refl; stands = refl };
  bound = omega arith;
}

pub pack_129 : s.pack_129
pack_129 = record {
  packs =
      record { blocks = Repeated 128 0x41 ∷ Literal (0x41 ∷ []) ∷ []; are_blocks = ((omega arith, omega arith), ((omega arith, omega arith), tt)); written = refl; is_list = refl; stands = refl };
  bound = omega arith;
}

first_of : (a b : Bool) → (a && b) ≡ true → a ≡ true
first_of true b h = refl
first_of false b h = h

-- a list that begins with a header below 128 begins with a literal, which is whole and sparing
literal_first : (blocks : List Block) (h : ℕ) (more : List ℕ) → AreBlocks blocks
    → list_all may_be_written blocks ≡ true → h < 128
    → h ∷ more ≡ flat_map packed_block blocks
    → (xs : List ℕ) × ((rest : List ℕ) × ((length xs ≡ h + 1)
    × ((more ≡ xs ++ rest) × (is_sparing xs ≡ true))))
literal_first [] h more a w b e = absurd (cc)
literal_first (Nothing ∷ blocks) h more a w b e = absurd (cc)
literal_first (Literal xs ∷ blocks) h more a w b e =
    let l : h ≡ length xs - 1 = ap (λ (ys : List ℕ). get_or ys 0 0) e in
    (xs, (flat_map packed_block blocks, (omega (arith, a.0.0, l), (ap (λ (ys : List ℕ). drop 1 ys) e, first_of (is_sparing xs) (list_all may_be_written blocks) w))))
literal_first (Repeated n v ∷ blocks) h more a w b e =
    absurd (omega (arith, a.0.1, b, ap (λ (ys : List ℕ). get_or ys 0 0) e))

-- a list that begins with a header above 128 begins with a run
run_first : (blocks : List Block) (h v : ℕ) (more : List ℕ) → AreBlocks blocks
    → list_all may_be_written blocks ≡ true → 128 < h
    → h ∷ v ∷ more ≡ flat_map packed_block blocks
    → (rest : List Block) × (AreBlocks rest × ((list_all may_be_written rest ≡ true)
    × (more ≡ flat_map packed_block rest)))
run_first [] h v more a w b e = absurd (cc)
run_first (Nothing ∷ blocks) h v more a w b e = absurd (cc)
run_first (Literal xs ∷ blocks) h v more a w b e =
    absurd (omega (arith, a.0.1, b, ap (λ (ys : List ℕ). get_or ys 0 0) e))
run_first (Repeated n x ∷ blocks) h v more a w b e =
    (blocks, (a.1, (w, ap (λ (ys : List ℕ). drop 2 ys) e)))

-- no list begins with the header 128
no_header_128 : (blocks : List Block) (more : List ℕ) → AreBlocks blocks
    → list_all may_be_written blocks ≡ true → 128 ∷ more ≡ flat_map packed_block blocks → ⊥
no_header_128 [] more a w e = cc
no_header_128 (Nothing ∷ blocks) more a w e = cc
no_header_128 (Literal xs ∷ blocks) more a w e =
    omega (arith, a.0.1, ap (λ (ys : List ℕ). get_or ys 0 0) e)
no_header_128 (Repeated n v ∷ blocks) more a w e =
    omega (arith, a.0.0, a.0.1, ap (λ (ys : List ℕ). get_or ys 0 0) e)

-- a list of one literal that isn't sparing isn't packed
not_sparing : (bytes xs : List ℕ) (h : ℕ) → h < 128 → length xs ≡ h + 1 → is_sparing xs ≡ false
    → IsPacked bytes (h ∷ xs) → ⊥
not_sparing bytes xs h b l s p =
    let f =
    literal_first p.packs.blocks h xs p.packs.are_blocks p.packs.written b p.packs.is_list in
    let e : f.0 ≡ xs =
    sym (take_at f.0 f.1.0 (h + 1) f.1.1.0) ∙ ap (take (h + 1)) (sym f.1.1.1.0)
    ∙ take_all (h + 1) xs (omega (arith, l)) in
    subst IsTrue (sym f.1.1.1.1 ∙ (ap is_sparing e ∙ s)) tt

pub literal_pair : s.literal_pair
literal_pair = not_sparing _ (0x41 ∷ 0x41 ∷ []) 1 (omega arith) refl refl

pub literal_three : s.literal_three
literal_three = not_sparing _ (0x40 ∷ 0x41 ∷ 0x41 ∷ 0x41 ∷ []) 3 (omega arith) refl refl

pub with_128 : s.with_128
with_128 = λ p.
    let f =
    run_first p.packs.blocks 0xff 0x41 (0x80 ∷ []) p.packs.are_blocks p.packs.written
    (omega arith) p.packs.is_list in
    no_header_128 f.0 [] f.1.0 f.1.1.0 f.1.1.1

pub literal_cut : s.literal_cut
literal_cut = λ p.
    let f =
    literal_first p.packs.blocks 2 (0x41 ∷ 0x42
    ∷ []) p.packs.are_blocks p.packs.written (omega arith) p.packs.is_list in
    omega (arith, f.1.1.0, ap length f.1.1.1.0, length-append f.0 f.1.0)

pub pack_other : s.pack_other
unfolding tiff_on_literals
pack_other =
    λ p. absurd (omega (arith, ap (λ (u : Unpacked). get_or u.out 0 0) (unpacks (0x41 ∷ []) (0x00 ∷ 0x42 ∷ []) p)))

pub pack_standard : s.pack_standard
pack_standard = record {
  packs =
      record { blocks = Repeated 3 0xaa ∷ Literal (0x80 ∷ 0x00 ∷ 0x2a ∷ []) ∷ Repeated 4 0xaa ∷ Literal (0x80 ∷ 0x00 ∷ 0x2a ∷ 0x22 ∷ []) ∷ Repeated 10 0xaa ∷ []; are_blocks = ((omega arith, omega arith), ((omega arith, omega arith), ((omega arith, omega arith), ((omega arith, omega arith), ((omega arith, omega arith), tt))))); written = refl; is_list = refl; stands = refl };
  bound = omega arith;
}

pub rows_packed : s.rows_packed
rows_packed =
    let row : List ℕ = 0x01 ∷ 0x01 ∷ [] in
    let list : List ℕ = 0xff ∷ 0x01 ∷ [] in
    let packed : IsPacked row list = record {
      packs =
          record { blocks = Repeated 2 0x01 ∷ []; are_blocks = ((omega arith, omega arith), tt); written = refl; is_list = refl; stands = refl };
      bound = omega arith;
    } in
    record { rows = row ∷ row ∷ []; lists = list ∷ list ∷ []; packed = ((refl, packed), ((refl, packed), tt)); are_rows = refl; is_list = refl }

-- a row of two bytes, and its packed list
abbrev Row : List ℕ → List ℕ → Type 0
Row one packed = (length one ≡ 2) × IsPacked one packed

-- what a list unpacks to is a row
row_length : (row list : List ℕ) → Row row list → length (runs false list).out ≡ 2
row_length row list r = ap (λ (u : Unpacked). length u.out) (unpacks row list r.1) ∙ r.0

-- a list of four bytes 1 in one run isn't that of two rows
no_across : (rows lists : List (List ℕ)) → AllZip Row rows lists
    → 0x01 ∷ 0x01 ∷ 0x01 ∷ 0x01 ∷ [] ≡ concat rows → 0xfd ∷ 0x01 ∷ [] ≡ concat lists → ⊥
unfolding tiff_on_literals
no_across [] lists a r l = absurd cc
no_across (row ∷ rows) [] a r l = absurd cc
no_across (row ∷ rows) ([] ∷ lists) a r l = omega (arith, row_length row [] a.0)
no_across (row ∷ rows) ((x ∷ []) ∷ lists) a r l =
    let h : x ≡ 0xfd = ap (λ (bs : List ℕ). get_or bs 0 0) (sym l) in
    let e : length (runs false (0xfd ∷ [])).out ≡ 2 =
    subst (λ (k : ℕ). length (runs false (k ∷ [])).out ≡ 2) h (row_length row (x ∷ []) a.0) in
    omega (arith, e)
no_across (row ∷ rows) ((x ∷ y ∷ more) ∷ lists) a r l =
    let h : x ≡ 0xfd = ap (λ (bs : List ℕ). get_or bs 0 0) (sym l) in
    let v : y ≡ 0x01 = ap (λ (bs : List ℕ). get_or bs 1 0) (sym l) in
    let n : length more + length (concat lists) ≡ 0 =
    omega (arith, ap (λ (bs : List ℕ). length bs) l, length-append more (concat lists)) in
    let none : more ≡ [] = nil_from_length more (omega (arith, n)) in
    let e : length (runs false (0xfd ∷ 0x01 ∷ [])).out ≡ 2 =
    subst (λ (bs : List ℕ). length (runs false bs).out
    ≡ 2) (ap₂ ◌∷◌ h (ap₂ ◌∷◌ v none)) (row_length row (x ∷ y ∷ more) a.0) in
    omega (arith, e)

pub rows_across : s.rows_across
rows_across = λ p. no_across p.rows p.lists p.packed p.are_rows p.is_list

-- one byte isn't made of whole rows of two
no_half : (rows lists : List (List ℕ)) → AllZip Row rows lists → 0x01 ∷ [] ≡ concat rows → ⊥
no_half [] lists a r = omega (arith, ap (λ (bs : List ℕ). length bs) r)
no_half (row ∷ rows) [] a r = a
no_half (row ∷ rows) (list ∷ lists) a r =
    omega (arith, a.0.0, ap (λ (bs : List ℕ). length bs) r, length-append row (concat rows))

pub row_cut : s.row_cut
row_cut = λ p. no_half p.rows p.lists p.packed p.are_rows

pub stored_packed : s.stored_packed
stored_packed = record {
  packs =
      record { blocks = Repeated 4 0x01 ∷ []; are_blocks = ((omega arith, omega arith), tt); written = refl; is_list = refl; stands = refl };
  bound = omega arith;
}

pub ruleset worked = (
  pack_one,
  pack_pairs,
  pack_literal,
  pack_128,
  pack_129,
  literal_pair,
  literal_three,
  with_128,
  literal_cut,
  pack_other,
  pack_standard,
  rows_packed,
  rows_across,
  row_cut,
  stored_packed,
)
