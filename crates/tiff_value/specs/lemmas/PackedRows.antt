-- Rows packed one by one.
use Rattle.std.proofs.Common.{◌≡◌, ℕ, ◌+◌, ◌*◌, ◌/◌, ◌%◌, ◌<◌, ◌≤◌, false, List, [], ◌∷◌, ◌++◌, length, refl, ap, sym, ◌∙◌, subst, append_assoc, append-nil, arith, length-append}
use Rattle.std.specs.List.{concat, AllZip}
use Rattle.std.proofs.Math.Nat.{add-mod_right, mod-eq_of_lt, mul-div_cancel}
use Rattle.std.proofs.lemmas.List.Folds.{concat-append}
use Rattle.std.proofs.lemmas.List.Elements.{AllZip-push}
use Rattle.tiff_base.specs.Runs.{Plain, runs}
use Rattle.tiff_value.specs.Packed.{packed_bound, Packs, IsPacked, ArePackedRows}
use Rattle.tiff_value.specs.Packing.{AppendsPacked}
use Rattle.tiff_value.specs.lemmas.Packing.{packs_nil, packs_append, packs_unpack}

-- a packed row
abbrev pub IsRow : ℕ → List ℕ → List ℕ → Type 0
IsRow row one packed = (length one ≡ row) × IsPacked one packed

-- the list is the packed rows before the rest of the bytes
pub record HasRows (row : ℕ) (bytes rest list : List ℕ) : Type 0 where
  pub before : List ℕ
  pub split : bytes ≡ before ++ rest
  pub packed : ArePackedRows row before list

pub no_rows : (row : ℕ) (bytes list : List ℕ) → list ≡ [] → HasRows row bytes bytes list
no_rows row bytes list e = record {
  before = [];
  split = refl;
  packed = record { rows = []; lists = []; packed = tt; are_rows = refl; is_list = e };
}

pub row_next : (row : ℕ) (bytes rest list one more new : List ℕ) → HasRows row bytes rest list
    → rest ≡ one ++ more → length one ≡ row
    → AppendsPacked list one new → HasRows row bytes more new
row_next row bytes rest list one more new h e l a =
    let p = h.packed in
    record {
      before = h.before ++ one;
      split =
          h.split ∙ (ap (λ (xs : List ℕ). h.before ++ xs) e ∙ sym (append_assoc h.before one more));
      packed = record {
        rows = p.rows ++ one ∷ [];
        lists = p.lists ++ a.packed ∷ [];
        packed = AllZip-push (IsRow row) p.rows p.lists one a.packed p.packed (l, a.is_packed);
        are_rows =
            (λ i. p.are_rows i ++ sym (append-nil one) i) ∙ sym (concat-append p.rows (one ∷ []));
        is_list =
            a.at_end ∙ ((λ i. p.is_list i ++ sym (append-nil a.packed) i)
            ∙ sym (concat-append p.lists (a.packed ∷ [])));
      };
    }

pub all_rows : (row : ℕ) (bytes rest list : List ℕ) → HasRows row bytes rest list → rest ≡ []
    → ArePackedRows row bytes list
all_rows row bytes rest list h e =
    subst (λ (xs : List ℕ). ArePackedRows row xs list) (sym (h.split
    ∙ (ap (λ (xs : List ℕ). h.before ++ xs) e ∙ append-nil h.before))) h.packed

-- ---- the laws

packs_rows : (row : ℕ) (rows lists : List (List ℕ)) → AllZip (IsRow row) rows lists
    → Packs (concat lists) (concat rows)
packs_rows row [] [] a = packs_nil
packs_rows row [] (list ∷ lists) a = absurd a
packs_rows row (one ∷ rows) [] a = absurd a
packs_rows row (one ∷ rows) (list ∷ lists) a =
    packs_append list (concat lists) one (concat rows) a.0.1.packs (packs_rows row rows lists a.1)

pub rows_unpack : (row : ℕ) (bytes list : List ℕ) → ArePackedRows row bytes list
    → runs false list ≡ record { out = bytes; end = Plain }
rows_unpack row bytes list p =
    packs_unpack bytes list
    (subst (λ (xs : List ℕ). Packs list xs) (sym p.are_rows) (subst (λ (xs : List ℕ). Packs xs (concat p.rows)) (sym p.is_list) (packs_rows row p.rows p.lists p.packed)))

-- so many rows have so many bytes, and no more packed ones
pub rows_long : (row : ℕ) (rows lists : List (List ℕ)) → AllZip (IsRow row) rows lists
    → length (concat rows) ≡ length rows * row
rows_long row [] [] a = omega arith
rows_long row [] (list ∷ lists) a = absurd a
rows_long row (one ∷ rows) [] a = absurd a
rows_long row (one ∷ rows) (list ∷ lists) a =
    omega (arith, length-append one (concat rows), rows_long row rows lists a.1, a.0.0)

lists_short : (row : ℕ) (rows lists : List (List ℕ)) → AllZip (IsRow row) rows lists
    → length (concat lists) ≤ length rows * packed_bound row
lists_short row [] [] a = omega arith
lists_short row [] (list ∷ lists) a = absurd a
lists_short row (one ∷ rows) [] a = absurd a
lists_short row (one ∷ rows) (list ∷ lists) a =
    let here : length list ≤ packed_bound row =
    subst (λ (n : ℕ). length list ≤ packed_bound n) a.0.0 a.0.1.bound in
    omega (arith, length-append list (concat lists), lists_short row rows lists a.1, here)

pub rows_fit : (row : ℕ) (bytes list : List ℕ) → 0 < row → ArePackedRows row bytes list
    → length list ≤ length bytes / row * packed_bound row
rows_fit row bytes list some p =
    let n : ℕ = length p.rows in
    let long : length bytes ≡ n * row =
    ap length p.are_rows ∙ rows_long row p.rows p.lists p.packed in
    let count : length bytes / row ≡ n = ap (λ (m : ℕ). m / row) long ∙ mul-div_cancel n some in
    let short : length list ≤ n * packed_bound row =
    omega (arith, ap length p.is_list, lists_short row p.rows p.lists p.packed) in
    subst (λ (m : ℕ). length list ≤ m * packed_bound row) (sym count) short

-- fewer bytes than a row, in whole rows, are none
pub none_left : (row : ℕ) (rest : List ℕ) → length rest % row ≡ 0 → length rest < row → rest ≡ []
none_left row [] e l = refl
none_left row (x ∷ rest) e l =
    let same : length (x ∷ rest) % row ≡ length (x ∷ rest) =
    mod-eq_of_lt l in absurd (omega (arith, e, same))

-- whole rows without the first are whole rows
pub whole_left : (row : ℕ) (rest one more : List ℕ) → rest ≡ one ++ more → length one ≡ row
    → length rest % row ≡ 0 → length more % row ≡ 0
whole_left row rest one more e l h =
    let long : length rest ≡ length more + row =
    omega (arith, ap length e, length-append one more, l) in
    sym (add-mod_right (length more) row) ∙ (ap (λ (n : ℕ). n % row) (sym long) ∙ h)
