-- The header of a file that a model describes.
use Rattle.std.proofs.Common.{◌≡◌, ℕ, zero, suc, ◌-◌, ◌<◌, Bool, true, false, cond, List, ◌∷◌, ◌++◌, length, drop, Result, Ok, Err, refl, ap, sym, ◌∙◌, subst, arith}
use Rattle.std.proofs.lemmas.Bool.{le-leb}
use Rattle.std.proofs.Math.Dec.{eqb-suc-zero}
use Rattle.std.proofs.lemmas.List.{take-append-drop}
use Rattle.std.specs.Prelude.{nat_le}
use Rattle.std.specs.Int.{w16, w32, w64}
use Rattle.tiff_base.specs.declared.error.TiffError.{TiffError}
use Rattle.tiff_base.specs.declared.tags.ByteOrder.TheVariants.{LittleEndian}
use Rattle.tiff_base.specs.declared.tags.FileKind.{FileKind}
use Rattle.tiff_base.specs.declared.tags.FileKind.TheVariants.{Classic, Big}
use Rattle.tiff_base.specs.Header.{order_at, header_of, header_at}
use Rattle.tiff_base.specs.Number.{number, number_at}
use Rattle.tiff_base.specs.SourceAndSink.{exactly_at, bytes_at}
use Rattle.tiff_value.specs.FileBytes.{header_mark}
use Rattle.tiff_value.specs.FileLaws.{FirstTold}
use Rattle.tiff_base.specs.lemmas.Slices.{ok_bind}

-- if a choice between a value and an error succeeds, it returns the value
if_ok : {A : Type 0} (b : Bool) (x y : A) (e : TiffError)
    → (let r : Result A TiffError = Ok y in cond b (Ok x) (Err e) ≡ r) → x ≡ y
if_ok true x y e h = cc
if_ok false x y e h = absurd cc

-- a file begins with its mark
marked : (file mark : List ℕ) → exactly_at file 0 (length mark) ≡ Ok mark
    → mark ++ drop (length mark) file ≡ file
marked file mark h =
    ap (λ xs. xs ++ drop (length mark) file) (sym (if_ok (nat_le (length mark) (length file - 0)) (bytes_at file 0 (length mark)) mark _ h))
    ∙ take-append-drop (length mark) file

-- a first offset that isn't 0 is a first directory
first_of : (kind : FileKind) (p : ℕ) → 0 < p
    → header_of LittleEndian kind p ≡ Ok (record { order = LittleEndian; kind = kind; first = p })
first_of kind zero h = absurd (omega (arith, h))
first_of kind (suc n) h = rw (eqb-suc-zero n) refl

-- the header of a classic file
classic_told : (rest : List ℕ) (p : ℕ) → 0 < p
    → number_at LittleEndian w32 (73 ∷ 73 ∷ 42 ∷ 0 ∷ rest) 4 ≡ Ok p
    → header_at (73 ∷ 73 ∷ 42 ∷ 0 ∷ rest)
    ≡ Ok (record { order = LittleEndian; kind = Classic; first = p })
unfolding header_at number
classic_told rest p h n =
    let file : List ℕ = 73 ∷ 73 ∷ 42 ∷ 0 ∷ rest in
    let two : nat_le 2 (length file) ≡ true = le-leb 2 (length file) (omega arith) in
    let two_more : nat_le 2 (length file - 2) ≡ true = le-leb 2 (length file - 2) (omega arith) in
    let order : order_at file ≡ Ok LittleEndian = rw two refl in
    let version : number_at LittleEndian w16 file 2 ≡ Ok 42 = rw two_more refl in
    ok_bind (order_at file) _ LittleEndian _ order
    (ok_bind (number_at LittleEndian w16 file 2) _ 42 _ version
    (ok_bind (number_at LittleEndian w32 file 4) _ p _ n (first_of Classic p h)))

-- the header of a BigTIFF file
big_told : (rest : List ℕ) (p : ℕ) → 0 < p
    → number_at LittleEndian w64 (73 ∷ 73 ∷ 43 ∷ 0 ∷ 8 ∷ 0 ∷ 0 ∷ 0 ∷ rest) 8 ≡ Ok p
    → header_at (73 ∷ 73 ∷ 43 ∷ 0 ∷ 8 ∷ 0 ∷ 0 ∷ 0 ∷ rest)
    ≡ Ok (record { order = LittleEndian; kind = Big; first = p })
unfolding header_at number
big_told rest p h n =
    let file : List ℕ = 73 ∷ 73 ∷ 43 ∷ 0 ∷ 8 ∷ 0 ∷ 0 ∷ 0 ∷ rest in
    let two : nat_le 2 (length file) ≡ true = le-leb 2 (length file) (omega arith) in
    let at_2 : nat_le 2 (length file - 2) ≡ true = le-leb 2 (length file - 2) (omega arith) in
    let at_4 : nat_le 2 (length file - 4) ≡ true = le-leb 2 (length file - 4) (omega arith) in
    let at_6 : nat_le 2 (length file - 6) ≡ true = le-leb 2 (length file - 6) (omega arith) in
    let order : order_at file ≡ Ok LittleEndian = rw two refl in
    let version : number_at LittleEndian w16 file 2 ≡ Ok 43 = rw at_2 refl in
    let size : number_at LittleEndian w16 file 4 ≡ Ok 8 = rw at_4 refl in
    let zeros : number_at LittleEndian w16 file 6 ≡ Ok 0 = rw at_6 refl in
    ok_bind (order_at file) _ LittleEndian _ order
    (ok_bind (number_at LittleEndian w16 file 2) _ 43 _ version
    (ok_bind (number_at LittleEndian w16 file 4) _ 8 _ size
    (ok_bind (number_at LittleEndian w16 file 6) _ 0 _ zeros
    (ok_bind (number_at LittleEndian w64 file 8) _ p _ n (first_of Big p h)))))

-- the header contains the offset of the first directory
pub first_told : FirstTold
first_told Classic file m p s e h =
    let same : (73 ∷ 73 ∷ 42 ∷ 0 ∷ drop 4 file) ≡ file =
    marked file (header_mark Classic) s.header in
    subst (λ f. header_at f ≡ Ok (record { order = LittleEndian; kind = Classic; first = p })) same
    (classic_told (drop 4 file) p h (subst (λ f. number_at LittleEndian w32 f 4
    ≡ Ok p) (sym same) (s.first ∙ ap (λ n. Ok n) e)))
first_told Big file m p s e h =
    let same : (73 ∷ 73 ∷ 43 ∷ 0 ∷ 8 ∷ 0 ∷ 0 ∷ 0 ∷ drop 8 file) ≡ file =
    marked file (header_mark Big) s.header in
    subst (λ f. header_at f ≡ Ok (record { order = LittleEndian; kind = Big; first = p })) same
    (big_told (drop 8 file) p h (subst (λ f. number_at LittleEndian w64 f 8
    ≡ Ok p) (sym same) (s.first ∙ ap (λ n. Ok n) e)))
