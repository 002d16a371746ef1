-- Bytes that are read from a file after an append, or after a patch of a part of it.
use Rattle.std.proofs.Common.{zero, suc, ◌≡◌, ℕ, ◌+◌, ◌-◌, ◌^◌, ◌<◌, ◌≤◌, ◌⊎◌, List, ◌++◌, length, take, drop, Bool, true, false, cond, Option, Some, None, Result, Ok, Err, refl, ap, sym, ◌∙◌, inl, inr, subst, arith, append_assoc, length-append, length-drop}
use Rattle.std.proofs.lemmas.List.{drop-drop, take_at, drop_at, take_all, take-append-le, drop-append-le, length-take-le, drop-take, take-take}
use Rattle.std.proofs.lemmas.Bool.{leb-true, le-leb}
use Rattle.std.proofs.lemmas.Nat.{from_le_bytes-to_le_bytes_2, from_le_bytes-to_le_bytes_4, from_le_bytes-to_le_bytes_8}
use Rattle.std.specs.Int.{Width, w16, w32, w64, byte_len, bytes_low_first}
use Rattle.tiff_base.specs.lemmas.Common.{bind_ok}
use Rattle.tiff_base.specs.declared.error.TiffError.{TiffError}
use Rattle.tiff_base.specs.declared.tags.FileKind.{FileKind}
use Rattle.tiff_base.specs.declared.tags.FileKind.TheVariants.{Classic, Big}
use Rattle.tiff_base.specs.declared.tags.ByteOrder.TheVariants.{LittleEndian}
use Rattle.tiff_base.specs.Answers.{◌>>=◌}
use Rattle.tiff_base.specs.SourceAndSink.{exactly_at, put}
use Rattle.tiff_base.specs.Number.{number, number_at, le}
use Rattle.tiff_base.specs.Directory.{count_width, offset_width}

-- ---- results

-- two steps that succeed
pub ok_bind : {A B : Type 0} (r : Result A TiffError) (f : A → Result B TiffError) (x : A) (y : B)
    → r ≡ Ok x
    → f x ≡ Ok y → (r >>= f) ≡ Ok y
ok_bind r f x y e h = ap (λ z. z >>= f) e ∙ h

-- equal results have equal values
pub ok_inj : {A : Type 0} (x y : A) → let a : Result A TiffError =
    Ok x in let b : Result A TiffError = Ok y in a ≡ b
    → x ≡ y
ok_inj x y e = cc

-- equal options have equal values
pub some_inj : {A : Type 0} (x y : A)
    → (let a : Option A = Some x in let b : Option A = Some y in a ≡ b) → x ≡ y
some_inj x y h = cc

pub none_some : {A : Type 0} {x : A}
    → (let a : Option A = None in let b : Option A = Some x in a ≡ b) → ⊥
none_some h = cc

-- a test that chooses between a value and an error holds if the choice succeeds
opened : (b : Bool) (x s : List ℕ) (e : TiffError) → cond b (Ok x) (Err e) ≡ Ok s
    → (b ≡ true) × (x ≡ s)
opened true x s e h = (refl, cc)
opened false x s e h = absurd cc

-- ---- exact reads

-- bytes that the file contains are read
pub exact : (file : List ℕ) (p n : ℕ) (s : List ℕ) → n ≤ length file - p → take n (drop p file) ≡ s
    → exactly_at file p n ≡ Ok s
exact file p n s h e = rw (le-leb _ _ h) (ap (λ x. Ok x) e)

-- bytes that are read are in the file
pub is_exact : (file : List ℕ) (p n : ℕ) (s : List ℕ) → exactly_at file p n ≡ Ok s
    → (n ≤ length file - p) × (take n (drop p file) ≡ s)
is_exact file p n s e = let o = opened _ _ s _ e in (leb-true _ _ o.0, o.1)

-- bytes that are read from a file are read from each longer file
pub exact_append : (file more : List ℕ) (p n : ℕ) (s : List ℕ) → exactly_at file p n ≡ Ok s
    → exactly_at (file ++ more) p n ≡ Ok s
exact_append file more p zero s e =
    let o = is_exact file p zero s e in exact (file ++ more) p zero s (omega arith) o.1
exact_append file more p (suc n) s e =
    let o = is_exact file p (suc n) s e in
    exact (file ++ more) p (suc n) s (omega (arith, length-append file more, o.0))
    (ap (λ d. take (suc n) d) (drop-append-le p file more (omega (arith, o.0)))
    ∙ take-append-le (suc n) (drop p file) more (omega (arith, length-drop p file, o.0))
    ∙ o.1)

-- a patch keeps the length of the file
pub length_put : (file : List ℕ) (q : ℕ) (over : List ℕ) → q + length over ≤ length file
    → length (put file q over) ≡ length file
length_put file q over h =
    let t : length (take q file) ≡ q = length-take-le q file (omega arith) in
    let m = q + length over in
    omega (
      arith,
      length-append (take q file) (over ++ drop m file),
      length-append over (drop m file),
      length-drop m file,
      t,
    )

-- bytes before a patch stay
pub exact_put_before : (file : List ℕ) (q : ℕ) (over : List ℕ) (p n : ℕ) (s : List ℕ)
    → q + length over ≤ length file
    → p + n ≤ q
    → exactly_at file p n ≡ Ok s → exactly_at (put file q over) p n ≡ Ok s
exact_put_before file q over p n s h b e =
    let o = is_exact file p n s e in
    let t : length (take q file) ≡ q = length-take-le q file (omega arith) in
    let l = length_put file q over h in
    exact (put file q over) p n s (omega (arith, l, o.0))
    (sym (drop-take p n (put file q over))
    ∙ ap (λ f. drop p f) (take-append-le (p + n) (take q file) (over
    ++ drop (q + length over) file) (omega arith)
    ∙ take-take (p + n) q file b)
    ∙ drop-take p n file
    ∙ o.1)

-- bytes behind a patch stay
pub exact_put_behind : (file : List ℕ) (q : ℕ) (over : List ℕ) (p n : ℕ) (s : List ℕ)
    → q + length over ≤ length file
    → q + length over ≤ p
    → exactly_at file p n ≡ Ok s → exactly_at (put file q over) p n ≡ Ok s
exact_put_behind file q over p n s h b e =
    let o = is_exact file p n s e in
    let t : length (take q file) ≡ q = length-take-le q file (omega arith) in
    let l = length_put file q over h in
    let m = q + length over in
    let D : List ℕ = drop m file in
    let a : drop m (put file q over) ≡ D =
    ap (λ f. drop m f) (sym (append_assoc (take q file) over D))
    ∙ drop_at (take q file ++ over) D m (omega (arith, t, length-append (take q file) over)) in
    let z : m + (p - m) ≡ p = omega arith in
    let c : drop p (put file q over) ≡ drop p file =
    ap (λ i. drop i (put file q over)) (sym z) ∙ sym (drop-drop (p - m) m (put file q over))
    ∙ ap (λ f. drop (p - m) f) a
    ∙ drop-drop (p - m) m file ∙ ap (λ i. drop i file) z in
    exact (put file q over) p n s (omega (arith, l, o.0)) (ap (λ d. take n d) c ∙ o.1)

-- the patched bytes are read
pub exact_put_here : (file : List ℕ) (q : ℕ) (over : List ℕ) → q + length over ≤ length file
    → exactly_at (put file q over) q (length over) ≡ Ok over
exact_put_here file q over h =
    let t : length (take q file) ≡ q = length-take-le q file (omega arith) in
    exact (put file q over) q (length over) over (omega (arith, length_put file q over h))
    (ap (λ d. take (length over) d) (drop_at (take q file) (over
    ++ drop (q + length over) file) q t)
    ∙ take_at over (drop (q + length over) file) (length over) refl)

-- bytes between two others are read
pub exact_mid : (a s b : List ℕ) (p n : ℕ) → length a ≡ p → length s ≡ n
    → exactly_at (a ++ (s ++ b)) p n ≡ Ok s
exact_mid a s b p n e h =
    exact (a ++ (s ++ b)) p n s (omega (arith, length-append a (s ++ b), length-append s b))
    (ap (λ d. take n d) (drop_at a (s ++ b) p e) ∙ take_at s b n h)

-- the last bytes are read
pub exact_end : (file more : List ℕ)
    → exactly_at (file ++ more) (length file) (length more) ≡ Ok more
exact_end file more =
    exact (file ++ more) (length file) (length more) more (omega (arith, length-append file more))
    (ap (λ d. take (length more) d) (drop_at file more (length file) refl)
    ∙ take_all (length more) more (omega arith))

-- ---- numbers

-- the list of a number's k lowest bytes has length k
pub length-le : (i k n : ℕ) → length (bytes_low_first i k n) ≡ k
length-le i zero n = refl
length-le i (suc k) n = ap (λ j. suc j) (length-le (suc i) k n)

-- a number of a width is read back as written
pub number-le : (w : Width) (n : ℕ) → (w ≡ w16) ⊎ ((w ≡ w32) ⊎ (w ≡ w64)) → n < 256 ^ byte_len w
    → number LittleEndian w (le (byte_len w) n) ≡ n
unfolding number
number-le w n c =
    let P : Width → Type 0 =
    λ v. n < 256 ^ byte_len v → number LittleEndian v (le (byte_len v) n) ≡ n in
    elim c as (λ _. P w) [
      | inl e ↦ subst P (sym e) (from_le_bytes-to_le_bytes_2 n)
      | inr d ↦ elim d as (λ _. P w) [
        | inl e ↦ subst P (sym e) (from_le_bytes-to_le_bytes_4 n)
        | inr e ↦ subst P (sym e) (from_le_bytes-to_le_bytes_8 n)
      ]
    ]

-- the width of offsets is a width of numbers
pub is_offset_width : (kind : FileKind)
    → (offset_width kind ≡ w16) ⊎ ((offset_width kind ≡ w32) ⊎ (offset_width kind ≡ w64))
is_offset_width Classic = inr (inl refl)
is_offset_width Big = inr (inr refl)

-- the width of entry counts is a width of numbers
pub is_count_width : (kind : FileKind)
    → (count_width kind ≡ w16) ⊎ ((count_width kind ≡ w32) ⊎ (count_width kind ≡ w64))
is_count_width Classic = inl refl
is_count_width Big = inr (inr refl)

-- a number stays if its bytes stay
pub number_kept : (file new : List ℕ) (w : Width) (p x : ℕ)
    → ((s : List ℕ) → exactly_at file p (byte_len w) ≡ Ok s → exactly_at new p (byte_len w) ≡ Ok s)
    → number_at LittleEndian w file p ≡ Ok x → number_at LittleEndian w new p ≡ Ok x
number_kept file new w p x f e =
    let F : List ℕ → Result ℕ TiffError = λ s. Ok (number LittleEndian w s) in
    let i = bind_ok (exactly_at file p (byte_len w)) F x e in
    ok_bind (exactly_at new p (byte_len w)) F i.0 x (f i.0 i.1.0) i.1.1

-- a number written between two pieces is read
pub number_mid : (w : Width) (a b : List ℕ) (p x : ℕ) → (w ≡ w16) ⊎ ((w ≡ w32) ⊎ (w ≡ w64))
    → length a ≡ p
    → x < 256 ^ byte_len w
    → number_at LittleEndian w (a ++ (le (byte_len w) x ++ b)) p ≡ Ok x
number_mid w a b p x c e l =
    let F : List ℕ → Result ℕ TiffError = λ s. Ok (number LittleEndian w s) in
    let k = byte_len w in
    ok_bind (exactly_at (a ++ (le k x ++ b)) p k) F (le k x) x (exact_mid a (le k x) b p k e (length-le 0 k x))
    (ap (λ n. Ok n) (number-le w x c l))
