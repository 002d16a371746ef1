-- Equality of two values: the same kind, and equal parts.
use Rattle.std.specs.Prelude.{◌≡◌, ℕ, List, [], ◌∷◌, Bool, true, false, ◌&&◌, ◌==◌}
use Rattle.std.specs.Ordering.{int_eq}
use Rattle.std.specs.Cmp.Lexicographic.{pointwise}
use Rattle.std.specs.Bool.{Decides}
use Rattle.std.specs.Cmp.{IsPartialEquivalence, partial_equiv_from_equiv, decided, signed_Decides, unsigned_Decides}
use Rattle.std.proofs.Common.{ap, refl}
use Rattle.tiff_ifd.specs.PlainValue.{PlainValue, PlainValueList, none, more, byte, short, signed_byte, signed_short, signed, signed_big, unsigned, unsigned_big, float, double, list, rational, rational_big, srational, srational_big, ascii, ifd, ifd_big}

-- two values are equal where their kinds are the same and their parts are equal, at any depth;
-- values of different kinds differ
abbrev mutual
  pub same : PlainValue → PlainValue → Bool
  same (byte m) (byte n) = m == n
  same (short m) (short n) = m == n
  same (signed_byte m) (signed_byte n) = int_eq m n
  same (signed_short m) (signed_short n) = int_eq m n
  same (signed m) (signed n) = int_eq m n
  same (signed_big m) (signed_big n) = int_eq m n
  same (unsigned m) (unsigned n) = m == n
  same (unsigned_big m) (unsigned_big n) = m == n
  same (float m) (float n) = m == n
  same (double m) (double n) = m == n
  same (list fs) (list gs) = all_same fs gs
  same (rational m c) (rational n d) = (m == n) && (c == d)
  same (rational_big m c) (rational_big n d) = (m == n) && (c == d)
  same (srational m c) (srational n d) = int_eq m n && int_eq c d
  same (srational_big m c) (srational_big n d) = int_eq m n && int_eq c d
  same (ascii s) (ascii t) = pointwise ◌==◌ s t
  same (ifd m) (ifd n) = m == n
  same (ifd_big m) (ifd_big n) = m == n
  same _ _ = false

  pub all_same : PlainValueList → PlainValueList → Bool
  all_same none none = true
  all_same (more f fs) (more g gs) = same f g && all_same fs gs
  all_same _ _ = false

-- a test that decides a statement also decides an equivalent statement
along : {P Q : Type 0} (b : Bool) → Decides b P → (P → Q) → (Q → P) → Decides b Q
along b d f g = (λ h. f (d.0 h), λ q. d.1 (g q))

both : {P Q R : Type 0} (b c : Bool) → Decides b P → Decides c Q → (P → Q → R) → (R → P) → (R → Q)
    → Decides (b && c) R
both true true d e f g h = (λ _. f (d.0 refl) (e.0 refl), λ _. refl)
both true false d e f g h = (λ k. cc, λ r. e.1 (h r))
both false c d e f g h = (λ k. cc, λ r. d.1 (g r))

text_Decides : (s t : List ℕ) → Decides (pointwise ◌==◌ s t) (s ≡ t)
text_Decides [] [] = (λ _. refl, λ _. refl)
text_Decides [] (y ∷ ys) = (λ h. cc, λ e. cc)
text_Decides (x ∷ xs) [] = (λ h. cc, λ e. cc)
text_Decides (x ∷ xs) (y ∷ ys) =
    both (x == y) (pointwise ◌==◌ xs ys) (unsigned_Decides x y) (text_Decides xs ys) (λ p q. cc)
    (λ e. cc) (λ e. cc)

-- `same` is true exactly where the two values are equal
mutual
  pub same_Decides : (f g : PlainValue) → Decides (same f g) (f ≡ g)
  same_Decides (byte m) (byte n) = along (m == n) (unsigned_Decides m n) (ap byte) (λ e. cc)
  same_Decides (short m) (short n) = along (m == n) (unsigned_Decides m n) (ap short) (λ e. cc)
  same_Decides (signed_byte m) (signed_byte n) =
      along (int_eq m n) (signed_Decides m n) (ap signed_byte) (λ e. cc)
  same_Decides (signed_short m) (signed_short n) =
      along (int_eq m n) (signed_Decides m n) (ap signed_short) (λ e. cc)
  same_Decides (signed m) (signed n) = along (int_eq m n) (signed_Decides m n) (ap signed) (λ e. cc)
  same_Decides (signed_big m) (signed_big n) =
      along (int_eq m n) (signed_Decides m n) (ap signed_big) (λ e. cc)
  same_Decides (unsigned m) (unsigned n) =
      along (m == n) (unsigned_Decides m n) (ap unsigned) (λ e. cc)
  same_Decides (unsigned_big m) (unsigned_big n) =
      along (m == n) (unsigned_Decides m n) (ap unsigned_big) (λ e. cc)
  same_Decides (float m) (float n) = along (m == n) (unsigned_Decides m n) (ap float) (λ e. cc)
  same_Decides (double m) (double n) = along (m == n) (unsigned_Decides m n) (ap double) (λ e. cc)
  same_Decides (list fs) (list gs) =
      along (all_same fs gs) (all_same_Decides fs gs) (ap list) (λ e. cc)
  same_Decides (rational m c) (rational n d) =
      both (m == n) (c == d) (unsigned_Decides m n) (unsigned_Decides c d) (λ p q. cc) (λ e. cc)
      (λ e. cc)
  same_Decides (rational_big m c) (rational_big n d) =
      both (m == n) (c == d) (unsigned_Decides m n) (unsigned_Decides c d) (λ p q. cc) (λ e. cc)
      (λ e. cc)
  same_Decides (srational m c) (srational n d) =
      both (int_eq m n) (int_eq c d) (signed_Decides m n) (signed_Decides c d) (λ p q. cc) (λ e. cc)
      (λ e. cc)
  same_Decides (srational_big m c) (srational_big n d) =
      both (int_eq m n) (int_eq c d) (signed_Decides m n) (signed_Decides c d) (λ p q. cc) (λ e. cc)
      (λ e. cc)
  same_Decides (ascii s) (ascii t) =
      along (pointwise ◌==◌ s t) (text_Decides s t) (ap ascii) (λ e. cc)
  same_Decides (ifd m) (ifd n) = along (m == n) (unsigned_Decides m n) (ap ifd) (λ e. cc)
  same_Decides (ifd_big m) (ifd_big n) =
      along (m == n) (unsigned_Decides m n) (ap ifd_big) (λ e. cc)
  same_Decides f g = (λ h. cc, λ e. cc)

  pub all_same_Decides : (fs gs : PlainValueList) → Decides (all_same fs gs) (fs ≡ gs)
  all_same_Decides none none = (λ _. refl, λ _. refl)
  all_same_Decides none (more g gs) = (λ h. cc, λ e. cc)
  all_same_Decides (more f fs) none = (λ h. cc, λ e. cc)
  all_same_Decides (more f fs) (more g gs) =
      both (same f g) (all_same fs gs) (same_Decides f g) (all_same_Decides fs gs) (λ p q. cc)
      (λ e. cc) (λ e. cc)

pub same_per : IsPartialEquivalence same
same_per = partial_equiv_from_equiv (decided same same_Decides)

pub all_same_per : IsPartialEquivalence all_same
all_same_per = partial_equiv_from_equiv (decided all_same all_same_Decides)
