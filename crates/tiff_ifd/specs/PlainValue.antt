-- A `Value` as contracts see it; the items of a list are values too.
use Rattle.std.specs.Prelude.{ℕ, ℤ, List, [], ◌∷◌}

mutual
  pub data PlainValue : Type 0 where
    byte : ℕ → PlainValue
    short : ℕ → PlainValue
    signed_byte : ℤ → PlainValue
    signed_short : ℤ → PlainValue
    signed : ℤ → PlainValue
    signed_big : ℤ → PlainValue
    unsigned : ℕ → PlainValue
    unsigned_big : ℕ → PlainValue
    float : ℕ → PlainValue
    double : ℕ → PlainValue
    list : PlainValueList → PlainValue
    rational : ℕ → ℕ → PlainValue
    rational_big : ℕ → ℕ → PlainValue
    srational : ℤ → ℤ → PlainValue
    srational_big : ℤ → ℤ → PlainValue
    ascii : List ℕ → PlainValue
    ifd : ℕ → PlainValue
    ifd_big : ℕ → PlainValue

  pub data PlainValueList : Type 0 where
    none : PlainValueList
    more : PlainValue → PlainValueList → PlainValueList

abbrev pub plain_value_list_of : List PlainValue → PlainValueList
plain_value_list_of [] = none
plain_value_list_of (f ∷ fs) = more f (plain_value_list_of fs)
