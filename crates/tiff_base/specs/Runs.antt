-- PackBits: what a packed list unpacks to (TIFF 6.0 section 9).
use Rattle.std.specs.Prelude.{ℕ, zero, suc, ◌+◌, ◌-◌, Bool, if◌then◌else◌, ◌==◌, nat_lt, List, [], ◌∷◌, ◌++◌, take, replicate}

-- how a packed list ends: at the end of a block, or inside a block
pub data End : Type 0 where
  Plain : End
  Broken : End

-- the unpacked bytes, and how the packed list ends
pub record Unpacked : Type 0 where
  pub out : List ℕ
  pub end : End

-- the given bytes, followed by what the rest unpacks to
abbrev pub with_front : List ℕ → Unpacked → Unpacked
with_front bytes rest = record { out = bytes ++ rest.out; end = rest.end }

-- the next byte repeated n times, followed by the rest; without a next byte the list is broken
abbrev pub with_repeated : ℕ → List ℕ → Unpacked → Unpacked
with_repeated n [] rest = record { out = []; end = Broken }
with_repeated n (value ∷ packed) rest = with_front (replicate n value) rest

-- what a list unpacks to after its first n bytes, which are skipped. A header of 128 encodes
-- nothing. A header h below 128 encodes the h + 1 bytes that follow it. A header h above 128
-- encodes 257 - h copies of the byte that follows it. `early` says that the source ends before the
-- packed length does.
unfoldable pub runs_after : ℕ → Bool → List ℕ → Unpacked
runs_after (suc n) early [] = record { out = []; end = Plain }
runs_after (suc n) early (byte ∷ packed) = runs_after n early packed
runs_after zero early [] = record { out = []; end = if early then Broken else Plain }
runs_after zero early (header ∷ packed) =
    if header == 128 then runs_after zero early packed
    else if nat_lt header 128
    then with_front (take (header + 1) packed) (runs_after (header + 1) early packed)
    else with_repeated (257 - header) packed (runs_after 1 early packed)

-- what a packed list unpacks to
abbrev pub runs : Bool → List ℕ → Unpacked
runs early packed = runs_after zero early packed
