-- The worked examples of `Value.Values` hold.
use Rattle.std.specs.Prelude.{[], ◌∷◌, refl}
use Rattle.std.proofs.Common.{lit≤}
use Rattle.tiff_base.specs.Blocks.{Literal}
use Rattle.test_definitions.specs.Value.Values as s

pub packs_one : s.packs_one
packs_one = record {
  fresh = refl;
  storable = refl;
  stored = 0 ∷ 9 ∷ [];
  stands = record {
    packs =
        record { blocks = Literal (9 ∷ []) ∷ []; are_blocks = ((lit≤ tt, lit≤ tt), tt); written = refl; is_list = refl; stands = refl };
    bound = lit≤ tt;
  };
  state = refl;
}

pub ruleset worked = (packs_one)
