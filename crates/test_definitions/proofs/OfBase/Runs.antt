-- The worked examples of `Base.Runs` hold.
use Rattle.std.specs.Prelude.{refl}
use Rattle.std.proofs.Common.{arith}
use Rattle.std.specs.Prelude.{[], ◌∷◌}
use Rattle.tiff_base.specs.Blocks.{Nothing, Literal, Repeated, Empty, Short, Headless}
use Rattle.test_definitions.specs.Base.Runs as s

pub three_blocks : s.three_blocks
three_blocks = record {
  blocks = Repeated 3 0xaa ∷ Nothing ∷ Literal (0x80 ∷ 0x00 ∷ 0x2a ∷ []) ∷ [];
  are_blocks = ((omega arith, omega arith), (tt, ((omega arith, omega arith), tt)));
  rest = Empty;
  is_rest = tt;
  list = refl;
  gives = refl;
  ends = refl;
}

pub short_block : s.short_block
short_block = record {
  blocks = [];
  are_blocks = tt;
  rest = Short 3 (0x01 ∷ 0x02 ∷ []);
  is_rest = (omega arith, omega arith);
  list = refl;
  gives = refl;
  ends = refl;
}

pub bare_block : s.bare_block
bare_block = record {
  blocks = [];
  are_blocks = tt;
  rest = Short 0 [];
  is_rest = (omega arith, omega arith);
  list = refl;
  gives = refl;
  ends = refl;
}

pub headless_128 : s.headless_128
headless_128 = record {
  blocks = [];
  are_blocks = tt;
  rest = Headless 128;
  is_rest = (omega arith, omega arith);
  list = refl;
  gives = refl;
  ends = refl;
}

pub headless_2 : s.headless_2
headless_2 = record {
  blocks = [];
  are_blocks = tt;
  rest = Headless 2;
  is_rest = (omega arith, omega arith);
  list = refl;
  gives = refl;
  ends = refl;
}

pub empty_early : s.empty_early
empty_early =
    record { blocks = []; are_blocks = tt; rest = Empty; is_rest = tt; list = refl; gives = refl; ends = refl }

pub empty_whole : s.empty_whole
empty_whole =
    record { blocks = []; are_blocks = tt; rest = Empty; is_rest = tt; list = refl; gives = refl; ends = refl }

pub ruleset worked =
    (three_blocks, short_block, bare_block, headless_128, headless_2, empty_early, empty_whole)
