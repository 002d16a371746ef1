use Rattle.std.proofs.Common.{◌≡◌, ◌++◌, Ok}
use Rattle.std.specs.Vec.Iter.{into_iter_items}
use Rattle.tiff_ifd.specs.PlainValue.{plain_value_list_of}
use Rattle.tiff_ifd.specs.Into as spec
use Rattle.tiff_base.specs.Answers.{◌>>=◌}
use Rattle.tiff_ifd.specs.View.{plain_values}
use Rattle.tiff_ifd.proofs.value.each_joined.Given as goal

abbrev pub invariant-loop-item : goal.invariant-loop-item
invariant-loop-item g l = record {
  can : (goal.iterator-loop-item g).can_next l.item-iterator;
  finite : (goal.iterator-loop-item g).is_finite l.item-iterator;
  rest : spec.each_joined g.T.AppendValue.numbers (plain_value_list_of (plain_values l.fn.list.items))
      ≡ (spec.each_joined g.T.AppendValue.numbers (plain_value_list_of (plain_values (into_iter_items l.item-iterator))) >>= (λ xs. Ok (l.all.items ++ xs)));
}
