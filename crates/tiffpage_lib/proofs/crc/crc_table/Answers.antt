use Rattle.std.proofs.Common.{arith}
use Rattle.std.proofs.lemmas.Grind.{common_steps}
use Rattle.tiffpage_lib.proofs.crc.crc_table.Goals as goal

pub loop-byte-preserved : goal.loop-byte-preserved
loop-byte-preserved c = record {
  len = grind (arith, common_steps);
  done = λ k h. grind (arith, common_steps, c.loop-byte.invariant.done k);
}

pub returns : goal.returns
returns c = λ k h. c.loop-byte.invariant.done k (omega arith)
