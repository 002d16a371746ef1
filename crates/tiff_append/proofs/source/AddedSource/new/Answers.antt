use Rattle.std.proofs.Common.{arith}
use Rattle.tiff_append.proofs.Added.{length_short, octets_added}
use Rattle.tiff_append.proofs.source.AddedSource.new.Goals as goal

pub invariant_of-result : goal.invariant_of-result
invariant_of-result c = record {
  within = c.requires.within;
  offsets =
      length_short c.args.file.now c.args.at c.args.link.now c.args.more.now c.requires.within c.requires.short;
  octets =
      octets_added c.args.file.now c.args.at c.args.link.now c.args.more.now
      (λ k. omega (arith, c.type_inv.file k)) (λ k. omega (arith, c.type_inv.link k))
      (λ k. omega (arith, c.type_inv.more k));
}
