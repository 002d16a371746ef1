use Rattle.std.proofs.Common.{◌≡◌, ℕ, ◌+◌, ◌-◌, ◌<◌, ◌≤◌, List, ◌++◌, length}
use Rattle.tiff_ifd.specs.IfdChainWalk.{ChainBegins}
use Rattle.tiff_ifd.proofs.walk.IfdChainWalk.offset_of.Given as goal

abbrev pub invariant-way : goal.invariant-way
invariant-way g l =
    let bytes = (g.R.Source.contents l.fn.source).bytes in
    record {
      same : g.R.Source.contents l.source ≡ g.R.Source.contents l.fn.source;
      failures : g.R.Source.failures l.source ≡ g.R.Source.failures l.fn.source;
      longer : (more : List ℕ) × (l.self.offsets ≡ l.fn.self.offsets ++ more);
      no_further : length l.fn.self.offsets ≤ l.index → length l.self.offsets ≤ l.index + 1;
      known : l.index < length l.fn.self.offsets → (l.self ≡ l.fn.self) × (l.source ≡ l.fn.source);
      begins : (first : ℕ) → ChainBegins l.kind l.order bytes first l.fn.self
          → ChainBegins l.kind l.order bytes first l.self;
    }

abbrev pub decreases-way : goal.decreases-way
decreases-way g l = l.index + 1 - length l.self.offsets
