use Rattle.std.proofs.Common.{ℕ, ◌^◌, length, subst, arith}
use Rattle.tiff_page.specs.lemmas.Rows.{number_before, number_within, some_size}
use Rattle.tiff_rewrite.specs.StoredNumbers.{place_of, plain_number, stored_by, PutsNumber}
use Rattle.tiff_rewrite.proofs.NumberPlaces.{done_more, kept_more}
use Rattle.tiff_rewrite.proofs.numbers.SampleRow.put_into.Goals as goal

pub loop-n-preserved : goal.loop-n-preserved
loop-n-preserved c =
    let s = c.args.self.now in
    let value : ℕ → ℕ =
    stored_by s.predictor (256 ^ s.size) s.shown (plain_number s.meaning s.size s.samples.now) in
    let put : PutsNumber c.args.order s.size (place_of s.shown c.args.stored c.loop-n.n)
    (value c.loop-n.n) c.loop-n.row c.put_number.new.row =
    subst (λ (v : ℕ). PutsNumber c.args.order s.size (place_of s.shown c.args.stored c.loop-n.n) v c.loop-n.row c.put_number.new.row) c.stored_number-number.ensures.value c.put_number.ensures in
    record {
      done =
          done_more c.args.order s.size s.shown c.args.stored value c.loop-n.n c.loop-n.row c.put_number.new.row (some_size s.size c.requires.size) c.requires.some c.requires.stored put c.loop-n.invariant.done;
      kept =
          kept_more c.args.order s.size s.shown c.args.stored value c.loop-n.n c.loop-n.row c.put_number.new.row (some_size s.size c.requires.size) c.requires.some c.requires.stored put c.args.row.now c.loop-n.invariant.kept;
    }

pub returns-clause-numbers : goal.returns-clause-numbers
returns-clause-numbers c =
    λ n h. c.loop-n.invariant.done n (omega (arith, number_before n c.args.self.now.size (length c.args.self.now.samples.now) (some_size c.args.self.now.size c.requires.size) h, c.loop-n-test.false))

pub returns-clause-others : goal.returns-clause-others
returns-clause-others c =
    λ b f. c.loop-n.invariant.kept b (λ n l e. f n (number_within n c.args.self.now.size (length c.args.self.now.samples.now) (omega (arith, l, c.loop-n.auto.n-end))) e)
