-- One more bit is put in its place.
use Rattle.std.proofs.Common.{ℕ, ap, arith}
use Rattle.std.specs.Prelude.{slice_set}
use Rattle.settled_model.specs.Held.{shown, word_in}
use Rattle.settled_model.proofs.Clocking.{net_there, one_taken, all_taken}
use Rattle.settled_model.proofs.clocked.take_bits.Goals as goal

pub taken_value-requires-clause-there : goal.taken_value-requires-clause-there
taken_value-requires-clause-there c =
    net_there c.args.design.now c.args.clocked.now c.requires.clocked c.bits.net-index c.bits-test.true

pub bits-preserved : goal.bits-preserved
bits-preserved c =
    one_taken c.args.design.now c.args.clocked.now c.requires.clocked (word_in c.args.design.now c.args.words.now) (shown c.args.old.now) c.bits.net-index c.args.new.now c.bits.new c.bits.invariant c.bits-test.true
    _ c.taken_value.result c.requires.new_size c.taken_value.ensures
    (ap (λ (k : ℕ). slice_set c.bits.new k c.taken_value.result) c.place.ensures)

pub returns : goal.returns
returns c =
    all_taken c.args.design.now c.args.clocked.now (word_in c.args.design.now c.args.words.now) (shown c.args.old.now) c.bits.net-index c.args.new.now c.bits.new (omega (arith, c.bits-test.false)) c.bits.invariant
