use Rattle.std.proofs.Common.{arith}
use Rattle.std.proofs.lemmas.Option.{slice_get-get_or}
use Rattle.frame_marks.proofs.Writing.{one_written, all_written}
use Rattle.frame_marks.proofs.memories.collect_written.Goals as goal

pub actions-preserved : goal.actions-preserved
actions-preserved c =
    record {
      there = c.in_ok-write.ensures.there;
      written = one_written c.args.start.now c.args.actions.now c.actions.action-index _ (slice_get-get_or c.args.actions.now c.actions.action-index _ c.actions-test.true)
          c.actions.written.items c.write.new.written.items c.actions.invariant.written c.in_ok-write.ensures.written;
    }

pub returns-clause-written : goal.returns-clause-written
returns-clause-written c =
    all_written c.args.start.now c.args.actions.now c.actions.action-index (omega (arith, c.actions-test.false)) c.actions.written.items c.actions.invariant.written
