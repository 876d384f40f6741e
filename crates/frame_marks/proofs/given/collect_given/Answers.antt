use Rattle.std.proofs.Common.{arith}
use Rattle.std.proofs.lemmas.Option.{slice_get-get_or}
use Rattle.frame_marks.proofs.Giving.{one_given, all_given}
use Rattle.frame_marks.proofs.given.collect_given.Goals as goal

pub actions-preserved : goal.actions-preserved
actions-preserved c =
    record {
      free = c.in_ok-give.ensures.free;
      given = one_given c.args.start.now c.args.actions.now c.actions.action-index _ (slice_get-get_or c.args.actions.now c.actions.action-index _ c.actions-test.true)
          c.actions.given.items c.give.new.given.items c.actions.invariant.given c.in_ok-give.ensures.given;
    }

pub returns-clause-given : goal.returns-clause-given
returns-clause-given c =
    all_given c.args.start.now c.args.actions.now c.actions.action-index (omega (arith, c.actions-test.false)) c.actions.given.items c.actions.invariant.given
