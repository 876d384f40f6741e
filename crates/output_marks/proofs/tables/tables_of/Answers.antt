-- One chip after the other has its table.
use Rattle.std.proofs.Common.{◌≡◌, ◌∙◌, ap}
use Rattle.std.specs.Prelude.{Some, slice_get}
use Rattle.output_marks.proofs.Counts.{counted_more}
use Rattle.output_marks.proofs.OfChips.{first_more, no_cycle_here, shown_chip}
use Rattle.output_marks.proofs.tables.tables_of.Goals as goal

pub table_of-requires-clause-no_cycle : goal.table_of-requires-clause-no_cycle
table_of-requires-clause-no_cycle g c =
    no_cycle_here c.args.results.now.net c.requires c.chips.c c.index-chips-c.result
    (shown_chip c.args.results.now.net _ c.chips.c c.index-chips-c.result (c.as_slice-chips.ensures ∙ c.chips-2.ensures ∙ c.net.ensures) c.chips-test.true c.index-chips-c.is)

pub chips-preserved : goal.chips-preserved
chips-preserved g c =
    let at : slice_get c.args.results.now.net c.chips.c ≡ Some c.index-chips-c.result =
    shown_chip c.args.results.now.net _ c.chips.c c.index-chips-c.result (c.as_slice-chips.ensures ∙ c.chips-2.ensures ∙ c.net.ensures) c.chips-test.true c.index-chips-c.is in
    record {
      shown = first_more c.args.design.now c.args.results.now c.chips.c _ c.chips.tables c.push.new.self _ c.chips.invariant.shown (ap (λ x. x.place) c.of-chip.ensures) c.in_ok-table.ensures.shown c.in_ok-push.ensures.ok;
      counted = counted_more c.args.results.now.net c.chips.c c.index-chips-c.result c.chips.steps c.table_of.new.steps _ at c.in_ok-table.ensures.counted c.chips.invariant.counted;
    }
