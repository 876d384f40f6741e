-- What is kept has "before", and a pass tells to which nets it comes.
use Rattle.std.proofs.Common.{◌∙◌, map, ap, sym, subst}
use Rattle.std.specs.Prelude.{replicate}
use Rattle.emu_machine.specs.Marks.{Mark, no_mark}
use Rattle.chip_pass.specs.Chips.{ChipHasSettled}
use Rattle.mark_rule.specs.Gates.{OutputRule, plain_gives}
use Rattle.output_marks.proofs.Counts.{few_steps}
use Rattle.output_marks.proofs.OfChips.{chip_is, driven_here, kept_free}
use Rattle.output_marks.proofs.Through.{table_shown}
use Rattle.output_marks.proofs.tables.table_of.Goals as goal

pub new-requires-clause-driven : goal.new-requires-clause-driven
new-requires-clause-driven g c = driven_here c.args.results.now c.stand.ensures.netlist c.args.chip.place c.args.netlist.now c.requires.here

pub put_kept-requires-clause-free : goal.put_kept-requires-clause-free
put_kept-requires-clause-free g c =
    kept_free c.args.results.now c.stand.ensures.netlist c.args.chip.place c.args.netlist.now c.requires.here c.in_ok-kept.kept c.in_ok-pass.pass.chip c.in_ok-kept.ensures c.in_ok-pass.ensures.chip

pub settle_counted-requires-clause-others : goal.settle_counted-requires-clause-others
settle_counted-requires-clause-others g c =
    let gives = plain_gives c.new-2.result.design c.new-2.result.results c.new-2.result.chip in
    c.put_kept.ensures.wait gives (c.in_ok-pass.ensures.others gives)

pub returns-clause-shown : goal.returns-clause-shown
returns-clause-shown g c =
    let is = chip_is c.args.results.now.net c.args.chip.place c.args.netlist.now c.requires.here in
    table_shown c.args.design.now c.args.results.now c.stand.ensures.netlist c.args.chip.place c.in_ok-kept.kept c.in_ok-kept.ensures
    c.in_ok-pass.pass c.put_kept.new.pass c.settle_counted.new.self c.args.netlist.now.nets
    (c.in_ok-pass.ensures.chip ∙ sym is)
    (c.in_ok-pass.ensures.values ∙ ap (replicate c.args.netlist.now.nets) c.none.ensures)
    (ap (λ chip. chip.nets) (sym is))
    c.put_kept.ensures
    (subst
    (λ (rule : OutputRule). ChipHasSettled (plain_gives rule.design rule.results rule.chip) no_mark c.put_kept.new.pass c.settle_counted.new.self)
    c.new-2.ensures
    c.settle_counted.ensures.settled)
    c.in_ok-table.table
    (c.in_ok-table.ensures ∙ ap (map (λ (m : Mark). m.before)) c.values.ensures.values)

pub returns-clause-counted : goal.returns-clause-counted
returns-clause-counted g c =
    few_steps c.put_kept.new.pass c.settle_counted.new.self c.args.netlist.now _ c.settle_counted.new.steps c.stands.ensures (c.put_kept.ensures.chip ∙ c.in_ok-pass.ensures.chip) c.settle_counted.ensures.counted

pub returns-in_err-table-clause-counted : goal.returns-in_err-table-clause-counted
returns-in_err-table-clause-counted g c =
    few_steps c.put_kept.new.pass c.settle_counted.new.self c.args.netlist.now _ c.settle_counted.new.steps c.stands.ensures (c.put_kept.ensures.chip ∙ c.in_ok-pass.ensures.chip) c.settle_counted.ensures.counted
