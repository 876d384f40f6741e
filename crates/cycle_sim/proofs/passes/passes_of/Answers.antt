use Rattle.std.proofs.Common.{◌≡◌, ◌<◌, [], length, sym, subst, ◌∙◌, arith}
use Rattle.std.proofs.lemmas.List.{get_or_default}
use Rattle.emu_machine.specs.declared.netlist.Chip.{Chip}
use Rattle.emu_machine.specs.Netlist.{IsOnCycle}
use Rattle.cycle_sim.proofs.Chips.{chip_is}
use Rattle.cycle_sim.proofs.Levels.{one_pass, all_passes, all_level}
use Rattle.cycle_sim.proofs.passes.passes_of.Goals as goal

pub pass_of-requires-clause-driven : goal.pass_of-requires-clause-driven
pass_of-requires-clause-driven c = c.requires.driven c.chips.c c.chip_of.result.now c.chip_of.ensures

pub pass_of-requires-clause-no_cycle : goal.pass_of-requires-clause-no_cycle
pass_of-requires-clause-no_cycle c k cycle =
    c.requires.no_cycle c.chips.c k (subst (λ (chip : Chip). IsOnCycle chip k) (sym (chip_is c.args.results.now.net c.chips.c c.chip_of.result.now c.chip_of.ensures)) cycle)

pub chips-preserved : goal.chips-preserved
chips-preserved c =
    let low : c.chips.c < length c.args.held.now = omega (arith, c.chips-test.true, c.chips.auto.c-end) in
    one_pass c.args.results.now c.args.held.now c.chips.c c.chips.passes.items c.chip_of.result.now c.chip_of.ensures
    c.as_slice.result.now (c.as_slice.ensures ∙ c.index-held-c.is ∙ get_or_default c.args.held.now c.chips.c c.index-held-c.result [] low) c.in_ok-pass_of.field-0 c.in_ok-pass_of.ensures c.push.new.self.items c.in_ok-push.ensures.items c.chips.invariant

pub returns-clause-passes : goal.returns-clause-passes
returns-clause-passes c =
    let whole : length c.args.results.now.net ≡ c.chips.c = omega (arith, c.chips-test.false, c.chips.auto.c-end, c.requires.held.count) in
    all_passes c.args.results.now c.args.held.now c.chips.c c.chips.passes.items whole c.chips.invariant

pub returns-clause-level : goal.returns-clause-level
returns-clause-level c =
    let whole : length c.args.results.now.net ≡ c.chips.c = omega (arith, c.chips-test.false, c.chips.auto.c-end, c.requires.held.count) in
    all_level c.args.results.now c.args.held.now c.chips.c c.chips.passes.items whole c.chips.invariant
