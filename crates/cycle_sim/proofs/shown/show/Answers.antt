use Rattle.std.proofs.Common.{◌≡◌, ◌<◌, [], set, get_or, ap, sym, subst, ◌∙◌}
use Rattle.std.specs.Prelude.{None}
use Rattle.emu_machine.specs.declared.netlist.Chip.{Chip}
use Rattle.emu_machine.specs.Netlist.{gate_of}
use Rattle.cycle_sim.specs.Passes.{rows_of}
use Rattle.cycle_sim.proofs.Chips.{net_chip_low}
use Rattle.cycle_sim.proofs.Levels.{pass_near, near_put, rows_put}
use Rattle.cycle_sim.proofs.shown.show.Goals as goal

pub show_on-requires-clause-there : goal.show_on-requires-clause-there
show_on-requires-clause-there c =
    subst (λ (chip : Chip). c.args.net.place < chip.nets)
    (sym (pass_near c.args.results.now c.args.passes.now c.requires.passes c.args.chip.place c.place.result c.place.ensures (net_chip_low c.args.results.now.net c.args.chip.place c.args.net.place c.requires.free.low) c.index-passes-place.result).is)
    c.requires.free.low

pub show_on-requires-clause-free : goal.show_on-requires-clause-free
show_on-requires-clause-free c =
    subst (λ (chip : Chip). gate_of chip c.args.net.place ≡ None)
    (sym (pass_near c.args.results.now c.args.passes.now c.requires.passes c.args.chip.place c.place.result c.place.ensures (net_chip_low c.args.results.now.net c.args.chip.place c.args.net.place c.requires.free.low) c.index-passes-place.result).is)
    c.requires.free.free

pub show_on-requires-clause-others : goal.show_on-requires-clause-others
show_on-requires-clause-others c =
    (pass_near c.args.results.now c.args.passes.now c.requires.passes c.args.chip.place c.place.result c.place.ensures (net_chip_low c.args.results.now.net c.args.chip.place c.args.net.place c.requires.free.low) c.index-passes-place.result).others

pub returns-clause-passes : goal.returns-clause-passes
returns-clause-passes c =
    near_put c.args.results.now c.args.passes.now c.requires.passes c.args.chip.place c.place.result c.place.ensures (net_chip_low c.args.results.now.net c.args.chip.place c.args.net.place c.requires.free.low) c.index-passes-place.result
    c.show_on.new.pass c.show_on.ensures.chip c.show_on.ensures.stands c.show_on.ensures.others

pub returns-clause-shown : goal.returns-clause-shown
returns-clause-shown c =
    rows_put c.args.results.now c.args.passes.now c.requires.passes c.args.chip.place c.place.result c.place.ensures (net_chip_low c.args.results.now.net c.args.chip.place c.args.net.place c.requires.free.low) c.index-passes-place.result
    c.show_on.new.pass c.args.net.place _ (c.show_on.ensures.shown)
    ∙ ap (λ value. set (rows_of c.args.passes.now) c.args.chip.place (set (get_or (rows_of c.args.passes.now) c.args.chip.place []) c.args.net.place value)) c.held_at-value.ensures
