use Rattle.std.proofs.Common.{◌<◌, List, Bool, [], length, get_or, sym, ap, subst, ◌∙◌}
use Rattle.chip_pass.specs.Chips.{ChipState}
use Rattle.cycle_sim.specs.Passes.{rows_of}
use Rattle.cycle_sim.specs.Values.{value_in}
use Rattle.cycle_sim.proofs.UnderWay.{chip_shown, net_shown, value_shown}
use Rattle.cycle_sim.proofs.machine.Machine.net.Goals as goal

pub table_of-requires : goal.table_of-requires
table_of-requires c =
    subst (λ (passes : List (ChipState Bool)). c.args.chip.place < length (rows_of passes)) (sym c.as_slice.ensures.value)
    (chip_shown _ _ _ c.self.inside.passes.items c.self.invariant.settled c.args.self.now c.self.view_is c.args.chip.place c.args.net.place c.requires.chip c.requires.net)

pub value_of-requires : goal.value_of-requires
value_of-requires c =
    subst (λ (table : List Bool). c.args.net.place < length table)
    (sym (c.table_of.ensures ∙ ap (λ (passes : List (ChipState Bool)). get_or (rows_of passes) c.args.chip.place []) c.as_slice.ensures.value))
    (net_shown _ _ _ c.self.inside.passes.items c.self.invariant.settled c.args.self.now c.self.view_is c.args.chip.place c.args.net.place c.requires.chip c.requires.net)

pub returns : goal.returns
returns c =
    c.value_of.ensures
    ∙ ap (λ table. value_in table c.args.net) (c.table_of.ensures ∙ ap (λ (passes : List (ChipState Bool)). get_or (rows_of passes) c.args.chip.place []) c.as_slice.ensures.value)
    ∙ value_shown _ _ _ c.self.inside.passes.items c.self.invariant.settled c.args.self.now c.self.view_is c.args.chip.place c.args.net.place c.requires.chip c.requires.net
