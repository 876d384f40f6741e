use Rattle.std.proofs.Common.{◌≡◌, ◌<◌, ◌≤◌, ℕ, List, length, get_or, subst, ap, ◌∙◌, arith}
use Rattle.std.specs.Prelude.{Some, slice_get}
use Rattle.std.proofs.lemmas.Option.{slice_get-get_or}
use Rattle.id_arena.specs.declared.keys.ChipId.{ChipId}
use Rattle.chip_pass.specs.Chips.{ChipState, ChipHasSettled, ChipOthersWait}
use Rattle.mark_rule.specs.Gates.{gate_gives}
use Rattle.emu_machine.specs.declared.netlist.EmuGate.{EmuGate}
use Rattle.emu_machine.specs.Marks.{Mark, no_mark}
use Rattle.frame_marks.proofs.Passing.{one_settled, all_settled}
use Rattle.frame_marks.proofs.chips.settle_all.Goals as goal

pub chips-preserved : goal.chips-preserved
chips-preserved g c =
    let low : c.chips.c < length c.chips.chips = omega (arith, c.chips-test.true, c.chips.invariant.tables.count, c.requires.tables.count, c.chips.auto.c-end) in
    let s : ChipState Mark = get_or c.chips.chips c.chips.c c.index-chips-c.result in
    let at : slice_get c.chips.chips c.chips.c ≡ Some s = slice_get-get_or c.chips.chips c.chips.c c.index-chips-c.result low in
    let same : gate_gives c.new-rule.result.design c.new-rule.result.results (g.I.Inside.inside c.new-rule.result.inside) c.new-rule.result.chip
    ≡ gate_gives c.args.plan.design.now c.args.plan.results.now (g.I.Inside.inside c.args.inside.now) c.chips.c =
    ap (λ rule. gate_gives rule.design rule.results (g.I.Inside.inside rule.inside) rule.chip) c.new-rule.ensures
    ∙ ap (λ (k : ℕ). gate_gives c.args.plan.design.now c.args.plan.results.now (g.I.Inside.inside c.args.inside.now) k) (ap (λ (id : ChipId). id.place) c.of.ensures) in
    one_settled c.args.plan.design.now c.args.plan.results.now (g.I.Inside.inside c.args.inside.now) c.args.chips.now c.chips.c c.chips.chips c.chips.invariant s c.settle_counted.new.self at
    (subst (λ (gives : EmuGate → List Mark → Mark). ChipHasSettled gives no_mark s c.settle_counted.new.self) same c.settle_counted.ensures.settled)
    (subst (λ (gives : EmuGate → List Mark → Mark). ChipOthersWait gives no_mark c.settle_counted.new.self) same c.settle_counted.ensures.others)

pub returns-clause-settled : goal.returns-clause-settled
returns-clause-settled g c =
    let whole : length c.args.plan.results.now.net ≤ c.chips.c = omega (arith, c.chips-test.false, c.requires.tables.count) in
    all_settled c.args.plan.design.now c.args.plan.results.now (g.I.Inside.inside c.args.inside.now) c.args.chips.now c.chips.c c.chips.chips whole c.chips.invariant
