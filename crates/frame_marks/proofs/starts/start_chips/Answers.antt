use Rattle.std.proofs.Common.{◌≡◌, ◌<◌, ◌≤◌, ℕ, length, get_or, subst, ap, arith}
use Rattle.std.specs.Prelude.{Some, slice_get}
use Rattle.std.proofs.lemmas.Option.{slice_get-get_or}
use Rattle.id_arena.specs.declared.keys.ChipId.{ChipId}
use Rattle.chip_pass.specs.Chips.{ChipState, ChipOthersWait}
use Rattle.mark_rule.specs.Gates.{gate_gives}
use Rattle.emu_machine.specs.Marks.{Mark, no_mark}
use Rattle.frame_marks.specs.Starts.{ChipHasStarted}
use Rattle.frame_marks.proofs.Starting.{one_started, all_started}
use Rattle.frame_marks.proofs.starts.start_chips.Goals as goal

pub chips-preserved : goal.chips-preserved
chips-preserved g c =
    let low : c.chips.c < length c.chips.chips = omega (arith, c.chips-test.true, c.chips.invariant.tables.count, c.requires.tables.count, c.chips.auto.c-end) in
    let s : ChipState Mark = get_or c.chips.chips c.chips.c c.index-chips-c.result in
    let at : slice_get c.chips.chips c.chips.c ≡ Some s = slice_get-get_or c.chips.chips c.chips.c c.index-chips-c.result low in
    let place : c.of.result.place ≡ c.chips.c = ap (λ (id : ChipId). id.place) c.of.ensures in
    one_started c.args.plan.design.now c.args.plan.results.now (g.I.Inside.inside c.args.inside.now) c.chips.c c.chips.chips c.chips.invariant s c.start_chip.new.pass at
    c.start_chip.ensures.chip c.start_chip.ensures.pass
    (subst (λ (k : ℕ). ChipOthersWait (gate_gives c.args.plan.design.now c.args.plan.results.now (g.I.Inside.inside c.args.inside.now) k) no_mark c.start_chip.new.pass) place c.start_chip.ensures.others)
    (subst (λ (k : ℕ). ChipHasStarted c.args.plan.results.now (g.I.Inside.inside c.args.inside.now) k c.start_chip.new.pass) place c.start_chip.ensures.started)

pub returns-clause-others : goal.returns-clause-others
returns-clause-others g c =
    let whole : length c.chips.chips ≤ c.chips.c = omega (arith, c.chips-test.false, c.chips.invariant.tables.count, c.requires.tables.count) in
    let done = all_started c.args.plan.design.now c.args.plan.results.now (g.I.Inside.inside c.args.inside.now) c.chips.c c.chips.chips whole c.chips.invariant in
    done.0

pub returns-clause-started : goal.returns-clause-started
returns-clause-started g c =
    let whole : length c.chips.chips ≤ c.chips.c = omega (arith, c.chips-test.false, c.chips.invariant.tables.count, c.requires.tables.count) in
    let done = all_started c.args.plan.design.now c.args.plan.results.now (g.I.Inside.inside c.args.inside.now) c.chips.c c.chips.chips whole c.chips.invariant in
    done.1
