use Rattle.std.proofs.Common.{◌≡◌, ◌<◌, ℕ, length, get_or, ap, ◌∙◌, arith}
use Rattle.std.specs.Prelude.{Some, slice_get}
use Rattle.std.proofs.lemmas.Option.{slice_get-get_or}
use Rattle.id_arena.specs.declared.keys.ChipNetId.{ChipNetId}
use Rattle.chip_pass.specs.Chips.{ChipState}
use Rattle.mark_rule.specs.Gates.{gate_gives}
use Rattle.emu_machine.specs.Mapped.{subject}
use Rattle.emu_machine.specs.Marks.{Mark, widened}
use Rattle.frame_marks.proofs.Numbers.{net_chip_low}
use Rattle.frame_marks.proofs.Passing.{others_set}
use Rattle.frame_marks.proofs.Putting.{taken_as, put_tables, put_marks}
use Rattle.frame_marks.proofs.chips.put.Goals as goal

pub returns-clause-tables : goal.returns-clause-tables
returns-clause-tables g c =
    let here : c.args.one.chip.place < length c.args.plan.results.now.net = net_chip_low c.args.plan.results.now.net c.args.one.chip.place c.args.one.place c.requires.free.low in
    let low : c.args.one.chip.place < length c.args.chips.now = omega (arith, here, c.requires.tables.count) in
    let s : ChipState Mark = get_or c.args.chips.now c.args.one.chip.place c.index-chips-one.result in
    let at : slice_get c.args.chips.now c.args.one.chip.place ≡ Some s = slice_get-get_or c.args.chips.now c.args.one.chip.place c.index-chips-one.result low in
    let net : c.of-net.result.place ≡ c.args.one.place = ap (λ (id : ChipNetId). id.place) c.of-net.ensures in
    let value : c.widen-marks.result ≡ widened (g.I.Inside.inside c.args.inside.now) (subject c.args.plan.results.now c.args.one.chip.place c.args.one.place) c.args.one.what =
    c.widen-marks.ensures ∙ ap (λ o. widened (g.I.Inside.inside c.args.inside.now) o c.args.one.what) (c.subject_of.ensures ∙ ap (λ (n : ℕ). subject c.args.plan.results.now c.args.one.chip.place n) net) in
    put_tables c.args.plan.results.now (g.I.Inside.inside c.args.inside.now) c.args.chips.now c.requires.tables c.args.one s c.set.new.self at c.requires.free.low c.set.ensures.chip
    (taken_as c.args.one.place c.of-net.result.place _ c.widen-marks.result s.pass c.set.new.self.pass net value c.set.ensures.taken)

pub returns-clause-others : goal.returns-clause-others
returns-clause-others g c =
    let here : c.args.one.chip.place < length c.args.plan.results.now.net = net_chip_low c.args.plan.results.now.net c.args.one.chip.place c.args.one.place c.requires.free.low in
    let low : c.args.one.chip.place < length c.args.chips.now = omega (arith, here, c.requires.tables.count) in
    let s : ChipState Mark = get_or c.args.chips.now c.args.one.chip.place c.index-chips-one.result in
    let at : slice_get c.args.chips.now c.args.one.chip.place ≡ Some s = slice_get-get_or c.args.chips.now c.args.one.chip.place c.index-chips-one.result low in
    others_set c.args.plan.results.now c.args.chips.now c.requires.tables c.args.one.chip.place s c.set.new.self at c.args.plan.design.now (g.I.Inside.inside c.args.inside.now)
    (c.set.ensures.others (gate_gives c.args.plan.design.now c.args.plan.results.now (g.I.Inside.inside c.args.inside.now) c.args.one.chip.place) (c.requires.others c.args.one.chip.place s at))
    c.requires.others

pub returns-clause-put : goal.returns-clause-put
returns-clause-put g c =
    let here : c.args.one.chip.place < length c.args.plan.results.now.net = net_chip_low c.args.plan.results.now.net c.args.one.chip.place c.args.one.place c.requires.free.low in
    let low : c.args.one.chip.place < length c.args.chips.now = omega (arith, here, c.requires.tables.count) in
    let s : ChipState Mark = get_or c.args.chips.now c.args.one.chip.place c.index-chips-one.result in
    let at : slice_get c.args.chips.now c.args.one.chip.place ≡ Some s = slice_get-get_or c.args.chips.now c.args.one.chip.place c.index-chips-one.result low in
    let net : c.of-net.result.place ≡ c.args.one.place = ap (λ (id : ChipNetId). id.place) c.of-net.ensures in
    let value : c.widen-marks.result ≡ widened (g.I.Inside.inside c.args.inside.now) (subject c.args.plan.results.now c.args.one.chip.place c.args.one.place) c.args.one.what =
    c.widen-marks.ensures ∙ ap (λ o. widened (g.I.Inside.inside c.args.inside.now) o c.args.one.what) (c.subject_of.ensures ∙ ap (λ (n : ℕ). subject c.args.plan.results.now c.args.one.chip.place n) net) in
    put_marks c.args.plan.results.now (g.I.Inside.inside c.args.inside.now) c.args.chips.now c.requires.tables c.args.one s c.set.new.self at c.requires.free.low c.set.ensures.chip
    (taken_as c.args.one.place c.of-net.result.place _ c.widen-marks.result s.pass c.set.new.self.pass net value c.set.ensures.taken)
