use Rattle.std.proofs.Common.{◌<◌, ℕ, length, subst, ap, ◌∙◌, arith}
use Rattle.id_arena.specs.declared.keys.ChipId.{ChipId}
use Rattle.frame_marks.specs.Starts.{RowHasStarted}
use Rattle.frame_marks.proofs.Starting.{row_here, row_few, one_begun}
use Rattle.frame_marks.proofs.starts.start_memories.Goals as goal

pub start_row-requires : goal.start_row-requires
start_row-requires g c =
    let low : c.chips.c < length c.args.plan.results.now.net = omega (arith, c.chips-test.true, c.chips.invariant.tables.count, c.requires.count, c.chips.auto.c-end) in
    row_few c.args.plan.results.now c.chips.memories c.chips.invariant.tables c.chips.c _ low c.stand.ensures.netlist

pub chips-preserved : goal.chips-preserved
chips-preserved g c =
    let low : c.chips.c < length c.args.plan.results.now.net = omega (arith, c.chips-test.true, c.chips.invariant.tables.count, c.requires.count, c.chips.auto.c-end) in
    one_begun c.args.plan.design.now c.args.plan.results.now (g.I.Inside.inside c.args.inside.now) c.chips.c c.chips.memories c.chips.invariant c.start_row.new.row low
    (c.start_row.ensures.size ∙ ap length (row_here c.args.plan.results.now c.chips.memories c.chips.invariant.tables c.chips.c _ low))
    (subst (λ (k : ℕ). RowHasStarted c.args.plan.design.now c.args.plan.results.now (g.I.Inside.inside c.args.inside.now) k c.start_row.new.row)
    (ap (λ (id : ChipId). id.place) c.of.ensures) c.start_row.ensures.started)
