-- One register after the other is marked.
use Rattle.std.proofs.Common.{◌≡◌, length, arith, false, None}
use Rattle.std.specs.Prelude.{zip}
use Rattle.shape_check.specs.Mapped.{keeps}
use Rattle.shape_check.proofs.Marking.{marks_all, marks_more, pair_at, pairs_length}
use Rattle.shape_check.proofs.mapped.mark_registers.Goals as goal

pub each-preserved : goal.each-preserved
each-preserved c =
    let all : length (zip c.args.registers.now c.args.kept.now) ≡ length c.args.registers.now = pairs_length c.args.registers.now c.args.kept.now c.requires in
    marks_more (keeps c.args.case.now.results c.args.chip.place) (zip c.args.registers.now c.args.kept.now) c.each.i _ _ c.each.table c.mark_register.new.table (omega (arith, all, c.each-test.true))
    (pair_at c.args.registers.now c.args.kept.now c.requires c.each.i (record { q = record { place = 0 }; d = None; enable = None }) false c.each-test.true)
    c.each.invariant c.mark_register.ensures

pub returns : goal.returns
returns c =
    let all : length (zip c.args.registers.now c.args.kept.now) ≡ length c.args.registers.now = pairs_length c.args.registers.now c.args.kept.now c.requires in
    marks_all (keeps c.args.case.now.results c.args.chip.place) (zip c.args.registers.now c.args.kept.now) c.each.i _ _ (omega (arith, all, c.each-test.false)) c.each.invariant
