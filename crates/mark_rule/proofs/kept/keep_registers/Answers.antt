-- One pair after the other is told.
use Rattle.std.proofs.Common.{◌<◌, length, get_or, arith, false, None}
use Rattle.std.proofs.lemmas.Option.{slice_get-get_or}
use Rattle.mark_rule.specs.Kept.{keeps_q}
use Rattle.mark_rule.proofs.Telling.{tells_pair, tells_pairs}
use Rattle.mark_rule.proofs.kept.keep_registers.Goals as goal

pub each-preserved : goal.each-preserved
each-preserved c =
    let low : c.each.i < length c.args.are_kept.now = omega (arith, c.requires, c.each-test.true) in
    tells_pair keeps_q c.args.registers.now c.args.are_kept.now c.each.i
    (get_or c.args.registers.now c.each.i (record { q = record { place = 0 }; d = None; enable = None }))
    (get_or c.args.are_kept.now c.each.i false)
    c.args.kept.now c.each.kept c.keep_register.new.kept
    (slice_get-get_or c.args.registers.now c.each.i _ c.each-test.true)
    (slice_get-get_or c.args.are_kept.now c.each.i _ low)
    c.each.invariant
    c.keep_register.ensures

pub returns : goal.returns
returns c = tells_pairs keeps_q c.args.registers.now c.args.are_kept.now c.each.i _ _ (omega (arith, c.each-test.false)) c.each.invariant
