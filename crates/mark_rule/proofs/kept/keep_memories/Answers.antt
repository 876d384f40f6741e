-- One pair after the other is told.
use Rattle.std.proofs.Common.{◌<◌, length, get_or, arith}
use Rattle.std.proofs.lemmas.Option.{slice_get-get_or}
use Rattle.mark_rule.specs.Kept.{keeps_ports}
use Rattle.mark_rule.proofs.Telling.{tells_ports, tells_pair, tells_pairs}
use Rattle.mark_rule.proofs.kept.keep_memories.Goals as goal

pub each-preserved : goal.each-preserved
each-preserved c =
    let low : c.each.i < length c.args.entries.now = omega (arith, c.requires.count, c.each-test.true) in
    tells_pair keeps_ports c.args.memories.now c.args.entries.now c.each.i
    (get_or c.args.memories.now c.each.i c.index-memories-i.result)
    (get_or c.args.entries.now c.each.i c.index-entries-i.result)
    c.args.kept.now c.each.kept c.keep_ports.new.kept
    (slice_get-get_or c.args.memories.now c.each.i _ c.each-test.true)
    (slice_get-get_or c.args.entries.now c.each.i _ low)
    c.each.invariant
    (tells_ports (get_or c.args.memories.now c.each.i c.index-memories-i.result).reads c.as_slice.result.now
    (get_or c.args.entries.now c.each.i c.index-entries-i.result).kept c.as_slice-in-each.result.now c.each.kept c.keep_ports.new.kept
    c.as_slice.ensures c.as_slice-in-each.ensures c.keep_ports.ensures)

pub returns : goal.returns
returns c = tells_pairs keeps_ports c.args.memories.now c.args.entries.now c.each.i _ _ (omega (arith, c.each-test.false)) c.each.invariant
