-- No chip has so many registers and memories that their numbers would not fit.
use Rattle.std.proofs.Common.{◌≤◌, length, arith, refl}
use Rattle.std.proofs.lemmas.Option.{slice_get_read}
use Rattle.use_check.specs.Uses.{parts_in}
use Rattle.use_check.proofs.Numbering.{item_few, start_low}
use Rattle.use_check.proofs.judged.number_parts.Goals as goal

pub overflow_add-total : goal.overflow_add-total
overflow_add-total c =
    let few : parts_in c.chip-item.result ≤ 8589934588 =
    item_few c.args.chips.now c.requires.built c.each.chip-index c.chip-item.result
    (slice_get_read c.args.chips.now (length c.args.chips.now) c.each.chip-index c.chip-item.result refl c.each-test.true c.chip-item.is)
    in
    omega (arith, few, c.len.ensures, c.len-in-each.ensures)

pub overflow_add-total-in-each : goal.overflow_add-total-in-each
overflow_add-total-in-each c =
    let few : parts_in c.chip-item.result ≤ 8589934588 =
    item_few c.args.chips.now c.requires.built c.each.chip-index c.chip-item.result
    (slice_get_read c.args.chips.now (length c.args.chips.now) c.each.chip-index c.chip-item.result refl c.each-test.true c.chip-item.is)
    in
    omega (
      arith,
      few,
      c.len.ensures,
      c.len-in-each.ensures,
      c.each.invariant.total,
      start_low c.args.chips.now c.requires.built c.requires.few c.each.chip-index (omega (arith, c.each-test.true)),
    )
