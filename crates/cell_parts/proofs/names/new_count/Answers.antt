use Rattle.std.proofs.Common.{rules, ◌≡◌, ◌+◌, ap, arith, drop}
use Rattle.cell_parts.specs.Wires.{new_count, tied_by}
use Rattle.cell_parts.proofs.Pairs.{count_next, tied_at, tied_end}
use Rattle.cell_parts.proofs.names.new_count.Goals as goal

pub pins-preserved : goal.pins-preserved
pins-preserved c =
    let all = tied_by c.args.pins.now c.args.ties.now in
    count_next (drop c.pins.place all) (drop (c.pins.place + 1) all) (record { pin = c.pin-item.result; tie = c.get.result.now }) (new_count all) c.pins.count c.from-count.result c.pins.place
    (tied_at c.as_slice-pin-items.result.now c.args.pins.now c.args.ties.now c.pins.place c.pin-item.result c.get.result.now c.as_slice-pin-items.ensures c.pins-test.true c.pin-item.is c.get.ensures)
    (search rules) (search rules) c.pins.invariant

pub returns : goal.returns
returns c =
    let none = tied_end c.as_slice-pin-items.result.now c.args.pins.now c.args.ties.now c.pins.place c.as_slice-pin-items.ensures c.pins-test.false in
    let zero : new_count (drop c.pins.place (tied_by c.args.pins.now c.args.ties.now)) ≡ 0 = ap new_count none in
    omega (arith, zero, c.pins.invariant.0)
