use Rattle.std.proofs.Common.{rules, ◌++◌, ◌+◌, drop}
use Rattle.std.specs.Prelude.{flat_map}
use Rattle.cell_parts.specs.Wires.{new_names, tied_by}
use Rattle.cell_parts.proofs.Pairs.{gather_end, gather_next, tied_at, tied_end}
use Rattle.cell_parts.proofs.names.push_new_names.Goals as goal

pub pins-preserved : goal.pins-preserved
pins-preserved c =
    let all = tied_by c.args.pins.now c.args.ties.now in
    gather_next (new_names c.args.scope) (drop c.pins.place all) (drop (c.pins.place + 1) all) (record { pin = c.pin-item.result; tie = c.get.result.now }) c.pins.out c.push_pin_names.new.out (c.args.out.now ++ flat_map (new_names c.args.scope) all)
    (tied_at c.as_slice-pin-items.result.now c.args.pins.now c.args.ties.now c.pins.place c.pin-item.result c.get.result.now c.as_slice-pin-items.ensures c.pins-test.true c.pin-item.is c.get.ensures)
    (search rules) c.pins.invariant

pub returns : goal.returns
returns c =
    let all = tied_by c.args.pins.now c.args.ties.now in
    gather_end (new_names c.args.scope) (drop c.pins.place all) c.pins.out (c.args.out.now ++ flat_map (new_names c.args.scope) all)
    (tied_end c.as_slice-pin-items.result.now c.args.pins.now c.args.ties.now c.pins.place c.as_slice-pin-items.ensures c.pins-test.false) c.pins.invariant
