use Rattle.std.proofs.Common.{subst, sym}
use Rattle.std.specs.Prelude.{All, List}
use Rattle.std.proofs.lemmas.Option.{slice_get_within}
use Rattle.id_arena.specs.declared.keys.ChipNetId.{ChipNetId}
use Rattle.cycle_sim.specs.Standing.{CanTake}
use Rattle.cycle_sim.specs.Passes.{IsFree, BitsCatchUp, rows_of}
use Rattle.cycle_sim.proofs.CatchingUp.{free_q, free_bits, input_catches, load_catches, send_catches, read_catches}
use Rattle.cycle_sim.proofs.Levels.{chip_in_rows, net_in_rows}
use Rattle.cycle_sim.proofs.shown.show_one.Goals as goal

pub show-requires-clause-free : goal.show-requires-clause-free
show-requires-clause-free c =
    free_q c.args.results.now c.requires.chips c.in-Input.chip.place c.in-Input.register.place c.register_of.result c.register_of.ensures

pub show-requires-in-Load-clause-free : goal.show-requires-in-Load-clause-free
show-requires-in-Load-clause-free c =
    free_q c.args.results.now c.requires.chips c.in-Load.chip.place c.in-Load.register.place c.register_of-in-Load.result c.register_of-in-Load.ensures

pub ends_of-requires : goal.ends_of-requires
ends_of-requires c =
    let can = subst (CanTake c.args.results.now c.args.wires.now c.requires.action.0) c.in-Send.is c.requires.action.1 in
    slice_get_within c.args.wires.now c.in-Send.wire.place can.0 can.1

pub show-requires-in-Send-clause-free : goal.show-requires-in-Send-clause-free
show-requires-in-Send-clause-free c =
    free_q c.args.results.now c.requires.chips c.ends_of.result.to.place c.in-Send.register.place c.register_of-in-Send.result c.register_of-in-Send.ensures

pub show_bits-requires-clause-free : goal.show_bits-requires-clause-free
show_bits-requires-clause-free c =
    subst (λ (bits : List ChipNetId). All (λ (n : ChipNetId). IsFree c.args.results.now c.in-Read.chip.place n.place) bits) (sym c.as_slice.ensures)
    (free_bits c.args.results.now c.requires.chips c.in-Read.chip.place c.in-Read.mem.place c.in-Read.port c.read_port_of-port.result.now c.read_port_of-port.ensures)

pub returns-in-Input-clause-shown : goal.returns-in-Input-clause-shown
returns-in-Input-clause-shown c =
    input_catches c.args.results.now c.args.wires.now c.args.held.now (rows_of c.args.passes.now) (rows_of c.show.new.passes) c.in-Input.chip c.in-Input.register c.in-Input.net c.register_of.result c.register_of.ensures
    (chip_in_rows c.args.results.now c.args.passes.now c.requires.passes c.in-Input.chip.place c.register_of.result.q.place (free_q c.args.results.now c.requires.chips c.in-Input.chip.place c.in-Input.register.place c.register_of.result c.register_of.ensures).low)
    (net_in_rows c.args.results.now c.args.passes.now c.requires.passes c.in-Input.chip.place c.register_of.result.q.place (free_q c.args.results.now c.requires.chips c.in-Input.chip.place c.in-Input.register.place c.register_of.result c.register_of.ensures).low)
    c.show.ensures.shown c.args.action.now c.in-Input.is

pub returns-in-Load-clause-shown : goal.returns-in-Load-clause-shown
returns-in-Load-clause-shown c =
    load_catches c.args.results.now c.args.wires.now c.args.held.now (rows_of c.args.passes.now) (rows_of c.show-in-Load.new.passes) c.in-Load.chip c.in-Load.register c.register_of-in-Load.result c.register_of-in-Load.ensures
    (chip_in_rows c.args.results.now c.args.passes.now c.requires.passes c.in-Load.chip.place c.register_of-in-Load.result.q.place (free_q c.args.results.now c.requires.chips c.in-Load.chip.place c.in-Load.register.place c.register_of-in-Load.result c.register_of-in-Load.ensures).low)
    (net_in_rows c.args.results.now c.args.passes.now c.requires.passes c.in-Load.chip.place c.register_of-in-Load.result.q.place (free_q c.args.results.now c.requires.chips c.in-Load.chip.place c.in-Load.register.place c.register_of-in-Load.result c.register_of-in-Load.ensures).low)
    c.show-in-Load.ensures.shown c.args.action.now c.in-Load.is

pub returns-in-Send-clause-shown : goal.returns-in-Send-clause-shown
returns-in-Send-clause-shown c =
    send_catches c.args.results.now c.args.wires.now c.args.held.now (rows_of c.args.passes.now) (rows_of c.show-in-Send.new.passes) c.in-Send.wire c.in-Send.net c.in-Send.register c.ends_of.result c.ends_of.ensures c.register_of-in-Send.result c.register_of-in-Send.ensures
    (chip_in_rows c.args.results.now c.args.passes.now c.requires.passes c.ends_of.result.to.place c.register_of-in-Send.result.q.place (free_q c.args.results.now c.requires.chips c.ends_of.result.to.place c.in-Send.register.place c.register_of-in-Send.result c.register_of-in-Send.ensures).low)
    (net_in_rows c.args.results.now c.args.passes.now c.requires.passes c.ends_of.result.to.place c.register_of-in-Send.result.q.place (free_q c.args.results.now c.requires.chips c.ends_of.result.to.place c.in-Send.register.place c.register_of-in-Send.result c.register_of-in-Send.ensures).low)
    c.show-in-Send.ensures.shown c.args.action.now c.in-Send.is

pub returns-in-Read-clause-shown : goal.returns-in-Read-clause-shown
returns-in-Read-clause-shown c =
    read_catches c.args.results.now c.args.wires.now c.args.held.now (rows_of c.args.passes.now) (rows_of c.show_bits.new.passes) c.in-Read.chip c.in-Read.mem c.in-Read.port c.read_port_of-port.result.now c.read_port_of-port.ensures
    (subst (λ (bits : List ChipNetId). BitsCatchUp c.in-Read.chip.place bits c.args.held.now (rows_of c.args.passes.now) (rows_of c.show_bits.new.passes)) c.as_slice.ensures c.show_bits.ensures.shown)
    c.args.action.now c.in-Read.is
