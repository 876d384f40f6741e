use Rattle.std.proofs.Common.{◌<◌, ◌≤◌, ◌^◌, ℕ, false, List, [], length, get_or, refl, sym, ap, subst, ◌∙◌}
use Rattle.std.specs.Prelude.{All}
use Rattle.id_arena.specs.declared.keys.ChipNetId.{ChipNetId}
use Rattle.design_core.specs.Operation.{number}
use Rattle.emu_machine.specs.Netlist.{chip_at}
use Rattle.cycle_sim.specs.Standing.{IsThere}
use Rattle.cycle_sim.specs.Tables.{HaveSizes}
use Rattle.cycle_sim.specs.Takes.{ShowOnChip}
use Rattle.cycle_sim.specs.Values.{values_in}
use Rattle.cycle_sim.specs.Passes.{rows_of}
use Rattle.cycle_sim.proofs.Chips.{low_in, q_in, stands_in}
use Rattle.cycle_sim.proofs.Taking.{input_done, load_done, load_left, send_done, read_done, row_sizes}
use Rattle.cycle_sim.proofs.Ports.{all_there, memories_low, words_low, address_low, reader, read_memory, read_low, read_chip_in, read_of, read_address_few, read_bits_few, read_address_low, read_in}
use Rattle.cycle_sim.proofs.taken.take.Goals as goal

pub put-requires-clause-net : goal.put-requires-clause-net
put-requires-clause-net c =
    q_in c.args.results.now c.in-Input.chip.place c.in-Input.register.place c.register_of-register.result c.register_of-register.ensures
    _ _ c.requires.ready.runs c.args.held.now c.requires.held

pub table_of-requires : goal.table_of-requires
table_of-requires c =
    low_in c.args.results.now c.in-Load.chip.place c.in-Load.register.place c.register_of-register-in-Load.result c.register_of-register-in-Load.ensures
    (rows_of c.args.shown.now) c.requires.ready.sizes

pub loaded_value-requires : goal.loaded_value-requires
loaded_value-requires c =
    stands_in c.args.results.now c.in-Load.chip.place c.in-Load.register.place c.register_of-register-in-Load.result c.register_of-register-in-Load.ensures
    _ _ c.requires.ready.runs c.table_of.result.now (rows_of c.args.shown.now) c.table_of.ensures c.requires.ready.sizes

pub put-requires-in-Some-clause-chip : goal.put-requires-in-Some-clause-chip
put-requires-in-Some-clause-chip c =
    low_in c.args.results.now c.in-Load.chip.place c.in-Load.register.place c.register_of-register-in-Load.result c.register_of-register-in-Load.ensures
    c.args.held.now c.requires.held

pub put-requires-in-Some-clause-net : goal.put-requires-in-Some-clause-net
put-requires-in-Some-clause-net c =
    q_in c.args.results.now c.in-Load.chip.place c.in-Load.register.place c.register_of-register-in-Load.result c.register_of-register-in-Load.ensures
    _ _ c.requires.ready.runs c.args.held.now c.requires.held

pub returns-in-Input-clause-taken : goal.returns-in-Input-clause-taken
returns-in-Input-clause-taken c =
    input_done c.args.results.now _ _ _ _ _ c.requires.ready.runs (rows_of c.args.shown.now) c.args.held.now c.requires.held
    c.in-Input.chip c.in-Input.register c.register_of-register.result c.register_of-register.ensures
    c.in-Input.net c.args.action.now c.in-Input.is c.bit_at.result (c.bit_at.ensures ∙ ap (λ (n : ℕ). get_or c.args.outside.now n false) c.place.ensures) c.put.new.held c.put.ensures

pub returns-in-None-clause-taken : goal.returns-in-None-clause-taken
returns-in-None-clause-taken c =
    load_left c.args.results.now _ _ _ _ _ c.requires.ready.runs (rows_of c.args.shown.now) c.args.held.now c.requires.held
    c.in-Load.chip c.in-Load.register c.register_of-register-in-Load.result c.register_of-register-in-Load.ensures
    c.table_of.result.now c.table_of.ensures c.args.action.now c.in-Load.is (sym c.in-None.is ∙ c.loaded_value.ensures)

pub returns-in-Some-clause-taken : goal.returns-in-Some-clause-taken
returns-in-Some-clause-taken c =
    load_done c.args.results.now _ _ _ _ _ c.requires.ready.runs (rows_of c.args.shown.now) c.args.held.now c.requires.held
    c.in-Load.chip c.in-Load.register c.register_of-register-in-Load.result c.register_of-register-in-Load.ensures
    c.table_of.result.now c.table_of.ensures c.args.action.now c.in-Load.is c.in-Some.value
    (sym c.in-Some.is ∙ c.loaded_value.ensures) c.put-in-Some.new.held c.put-in-Some.ensures

pub put-requires-in-Send-clause-net : goal.put-requires-in-Send-clause-net
put-requires-in-Send-clause-net c =
    q_in c.args.results.now c.ends_of-ends.result.to.place c.in-Send.register.place c.register_of-register-in-Send.result c.register_of-register-in-Send.ensures
    _ _ c.requires.ready.runs c.args.held.now c.requires.held

pub returns-in-Send-clause-taken : goal.returns-in-Send-clause-taken
returns-in-Send-clause-taken c =
    send_done c.args.results.now _ _ _ _ _ c.requires.ready.runs (rows_of c.args.shown.now) c.args.held.now c.requires.held
    c.in-Send.wire c.in-Send.net c.in-Send.register c.ends_of-ends.result c.ends_of-ends.ensures c.register_of-register-in-Send.result c.register_of-register-in-Send.ensures
    c.args.action.now c.in-Send.is c.requires.action c.arriving-value.result c.arriving-value.ensures c.put-in-Send.new.held c.put-in-Send.ensures

pub address_of-address-requires-clause-there : goal.address_of-address-requires-clause-there
address_of-address-requires-clause-there c =
    subst (λ (bits : List ChipNetId). All (IsThere (length c.table_of-in-Read.result.now)) bits) (sym c.as_slice.ensures)
    (read_in c.args.results.now c.requires.ready.runs.chips c.in-Read.chip.place c.in-Read.mem.place c.in-Read.port c.read_port_of-port.result.now c.read_port_of-port.ensures
    (rows_of c.args.shown.now) c.requires.ready.sizes c.table_of-in-Read.result.now c.table_of-in-Read.ensures
    c.read_port_of-port.result.now.address (read_of c.args.results.now c.requires.ready.runs.chips c.in-Read.chip.place c.in-Read.mem.place c.in-Read.port c.read_port_of-port.result.now c.read_port_of-port.ensures).address)

pub address_of-address-requires-clause-few : goal.address_of-address-requires-clause-few
address_of-address-requires-clause-few c =
    subst (λ (bits : List ChipNetId). length bits ≤ 16) (sym c.as_slice.ensures)
    (read_address_few c.args.results.now c.requires.ready.runs.chips c.in-Read.chip.place c.in-Read.mem.place c.in-Read.port c.read_port_of-port.result.now c.read_port_of-port.ensures)

pub word_of-word-requires-clause-chip : goal.word_of-word-requires-clause-chip
word_of-word-requires-clause-chip c =
    words_low c.args.results.now c.in-Read.chip.place c.in-Read.mem.place (reader c.args.results.now c.requires.ready.runs.chips c.in-Read.chip.place c.in-Read.mem.place c.in-Read.port c.read_port_of-port.result.now c.read_port_of-port.ensures).0 (read_memory c.args.results.now c.requires.ready.runs.chips c.in-Read.chip.place c.in-Read.mem.place c.in-Read.port c.read_port_of-port.result.now c.read_port_of-port.ensures) c.args.words.now c.requires.words

pub word_of-word-requires-clause-mem : goal.word_of-word-requires-clause-mem
word_of-word-requires-clause-mem c =
    memories_low c.args.results.now c.in-Read.chip.place c.in-Read.mem.place (reader c.args.results.now c.requires.ready.runs.chips c.in-Read.chip.place c.in-Read.mem.place c.in-Read.port c.read_port_of-port.result.now c.read_port_of-port.ensures).0 (read_memory c.args.results.now c.requires.ready.runs.chips c.in-Read.chip.place c.in-Read.mem.place c.in-Read.port c.read_port_of-port.result.now c.read_port_of-port.ensures) c.args.words.now c.requires.words

pub word_of-word-requires-clause-address : goal.word_of-word-requires-clause-address
word_of-word-requires-clause-address c =
    address_low c.args.results.now c.in-Read.chip.place c.in-Read.mem.place (reader c.args.results.now c.requires.ready.runs.chips c.in-Read.chip.place c.in-Read.mem.place c.in-Read.port c.read_port_of-port.result.now c.read_port_of-port.ensures).0 (read_memory c.args.results.now c.requires.ready.runs.chips c.in-Read.chip.place c.in-Read.mem.place c.in-Read.port c.read_port_of-port.result.now c.read_port_of-port.ensures) c.args.words.now c.requires.words
    c.address_of-address.result (read_address_low c.args.results.now c.requires.ready.runs.chips c.in-Read.chip.place c.in-Read.mem.place c.in-Read.port c.read_port_of-port.result.now c.read_port_of-port.ensures c.address_of-address.result
    (subst (λ (bits : List ChipNetId). c.address_of-address.result < 2 ^ length bits) c.as_slice.ensures c.address_of-address.ensures.low))

pub show_on_chip-requires-clause-chip : goal.show_on_chip-requires-clause-chip
show_on_chip-requires-clause-chip c =
    read_chip_in c.args.results.now c.requires.ready.runs.chips c.in-Read.chip.place c.in-Read.mem.place c.in-Read.port c.read_port_of-port.result.now c.read_port_of-port.ensures
    c.args.held.now c.requires.held

pub show_on_chip-requires-clause-there : goal.show_on_chip-requires-clause-there
show_on_chip-requires-clause-there c =
    subst (λ (bits : List ChipNetId). All (IsThere (length (get_or c.args.held.now c.in-Read.chip.place []))) bits) (sym c.as_slice-in-Read.ensures)
    (read_in c.args.results.now c.requires.ready.runs.chips c.in-Read.chip.place c.in-Read.mem.place c.in-Read.port c.read_port_of-port.result.now c.read_port_of-port.ensures
    c.args.held.now c.requires.held (get_or c.args.held.now c.in-Read.chip.place []) refl
    c.read_port_of-port.result.now.bits (read_of c.args.results.now c.requires.ready.runs.chips c.in-Read.chip.place c.in-Read.mem.place c.in-Read.port c.read_port_of-port.result.now c.read_port_of-port.ensures).bits)

pub show_on_chip-requires-clause-few : goal.show_on_chip-requires-clause-few
show_on_chip-requires-clause-few c =
    subst (λ (bits : List ChipNetId). length bits ≤ 128) (sym c.as_slice-in-Read.ensures)
    (read_bits_few c.args.results.now c.requires.ready.runs.chips c.in-Read.chip.place c.in-Read.mem.place c.in-Read.port c.read_port_of-port.result.now c.read_port_of-port.ensures)

pub returns-in-Read-clause-sizes : goal.returns-in-Read-clause-sizes
returns-in-Read-clause-sizes c =
    subst (HaveSizes c.args.results.now) (sym c.show_on_chip.ensures.put)
    (row_sizes c.args.results.now c.args.held.now c.in-Read.chip.place c.show_on_chip.ensures.row
    (read_chip_in c.args.results.now c.requires.ready.runs.chips c.in-Read.chip.place c.in-Read.mem.place c.in-Read.port c.read_port_of-port.result.now c.read_port_of-port.ensures
    c.args.held.now c.requires.held)
    c.requires.held c.show_on_chip.ensures.size)

pub returns-in-Read-clause-taken : goal.returns-in-Read-clause-taken
returns-in-Read-clause-taken c =
    read_done c.args.results.now c.args.wires.now c.args.words.now c.args.outside.now c.args.carried.now (rows_of c.args.shown.now) c.args.held.now
    c.in-Read.chip c.in-Read.mem c.in-Read.port c.read_port_of-port.result.now c.read_port_of-port.ensures
    (all_there (chip_at c.args.results.now.net c.in-Read.chip.place).nets c.read_port_of-port.result.now.address (read_of c.args.results.now c.requires.ready.runs.chips c.in-Read.chip.place c.in-Read.mem.place c.in-Read.port c.read_port_of-port.result.now c.read_port_of-port.ensures).address)
    (read_low c.args.results.now c.requires.ready.runs.chips c.in-Read.chip.place c.in-Read.mem.place c.in-Read.port c.read_port_of-port.result.now c.read_port_of-port.ensures)
    (read_chip_in c.args.results.now c.requires.ready.runs.chips c.in-Read.chip.place c.in-Read.mem.place c.in-Read.port c.read_port_of-port.result.now c.read_port_of-port.ensures
    c.args.held.now c.requires.held)
    c.table_of-in-Read.result.now c.table_of-in-Read.ensures
    c.address_of-address.result
    (c.address_of-address.ensures.shown ∙ ap (λ bits. number (values_in c.table_of-in-Read.result.now bits)) c.as_slice.ensures)
    c.word_of-word.result c.word_of-word.ensures c.args.action.now c.in-Read.is c.show_on_chip.new.held
    (subst (λ (bits : List ChipNetId). ShowOnChip bits c.word_of-word.result c.in-Read.chip.place c.args.held.now c.show_on_chip.new.held) c.as_slice-in-Read.ensures c.show_on_chip.ensures)
