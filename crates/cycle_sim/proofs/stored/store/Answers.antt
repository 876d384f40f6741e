use Rattle.std.proofs.Common.{◌<◌, ◌≤◌, ◌^◌, List, [], length, get_or, ap, sym, subst, ◌∙◌}
use Rattle.std.specs.Prelude.{All}
use Rattle.id_arena.specs.declared.keys.ChipNetId.{ChipNetId}
use Rattle.design_core.specs.Operation.{number}
use Rattle.emu_machine.specs.Netlist.{chip_at}
use Rattle.cycle_sim.specs.Standing.{IsThere}
use Rattle.cycle_sim.specs.Tables.{HaveWords}
use Rattle.cycle_sim.specs.Values.{value_in, values_in}
use Rattle.cycle_sim.specs.Passes.{rows_of}
use Rattle.cycle_sim.proofs.Ports.{all_there, memories_low, words_low, address_low, owner, write_memory, write_low, write_of, write_address_few, write_feed_few, write_address_low, write_enable_in, write_address_in, write_feed_in}
use Rattle.cycle_sim.proofs.Storing.{store_left, store_done, put_fits}
use Rattle.cycle_sim.proofs.stored.store.Goals as goal

pub value_of-requires : goal.value_of-requires
value_of-requires c =
    write_enable_in c.args.results.now c.requires.chips c.in-Write.chip.place c.in-Write.mem.place c.in-Write.port c.write_port_of-port.result.now c.write_port_of-port.ensures
    (rows_of c.args.shown.now) c.requires.shown c.table_of-table.result.now c.table_of-table.ensures

pub address_of-address-requires-clause-there : goal.address_of-address-requires-clause-there
address_of-address-requires-clause-there c =
    subst (λ (bits : List ChipNetId). All (IsThere (length c.table_of-table.result.now)) bits) (sym c.as_slice.ensures)
    (write_address_in c.args.results.now c.requires.chips c.in-Write.chip.place c.in-Write.mem.place c.in-Write.port c.write_port_of-port.result.now c.write_port_of-port.ensures
    (rows_of c.args.shown.now) c.requires.shown c.table_of-table.result.now c.table_of-table.ensures)

pub address_of-address-requires-clause-few : goal.address_of-address-requires-clause-few
address_of-address-requires-clause-few c =
    subst (λ (bits : List ChipNetId). length bits ≤ 16) (sym c.as_slice.ensures)
    (write_address_few c.args.results.now c.requires.chips c.in-Write.chip.place c.in-Write.mem.place c.in-Write.port c.write_port_of-port.result.now c.write_port_of-port.ensures)

pub number_of-word-requires-clause-there : goal.number_of-word-requires-clause-there
number_of-word-requires-clause-there c =
    subst (λ (bits : List ChipNetId). All (IsThere (length c.table_of-table.result.now)) bits) (sym c.as_slice-then-value_of.ensures)
    (write_feed_in c.args.results.now c.requires.chips c.in-Write.chip.place c.in-Write.mem.place c.in-Write.port c.write_port_of-port.result.now c.write_port_of-port.ensures
    (rows_of c.args.shown.now) c.requires.shown c.table_of-table.result.now c.table_of-table.ensures)

pub number_of-word-requires-clause-few : goal.number_of-word-requires-clause-few
number_of-word-requires-clause-few c =
    subst (λ (bits : List ChipNetId). length bits ≤ 128) (sym c.as_slice-then-value_of.ensures)
    (write_feed_few c.args.results.now c.requires.chips c.in-Write.chip.place c.in-Write.mem.place c.in-Write.port c.write_port_of-port.result.now c.write_port_of-port.ensures)

pub put_word-requires-clause-mem : goal.put_word-requires-clause-mem
put_word-requires-clause-mem c =
    memories_low c.args.results.now c.in-Write.chip.place c.in-Write.mem.place (owner c.args.results.now c.requires.chips c.in-Write.chip.place c.in-Write.mem.place c.in-Write.port c.write_port_of-port.result.now c.write_port_of-port.ensures).0 (write_memory c.args.results.now c.requires.chips c.in-Write.chip.place c.in-Write.mem.place c.in-Write.port c.write_port_of-port.result.now c.write_port_of-port.ensures) c.args.words.now c.requires.words

pub put_word-requires-clause-address : goal.put_word-requires-clause-address
put_word-requires-clause-address c =
    address_low c.args.results.now c.in-Write.chip.place c.in-Write.mem.place (owner c.args.results.now c.requires.chips c.in-Write.chip.place c.in-Write.mem.place c.in-Write.port c.write_port_of-port.result.now c.write_port_of-port.ensures).0 (write_memory c.args.results.now c.requires.chips c.in-Write.chip.place c.in-Write.mem.place c.in-Write.port c.write_port_of-port.result.now c.write_port_of-port.ensures) c.args.words.now c.requires.words
    c.address_of-address.result (write_address_low c.args.results.now c.requires.chips c.in-Write.chip.place c.in-Write.mem.place c.in-Write.port c.write_port_of-port.result.now c.write_port_of-port.ensures c.address_of-address.result
    (subst (λ (bits : List ChipNetId). c.address_of-address.result < 2 ^ length bits) c.as_slice.ensures c.address_of-address.ensures.low))

pub returns-then-value_of-clause-sizes : goal.returns-then-value_of-clause-sizes
returns-then-value_of-clause-sizes c =
    subst (HaveWords c.args.results.now) (sym c.put_word.ensures)
    (put_fits c.args.words.now c.in-Write.chip.place c.in-Write.mem.place c.address_of-address.result c.number_of-word.result
    (words_low c.args.results.now c.in-Write.chip.place c.in-Write.mem.place (owner c.args.results.now c.requires.chips c.in-Write.chip.place c.in-Write.mem.place c.in-Write.port c.write_port_of-port.result.now c.write_port_of-port.ensures).0 (write_memory c.args.results.now c.requires.chips c.in-Write.chip.place c.in-Write.mem.place c.in-Write.port c.write_port_of-port.result.now c.write_port_of-port.ensures) c.args.words.now c.requires.words)
    (memories_low c.args.results.now c.in-Write.chip.place c.in-Write.mem.place (owner c.args.results.now c.requires.chips c.in-Write.chip.place c.in-Write.mem.place c.in-Write.port c.write_port_of-port.result.now c.write_port_of-port.ensures).0 (write_memory c.args.results.now c.requires.chips c.in-Write.chip.place c.in-Write.mem.place c.in-Write.port c.write_port_of-port.result.now c.write_port_of-port.ensures) c.args.words.now c.requires.words)
    (address_low c.args.results.now c.in-Write.chip.place c.in-Write.mem.place (owner c.args.results.now c.requires.chips c.in-Write.chip.place c.in-Write.mem.place c.in-Write.port c.write_port_of-port.result.now c.write_port_of-port.ensures).0 (write_memory c.args.results.now c.requires.chips c.in-Write.chip.place c.in-Write.mem.place c.in-Write.port c.write_port_of-port.result.now c.write_port_of-port.ensures) c.args.words.now c.requires.words
    c.address_of-address.result (write_address_low c.args.results.now c.requires.chips c.in-Write.chip.place c.in-Write.mem.place c.in-Write.port c.write_port_of-port.result.now c.write_port_of-port.ensures c.address_of-address.result
    (subst (λ (bits : List ChipNetId). c.address_of-address.result < 2 ^ length bits) c.as_slice.ensures c.address_of-address.ensures.low)))
    c.args.results.now c.requires.words)

pub returns-then-value_of-clause-stored : goal.returns-then-value_of-clause-stored
returns-then-value_of-clause-stored c =
    store_done c.args.results.now (rows_of c.args.shown.now) c.in-Write.chip c.in-Write.mem c.in-Write.port c.write_port_of-port.result.now c.write_port_of-port.ensures
    (write_low c.args.results.now c.requires.chips c.in-Write.chip.place c.in-Write.mem.place c.in-Write.port c.write_port_of-port.result.now c.write_port_of-port.ensures)
    (write_of c.args.results.now c.requires.chips c.in-Write.chip.place c.in-Write.mem.place c.in-Write.port c.write_port_of-port.result.now c.write_port_of-port.ensures).enable
    (all_there (chip_at c.args.results.now.net c.in-Write.chip.place).nets c.write_port_of-port.result.now.address (write_of c.args.results.now c.requires.chips c.in-Write.chip.place c.in-Write.mem.place c.in-Write.port c.write_port_of-port.result.now c.write_port_of-port.ensures).address)
    (all_there (chip_at c.args.results.now.net c.in-Write.chip.place).nets c.write_port_of-port.result.now.feed (write_of c.args.results.now c.requires.chips c.in-Write.chip.place c.in-Write.mem.place c.in-Write.port c.write_port_of-port.result.now c.write_port_of-port.ensures).feed)
    c.args.words.now c.args.action.now c.in-Write.is c.value_of.result (c.value_of.ensures ∙ ap (λ t. value_in t c.write_port_of-port.result.now.enable) c.table_of-table.ensures)
    c.if-value_of.true c.address_of-address.result c.number_of-word.result
    (c.address_of-address.ensures.shown ∙ ap (λ t. number (values_in t c.as_slice.result.now)) c.table_of-table.ensures ∙ ap (λ bits. number (values_in (get_or (rows_of c.args.shown.now) c.in-Write.chip.place []) bits)) c.as_slice.ensures)
    (c.number_of-word.ensures.shown ∙ ap (λ t. number (values_in t c.as_slice-then-value_of.result.now)) c.table_of-table.ensures ∙ ap (λ bits. number (values_in (get_or (rows_of c.args.shown.now) c.in-Write.chip.place []) bits)) c.as_slice-then-value_of.ensures)
    (words_low c.args.results.now c.in-Write.chip.place c.in-Write.mem.place (owner c.args.results.now c.requires.chips c.in-Write.chip.place c.in-Write.mem.place c.in-Write.port c.write_port_of-port.result.now c.write_port_of-port.ensures).0 (write_memory c.args.results.now c.requires.chips c.in-Write.chip.place c.in-Write.mem.place c.in-Write.port c.write_port_of-port.result.now c.write_port_of-port.ensures) c.args.words.now c.requires.words)
    (memories_low c.args.results.now c.in-Write.chip.place c.in-Write.mem.place (owner c.args.results.now c.requires.chips c.in-Write.chip.place c.in-Write.mem.place c.in-Write.port c.write_port_of-port.result.now c.write_port_of-port.ensures).0 (write_memory c.args.results.now c.requires.chips c.in-Write.chip.place c.in-Write.mem.place c.in-Write.port c.write_port_of-port.result.now c.write_port_of-port.ensures) c.args.words.now c.requires.words)
    (address_low c.args.results.now c.in-Write.chip.place c.in-Write.mem.place (owner c.args.results.now c.requires.chips c.in-Write.chip.place c.in-Write.mem.place c.in-Write.port c.write_port_of-port.result.now c.write_port_of-port.ensures).0 (write_memory c.args.results.now c.requires.chips c.in-Write.chip.place c.in-Write.mem.place c.in-Write.port c.write_port_of-port.result.now c.write_port_of-port.ensures) c.args.words.now c.requires.words
    c.address_of-address.result (write_address_low c.args.results.now c.requires.chips c.in-Write.chip.place c.in-Write.mem.place c.in-Write.port c.write_port_of-port.result.now c.write_port_of-port.ensures c.address_of-address.result
    (subst (λ (bits : List ChipNetId). c.address_of-address.result < 2 ^ length bits) c.as_slice.ensures c.address_of-address.ensures.low)))
    c.put_word.new.words c.put_word.ensures

pub returns-else-value_of-clause-stored : goal.returns-else-value_of-clause-stored
returns-else-value_of-clause-stored c =
    store_left c.args.results.now (rows_of c.args.shown.now) c.in-Write.chip c.in-Write.mem c.in-Write.port c.write_port_of-port.result.now c.write_port_of-port.ensures
    (write_low c.args.results.now c.requires.chips c.in-Write.chip.place c.in-Write.mem.place c.in-Write.port c.write_port_of-port.result.now c.write_port_of-port.ensures)
    (write_of c.args.results.now c.requires.chips c.in-Write.chip.place c.in-Write.mem.place c.in-Write.port c.write_port_of-port.result.now c.write_port_of-port.ensures).enable
    (all_there (chip_at c.args.results.now.net c.in-Write.chip.place).nets c.write_port_of-port.result.now.address (write_of c.args.results.now c.requires.chips c.in-Write.chip.place c.in-Write.mem.place c.in-Write.port c.write_port_of-port.result.now c.write_port_of-port.ensures).address)
    (all_there (chip_at c.args.results.now.net c.in-Write.chip.place).nets c.write_port_of-port.result.now.feed (write_of c.args.results.now c.requires.chips c.in-Write.chip.place c.in-Write.mem.place c.in-Write.port c.write_port_of-port.result.now c.write_port_of-port.ensures).feed)
    c.args.words.now c.args.action.now c.in-Write.is c.value_of.result (c.value_of.ensures ∙ ap (λ t. value_in t c.write_port_of-port.result.now.enable) c.table_of-table.ensures)
    c.if-value_of.false
