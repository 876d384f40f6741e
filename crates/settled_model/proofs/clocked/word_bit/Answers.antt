-- The port has the sizes of its memory, and the memory has its words.
use Rattle.std.proofs.Common.{◌≡◌, ◌<◌, ◌+◌, ℕ, length, sym, ap, ◌∙◌, arith}
use Rattle.std.specs.Prelude.{slice_index}
use Rattle.design_core.specs.Operation.{bit_of}
use Rattle.design_core.specs.Valuation.{shown_number}
use Rattle.settled_model.specs.Held.{shown, first_word, word_in}
use Rattle.settled_model.specs.Clocked.{word_bit}
use Rattle.settled_model.proofs.Sizes.{bit_found, bit_reads, few_bits, bit_low, bit_room, base_at, base_within}
use Rattle.settled_model.proofs.clocked.word_bit.Goals as goal

pub bounds-bases-place : goal.bounds-bases-place
bounds-bases-place c =
    let x = bit_found c.args.design.now c.args.net.place c.args.from.0 c.args.from.1 c.args.from.2 c.port_of-port.result.now c.requires.from c.port_of-port.ensures in
    let within : c.args.from.0.place < length c.args.bases.now = base_within c.args.design.now c.args.bases.now c.args.from.0.place x.memory c.requires.bases x.at in
    omega (arith, c.place.ensures)

pub read_bit-requires-clause-reads : goal.read_bit-requires-clause-reads
read_bit-requires-clause-reads c =
    bit_reads c.args.design.now c.requires.design c.args.from.0.place c.args.from.1 c.args.from.2 c.port_of-port.result.now
    (bit_found c.args.design.now c.args.net.place c.args.from.0 c.args.from.1 c.args.from.2 c.port_of-port.result.now c.requires.from c.port_of-port.ensures)
    _ c.requires.size

pub read_bit-requires-clause-address : goal.read_bit-requires-clause-address
read_bit-requires-clause-address c =
    few_bits c.args.design.now c.requires.design c.args.from.0.place c.args.from.1 c.args.from.2 c.port_of-port.result.now
    (bit_found c.args.design.now c.args.net.place c.args.from.0 c.args.from.1 c.args.from.2 c.port_of-port.result.now c.requires.from c.port_of-port.ensures)

pub read_bit-requires-clause-bit : goal.read_bit-requires-clause-bit
read_bit-requires-clause-bit c =
    bit_low c.args.design.now c.requires.design c.args.from.0.place c.args.from.1 c.args.from.2 c.port_of-port.result.now
    (bit_found c.args.design.now c.args.net.place c.args.from.0 c.args.from.1 c.args.from.2 c.port_of-port.result.now c.requires.from c.port_of-port.ensures)

pub read_bit-requires-clause-room : goal.read_bit-requires-clause-room
read_bit-requires-clause-room c =
    let x = bit_found c.args.design.now c.args.net.place c.args.from.0 c.args.from.1 c.args.from.2 c.port_of-port.result.now c.requires.from c.port_of-port.ensures in
    let base : slice_index c.args.bases.now c.place.result ≡ first_word c.args.design.now c.args.from.0.place =
    ap (slice_index c.args.bases.now) c.place.ensures ∙ base_at c.args.design.now c.args.bases.now c.args.from.0.place x.memory c.requires.bases x.at in
    bit_room c.args.design.now c.requires.design c.args.from.0.place c.args.from.1 c.args.from.2 c.port_of-port.result.now x _ _ base c.requires.room

pub returns : goal.returns
returns c =
    let x = bit_found c.args.design.now c.args.net.place c.args.from.0 c.args.from.1 c.args.from.2 c.port_of-port.result.now c.requires.from c.port_of-port.ensures in
    let base : slice_index c.args.bases.now c.place.result ≡ first_word c.args.design.now c.args.from.0.place =
    ap (slice_index c.args.bases.now) c.place.ensures ∙ base_at c.args.design.now c.args.bases.now c.args.from.0.place x.memory c.requires.bases x.at in
    c.read_bit.ensures
    ∙ ap (λ (k : ℕ). bit_of (slice_index c.args.words.now (k + shown_number (shown c.args.nets.now) c.port_of-port.result.now.address)) c.args.from.2) base
    ∙ ap (word_bit (word_in c.args.design.now c.args.words.now c.args.from.0.place) (shown c.args.nets.now) c.args.from.2) (sym c.port_of-port.ensures)
