-- The port names nets of the design, and has the sizes of its memory.
use Rattle.std.proofs.Common.{◌≡◌, ◌≤◌, ◌+◌, ◌^◌, ℕ, true, length, subst, sym, ap, ◌∙◌, arith}
use Rattle.std.specs.Prelude.{Some, slice_get, slice_index}
use Rattle.design_core.specs.declared.element.WritePort.{WritePort}
use Rattle.design_core.specs.Design.{write_reads}
use Rattle.design_core.specs.Faults.{are_there}
use Rattle.design_core.specs.Limits.{word_count}
use Rattle.design_core.proofs.Bounds.{small}
use Rattle.settled_model.specs.Held.{shown, first_word}
use Rattle.settled_model.specs.Passing.{stored}
use Rattle.settled_model.proofs.Sizes.{write_sizes, writes_there, port_room, base_at, only_write}
use Rattle.settled_model.proofs.pass.act.Goals as goal

pub store-requires-clause-reads : goal.store-requires-clause-reads
store-requires-clause-reads c =
    let in_port : slice_get c.mem.result.now.writes c.args.port ≡ Some c.get-port.result.now =
    subst (λ (k : ℕ). slice_get c.mem.result.now.writes k ≡ Some c.get-port.result.now) c.from.ensures c.get-port.ensures in
    subst (λ (k : ℕ). are_there k (write_reads c.get-port.result.now) ≡ true) (sym c.requires.new_size)
    (writes_there c.args.design.now c.requires.design c.args.mem.place c.args.port c.mem.result.now c.get-port.result.now c.mem.ensures.here in_port)

pub store-requires-clause-address : goal.store-requires-clause-address
store-requires-clause-address c =
    omega (arith, (small c.mem.result.now c.mem.ensures.fits).address_bits, (write_sizes c.mem.result.now c.mem.ensures.fits c.from.result c.get-port.result.now c.get-port.ensures).address)

pub store-requires-clause-feed : goal.store-requires-clause-feed
store-requires-clause-feed c =
    omega (arith, (small c.mem.result.now c.mem.ensures.fits).width, (write_sizes c.mem.result.now c.mem.ensures.fits c.from.result c.get-port.result.now c.get-port.ensures).feed)

pub store-requires-clause-room : goal.store-requires-clause-room
store-requires-clause-room c =
    let base : slice_index c.args.bases.now c.place.result ≡ first_word c.args.design.now c.args.mem.place =
    ap (slice_index c.args.bases.now) c.place.ensures ∙ base_at c.args.design.now c.args.bases.now c.args.mem.place c.mem.result.now c.requires.bases c.mem.ensures.here in
    let room : first_word c.args.design.now c.args.mem.place + 2 ^ length c.get-port.result.now.address ≤ word_count c.args.design.now =
    port_room c.args.design.now c.requires.design c.args.mem.place c.mem.result.now _ c.mem.ensures.here
    (write_sizes c.mem.result.now c.mem.ensures.fits c.from.result c.get-port.result.now c.get-port.ensures).address in
    omega (arith, c.requires.room)

pub returns : goal.returns
returns c = λ memory port at in_port.
    let base : slice_index c.args.bases.now c.place.result ≡ first_word c.args.design.now c.args.mem.place =
    ap (slice_index c.args.bases.now) c.place.ensures ∙ base_at c.args.design.now c.args.bases.now c.args.mem.place c.mem.result.now c.requires.bases c.mem.ensures.here in
    let found : slice_get c.mem.result.now.writes c.args.port ≡ Some c.get-port.result.now =
    subst (λ (k : ℕ). slice_get c.mem.result.now.writes k ≡ Some c.get-port.result.now) c.from.ensures c.get-port.ensures in
    let same : c.get-port.result.now ≡ port =
    only_write c.args.design.now c.args.mem.place c.args.port c.mem.result.now memory c.get-port.result.now port c.mem.ensures.here at found in_port in
    c.store.ensures
    ∙ ap (λ (k : ℕ). stored (shown c.args.old.now) (shown c.args.new.now) c.get-port.result.now k c.args.words.now) base
    ∙ ap (λ (q : WritePort). stored (shown c.args.old.now) (shown c.args.new.now) q (first_word c.args.design.now c.args.mem.place) c.args.words.now) same
