-- The words of one more memory.
use Rattle.std.proofs.Common.{◌≡◌, ◌≤◌, ◌+◌, ◌*◌, ◌^◌, ◌%◌, length, subst, ap, ◌∙◌, arith}
use Rattle.std.specs.Prelude.{Some, slice_get}
use Rattle.id_arena.specs.declared.keys.MemId.{MemId}
use Rattle.design_core.specs.Limits.{word_count}
use Rattle.design_core.proofs.Bounds.{small}
use Rattle.settled_model.specs.Held.{first_word, size_of}
use Rattle.settled_model.proofs.Places.{next_base, base_room, one_base, length_pushed, shifted}
use Rattle.settled_model.proofs.memory.bases_of.Goals as goal

pub overflow_add-total : goal.overflow_add-total
overflow_add-total c =
    let here : slice_get c.args.design.now.memories c.memories.place ≡ Some c.mem.result.now =
    subst (λ (id : MemId). slice_get c.args.design.now.memories id.place ≡ Some c.mem.result.now) c.of.ensures c.mem.ensures.here in
    let e = shifted c.mem.result.now.address_bits (small c.mem.result.now c.mem.ensures.fits).address_bits in
    let room : first_word c.args.design.now c.memories.place + size_of c.mem.result.now ≤ word_count c.args.design.now =
    base_room c.args.design.now c.memories.place c.mem.result.now here in
    let words = c.requires.words in
    omega (arith, c.memories.invariant.total)

pub memories-preserved : goal.memories-preserved
memories-preserved c =
    let here : slice_get c.args.design.now.memories c.memories.place ≡ Some c.mem.result.now =
    subst (λ (id : MemId). slice_get c.args.design.now.memories id.place ≡ Some c.mem.result.now) c.of.ensures c.mem.ensures.here in
    let e = shifted c.mem.result.now.address_bits (small c.mem.result.now c.mem.ensures.fits).address_bits in
    let next : first_word c.args.design.now (c.memories.place + 1) ≡ first_word c.args.design.now c.memories.place + size_of c.mem.result.now =
    next_base c.args.design.now c.memories.place c.mem.result.now here in
    let total : c.memories.total + 1 * 2 ^ c.mem.result.now.address_bits % 18446744073709551616 ≡ first_word c.args.design.now (c.memories.place + 1) =
    omega (arith, c.memories.invariant.total) in
    record {
      total = total;
      size = ap length c.in_ok-push-2.ensures.items ∙ length_pushed c.memories.bases.items _ (c.memories.place + 1) c.memories.invariant.size;
      each = one_base c.args.design.now c.memories.bases.items c.push-in-memories.new.self.items c.memories.place _ c.memories.invariant.size c.memories.invariant.each total c.in_ok-push-2.ensures.items;
    }
