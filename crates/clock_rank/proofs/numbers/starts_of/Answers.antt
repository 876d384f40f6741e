use Rattle.std.proofs.Common.{◌≡◌, subst, Some, arith}
use Rattle.std.specs.Prelude.{slice_get}
use Rattle.id_arena.specs.declared.keys.MemId.{MemId}
use Rattle.clock_rank.proofs.Steps.{starts_none, starts_more, start_step, start_room}
use Rattle.clock_rank.proofs.numbers.starts_of.Goals as goal

pub memories-init : goal.memories-init
memories-init c = record {
  starts = rw c.new-starts.ensures.items (starts_none c.args.design.now c.stands.ensures.design c.stands.ensures.within);
  next = omega (arith, c.nets-next.ensures.count);
}

pub overflow_add-next : goal.overflow_add-next
overflow_add-next c =
    let at = subst (λ (i : MemId). slice_get c.args.design.now.memories i.place ≡ Some c.mem.result.now) c.of.ensures c.mem.ensures.here in
    let h = start_room c.args.design.now _ _ c.memories.invariant.starts c.memories.m _ _ c.mem.result.now at c.memories.invariant.next c.len.ensures in
    omega arith

pub memories-preserved : goal.memories-preserved
memories-preserved c =
    let at = subst (λ (i : MemId). slice_get c.args.design.now.memories i.place ≡ Some c.mem.result.now) c.of.ensures c.mem.ensures.here in
    record {
      starts = starts_more c.args.design.now c.memories.m _ _ _ c.memories.invariant.starts c.memories.invariant.next c.in_ok-push.ensures.items;
      next = start_step c.args.design.now c.memories.m _ _ c.mem.result.now at c.memories.invariant.next c.len.ensures;
    }
