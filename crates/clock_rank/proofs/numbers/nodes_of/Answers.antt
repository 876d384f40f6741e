use Rattle.std.proofs.Common.{◌≡◌, subst, Some, map}
use Rattle.std.specs.Prelude.{slice_get}
use Rattle.std.specs.List.{range_with_len}
use Rattle.id_arena.specs.declared.keys.MemId.{MemId}
use Rattle.design_core.specs.Design.{net_count}
use Rattle.clock_rank.specs.Numbers.{net_node}
use Rattle.clock_rank.proofs.Steps.{nodes_step}
use Rattle.clock_rank.proofs.numbers.nodes_of.Goals as goal

pub memories-preserved : goal.memories-preserved
memories-preserved c =
    let at = subst (λ (i : MemId). slice_get c.args.design.now.memories i.place ≡ Some c.mem.result.now) c.of.ensures c.mem.ensures.here in
    nodes_step c.args.design.now.memories (map net_node (range_with_len 0 (net_count c.args.design.now))) c.memories.nodes.items _
    c.memories.m c.len.result c.mem.result.now at c.memories.invariant c.in_ok-push_writes.ensures c.len.ensures
