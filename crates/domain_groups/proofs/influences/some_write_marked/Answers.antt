use Rattle.std.proofs.Common.{◌≡◌, ◌<◌, ◌∙◌, sym, ap, subst, arith, Some, length}
use Rattle.std.specs.Prelude.{slice_get}
use Rattle.design_core.specs.declared.parts.Parts.{Parts}
use Rattle.domain_groups.specs.Influences.{is_marked}
use Rattle.domain_groups.proofs.WriteMarks.{one_passes, none_passes}
use Rattle.domain_groups.proofs.influences.some_write_marked.Goals as goal

pub returns-then-node_marked : goal.returns-then-node_marked
returns-then-node_marked c =
    let here = subst (λ (p : Parts). slice_get p.memories c.args.m.place ≡ Some c.mem.result.now) c.design.ensures c.mem.ensures.here in
    λ memory at.
    one_passes (is_marked c.args.ranked.now.design c.args.table.now c.args.row) c.args.m c.args.ranked.now.design.memories c.mem.result.now memory here
    c.ports.port (omega arith) (sym c.node_marked.ensures ∙ c.if-node_marked.true) at

pub returns : goal.returns
returns c =
    let here = subst (λ (p : Parts). slice_get p.memories c.args.m.place ≡ Some c.mem.result.now) c.design.ensures c.mem.ensures.here in
    λ memory at.
    none_passes (is_marked c.args.ranked.now.design c.args.table.now c.args.row) c.args.m c.args.ranked.now.design.memories c.mem.result.now memory here
    (λ k less. c.ports.invariant k (omega arith)) at
