use Rattle.std.proofs.Common.{◌≡◌, ◌<◌, ℕ, false}
use Rattle.design_core.specs.declared.node.NodeId.TheVariants.{Write}
use Rattle.domain_groups.specs.Influences.{is_marked}
use Rattle.domain_groups.proofs.influences.some_write_marked.Given as goal

abbrev pub invariant-ports : goal.invariant-ports
invariant-ports l = (k : ℕ) → k < l.port → is_marked l.ranked.design l.table l.row (Write l.m k) ≡ false
