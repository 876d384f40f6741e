use Rattle.std.proofs.Common.{◌<◌, ℕ, length, arith}
use Rattle.graph_cycle.proofs.Steps.{marks_done}
use Rattle.graph_cycle.proofs.search.mark_all.Goals as goal

pub returns : goal.returns
returns c =
    marks_done _ c.roots.search c.roots.invariant.search c.roots.invariant.blank
    (λ (n : ℕ) (low : n < length c.args.graph.now). c.roots.invariant.met n (let e = c.len-root-end.ensures in let f = c.roots-test.false in omega (arith, e, f, low)))
