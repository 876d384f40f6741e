use Rattle.std.proofs.Common.{◌<◌, ℕ, length, arith, sym}
use Rattle.graph_cycle.proofs.Steps.{none_at_end, is_cyclic, none_yet}
use Rattle.graph_cycle.proofs.cyclic.first_cyclic.Goals as goal

pub returns : goal.returns
returns c =
    none_at_end _ _ c.requires c.marks.node c.marks.invariant
    (let e = c.len-node-end.ensures in let f = c.marks-test.false in omega (arith, e, f))

pub returns-then-is_cyclic : goal.returns-then-is_cyclic
returns-then-is_cyclic c = (is_cyclic _ _ c.requires c.marks.node (sym c.if-is_cyclic.ensures), c.marks.invariant)

pub marks-preserved : goal.marks-preserved
marks-preserved c = none_yet _ _ c.requires c.marks.node c.marks.invariant (sym c.if-is_cyclic.ensures)
