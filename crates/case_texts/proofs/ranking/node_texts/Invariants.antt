use Rattle.std.specs.Prelude.{take}
use Rattle.case_texts.specs.Cycles.{AreNodeTexts}
use Rattle.case_texts.proofs.ranking.node_texts.Given as goal

abbrev pub invariant-nodes : goal.invariant-nodes
invariant-nodes l = AreNodeTexts l.design (take l.node-index l.nodes) l.texts
