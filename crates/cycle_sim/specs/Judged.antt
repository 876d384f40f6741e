-- Which results that rules have judged the machine can run and be loaded for.
-- The rules are told in docs/RULES.md, "Acceptance".
use Rattle.std.specs.Prelude.{◌≡◌, ℕ, Bool, Some, slice_get}
use Rattle.design_core.specs.declared.node.NodeId.{NodeId}
use Rattle.design_core.specs.Design.{IsDesign, net_count}
use Rattle.design_core.specs.Influence.{Group, IsGroup}
use Rattle.emu_machine.specs.declared.rule.Rule.TheVariants.{A2, A5, A7}
use Rattle.emu_machine.specs.Acceptance.{Case, Holds}
use Rattle.cycle_sim.specs.Standing.{CanRun}
use Rattle.cycle_sim.specs.Loading.{CanLoad}

-- where A2 and A5 hold for a design and groups of its inputs, the machine can run the results over the wires of
-- the board
abbrev pub JudgedCanRun : Type 0
JudgedCanRun =
    (c : Case) (inside : ℕ → NodeId → Bool)
    → IsDesign c.design
    → ((k : ℕ) (g : Group) → slice_get c.groups k ≡ Some g → IsGroup c.design g)
    → Holds c inside A2
    → Holds c inside A5
    → CanRun c.results c.board.wires (net_count c.design)

-- where A7 holds, a machine can be loaded for them
abbrev pub JudgedCanLoad : Type 0
JudgedCanLoad = (c : Case) (inside : ℕ → NodeId → Bool) → Holds c inside A7 → CanLoad c.design c.results
