-- What acceptance promises: a case that stands and is accepted has the headline.
-- The rule is told in docs/RULES.md, "The headline".
use Rattle.std.specs.Prelude.{◌≡◌, ℕ, Some, slice_get}
use Rattle.design_core.specs.Design.{IsDesign}
use Rattle.design_core.specs.Dependency.{IsRanked}
use Rattle.design_core.specs.Influence.{Group, IsGroup}
use Rattle.emu_machine.specs.Results.{MapFits}
use Rattle.emu_machine.specs.Netlist.{IsNetlist}
use Rattle.emu_machine.specs.Acceptance.{Case, IsAccepted}
use Rattle.emu_machine.specs.Headline.{Headline}

-- a case that stands: a ranked design, groups of its inputs, netlists whose nets have one driver each,
-- and a map of their counts
pub record IsCase (c : Case) : Type 0 where
  pub design : IsDesign c.design
  pub ranked : IsRanked c.design
  pub groups : (k : ℕ) (g : Group) → slice_get c.groups k ≡ Some g → IsGroup c.design g
  pub netlist : IsNetlist c.results.net
  pub mapped : MapFits c.results

-- where the twelve rules hold, the machine agrees with the design, whatever the opening and the events
abbrev pub AcceptedAgrees : Type 0
AcceptedAgrees = (c : Case) → IsCase c → IsAccepted c → Headline c
