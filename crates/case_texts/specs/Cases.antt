-- The case that texts stand for.
-- The rules are told in docs/FORMATS.md, "Commands" and from "The design" to "The map".
use Rattle.std.specs.Prelude.{◌≡◌, ℕ, List}
use Rattle.design_core.specs.declared.parts.Parts.{Parts}
use Rattle.design_core.specs.Dependency.{IsRanked}
use Rattle.domain_groups.specs.Groups.{InputGroups}
use Rattle.emu_machine.specs.Acceptance.{Case}
use Rattle.case_texts.specs.declared.what.What.TheVariants.{Groups, Board}
use Rattle.case_texts.specs.Forms.{SaysBoard, SaysDesign, SaysGroups, SaysResults}
use Rattle.case_texts.specs.What.{Texts}

-- the texts say this design, which is ranked, and these groups of its inputs
pub record DesignSays (top : List ℕ) (texts : Texts) (p : Parts) (v : InputGroups) : Type 0 where
  pub design : SaysDesign top texts p
  pub ranked : IsRanked p
  pub groups : SaysGroups p (texts Groups) v

-- the texts stand for a case: its design and groups, its board and its results
pub record StandFor (top : List ℕ) (texts : Texts) (c : Case) : Type 0 where
  pub groups : InputGroups
  pub first : DesignSays top texts c.design groups
  pub grouped : c.groups ≡ groups.groups
  pub board : SaysBoard (texts Board) c.board
  pub results : SaysResults texts c.results

-- the texts stand for this case alone
pub record StandForOne (top : List ℕ) (texts : Texts) (c : Case) : Type 0 where
  pub stand : StandFor top texts c
  pub one : (other : Case) → StandFor top texts other → other ≡ c

-- texts stand for one case at most
abbrev pub TextsTellCasesApart : Type 0
TextsTellCasesApart =
    (top : List ℕ) (texts : Texts) (c d : Case) → StandFor top texts c → StandFor top texts d → d ≡ c
