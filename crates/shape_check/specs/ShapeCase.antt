-- What is judged: any results for a design with groups on a board.
-- The rule is told in docs/RULES.md, "Acceptance".
use Rattle.std.specs.Prelude.{◌≤◌, length}
use Rattle.id_arena.specs.BoardPlan.{BoardPlan}
use Rattle.design_core.specs.declared.parts.Parts.{Parts}
use Rattle.design_core.specs.Design.{IsDesign}
use Rattle.design_core.specs.Limits.{IsWithin, IsCountable}
use Rattle.board_model.specs.Sound.{IsSound}
use Rattle.domain_groups.specs.Groups.{InputGroups}
use Rattle.emu_machine.specs.Results.{Results, ResultsStand}
use Rattle.emu_machine.specs.Building.{IsBuilt}
use Rattle.emu_machine.specs.Acceptance.{Case}

-- a design, its groups, a board, and results for them
abbrev pub shape_case : Parts → InputGroups → BoardPlan → Results → Case
shape_case p v board r = record { design = p; groups = v.groups; board = board; results = r }

-- what holds of each case: its design, its board and its results stand, and its groups are few
pub record Stands (c : Case) : Type 0 where
  pub design : IsDesign c.design
  pub within : IsWithin c.design
  pub countable : IsCountable c.design
  pub board : IsSound c.board
  pub groups : length c.groups ≤ 32
  pub results : ResultsStand c.results
  pub netlist : IsBuilt c.results.net
