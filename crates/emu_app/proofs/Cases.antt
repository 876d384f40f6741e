-- The case that texts stand for: it stands, and it is the only one.
use Rattle.std.proofs.Common.{ℕ, ◌≡◌, List, Some, slice_get, refl, subst}
use Rattle.std.specs.Prelude.{Contains}
use Rattle.id_arena.specs.declared.keys.NetId.{NetId}
use Rattle.design_core.specs.declared.parts.Parts.{Parts}
use Rattle.design_core.specs.Dependency.{IsRanked}
use Rattle.design_core.specs.Design.{IsDesign}
use Rattle.design_core.specs.Influence.{Group, IsGroup}
use Rattle.domain_groups.specs.Groups.{AreGroups, AreOf, InputGroups}
use Rattle.emu_machine.specs.Law.{IsCase}
use Rattle.emu_machine.specs.Netlist.{IsNetlist}
use Rattle.emu_machine.specs.Results.{MapFits}
use Rattle.case_texts.specs.Cases.{DesignSays, StandFor, StandForOne, TextsTellCasesApart}
use Rattle.case_texts.specs.What.{Texts}
use Rattle.emu_app.specs.declared.reading.Planned.{Planned}
use Rattle.emu_app.specs.Reading.{PlanSays, case_of}

-- groups of a design are groups of its inputs
groups_are : (p : Parts) (v : InputGroups) → AreGroups v → AreOf p v → (k : ℕ) (g : Group) → slice_get v.groups k ≡ Some g → IsGroup p g
groups_are p v sound of k g at n has = subst (λ (nets : List NetId). Contains nets n) of (sound.inside k g n at has)

-- the case of a design, its groups, a board and results stands
pub is_case : (p : Parts) (v : InputGroups) (plan : Planned) → IsDesign p → IsRanked p → AreGroups v → AreOf p v → IsNetlist plan.results.net → MapFits plan.results → IsCase (case_of p v plan)
is_case p v plan design ranked sound of netlist mapped =
    record { design = design; ranked = ranked; groups = groups_are p v sound of; netlist = netlist; mapped = mapped }

-- what the texts say makes a case, and no other
pub stands_alone : TextsTellCasesApart → (top : List ℕ) (texts : Texts) (p : Parts) (v : InputGroups) (plan : Planned) → DesignSays top texts p v → PlanSays texts plan
    → StandForOne top texts (case_of p v plan)
stands_alone apart top texts p v plan first says =
    let stand : StandFor top texts (case_of p v plan) = record { groups = v; first = first; grouped = refl; board = says.board; results = says.results } in
    record { stand = stand; one = λ other also. apart top texts (case_of p v plan) other stand also }
