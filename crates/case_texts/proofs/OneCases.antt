-- That texts stand for one case at most.
use Rattle.std.proofs.Common.{◌≡◌, List, ◌∙◌, sym, ap, subst}
use Rattle.id_arena.specs.BoardPlan.{BoardPlan}
use Rattle.board_model.specs.Answers as boards
use Rattle.design_core.specs.declared.parts.Parts.{Parts}
use Rattle.design_core.specs.Influence.{Group}
use Rattle.domain_groups.specs.Answers as grouping
use Rattle.domain_groups.specs.Groups.{InputGroups}
use Rattle.flattening.specs.Laws.{EachTextHasOneDesign}
use Rattle.emu_machine.specs.Acceptance.{Case}
use Rattle.emu_machine.specs.Results.{Results}
use Rattle.result_files.specs.ThreeTexts.{ResultsAreToldApart}
use Rattle.case_texts.specs.declared.what.What.TheVariants.{Design, Cells, Groups, Board, Netlist, Schedule, Map}
use Rattle.case_texts.specs.Cases.{TextsTellCasesApart}
use Rattle.case_texts.specs.Forms.{SaysGroups}
use Rattle.case_texts.proofs.Readings.{one_groups, one_plan}

-- a case, from its parts
abbrev pub case_of : Parts → List Group → BoardPlan → Results → Case
case_of p gs b r = record { design = p; groups = gs; board = b; results = r }

-- texts stand for one case at most
pub one_case : EachTextHasOneDesign → grouping.EachTextHasOneAnswer → boards.EachTextHasOneAnswer → ResultsAreToldApart → TextsTellCasesApart
one_case designs-apart grouped boards-law results-apart top texts c d sc sd =
    let design : d.design ≡ c.design = designs-apart (texts Design) (texts Cells) top d.design c.design sd.first.design sc.first.design in
    let here : SaysGroups c.design (texts Groups) sd.groups = subst (λ p. SaysGroups p (texts Groups) sd.groups) design sd.first.groups in
    let told : sd.groups ≡ sc.groups = one_groups grouped c.design (texts Groups) sd.groups sc.groups here sc.first.groups in
    let groups : d.groups ≡ c.groups = sd.grouped ∙ ap (λ (v : InputGroups). v.groups) told ∙ sym sc.grouped in
    let board : d.board ≡ c.board = one_plan boards-law (texts Board) d.board c.board sd.board sc.board in
    let results : d.results ≡ c.results = results-apart (texts Netlist) (texts Schedule) (texts Map) d.results c.results sd.results sc.results in
    ap (λ p. case_of p d.groups d.board d.results) design
    ∙ ap (λ gs. case_of c.design gs d.board d.results) groups
    ∙ ap (λ b. case_of c.design c.groups b d.results) board
    ∙ ap (λ r. case_of c.design c.groups c.board r) results
