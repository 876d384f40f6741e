use Rattle.std.proofs.Common.{subst}
use Rattle.design_core.specs.declared.parts.Parts.{Parts}
use Rattle.design_core.specs.Design.{IsDesign}
use Rattle.emu_machine.specs.Acceptance.{Case}
use Rattle.emu_machine.specs.Law.{IsCase}
use Rattle.shape_check.specs.Verdict.{IsVerdict}
use Rattle.emu_app.specs.Reading.{case_of}
use Rattle.emu_app.proofs.Cases.{is_case}
use Rattle.emu_app.proofs.Judging.{accepts_all, rejects_all}
use Rattle.emu_app.proofs.check.judge_case.Goals as goal

pub returns-in-Accepted : goal.returns-in-Accepted
returns-in-Accepted c =
    let p : Parts = c.args.ranked.now.design in
    let judged : Case = case_of p c.args.groups.now c.args.plan in
    let design : IsDesign p = subst IsDesign c.design.ensures c.stands.ensures.design in
    let case : IsCase judged =
    is_case p c.args.groups.now c.args.plan design c.stands-2.ensures.ranked c.stands-3.ensures c.requires c.stand.ensures.netlist.netlist c.stand.ensures.results.mapped in
    accepts_all c.accepted_agrees.ensures judged case (subst (IsVerdict judged) c.in-Accepted.is c.in_ok-judge.ensures)

pub returns-in-Rejected : goal.returns-in-Rejected
returns-in-Rejected c =
    let judged : Case = case_of c.args.ranked.now.design c.args.groups.now c.args.plan in
    rejects_all judged c.in-Rejected.rule c.in-Rejected.place (subst (IsVerdict judged) c.in-Rejected.is c.in_ok-judge.ensures)
