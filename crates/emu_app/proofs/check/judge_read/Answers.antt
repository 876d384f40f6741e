use Rattle.std.proofs.Common.{List, ℕ, sym, subst}
use Rattle.design_core.specs.declared.parts.Parts.{Parts}
use Rattle.case_texts.specs.Cases.{DesignSays}
use Rattle.case_texts.specs.What.{Texts}
use Rattle.emu_app.specs.declared.command.Command.TheVariants.{Check}
use Rattle.emu_app.specs.Fetching.{texts_of}
use Rattle.emu_app.proofs.Cases.{stands_alone}
use Rattle.emu_app.proofs.check.judge_read.Goals as goal

pub returns : goal.returns
returns c =
    let top : List ℕ = c.args.top.now in
    let texts : Texts = texts_of Check c.args.texts.now in
    let p : Parts = c.in_ok-ranked.ranked.design in
    let first : DesignSays top texts p c.in_ok-ranked.groups =
    subst (λ (q : Parts). DesignSays top texts q c.in_ok-ranked.groups) (sym c.in_ok-ranked.ensures.0) c.in_ok-ranked.ensures.1 in
    c.in_ok-found.ensures top texts
    (stands_alone c.texts_tell_cases_apart.ensures top texts p c.in_ok-ranked.groups c.in_ok-plan.plan first c.in_ok-plan.ensures)
