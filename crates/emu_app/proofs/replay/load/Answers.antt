use Rattle.std.proofs.Common.{IfOk, subst}
use Rattle.design_core.specs.declared.parts.Parts.{Parts}
use Rattle.design_core.specs.Design.{IsDesign}
use Rattle.design_core.specs.Settled.{IsOpened, OpeningFits}
use Rattle.design_core.specs.Valuation.{Valuation}
use Rattle.emu_machine.specs.Mapped.{IsLoaded}
use Rattle.cycle_sim.specs.Tables.{Tables, state_of}
use Rattle.settled_model.specs.Held.{valuation}
use Rattle.settled_model.specs.Opening.{stands_for}
use Rattle.emu_app.proofs.Replaying.{if_ok, opened_loaded}
use Rattle.emu_app.proofs.replay.load.Goals as goal

pub returns-clause-loaded : goal.returns-clause-loaded
returns-clause-loaded c =
    let p : Parts = c.args.ranked.now.design in
    let design : IsDesign p = subst (λ (q : Parts). IsDesign q) c.design.ensures c.stands.ensures.design in
    let fits : OpeningFits p (stands_for c.args.opening.now) = c.openings_fit.ensures p c.args.opening.now c.requires.opens in
    if_ok (λ (t : Tables). IsLoaded p c.args.results.now (valuation c.in_ok-settled.settled) (state_of t))
    (λ (t : Tables). (v : Valuation) → IsOpened p (stands_for c.args.opening.now) v → IsLoaded p c.args.results.now v (state_of t))
    c.from_settled.result
    (λ t. opened_loaded c.opened_are_same.ensures p c.args.opening.now c.args.results.now (valuation c.in_ok-settled.settled) (state_of t)
    design c.stands-2.ensures.ranked fits c.requires.kept c.in_ok-settled.ensures.opened)
    (subst (λ (q : Parts). IfOk c.from_settled.result (λ t. IsLoaded q c.args.results.now (valuation c.in_ok-settled.settled) (state_of t))) c.design-2.ensures c.from_settled.ensures.loaded)
