use Rattle.std.proofs.Common.{◌≡◌, ◌++◌, take, drop, length, List, Bool, sym, subst, ◌∙◌}
use Rattle.chip_pass.specs.Chips.{ChipState}
use Rattle.cycle_sim.specs.Passes.{ShowHeld, rows_of}
use Rattle.cycle_sim.specs.Tables.{AllShown}
use Rattle.slot_endings.proofs.Ending.{written_back}
use Rattle.cycle_sim.proofs.passes.settled_passes.Goals as goal

pub returns-clause-shown : goal.returns-clause-shown
returns-clause-shown c =
    let value : c.deref_mut.result.now ≡ c.in_ok-passes.passes.items = c.deref_mut.ensures.value in
    let whole : take c.in_ok-passes.passes.len (c.settle_all.new.passes ++ drop (length c.settle_all.new.passes) c.in_ok-passes.passes.items) ≡ c.settle_all.new.passes =
    written_back c.in_ok-passes.passes.items c.settle_all.new.passes c.in_ok-passes.passes.len c.in_ok-passes.passes.ok.0
    (c.settle_all.ensures.passes.count ∙ sym c.in_ok-passes.ensures.passes.count) in
    subst (λ (passes : List (ChipState Bool)). AllShown c.args.results.now c.args.held.now (rows_of passes)) (sym whole)
    (c.settle_all.ensures.shown c.args.held.now (subst (λ (p : List (ChipState Bool)). ShowHeld c.args.results.now c.args.held.now (rows_of p)) (sym value) c.in_ok-passes.ensures.level))
