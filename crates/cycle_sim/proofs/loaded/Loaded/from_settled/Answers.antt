use Rattle.std.proofs.Common.{false, get_or, sym, ap, subst}
use Rattle.design_core.specs.declared.parts.Parts.{Parts}
use Rattle.settled_model.specs.Held.{valuation}
use Rattle.cycle_sim.specs.Loading.{MemoriesLoad}
use Rattle.cycle_sim.proofs.Loads.{sizes_fit, words_fit, memories_load, loads, free}
use Rattle.cycle_sim.proofs.loaded.Loaded.from_settled.Goals as goal

pub words_of-requires-clause-memories : goal.words_of-requires-clause-memories
words_of-requires-clause-memories c place chip entry at at_entry =
    subst (λ (p : Parts). MemoriesLoad p chip entry) (sym c.requires.same)
    (memories_load c.args.design.now c.args.results.now c.requires.mapped c.stand.ensures.netlist place chip entry at at_entry)

pub returns-clause-sizes : goal.returns-clause-sizes
returns-clause-sizes c =
    sizes_fit c.args.design.now c.args.results.now c.stand.ensures.results.mapped c.requires.mapped c.values-values.result.now (valuation c.args.settled.now)
    (λ n. ap (λ values. get_or values n false) (sym c.values-values.ensures.values))
    c.in_ok-held.held.items c.in_ok-held.ensures c.in_ok-words.words.items c.in_ok-words.ensures

pub returns-clause-words : goal.returns-clause-words
returns-clause-words c =
    words_fit c.args.design.now c.args.results.now c.stand.ensures.results.mapped c.requires.mapped c.values-values.result.now (valuation c.args.settled.now)
    (λ n. ap (λ values. get_or values n false) (sym c.values-values.ensures.values))
    c.in_ok-held.held.items c.in_ok-held.ensures c.in_ok-words.words.items c.in_ok-words.ensures

pub returns-clause-loaded : goal.returns-clause-loaded
returns-clause-loaded c =
    loads c.args.design.now c.args.results.now c.stand.ensures.results.mapped c.requires.mapped c.values-values.result.now (valuation c.args.settled.now)
    (λ n. ap (λ values. get_or values n false) (sym c.values-values.ensures.values))
    c.in_ok-held.held.items c.in_ok-held.ensures c.in_ok-words.words.items c.in_ok-words.ensures
    c.in_ok-outside.outside.items c.in_ok-outside.ensures

pub returns-clause-free : goal.returns-clause-free
returns-clause-free c =
    free c.args.design.now c.args.results.now c.stand.ensures.results.mapped c.requires.mapped c.values-values.result.now (valuation c.args.settled.now)
    (λ n. ap (λ values. get_or values n false) (sym c.values-values.ensures.values))
    c.in_ok-held.held.items c.in_ok-held.ensures c.in_ok-words.words.items c.in_ok-words.ensures
    c.in_ok-outside.outside.items
