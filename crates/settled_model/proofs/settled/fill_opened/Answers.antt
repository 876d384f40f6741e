-- The pass from the states that are set and the inputs and words that are put in gives the opened
-- valuation.
use Rattle.std.proofs.Common.{List, false, replicate, length, subst, sym, ap, ◌∙◌}
use Rattle.std.proofs.lemmas.List.{length-replicate}
use Rattle.id_arena.specs.declared.keys.ElemId.{ElemId}
use Rattle.design_core.specs.declared.parts.Parts.{Parts}
use Rattle.design_core.specs.Design.{IsDesign, net_count}
use Rattle.design_core.specs.Limits.{word_count}
use Rattle.settled_model.specs.declared.opening.OpenWord.{OpenWord}
use Rattle.settled_model.specs.Opening.{AreElements, AreWords, stands_for}
use Rattle.settled_model.proofs.Outcomes.{inputs_there, put_in, set_in, words_in, opened}
use Rattle.settled_model.proofs.settled.fill_opened.Goals as goal

pub set_states-requires-clause-ones : goal.set_states-requires-clause-ones
set_states-requires-clause-ones c =
    subst (λ (ids : List ElemId). AreElements c.design-design.result.now ids) (sym c.as_slice.ensures)
    (subst (λ (p : Parts). AreElements p c.args.opening.now.ones) (sym c.design-design.ensures) c.requires.opening.ones)

pub put_values-requires : goal.put_values-requires
put_values-requires c =
    inputs_there c.args.ranked.now.design (subst IsDesign c.design-design.ensures c.stands.ensures.design) c.args.opening.now.inputs c.as_slice-2.result.now _ c.requires.opening.inputs c.as_slice-2.ensures
    (ap length c.requires.nets ∙ length-replicate (net_count c.args.ranked.now.design) false)

pub returns-clause-opened : goal.returns-clause-opened
returns-clause-opened c =
    opened c.args.ranked.now.design c.args.opening.now c.set_states.new.nets c.put_values.new.nets c.put_words.new.words c.run_pass.new.new c.run_pass.new.words (subst IsDesign c.design-design.ensures c.stands.ensures.design)
    (set_in c.args.ranked.now.design c.design-design.result.now c.args.opening.now.ones c.as_slice.result.now (replicate (net_count c.args.ranked.now.design) false) _ c.set_states.new.nets c.design-design.ensures c.as_slice.ensures c.requires.states c.set_states.ensures)
    (put_in c.args.opening.now.inputs c.as_slice-2.result.now (replicate (net_count c.args.ranked.now.design) false) _ c.put_values.new.nets c.as_slice-2.ensures c.requires.nets c.put_values.ensures)
    (words_in c.args.ranked.now.design c.design-design.result.now c.args.opening.now.words c.as_slice-3.result.now (replicate (word_count c.args.ranked.now.design) 0) _ c.put_words.new.words c.design-design.ensures c.as_slice-3.ensures c.requires.words c.put_words.ensures)
    c.run_pass.ensures

pub returns-clause-stands : goal.returns-clause-stands
returns-clause-stands c =
    let opened = returns-clause-opened c in
    record {
      settled = opened.settled;
      words_fit = c.opened_words_fit.ensures c.args.ranked.now.design (stands_for c.args.opening.now) _ (c.openings_fit.ensures c.args.ranked.now.design c.args.opening.now c.requires.opening) opened;
    }

pub put_words-requires-clause-given : goal.put_words-requires-clause-given
put_words-requires-clause-given c =
    subst (λ (ws : List OpenWord). AreWords c.design-design.result.now ws) (sym c.as_slice-3.ensures)
    (subst (λ (p : Parts). AreWords p c.args.opening.now.words) (sym c.design-design.ensures) c.requires.opening.words)
