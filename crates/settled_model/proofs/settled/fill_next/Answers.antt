-- The pass from the old values with the inputs put in and the clocked bits taken gives the valuation after.
use Rattle.std.proofs.Common.{subst, ◌∙◌}
use Rattle.design_core.specs.declared.parts.Parts.{Parts}
use Rattle.design_core.specs.Design.{IsDesign}
use Rattle.settled_model.specs.Held.{shown, holding, word_in}
use Rattle.settled_model.specs.Clocked.{HasTaken}
use Rattle.settled_model.proofs.Outcomes.{inputs_there, put_in, after_event}
use Rattle.settled_model.proofs.settled.fill_next.Goals as goal

pub put_values-requires : goal.put_values-requires
put_values-requires c =
    inputs_there c.args.ranked.now.design (subst IsDesign c.design-design.ensures c.stands.ensures.design) c.args.values.now c.as_slice.result.now _ c.requires.inputs c.as_slice.ensures
    (c.copy_from_slice.auto.self ∙ c.requires.new_size)

pub returns-clause-after : goal.returns-clause-after
returns-clause-after c =
    after_event c.args.ranked.now.design (subst IsDesign c.design-design.ensures c.stands.ensures.design) c.args.values.now c.args.old.now c.put_values.new.nets c.take_bits.new.new c.args.words.now c.run_pass.new.new c.run_pass.new.words c.args.clocked.now c.requires.clocked
    (put_in c.args.values.now c.as_slice.result.now c.args.old.now c.copy_from_slice.new.self c.put_values.new.nets c.as_slice.ensures c.copy_from_slice.ensures.after c.put_values.ensures)
    (subst (λ (q : Parts). HasTaken q c.args.clocked.now (word_in q c.args.words.now) (shown c.args.old.now) c.put_values.new.nets c.take_bits.new.new) c.design-design.ensures c.take_bits.ensures)
    c.run_pass.ensures

pub returns-clause-stands : goal.returns-clause-stands
returns-clause-stands c =
    let d = subst IsDesign c.design-design.ensures c.stands.ensures.design in
    record {
      settled = c.events_keep_settled.ensures c.args.ranked.now.design (holding c.args.ranked.now.design c.args.old.now c.args.words.now) c.args.values.now _ d c.requires.stands.settled (returns-clause-after c);
      words_fit = c.events_keep_words_fit.ensures c.args.ranked.now.design (holding c.args.ranked.now.design c.args.old.now c.args.words.now) c.args.values.now _ d c.requires.stands.words_fit (returns-clause-after c);
    }
