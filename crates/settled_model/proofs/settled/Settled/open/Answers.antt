-- The tables that are filled are whole, and what stands in them is settled.
use Rattle.std.proofs.Common.{◌≡◌, ◌++◌, take, drop, length, ap, ◌∙◌, rules}
use Rattle.design_core.specs.Design.{net_count}
use Rattle.settled_model.proofs.Entries.{whole}
use Rattle.settled_model.proofs.settled.Settled.open.Goals as goal

pub invariant_of-result : goal.invariant_of-result
invariant_of-result c =
    let nets-size : c.in_ok-nets.nets.len ≡ length c.in_ok-nets.nets.items = search rules in
    let nets-full : length c.fill_opened.new.nets ≡ length c.in_ok-nets.nets.items = c.fill_opened.auto.nets ∙ ap length c.deref_mut-2.ensures.value in
    let nets-whole : take c.in_ok-nets.nets.len (c.fill_opened.new.nets ++ drop (length c.fill_opened.new.nets) c.in_ok-nets.nets.items) ≡ c.fill_opened.new.nets =
    whole c.fill_opened.new.nets c.in_ok-nets.nets.items c.in_ok-nets.nets.len nets-size nets-full in
    let nets-count : length c.in_ok-nets.nets.items ≡ net_count c.args.ranked.now.design = search rules in
    let states-size : c.in_ok-states.states.len ≡ length c.in_ok-states.states.items = search rules in
    let states-full : length c.fill_opened.new.states ≡ length c.in_ok-states.states.items = c.fill_opened.auto.states ∙ ap length c.deref_mut.ensures.value in
    let states-whole : take c.in_ok-states.states.len (c.fill_opened.new.states ++ drop (length c.fill_opened.new.states) c.in_ok-states.states.items) ≡ c.fill_opened.new.states =
    whole c.fill_opened.new.states c.in_ok-states.states.items c.in_ok-states.states.len states-size states-full in
    let states-count : length c.in_ok-states.states.items ≡ net_count c.args.ranked.now.design = search rules in
    let words-size : c.in_ok-words.words.len ≡ length c.in_ok-words.words.items = search rules in
    let words-full : length c.fill_opened.new.words ≡ length c.in_ok-words.words.items = c.fill_opened.auto.words ∙ ap length c.deref_mut-3.ensures.value in
    let words-whole : take c.in_ok-words.words.len (c.fill_opened.new.words ++ drop (length c.fill_opened.new.words) c.in_ok-words.words.items) ≡ c.fill_opened.new.words =
    whole c.fill_opened.new.words c.in_ok-words.words.items c.in_ok-words.words.len words-size words-full in
    rw (nets-whole, states-whole, words-whole)
    (nets-full ∙ nets-count, states-full ∙ states-count, search rules, c.fill_opened.ensures.room, search rules, search rules, c.fill_opened.ensures.stands)
