use Rattle.std.proofs.Common.{◌≡◌, ◌∙◌, List, None, Err, map, sym, ap, subst, rules}
use Rattle.std.specs.Prelude.{filter_map}
use Rattle.domain_groups.specs.declared.openings.OpeningFault.TheVariants.{NoMemory}
use Rattle.domain_groups.specs.GivenOpening.{GivenWord}
use Rattle.domain_groups.specs.Openings.{input_fault, led_to, plain_word, state_fault, word_fault}
use Rattle.event_replay.specs.Checks.{first_of}
use Rattle.event_replay.proofs.Judging.{all_given, inputs_are, inputs_fail, moved, no_room, ones_fail, values_are, words_fail}
use Rattle.event_replay.proofs.Sifting.{exit_is}
use Rattle.event_replay.proofs.opening.judged.Goals as goal

pub returns-in_err-ports : goal.returns-in_err-ports
returns-in_err-ports c =
    let same : c.from_residual.result ≡ Err NoMemory = search rules in
    no_room c.args.design.now c.args.given.now c.stands.ensures.named c.from_residual.result same

pub returns-in_err-inputs : goal.returns-in_err-inputs
returns-in_err-inputs c =
    let same : c.from_residual-in_err-inputs.result ≡ Err c.in_err-inputs.field-0.0 = search rules in
    let p = c.args.design.now in
    let given = c.args.given.now in
    let named = c.stands.ensures.named in
    let ports : c.in_ok-ports.ports ≡ p.inputs = c.in_ok-ports.ensures ∙ c.as_slice.ensures ∙ c.inputs.ensures in
    let inputs = c.as_slice-2.ensures ∙ ap (λ g. g.inputs) c.given.view_is in
    let same_inputs = inputs_are p given c.in_ok-ports.ports c.as_slice-2.result.now ports inputs in
    inputs_fail p given named c.from_residual-in_err-inputs.result c.in_err-inputs.field-0.0 same (moved _ _ c.in_err-inputs.field-0.0 same_inputs c.in_err-inputs.ensures)

pub returns-in_err-states : goal.returns-in_err-states
returns-in_err-states c =
    let same : c.from_residual-in_err-states.result ≡ Err NoMemory = search rules in
    no_room c.args.design.now c.args.given.now c.stands.ensures.named c.from_residual-in_err-states.result same

pub returns-in_err-ones : goal.returns-in_err-ones
returns-in_err-ones c =
    let same : c.from_residual-in_err-ones.result ≡ Err c.in_err-ones.field-0.0 = search rules in
    let p = c.args.design.now in
    let given = c.args.given.now in
    let named = c.stands.ensures.named in
    let ports : c.in_ok-ports.ports ≡ p.inputs = c.in_ok-ports.ensures ∙ c.as_slice.ensures ∙ c.inputs.ensures in
    let inputs = c.as_slice-2.ensures ∙ ap (λ g. g.inputs) c.given.view_is in
    let same_inputs = inputs_are p given c.in_ok-ports.ports c.as_slice-2.result.now ports inputs in
    let none : first_of (filter_map (input_fault p.inputs) given.inputs) ≡ None = sym same_inputs ∙ c.in_ok-inputs.ensures.0 in
    let states = c.in_ok-states.states in
    let ones : map (λ path. path.now) c.as_slice-3.result.now ≡ given.ones = ap (map (λ path. path.now)) c.as_slice-3.ensures ∙ ap (λ g. g.ones) c.given.view_is in
    ones_fail p given named states c.in_ok-states.ensures none c.from_residual-in_err-ones.result c.in_err-ones.field-0.0 same
    (moved _ _ c.in_err-ones.field-0.0 (ap (λ ps. first_of (filter_map (state_fault (led_to states)) ps)) ones) c.in_err-ones.ensures)

pub returns-in_err-memories : goal.returns-in_err-memories
returns-in_err-memories c =
    let same : c.from_residual-in_err-memories.result ≡ Err NoMemory = search rules in
    no_room c.args.design.now c.args.given.now c.stands.ensures.named c.from_residual-in_err-memories.result same

pub returns-in_err-words : goal.returns-in_err-words
returns-in_err-words c =
    let same = exit_is c.from_residual-in_err-words.result c.in_err-words.field-0.0 c.from_residual-in_err-words.ensures in
    let p = c.args.design.now in
    let given = c.args.given.now in
    let named = c.stands.ensures.named in
    let ports : c.in_ok-ports.ports ≡ p.inputs = c.in_ok-ports.ensures ∙ c.as_slice.ensures ∙ c.inputs.ensures in
    let inputs = c.as_slice-2.ensures ∙ ap (λ g. g.inputs) c.given.view_is in
    let same_inputs = inputs_are p given c.in_ok-ports.ports c.as_slice-2.result.now ports inputs in
    let none : first_of (filter_map (input_fault p.inputs) given.inputs) ≡ None = sym same_inputs ∙ c.in_ok-inputs.ensures.0 in
    let states = c.in_ok-states.states in
    let ones : map (λ path. path.now) c.as_slice-3.result.now ≡ given.ones = ap (map (λ path. path.now)) c.as_slice-3.ensures ∙ ap (λ g. g.ones) c.given.view_is in
    let none-2 : first_of (filter_map (state_fault (led_to states)) given.ones) ≡ None = ap (λ ps. first_of (filter_map (state_fault (led_to states)) ps)) (sym ones) ∙ c.in_ok-ones.ensures.0 in
    let memories = c.in_ok-memories.memories in
    let words = c.as_slice-4.ensures ∙ ap (λ g. g.words) c.given.view_is in
    words_fail p given named states c.in_ok-states.ensures none none-2 memories c.in_ok-memories.ensures c.from_residual-in_err-words.result c.in_err-words.field-0.0 same
    (moved _ _ c.in_err-words.field-0.0 (ap (λ (ws : List GivenWord). first_of (filter_map (word_fault p (led_to memories)) ws)) words) c.in_err-words.ensures)

pub returns : goal.returns
returns c =
    let p = c.args.design.now in
    let given = c.args.given.now in
    let named = c.stands.ensures.named in
    let ports : c.in_ok-ports.ports ≡ p.inputs = c.in_ok-ports.ensures ∙ c.as_slice.ensures ∙ c.inputs.ensures in
    let inputs = c.as_slice-2.ensures ∙ ap (λ g. g.inputs) c.given.view_is in
    let same_inputs = inputs_are p given c.in_ok-ports.ports c.as_slice-2.result.now ports inputs in
    let none : first_of (filter_map (input_fault p.inputs) given.inputs) ≡ None = sym same_inputs ∙ c.in_ok-inputs.ensures.0 in
    let states = c.in_ok-states.states in
    let ones : map (λ path. path.now) c.as_slice-3.result.now ≡ given.ones = ap (map (λ path. path.now)) c.as_slice-3.ensures ∙ ap (λ g. g.ones) c.given.view_is in
    let none-2 : first_of (filter_map (state_fault (led_to states)) given.ones) ≡ None = ap (λ ps. first_of (filter_map (state_fault (led_to states)) ps)) (sym ones) ∙ c.in_ok-ones.ensures.0 in
    let memories = c.in_ok-memories.memories in
    let words = c.as_slice-4.ensures ∙ ap (λ g. g.words) c.given.view_is in
    let none-3 : first_of (filter_map (word_fault p (led_to memories)) given.words) ≡ None = ap (λ (ws : List GivenWord). first_of (filter_map (word_fault p (led_to memories)) ws)) (sym words) ∙ c.in_ok-words.ensures.0 in
    all_given p given named states c.in_ok-states.ensures none none-2 memories c.in_ok-memories.ensures (record { inputs = c.in_ok-inputs.inputs; ones = c.in_ok-ones.ones; words = c.in_ok-words.words }) none-3
    (c.in_ok-inputs.ensures.1 ∙ values_are p given c.in_ok-ports.ports c.as_slice-2.result.now ports inputs)
    (c.in_ok-ones.ensures.1 ∙ ap (filter_map (led_to states)) ones)
    (c.in_ok-words.ensures.1 ∙ ap (λ (ws : List GivenWord). filter_map (plain_word (led_to memories)) ws) words)
