use Rattle.std.proofs.Common.{◌≡◌, ◌++◌, ◌∷◌, [], ℕ, List, ap, subst, ◌∙◌, sym, set, get_or, length}
use Rattle.std.specs.Prelude.{Option, Some, None}
use Rattle.std.proofs.lemmas.List.{get_or_default}
use Rattle.gate_pass.specs.declared.readers.Pin.{Pin}
use Rattle.gate_pass.specs.Readers.{HasMore}
use Rattle.gate_pass.proofs.Chains.{one_pin_more}
use Rattle.gate_pass.proofs.readers.Chains.add.Goals as goal

pub returns-clause-pins : goal.returns-clause-pins
returns-clause-pins c all linked =
    let last : List (Option ℕ) = c.args.self.now.last.items in
    let pins : List Pin = c.args.self.now.pins.items in
    let is_end : c.len-place.result ≡ length pins = c.len-place.ensures ∙ c.args.self.now.pins.ok.0 in
    let before : c.index-before.result.now ≡ get_or last c.args.net None = c.index-before.ensures ∙ get_or_default last c.args.net c.index-before.result.now None c.requires in
    let pushed : c.push.new.self.items ≡ pins ++ record { gate = c.args.gate; before = get_or last c.args.net None } ∷ [] =
    c.in_ok-push.ensures.items ∙ ap (λ (b : Option ℕ). pins ++ record { gate = c.args.gate; before = b } ∷ []) before in
    subst (HasMore all pins c.args.gate (c.args.net ∷ []) (set last c.args.net (Some c.len-place.result))) (sym pushed)
    (one_pin_more all last pins linked c.args.gate c.args.net c.len-place.result c.requires is_end)
