-- No gate has more than one turn.
use Rattle.std.proofs.Common.{◌≡◌, ◌<◌, ◌≤◌, ◌+◌, ℕ, zero, suc, List, [], ◌∷◌, length, drop, refl, ap, ◌∙◌, arith}
use Rattle.std.specs.Prelude.{Some, Contains, slice_get}
use Rattle.std.proofs.lemmas.List.{length-map}
use Rattle.std.proofs.lemmas.List.Sums.{sum_by-cons}
use Rattle.std.proofs.lemmas.Option.{none-some, same_Some}
use Rattle.emu_machine.specs.declared.netlist.Chip.{Chip}
use Rattle.emu_machine.specs.Marks.{Mark, no_mark}
use Rattle.gate_pass.specs.Gates.{AreFalling, WereDue}
use Rattle.chip_pass.specs.Chips.{ChipState, IsChipPass}
use Rattle.output_marks.specs.Shown.{gate_count}

-- falling numbers below a bound are no more than the bound
few_falling : (turns : List ℕ) (bound : ℕ) → AreFalling turns → ((k : ℕ) → Contains turns k → k < bound) → length turns ≤ bound
few_falling [] bound falls low = omega arith
few_falling (x ∷ xs) bound falls low =
    let head : x < bound = low x (0, omega arith, refl) in
    let rest : length xs ≤ x = few_falling xs x falls.1 falls.0 in
    omega (arith, head, rest)

-- the turns of a pass are no more than the gates of its chip
pub few_turns : (old new : ChipState Mark) (turns : List ℕ) → IsChipPass old → WereDue no_mark old.pass new.pass turns → length turns ≤ length old.chip.gates
few_turns old new turns stands due =
    let outputs : length old.pass.outputs ≡ length old.order = ap length stands.outputs ∙ length-map old.order _ in
    let order : length old.order ≡ length old.chip.gates = stands.ordered.count in
    let few : length turns ≤ length old.pass.outputs = few_falling turns (length old.pass.outputs) due.falling due.there in
    omega (arith, few, outputs, order)

-- the steps of a pass are no more than the gates of its chip
pub few_steps : (old new : ChipState Mark) (chip : Chip) (before after : ℕ) → IsChipPass old → old.chip ≡ chip
    → (turns : List ℕ) × WereDue no_mark old.pass new.pass turns × (after ≤ before + length turns) → after ≤ before + length chip.gates
few_steps old new chip before after stands is counted =
    let few : length counted.0 ≤ length old.chip.gates = few_turns old new counted.0 stands counted.1 in
    let same : length old.chip.gates ≡ length chip.gates = ap (λ (c : Chip). length c.gates) is in
    omega (arith, few, same, counted.2)

-- the gates of the chips that are left, one chip first
gates_left : (chips : List Chip) (c : ℕ) (chip : Chip) → slice_get chips c ≡ Some chip → gate_count (drop c chips) ≡ length chip.gates + gate_count (drop (suc c) chips)
gates_left [] c chip at = absurd (none-some chip at)
gates_left (x ∷ xs) zero chip at =
    sum_by-cons (λ (chip : Chip). length chip.gates) x xs ∙ ap (λ (y : Chip). length y.gates + gate_count xs) (same_Some x chip at)
gates_left (x ∷ xs) (suc c) chip at = gates_left xs c chip at

-- one chip more is counted
pub counted_more : (chips : List Chip) (c : ℕ) (chip : Chip) (before after total : ℕ) → slice_get chips c ≡ Some chip → after ≤ before + length chip.gates
    → before + gate_count (drop c chips) ≤ total → after + gate_count (drop (c + 1) chips) ≤ total
counted_more chips c chip before after total at more few =
    let next : suc c ≡ c + 1 = omega arith in
    let left : gate_count (drop c chips) ≡ length chip.gates + gate_count (drop (c + 1) chips) =
    gates_left chips c chip at ∙ ap (λ (n : ℕ). length chip.gates + gate_count (drop n chips)) next in
    omega (arith, left, more, few)
