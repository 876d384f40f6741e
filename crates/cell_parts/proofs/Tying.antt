-- The names and nets of tied pins.
use Rattle.std.proofs.Common.{◌≡◌, ◌∙◌, ℕ, List, [], ◌∷◌, Option, ap, arith, sym, refl, length, map}
use Rattle.id_arena.specs.declared.keys.NetId.{NetId}
use Rattle.cell_parts.specs.declared.pins.Pin.{Pin}
use Rattle.cell_parts.specs.Pins.{pin_names}
use Rattle.cell_parts.specs.Tied.{all_nets}
use Rattle.cell_parts.specs.Wires.{TiedPin, nets_in_order, tied_by, wires_of}

-- tied pins have the names of the pins
tied_names : (pins : List Pin) (ties : List (Option (List NetId))) → length ties ≡ length pins → map (λ (tied : TiedPin). tied.pin.name) (tied_by pins ties) ≡ pin_names pins
tied_names [] ties same = refl
tied_names (pin ∷ pins) [] same = absurd (omega (arith, same))
tied_names (pin ∷ pins) (tie ∷ ties) same = ap (λ l. pin.name ∷ l) (tied_names pins ties (omega (arith, same)))

-- the wires of tied pins
pub wires_are : (items pins : List Pin) (ties nets : List (Option (List NetId))) (first next : ℕ)
    → items ≡ pins
    → first ≡ next
    → length ties ≡ length pins
    → all_nets nets ≡ nets_in_order first (tied_by items ties)
    → record { names = pin_names pins; nets = all_nets nets } ≡ wires_of next (tied_by pins ties)
wires_are items pins ties nets first next same begun together filled =
    let names = sym (tied_names pins ties together) in
    let rows : all_nets nets ≡ nets_in_order next (tied_by pins ties) = filled ∙ ap (λ n. nets_in_order n (tied_by items ties)) begun ∙ ap (λ l. nets_in_order next (tied_by l ties)) same in
    λ i. record { names = names i; nets = rows i }
