-- Nothing drives a net that is not there.
use Rattle.std.proofs.Common.{◌≡◌, ℕ, ◌<◌, ◌≤◌, arith, Bool, true, false, refl, subst, if◌then◌else◌}
use Rattle.std.specs.Prelude.{◌==◌, Option, Some, None, slice_get, position, find, option_map, unwrap_or}
use Rattle.std.specs.Option.{option_or}
use Rattle.id_arena.specs.declared.keys.ElemId.{ElemId}
use Rattle.id_arena.specs.declared.keys.MemId.{MemId}
use Rattle.design_core.specs.declared.element.Element.{Element}
use Rattle.design_core.specs.declared.element.Driver.{Driver}
use Rattle.design_core.specs.declared.element.Driver.TheVariants.{Constant, Input, Elem, Read}
use Rattle.design_core.specs.declared.parts.Parts.{Parts}
use Rattle.design_core.specs.Design.{IsDesign, net_count, driver, drives, includes, port_bits, element_driver, read_driver, read_bits, ReadBit}
use Rattle.history_law.proofs.Naming.{element_is_driver, driver_is_element, input_is_input_bit, input_bit_is_input, read_bit_is_driver, driver_is_read_bit}
use Rattle.facts.proofs.Tests.{number_same}

abbrev pick : Bool → Bool → Bool → Option Driver → Driver
pick low high input inner =
    if low then Constant false
    else if high then Constant true
    else if input then Input
    else unwrap_or inner (Constant false)

picked_true : (low high input : Bool) (o : Option ℕ) (b : Option ReadBit) → pick low high input (option_or (option_map element_driver o) (option_map read_driver b)) ≡ Constant true → high ≡ true
picked_true true high input o b e = cc
picked_true false true input o b e = refl
picked_true false false true o b e = cc
picked_true false false false (Some k) b e = cc
picked_true false false false None (Some b) e = cc
picked_true false false false None None e = cc

true_is_one : (p : Parts) (n : ℕ) → driver p n ≡ Constant true → n ≡ 1
true_is_one p n e =
    number_same n 1
    (picked_true (n == 0) (n == 1) (includes (port_bits p.inputs) n) (position (drives n) p.elements) (find (λ (b : ReadBit). b.net == n) (read_bits p)) e)

module _ (p : Parts) (d : IsDesign p) where
  pub element_low : (n : ℕ) (k : ElemId) → driver p n ≡ Elem k → n < net_count p
  element_low n k e =
      let el : (x : Element) × (slice_get p.elements k.place ≡ Some x) × (drives n x ≡ true) = driver_is_element p n k e in
      (element_is_driver p k.place n el.0 d el.1 el.2).0

  pub input_low : (n : ℕ) → driver p n ≡ Input → n < net_count p
  input_low n e = (input_bit_is_input p n d (input_is_input_bit p n e)).0

  read_low : (n : ℕ) (m : MemId) (r b : ℕ) → driver p n ≡ Read m r b → n < net_count p
  read_low n m r b e =
      let at = driver_is_read_bit p n m r b e in
      let low : at.2.place < net_count p = (read_bit_is_driver p m.place r b at.0 at.1 at.2 d at.3 at.4 at.5).0 in
      subst (λ (k : ℕ). k < net_count p) at.6 low

  -- nothing drives a net that is not there
  pub far_driver : (n : ℕ) → net_count p ≤ n → driver p n ≡ Constant false
  far_driver n far = go (driver p n) refl
    where
      go : (x : Driver) → driver p n ≡ x → driver p n ≡ Constant false
      go (Constant false) e = e
      go (Constant true) e =
          let one : n ≡ 1 = true_is_one p n e in
          let two : 2 ≤ net_count p = d.constants in
          absurd (omega arith)
      go Input e = let low : n < net_count p = input_low n e in absurd (omega arith)
      go (Elem k) e = let low : n < net_count p = element_low n k e in absurd (omega arith)
      go (Read m r b) e = let low : n < net_count p = read_low n m r b e in absurd (omega arith)
