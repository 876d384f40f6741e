-- Offered to the crates above: nothing drives a net of a design that is not there.
use Rattle.std.proofs.Common.{◌≡◌, ℕ, zero, suc, ◌<◌, ◌≤◌, arith, Bool, true, false, refl, ap, ◌∙◌, if◌then◌else◌}
use Rattle.std.specs.Prelude.{◌==◌, nat_lt, Option, None, position, find, count_by, option_map, unwrap_or}
use Rattle.std.specs.Option.{option_or}
use Rattle.design_core.specs.declared.element.Driver.{Driver}
use Rattle.design_core.specs.declared.element.Driver.TheVariants.{Constant, Input}
use Rattle.design_core.specs.declared.parts.Parts.{Parts}
use Rattle.design_core.specs.Design.{IsDesign, net_count, driver, driver_count, drives, includes, is_net, port_bits, element_driver, read_driver, read_bits, ReadBit}
use Rattle.facts.proofs.Counting.{not_found, unplaced}
use Rattle.facts.proofs.Lists.{none_any}
use Rattle.facts.proofs.Tests.{below, number_same}

abbrev pick : Bool → Bool → Bool → Option ℕ → Option ReadBit → Driver
pick low high input element read =
    if low then Constant false
    else if high then Constant true
    else if input then Input
    else unwrap_or (option_or (option_map element_driver element) (option_map read_driver read)) (Constant false)

module _ (p : Parts) (d : IsDesign p) (n : ℕ) (far : net_count p ≤ n) where
  nothing : driver_count p n ≡ 0
  nothing = go (driver_count p n) refl
    where
      go : (k : ℕ) → driver_count p n ≡ k → driver_count p n ≡ 0
      go zero e = e
      go (suc k) e =
          let some : 0 < driver_count p n = omega (arith, e) in
          let low : n < net_count p = d.in_range n some in
          absurd (omega arith)

  not_low : nat_lt n 2 ≡ false
  not_low = go (nat_lt n 2) refl
    where
      go : (b : Bool) → nat_lt n 2 ≡ b → nat_lt n 2 ≡ false
      go false e = e
      go true e = let low : n < 2 = below n 2 e in let two : 2 ≤ net_count p = d.constants in absurd (omega arith)

  not_same : (k : ℕ) → k < 2 → (n == k) ≡ false
  not_same k small = go (n == k) refl
    where
      go : (b : Bool) → (n == k) ≡ b → (n == k) ≡ false
      go false e = e
      go true e = let same : n ≡ k = number_same n k e in let two : 2 ≤ net_count p = d.constants in absurd (omega arith)

  -- nothing drives a net that is not there
  pub far_driver : driver p n ≡ Constant false
  far_driver =
      let none : driver_count p n ≡ 0 = nothing in
      let inputs : count_by (is_net n) (port_bits p.inputs) ≡ 0 = omega (arith, none) in
      let elements : count_by (drives n) p.elements ≡ 0 = omega (arith, none) in
      let reads : count_by (λ (b : ReadBit). b.net == n) (read_bits p) ≡ 0 = omega (arith, none) in
      let zeroth : (n == 0) ≡ false = not_same 0 (omega arith) in
      let first : (n == 1) ≡ false = not_same 1 (omega arith) in
      ap (λ b. pick b (n == 1) (includes (port_bits p.inputs) n) (position (drives n) p.elements) (find (λ (b : ReadBit). b.net == n) (read_bits p))) zeroth
      ∙ ap (λ b. pick false b (includes (port_bits p.inputs) n) (position (drives n) p.elements) (find (λ (b : ReadBit). b.net == n) (read_bits p))) first
      ∙ ap (λ b. pick false false b (position (drives n) p.elements) (find (λ (b : ReadBit). b.net == n) (read_bits p))) (none_any (is_net n) (port_bits p.inputs) inputs)
      ∙ ap (λ o. pick false false false o (find (λ (b : ReadBit). b.net == n) (read_bits p))) (unplaced (drives n) p.elements elements)
      ∙ ap (λ o. pick false false false None o) (not_found (λ (b : ReadBit). b.net == n) (read_bits p) reads)
