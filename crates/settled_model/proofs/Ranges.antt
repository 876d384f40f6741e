-- The nets and inputs of an element of a design, within its bounds.
use Rattle.std.proofs.Common.{◌≡◌, ◌<◌, ℕ, zero, suc, true, List, [], ◌∷◌, map, length, get_or, refl, sym, ap, ◌∙◌, arith}
use Rattle.std.specs.Prelude.{Some, None, slice_get, nat_lt, ◌&&◌, Contains}
use Rattle.std.proofs.lemmas.Bool.Decides.{nat_tests}
use Rattle.std.proofs.lemmas.Option.{none-some, slice_get_within, slice_get-get_or, same_Some}
use Rattle.id_arena.specs.declared.keys.NetId.{NetId}
use Rattle.id_arena.specs.declared.keys.ElemId.{ElemId}
use Rattle.design_core.specs.declared.element.Element.{Element}
use Rattle.design_core.specs.declared.element.Element.TheVariants as element
use Rattle.design_core.specs.declared.element.Driver.TheVariants.{Elem}
use Rattle.design_core.specs.declared.node.NodeId.TheVariants.{Net}
use Rattle.design_core.specs.declared.parts.Parts.{Parts}
use Rattle.design_core.specs.Design.{IsDesign, net_count, driver, element_reads}
use Rattle.design_core.specs.Faults.{are_there, is_there, element_outputs}
use Rattle.design_core.specs.Limits.{IsWithin, inputs_within}
use Rattle.design_core.proofs.Bounds.{every}
use Rattle.facts.proofs.Tests.{same_number}
use Rattle.history_law.proofs.Naming.{element_is_driver, driver_is_element}
use Rattle.history_law.proofs.Ranges.{Each, InRange, within_each, element_within}

module _ (p : Parts) where
  pub there : (n : NetId) → n.place < net_count p → is_there (net_count p) n ≡ true
  there n low = let less : nat_lt n.place (net_count p) ≡ true = grind (arith, nat_tests) in less

  pub each_there : (nets : List NetId) → Each (InRange p) (map Net nets) → are_there (net_count p) nets ≡ true
  each_there [] h = refl
  each_there (n ∷ nets) h = ap (λ b. b && are_there (net_count p) nets) (there n h.0) ∙ each_there nets h.1

  module _ (d : IsDesign p) (k : ℕ) where
    pub reads_there : (e : Element) → slice_get p.elements k ≡ Some e → are_there (net_count p) (element_reads e) ≡ true
    reads_there e at = each_there (element_reads e) (within_each p (element_reads e) (element_within p d k e at))

    pub outputs_there : (e : Element) → slice_get p.elements k ≡ Some e → are_there (net_count p) (element_outputs e) ≡ true
    outputs_there (element.Gate op inputs output) at =
        each_there (output ∷ []) ((element_is_driver p k output.place (element.Gate op inputs output) d at (same_number output.place output.place refl)).0, tt)
    outputs_there (element.Flop f) at =
        each_there (f.q ∷ []) ((element_is_driver p k f.q.place (element.Flop f) d at (same_number f.q.place f.q.place refl)).0, tt)
    outputs_there (element.Latch l) at =
        each_there (l.q ∷ []) ((element_is_driver p k l.q.place (element.Latch l) d at (same_number l.q.place l.q.place refl)).0, tt)
    outputs_there (element.Memory m) at = refl

  pub few_inputs : IsWithin p → (k : ℕ) (e : Element) → slice_get p.elements k ≡ Some e → inputs_within e ≡ true
  few_inputs h k e at = every inputs_within p.elements k e h.inputs at

  pub driver_there : (n : ℕ) (k : ElemId) → driver p n ≡ Elem k → k.place < length p.elements
  driver_there n k e = let h = driver_is_element p n k e in slice_get_within p.elements k.place h.0 h.1

pub item_among : {X : Type 0} (xs : List X) (k : ℕ) (other : X) → k < length xs → Contains xs (get_or xs k other)
item_among xs k other low =
    (k, low, same_Some _ _ (sym (slice_get-get_or xs k (get_or xs k other) low) ∙ slice_get-get_or xs k other low))

pub missing : {X : Type 0} (xs : List X) (k : ℕ) → k < length xs → slice_get xs k ≡ None → ⊥
missing [] k low e = omega arith
missing (x ∷ xs) zero low e = none-some x (sym e)
missing (x ∷ xs) (suc k) low e = let less : k < length xs = omega arith in missing xs k less e
