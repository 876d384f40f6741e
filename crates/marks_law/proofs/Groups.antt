-- Offered to the crates above: the groups that have a frame, of which each names inputs of the design alone.
use Rattle.std.proofs.Common.{◌≡◌, ℕ, true, false, refl, subst, inl, inr}
use Rattle.std.specs.Prelude.{Option, Some, None, slice_get, codes}
use Rattle.std.specs.Option.{option_map_or}
use Rattle.design_core.specs.declared.parts.Parts.{Parts}
use Rattle.design_core.specs.declared.element.Driver.TheVariants as driven
use Rattle.design_core.specs.Design.{driver, port_bits, includes, is_net}
use Rattle.design_core.specs.Influence.{Group, all_groups, IsGroup}
use Rattle.emu_machine.specs.Acceptance.{Case, is_in_group}
use Rattle.emu_machine.specs.Law.{IsCase}
use Rattle.facts.proofs.Tests.{no}
use Rattle.facts.proofs.Lists.{any_at}
use Rattle.history_law.proofs.Naming.{input_bit_is_input}
use Rattle.facts.proofs.Places.{any_found, contains_at, at_contains, at_last}

abbrev all_inputs : Parts → Group
all_inputs p = record { name = codes "*"; nets = port_bits p.inputs }

groups_are : (c : Case) (k : ℕ) (g : Group) → IsCase c → slice_get (all_groups c.design c.groups) k ≡ Some g → IsGroup c.design g
groups_are c k g is at =
    elim (at_last c.groups (all_inputs c.design) k g at) [
      | inl h ↦ is.groups k g h
      | inr h ↦ subst (λ (g : Group). IsGroup c.design g) h (λ n m. m)
    ]

named_input : (c : Case) (n : ℕ) → IsCase c → (g : Group) → IsGroup c.design g → includes g.nets n ≡ true → driver c.design n ≡ driven.Input
named_input c n is g whole h =
    let f = any_found (is_net n) g.nets h in
    let there = at_contains (port_bits c.design.inputs) f.1 (whole f.1 (contains_at g.nets f.0 f.1 f.2)) in
    (input_bit_is_input c.design n is.design (any_at (is_net n) (port_bits c.design.inputs) there.0 f.1 there.1 f.3)).1

in_group : (c : Case) (k n : ℕ) → IsCase c → (o : Option Group) → slice_get (all_groups c.design c.groups) k ≡ o
    → option_map_or (λ g. includes g.nets n) o false ≡ true → driver c.design n ≡ driven.Input
in_group c k n is None e h = no h
in_group c k n is (Some g) e h = named_input c n is g (groups_are c k g is e) h

-- a net of a group is driven from outside
pub group_net_is_input : (c : Case) (group net : ℕ) → IsCase c → is_in_group c group net ≡ true → driver c.design net ≡ driven.Input
group_net_is_input c k n is h = in_group c k n is (slice_get (all_groups c.design c.groups) k) refl h
