-- The limits of a design.
-- The rule is told in docs/RULES.md, "Limits".
use Rattle.std.specs.Prelude.{◌≤◌, ◌^◌, ℕ, nat_le, Bool, true, length, IsTrue}
use Rattle.std.specs.List.{list_all, sum_by}
use Rattle.design_core.specs.declared.operation.Op.{Op}
use Rattle.design_core.specs.declared.operation.Op.TheVariants.{Table}
use Rattle.design_core.specs.declared.element.Element.{Element}
use Rattle.design_core.specs.declared.element.Element.TheVariants as element
use Rattle.design_core.specs.declared.parts.Parts.{Parts}
use Rattle.design_core.specs.Most.{most_nets, most_elements, most_words, most_table_inputs, most_gate_inputs, most_places}
use Rattle.design_core.specs.Design.{net_count, port_bits}

-- how many inputs a gate may have, by what it is
abbrev pub most_inputs : Op → ℕ
most_inputs (Table table) = most_table_inputs
most_inputs other = most_gate_inputs

abbrev pub inputs_within : Element → Bool
inputs_within (element.Gate op inputs output) = nat_le (length inputs) (most_inputs op)
inputs_within other = true

-- how many words all memories have together
abbrev pub word_count : Parts → ℕ
word_count p = sum_by (λ memory. 2 ^ memory.address_bits) p.memories

-- a design is within the limits
pub record IsWithin (p : Parts) : Type 0 where
  pub inputs : IsTrue (list_all inputs_within p.elements)
  pub nets : net_count p ≤ most_nets
  pub elements : length p.elements ≤ most_elements
  pub words : word_count p ≤ most_words

-- places in the lists of the parts, and of the output bits, are numbers of 32 bits
pub record IsCountable (p : Parts) : Type 0 where
  pub nets : net_count p ≤ most_places
  pub scopes : length p.scopes ≤ most_places
  pub elements : length p.elements ≤ most_places
  pub memories : length p.memories ≤ most_places
  pub inputs : length p.inputs ≤ most_places
  pub outputs : length p.outputs ≤ most_places
  pub output_bits : length (port_bits p.outputs) ≤ most_places
