-- What an element weighs on a chip.
-- The rule is told in docs/RULES.md, "Weights and the first placement".
use Rattle.std.specs.Prelude.{◌^◌, ◌*◌, ℕ, length, option_map, slice_get, unwrap_or}
use Rattle.design_core.specs.declared.element.Element.{Element}
use Rattle.design_core.specs.declared.element.Element.TheVariants as element
use Rattle.design_core.specs.declared.element.Memory.{Memory}
use Rattle.design_core.specs.declared.parts.Parts.{Parts}

-- a memory weighs its number of words times its width
abbrev pub words_weight : ℕ → ℕ → ℕ
words_weight address_bits width = 2 ^ address_bits * width

abbrev pub memory_weight : Memory → ℕ
memory_weight memory = words_weight memory.address_bits memory.width

-- a gate weighs its number of inputs, a flip-flop or a latch 8
abbrev pub weight : Parts → Element → ℕ
weight p (element.Gate op inputs output) = length inputs
weight p (element.Flop f) = 8
weight p (element.Latch l) = 8
weight p (element.Memory m) = unwrap_or (option_map memory_weight (slice_get p.memories m.place)) 0
