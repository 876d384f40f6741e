-- The greatest numbers of a design, each of which stands here alone.
-- The rule is told in docs/RULES.md, "Limits".
use Rattle.std.specs.Prelude.{ℕ}

abbrev pub most_nets : ℕ
most_nets = 400000

abbrev pub most_elements : ℕ
most_elements = 200000

-- the words of all memories together
abbrev pub most_words : ℕ
most_words = 4194304

-- the inputs of a gate that is a table, and of any other
abbrev pub most_table_inputs : ℕ
most_table_inputs = 6

abbrev pub most_gate_inputs : ℕ
most_gate_inputs = 64

-- of one memory: its address bits, the bits of a word, and its ports
abbrev pub most_address_bits : ℕ
most_address_bits = 16

abbrev pub most_width : ℕ
most_width = 128

abbrev pub most_ports : ℕ
most_ports = 16

-- how many things may be numbered by 32 bits
abbrev pub most_places : ℕ
most_places = 4294967294
