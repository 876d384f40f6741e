-- The lines of a trace, the traces of the original and of the machine, and traces that break off.
-- The rule is told in docs/FORMATS.md, "Traces".
use Rattle.std.specs.Prelude.{◌≡◌, ◌≤◌, ℕ, zero, suc, ◌+◌, ◌/◌, ◌%◌, ◌^◌, Bool, Option, List, [], ◌∷◌, ◌++◌, map, take, drop, length, flat_map, codes, decimal}
use Rattle.std.specs.Char.{digit_char}
use Rattle.std.specs.List.{enumerate_from}
use Rattle.emu_io.specs.Sink.{AppendsWhereTold}
use Rattle.design_core.specs.declared.parts.Parts.{Parts}
use Rattle.design_core.specs.declared.parts.Port.{Port}
use Rattle.design_core.specs.Design.{port_bits}
use Rattle.design_core.specs.Operation.{number}
use Rattle.design_core.specs.Valuation.{Valuation, values}
use Rattle.emu_machine.specs.Results.{Results}
use Rattle.emu_machine.specs.State.{State, net_value}

-- the digits that so many bits take: a quarter as many, rounded up
abbrev pub digit_count : ℕ → ℕ
digit_count width = (width + 3) / 4

-- A number in so many hexadecimal digits of lower case, the most significant first. A digit shows how
-- often the number holds 16 to the power of how many digits stand after it.
abbrev pub hex_text : ℕ → ℕ → List ℕ
hex_text zero n = []
hex_text (suc after) n = digit_char (n / 16 ^ after % 16) ∷ hex_text after n

-- what a trace says of one output port that has these bits: a space, its name, `=` and its value
abbrev pub port_text : List ℕ → List Bool → List ℕ
port_text name bits = codes " " ++ name ++ codes "=" ++ hex_text (digit_count (length bits)) (number bits)

-- what a trace says of output ports, whose bits stand in order, port by port and from bit 0
abbrev pub ports_text : List Port → List Bool → List ℕ
ports_text [] bits = []
ports_text (port ∷ ports) bits =
    port_text port.name (take (length port.nets) bits) ++ ports_text ports (drop (length port.nets) bits)

-- the line of one event: its number, its output ports, and a newline
abbrev pub trace_line_of : ℕ → List Port → List Bool → List ℕ
trace_line_of number outputs bits = decimal number ++ ports_text outputs bits ++ codes "\n"

-- a whole trace: a line for each event, numbered from 1, with the bits that the outputs have after it
abbrev pub trace_of : List Port → List (List Bool) → List ℕ
trace_of outputs shown = flat_map (λ (number, bits). trace_line_of number outputs bits) (enumerate_from 1 shown)

-- what a valuation shows at the output bits of a design
abbrev pub outputs_of : Parts → Valuation → List Bool
outputs_of p v = values v (port_bits p.outputs)

-- what a state of the machine shows at the nets that the map names for the output bits
abbrev pub spots_of : Results → State → List Bool
spots_of r x = map (λ spot. net_value r.net x spot.chip.place spot.net.place) r.map.outputs

-- the trace of the original: what the valuations after the events show
abbrev pub settled_trace : Parts → List Valuation → List ℕ
settled_trace p vs = trace_of p.outputs (map (outputs_of p) vs)

-- the trace of the machine: what its states after the events show
abbrev pub machine_trace : Parts → Results → List State → List ℕ
machine_trace p r xs = trace_of p.outputs (map (spots_of r) xs)

-- A trace that breaks off in its last line: the lines before it are written whole, and some first bytes
-- of it may follow.
pub record BreaksOff (outputs : List Port) (shown : List (List Bool)) (old new : Option (List ℕ)) : Type 0 where
  pub before : List (List Bool)
  pub last : List Bool
  pub are : shown ≡ before ++ last ∷ []
  pub count : ℕ
  pub some : count ≤ length (trace_line_of (length before + 1) outputs last)
  pub text : AppendsWhereTold old (trace_of outputs before ++ take count (trace_line_of (length before + 1) outputs last)) new
