-- Values given to input ports, and the input bits that they give.
-- The rule is told in docs/FORMATS.md, "Openings and events".
use Rattle.std.specs.Prelude.{◌≡◌, ◌==◌, ◌≤◌, ℕ, Some, List, length, true, option_map, slice_get, count_by, flat_map}
use Rattle.id_arena.specs.declared.keys.NetId.{NetId}
use Rattle.design_core.specs.declared.parts.Port.{Port}
use Rattle.design_core.specs.declared.values.PortBit.{PortBit}
use Rattle.domain_groups.specs.Ports.{port_named}
use Rattle.domain_groups.specs.Values.{hex_number, is_value, shown_bits}

-- an input port, by its place, with its nets and a number for them
pub record Setting : Type 0 where
  pub port : ℕ
  pub nets : List NetId
  pub number : ℕ

-- a port's name and digits that are a value for its width set the port to the number that they write
pub record Sets (ports : List Port) (name digits : List ℕ) (s : Setting) : Type 0 where
  pub named : port_named ports name ≡ Some s.port
  pub nets : option_map (λ port. port.nets) (slice_get ports s.port) ≡ Some s.nets
  pub value : is_value (length s.nets) digits ≡ true
  pub number : s.number ≡ hex_number digits

-- how often settings set the port at a place
abbrev pub times_set : ℕ → List Setting → ℕ
times_set port settings = count_by (λ s. s.port == port) settings

-- each port is set at most once
abbrev pub EachOnce : List Setting → Type 0
EachOnce settings = (port : ℕ) → times_set port settings ≤ 1

-- the bits that settings give, one by one and from bit 0
abbrev pub bits_set : List Setting → List PortBit
bits_set settings = flat_map (λ s. shown_bits s.nets s.number) settings
