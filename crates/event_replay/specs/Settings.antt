-- Values given to input ports, and the input bits that they give.
-- The rule is told in docs/FORMATS.md, "Openings and events".
use Rattle.std.specs.Prelude.{◌≡◌, ◌==◌, ◌≤◌, ℕ, Some, List, option_map, slice_get, count_by, Contains}
use Rattle.std.specs.List.{AllByRecursion}
use Rattle.design_core.specs.declared.element.Driver.TheVariants.{Input}
use Rattle.design_core.specs.declared.parts.Parts.{Parts}
use Rattle.design_core.specs.declared.parts.Port.{Port}
use Rattle.design_core.specs.declared.values.PortBit.{PortBit}
use Rattle.design_core.specs.Design.{driver}
use Rattle.domain_groups.specs.Settings.{Setting, EachOnce, bits_set}

-- the setting of one of the ports
abbrev pub IsOfPort : List Port → Setting → Type 0
IsOfPort ports s = option_map (λ port. port.nets) (slice_get ports s.port) ≡ Some s.nets

-- values that settings of ports give, each port being set at most once
pub record AreSet (ports : List Port) (values : List PortBit) : Type 0 where
  pub settings : List Setting
  pub of_ports : AllByRecursion (IsOfPort ports) settings
  pub once : EachOnce settings
  pub bits : values ≡ bits_set settings

-- values of input bits of a design, each bit at most once
pub record AreInputBits (p : Parts) (values : List PortBit) : Type 0 where
  pub inputs : (b : PortBit) → Contains values b → driver p b.net.place ≡ Input
  pub once : (n : ℕ) → count_by (λ b. b.net.place == n) values ≤ 1
