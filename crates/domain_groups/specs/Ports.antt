-- Input ports found by their names. Where several have one name, the first is meant.
-- The rule is told in docs/FORMATS.md, "Names and paths".
use Rattle.std.specs.Prelude.{◌≡◌, ℕ, Option, Some, None, List, [], length, slice_get, bytes_eq}
use Rattle.std.specs.List.{position_from}
use Rattle.std.specs.Option.{option_map_or}
use Rattle.id_arena.specs.declared.keys.NetId.{NetId}
use Rattle.design_core.specs.declared.parts.Port.{Port}

-- the place of the first port of this name
abbrev pub port_named : List Port → List ℕ → Option ℕ
port_named ports name = position_from (λ port. bytes_eq name port.name) 0 ports

-- the nets of the port at a place
abbrev pub nets_at : List Port → ℕ → List NetId
nets_at ports place = option_map_or (λ port. port.nets) (slice_get ports place) []

-- The names are those of the ports, and each leads to the place of the first port that has it.
pub record Indexes (ports : List Port) (names : List (List ℕ)) (firsts : List ℕ) : Type 0 where
  pub same : length firsts ≡ length names
  pub first : (k place : ℕ) (name : List ℕ) → slice_get names k ≡ Some name → slice_get firsts k ≡ Some place → port_named ports name ≡ Some place
  pub none : (name : List ℕ) → ((k : ℕ) → slice_get names k ≡ Some name → ⊥) → port_named ports name ≡ None
