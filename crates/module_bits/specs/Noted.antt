-- Inside: the first directions of names, as they are noted one after another.
use Rattle.std.specs.Prelude.{◌≡◌, ℕ, Option, Some, None, List, [], ◌∷◌, ◌++◌, map, bytes_eq}
use Rattle.std.specs.List.{find}
use Rattle.module_nets.specs.Names.{Name}
use Rattle.verilog_tree.specs.declared.source.Module.{Module}
use Rattle.module_bits.specs.Ports.{directions}
use Rattle.module_bits.specs.declared.ports.Direction.{Direction}
use Rattle.module_bits.specs.declared.ports.Given.{Given}

-- the first direction of a name
abbrev pub first_direction : (ℕ → Name) → List Direction → Name → Option Direction
first_direction text given name = find (λ d. bytes_eq name (text d.name)) given

-- a direction is noted where its name has none
abbrev pub with_first : (ℕ → Name) → List Direction → Direction → List Direction
with_first text firsts d = elim (first_direction text firsts (text d.name)) [ None ↦ firsts ++ d ∷ [] | Some first ↦ firsts ]

-- directions are noted one after another
abbrev pub with_firsts : (ℕ → Name) → List Direction → List Direction → List Direction
with_firsts text firsts [] = firsts
with_firsts text firsts (d ∷ ds) = with_firsts text (with_first text firsts d) ds

-- the table has the names of the directions that were noted
abbrev pub HasFirsts : (ℕ → Name) → Given → Type 0
HasFirsts text g = g.names ≡ map (λ d. text d.name) g.firsts

-- these directions are noted too
pub record Notes (text : ℕ → Name) (old new : Given) (ds : List Direction) : Type 0 where
  pub named : HasFirsts text old → HasFirsts text new
  pub firsts : HasFirsts text old → new.firsts ≡ with_firsts text old.firsts ds

-- what is noted of a module: of each name its first direction
pub record IsGiven (text : ℕ → Name) (m : Module) (g : Given) : Type 0 where
  pub named : HasFirsts text g
  pub first : (name : Name) → first_direction text g.firsts name ≡ first_direction text (directions m) name
