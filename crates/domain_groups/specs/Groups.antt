-- Groups as contracts see them, and what holds of all of them.
-- The rules are told in docs/RULES.md, "Groups and influence", and docs/FORMATS.md, "Groups".
use Rattle.std.specs.Prelude.{◌≡◌, ◌≤◌, ℕ, List, [], ◌∷◌, ◌++◌, Some, codes, length, slice_get, Contains}
use Rattle.id_arena.specs.declared.keys.NetId.{NetId}
use Rattle.design_core.specs.declared.parts.Parts.{Parts}
use Rattle.design_core.specs.Design.{port_bits}
use Rattle.design_core.specs.Influence.{Group}

-- the groups that a text names, in its order, and the bits of all input ports
pub record InputGroups : Type 0 where
  pub groups : List Group
  pub inputs : List NetId

-- the groups that have a frame: each group, and last the one of all inputs, whose name is `*`
abbrev pub frames : InputGroups → List Group
frames v = v.groups ++ record { name = codes "*"; nets = v.inputs } ∷ []

-- the groups are those of a design where their inputs are its input bits
abbrev pub AreOf : Parts → InputGroups → Type 0
AreOf p v = v.inputs ≡ port_bits p.inputs

-- there are at most 32 groups, each has input bits alone, and no net is in two of them
pub record AreGroups (v : InputGroups) : Type 0 where
  pub few : length v.groups ≤ 32
  pub inside : (k : ℕ) (g : Group) (n : NetId) → slice_get v.groups k ≡ Some g → Contains g.nets n → Contains v.inputs n
  pub apart : (j k : ℕ) (g h : Group) (n : NetId)
      → slice_get v.groups j ≡ Some g
      → slice_get v.groups k ≡ Some h
      → Contains g.nets n
      → Contains h.nets n
      → j ≡ k
