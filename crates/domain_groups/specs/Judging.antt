-- Inside the reader: what its steps answer.
use Rattle.std.specs.Prelude.{◌≡◌, ◌<◌, ℕ, Bool, false, List, length, map, get_or, All, Result, Ok, Err}
use Rattle.design_core.specs.declared.parts.Parts.{Parts}
use Rattle.design_core.specs.declared.parts.Port.{Port}
use Rattle.design_core.specs.Design.{port_bits}
use Rattle.domain_groups.specs.declared.fault.GroupFault.{GroupFault}
use Rattle.domain_groups.specs.declared.fault.GroupFault.TheVariants.{NotJson, BadShape, Limit, NameTaken, EmptyGroup, NoPort, PortTwice, NoMemory}
use Rattle.domain_groups.specs.declared.groups.NamedGroup.{NamedGroup}
use Rattle.domain_groups.specs.declared.written.WrittenGroup.{WrittenGroup}
use Rattle.domain_groups.specs.Groups.{InputGroups}
use Rattle.domain_groups.specs.Judged.{FirstAreSound, IsFirstFault, group_of, has_place}
use Rattle.domain_groups.specs.Members.{seen}

-- each of these places is one of so many
abbrev pub ArePlaces : ℕ → List ℕ → Type 0
ArePlaces count places = All (λ place. place < count) places

-- the marks are those of these places
abbrev pub Marks : List Bool → List ℕ → Type 0
Marks marks places = (place : ℕ) → place < length marks → get_or marks place false ≡ has_place places place

-- the groups that these tell, or the first fault in them
abbrev pub ListJudged : List Port → List WrittenGroup → Result (List NamedGroup) GroupFault → Type 0
ListJudged ports written (Ok groups) =
    FirstAreSound ports written (length written) × (map seen groups ≡ map (group_of ports) written)
ListJudged ports written (Err NoMemory) = Unit {0}
ListJudged ports written (Err NotJson) = ⊥
ListJudged ports written (Err BadShape) = ⊥
ListJudged ports written (Err Limit) = ⊥
ListJudged ports written (Err fault) = IsFirstFault ports written fault

-- the same with the inputs of the design beside them
abbrev pub AllJudged : Parts → List WrittenGroup → Result InputGroups GroupFault → Type 0
AllJudged p written (Ok v) =
    FirstAreSound p.inputs written (length written)
    × (v ≡ record { groups = map (group_of p.inputs) written; inputs = port_bits p.inputs })
AllJudged p written (Err NoMemory) = Unit {0}
AllJudged p written (Err NotJson) = ⊥
AllJudged p written (Err BadShape) = ⊥
AllJudged p written (Err Limit) = ⊥
AllJudged p written (Err fault) = IsFirstFault p.inputs written fault
