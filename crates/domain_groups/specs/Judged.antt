-- The first fault of groups of good shape, and the groups that they stand for.
-- The rule is told in docs/FORMATS.md, "Groups".
use Rattle.std.specs.Prelude.{◌≡◌, ◌<◌, ◌==◌, ℕ, Bool, is_none, if◌then◌else◌, Option, Some, None, List, ◌++◌, length, map, flat_map, take, option_to_list, slice_get, bytes_eq}
use Rattle.std.specs.List.{list_any, enumerate_from}
use Rattle.design_core.specs.declared.parts.Port.{Port}
use Rattle.design_core.specs.Influence.{Group}
use Rattle.domain_groups.specs.declared.fault.GroupFault.{GroupFault}
use Rattle.domain_groups.specs.declared.fault.GroupFault.TheVariants.{NameTaken, EmptyGroup, NoPort, PortTwice}
use Rattle.domain_groups.specs.declared.written.WrittenGroup.{WrittenGroup}
use Rattle.domain_groups.specs.Ports.{port_named, nets_at}

-- the places of the input ports that these names lead to
abbrev pub ports_named : List Port → List (List ℕ) → List ℕ
ports_named ports names = flat_map (λ name. option_to_list (port_named ports name)) names

-- whether a place stands among these
abbrev pub has_place : List ℕ → ℕ → Bool
has_place places place = list_any (λ other. other == place) places

-- whether one of the places stands at an earlier place of the list, or among those before the list
abbrev pub some_earlier : List ℕ → List ℕ → Bool
some_earlier before places = list_any (λ (k, place). has_place (before ++ take k places) place) (enumerate_from 0 places)

-- whether one of the groups has this name
abbrev pub is_taken : List WrittenGroup → List ℕ → Bool
is_taken groups name = list_any (λ group. bytes_eq name group.name) groups

-- whether one of these names is that of no port
abbrev pub some_unknown : List Port → List (List ℕ) → Bool
some_unknown ports names = list_any (λ name. is_none (port_named ports name)) names

-- the places of the ports of some groups
abbrev pub ports_of : List Port → List WrittenGroup → List ℕ
ports_of ports groups = flat_map (λ group. ports_named ports group.ports) groups

-- the fault of a group that stands behind these, if it has one
unfoldable pub fault_behind : List Port → List WrittenGroup → WrittenGroup → Option GroupFault
fault_behind ports earlier group =
    if is_taken earlier group.name then Some (NameTaken (length earlier))
    else (if length group.ports == 0 then Some (EmptyGroup (length earlier))
    else (if some_unknown ports group.ports then Some (NoPort (length earlier))
    else (if some_earlier (ports_of ports earlier) (ports_named ports group.ports) then Some (PortTwice (length earlier)) else None)))

-- none of the first groups, so many, has a fault
abbrev pub FirstAreSound : List Port → List WrittenGroup → ℕ → Type 0
FirstAreSound ports groups count =
    (k : ℕ) (group : WrittenGroup) → k < count → slice_get groups k ≡ Some group → fault_behind ports (take k groups) group ≡ None

-- the fault of the first group that has one
pub record IsFirstFault (ports : List Port) (groups : List WrittenGroup) (fault : GroupFault) : Type 0 where
  pub number : ℕ
  pub group : WrittenGroup
  pub there : slice_get groups number ≡ Some group
  pub is : fault_behind ports (take number groups) group ≡ Some fault
  pub earlier : FirstAreSound ports groups number

-- the group with the nets of its ports
abbrev pub group_of : List Port → WrittenGroup → Group
group_of ports group = record {
  name = group.name;
  nets = flat_map (nets_at ports) (ports_named ports group.ports);
}
