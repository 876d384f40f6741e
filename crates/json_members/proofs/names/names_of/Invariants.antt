use Rattle.std.proofs.Common.{◌≡◌, ◌++◌, drop}
use Rattle.std.specs.Prelude.{option_map}
use Rattle.serde_json.specs.View.{items_view}
use Rattle.json_members.specs.Members.{each}
use Rattle.json_members.specs.Names.{name_of}
use Rattle.json_members.proofs.names.names_of.Given as goal

-- the names so far, followed by those to come, are the names of all
abbrev pub invariant-values : goal.invariant-values
invariant-values l =
    option_map (λ rest. l.names ++ rest) (each name_of (items_view (drop l.value-index l.values))) ≡ each name_of (items_view l.values)
