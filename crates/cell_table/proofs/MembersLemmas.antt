-- The items of an array as a list.
use Rattle.std.proofs.Common.{◌≡◌, ◌∙◌, List, [], ◌∷◌, Some, ap, map, refl}
use Rattle.std.specs.Prelude.{ℕ, option_map}
use Rattle.serde_json.specs.Data.{Data}
use Rattle.serde_json.specs.View.{view, items_view}
use Rattle.serde_json.specs.declared.value.Value.{Value}
use Rattle.json_members.specs.Members.{array_member, data_of}

-- the items of a list of values are what these are seen as
data_of-items_view : (values : List Value) → data_of (items_view values) ≡ map view values
data_of-items_view [] = refl
data_of-items_view (value ∷ values) = ap (λ ds. view value ∷ ds) (data_of-items_view values)

-- the array that a member is, as a list
pub items_are : (key : List ℕ) (d : Data) (values : List Value) → array_member key d ≡ Some (items_view values) → option_map data_of (array_member key d) ≡ Some (map view values)
items_are key d values found = ap (option_map data_of) found ∙ ap Some (data_of-items_view values)
