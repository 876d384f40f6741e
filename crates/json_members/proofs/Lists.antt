-- How long a list of data is.
use Rattle.std.proofs.Common.{◌≡◌, ◌≤◌, ◌<◌, List, [], ◌∷◌, Some, None, length, refl, ap, suc, arith}
use Rattle.std.proofs.lemmas.Bool.Decides.{nat_tests}
use Rattle.serde_json.specs.Data.{Data}
use Rattle.serde_json.specs.Events.{items_len}
use Rattle.serde_json.specs.Find.{as_array}
use Rattle.serde_json.specs.View.{items_view}
use Rattle.serde_json.specs.declared.value.Value.{Value}
use Rattle.json_members.specs.Members.{short_list, array_of}

-- as many data as values
items_len-items_view : (values : List Value) → items_len (items_view values) ≡ length values
items_len-items_view [] = refl
items_len-items_view (value ∷ values) = ap suc (items_len-items_view values)

-- a list of not too many items is one
pub short_is_one : (tree : Data) (values : List Value) → as_array tree ≡ Some (items_view values) → length values ≤ 4294967295 → array_of tree ≡ Some (items_view values)
unfolding short_list
short_is_one tree values is_array few = rw (is_array, items_len-items_view values) (grind (arith, nat_tests))

-- one of too many items is none
pub long_is_none : (tree : Data) (values : List Value) → as_array tree ≡ Some (items_view values) → 4294967295 < length values → array_of tree ≡ None
unfolding short_list
long_is_none tree values is_array many = rw (is_array, items_len-items_view values) (grind (arith, nat_tests))
