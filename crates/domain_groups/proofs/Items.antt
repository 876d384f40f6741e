-- A list of values is empty where its list of data is.
use Rattle.std.proofs.Common.{◌≡◌, ◌==◌, IsTrue, List, [], ◌∷◌, length, refl}
use Rattle.std.proofs.lemmas.Bool.Decides.{nat_tests}
use Rattle.std.proofs.Common.{arith}
use Rattle.serde_json.specs.Data.{no_items}
use Rattle.serde_json.specs.View.{items_view}
use Rattle.serde_json.specs.declared.value.Value.{Value}

pub empty : (values : List Value) → IsTrue (length values == 0) → items_view values ≡ no_items
empty [] e = refl
empty (value ∷ values) e = grind (arith, nat_tests)

pub is_empty : (values : List Value) → items_view values ≡ no_items → IsTrue (length values == 0)
is_empty [] e = grind (arith, nat_tests)
is_empty (value ∷ values) e = cc
