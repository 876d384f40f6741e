-- Lists of a name and numbers.
use Rattle.std.proofs.Common.{◌≡◌, ◌≢◌, ◌≤◌, ◌<◌, ℕ, zero, suc, List, [], ◌∷◌, length, Some, get_or, slice_get, refl, sym, ap, ◌∙◌, subst, arith}
use Rattle.std.specs.Prelude.{map}
use Rattle.std.proofs.lemmas.List.{length-map}
use Rattle.std.proofs.lemmas.Option.{same_Some, slice_get-map, slice_get_read}
use Rattle.serde_json.specs.Data.{Data, string}
use Rattle.serde_json.specs.View.{view}
use Rattle.serde_json.specs.declared.value.Value.{Value}
use Rattle.result_files.specs.Trees.{list, whole, AreFew, IsWordTree}
use Rattle.result_files.specs.Rows.{Row, IsRow, IsShortRow, AreWords}
use Rattle.result_files.proofs.Inside.{same_list}

-- each tree of a list of numbers is one
number_at : (numbers : List ℕ) (k : ℕ) (tree : Data) → AreWords numbers → slice_get (map whole numbers) k ≡ Some tree → (n : ℕ) × IsWordTree tree n
number_at [] k tree fit at-tree = cc
number_at (n ∷ ns) zero tree fit at-tree = (n, record { tree_is = sym (same_Some _ _ at-tree); fits = fit.0 })
number_at (n ∷ ns) (suc k) tree fit at-tree = number_at ns k tree fit.1 at-tree

-- where a tree is no number, the trees are no list of numbers
pub no_numbers : (values : List Value) (k : ℕ) (value : Value) → k < length values → value ≡ get_or values k value → ((n : ℕ) → IsWordTree (view value) n → ⊥) → (numbers : List ℕ) → 1 ≤ length numbers → length numbers ≤ 3 → AreWords numbers → map view values ≢ map whole numbers
no_numbers values k value within at-value none numbers some few fit same =
    let item = slice_get_read values (length values) k value refl within at-value in
    let tree : slice_get (map view values) k ≡ Some (view value) = rw (slice_get-map, item) refl in
    let found = number_at numbers k (view value) fit (subst (λ ts. slice_get ts k ≡ Some (view value)) same tree) in
    none found.0 found.1

-- such a list has few entries
pub row_is_few : (row : Row) → IsShortRow row → AreFew (string row.0 ∷ map whole row.1)
row_is_few row short =
    let few = short.few in
    let size : length (map whole row.1) ≡ length row.1 = length-map row.1 whole in
    omega arith

-- the numbers stand behind the name
pub row_rest : (tree : Data) (values : List Value) (name : Value) (rest : List Value) (row : Row) → tree ≡ list (map view values) → values ≡ name ∷ rest → IsRow tree row → map view rest ≡ map whole row.1
row_rest tree values name rest row is parts as-row =
    let lists = same_list (map view (name ∷ rest)) (string row.0 ∷ map whole row.1) (ap (λ vs. list (map view vs)) (sym parts) ∙ sym is ∙ as-row.tree_is) in
    cc
