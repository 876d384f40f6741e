-- The lists of a name and some numbers, as actions and subjects are written: ["load",0,3]
-- The rule is told in docs/FORMATS.md, "JSON texts".
use Rattle.std.specs.Prelude.{◌≡◌, ◌≤◌, ℕ, List, [], ◌∷◌, length, map}
use Rattle.serde_json.specs.Data.{Data, string}
use Rattle.result_files.specs.declared.rows.Numbers.{Numbers}
use Rattle.result_files.specs.declared.rows.Numbers.TheVariants.{One, Two, Three}
use Rattle.result_files.specs.Trees.{list, whole, IsWord}

-- a name and its numbers
abbrev pub Row : Type 0
Row = List ℕ × List ℕ

-- the list of them
abbrev pub row_tree : Row → Data
row_tree (name, numbers) = list (string name ∷ map whole numbers)

-- each number has 32 bits
abbrev pub AreWords : List ℕ → Type 0
AreWords [] = Unit {0}
AreWords (n ∷ numbers) = IsWord n × AreWords numbers

-- the tree is such a list, with numbers of 32 bits
pub record IsRow (tree : Data) (row : Row) : Type 0 where
  pub tree_is : tree ≡ row_tree row
  pub fit : AreWords row.1

-- the numbers of a list that has one, two or three
abbrev pub numbers_of : Numbers → List ℕ
numbers_of (One first) = first ∷ []
numbers_of (Two first second) = first ∷ second ∷ []
numbers_of (Three first second third) = first ∷ second ∷ third ∷ []

-- there are one to three numbers
pub record IsShortRow (row : Row) : Type 0 where
  pub some : 1 ≤ length row.1
  pub few : length row.1 ≤ 3
