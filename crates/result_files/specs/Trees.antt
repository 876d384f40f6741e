-- The JSON trees that the texts of results are made of.
use Rattle.std.specs.Prelude.{◌≡◌, ℕ, ◌≤◌, List, length, Option, Some, MatchOption}
use Rattle.serde_json.specs.Data.{Data, array, number, unsigned}
use Rattle.serde_json.specs.Find.{get}
use Rattle.serde_json.specs.View.{items_of}

-- a list with exactly these entries
abbrev pub list : List Data → Data
list entries = array (items_of entries)

-- the entries are so few that they can be numbered with 32 bits
abbrev pub AreFew : List Data → Type 0
AreFew entries = length entries ≤ 4294967295

-- a number written without sign, point and exponent
abbrev pub whole : ℕ → Data
whole n = number (unsigned n)

-- the number has 32 bits
abbrev pub IsWord : ℕ → Type 0
IsWord n = n ≤ 4294967295

-- the tree is a number of 32 bits
pub record IsWordTree (tree : Data) (n : ℕ) : Type 0 where
  pub tree_is : tree ≡ whole n
  pub fits : IsWord n

-- the tree is an object with this member; other members may stand beside it
abbrev pub HasMember : List ℕ → Data → Data → Type 0
HasMember key member tree = get key tree ≡ Some member

-- what was found has the form, or nothing has it
abbrev pub Finds : {A : Type 0} → (A → Type 0) → Option A → Type 0
Finds HasForm found = MatchOption found ((value : _) → HasForm value → ⊥) HasForm
