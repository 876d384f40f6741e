-- Lists in JSON trees, entry by entry.
-- The rule is told in docs/FORMATS.md, "JSON texts".
use Rattle.std.specs.Prelude.{◌≡◌, ℕ, List, [], ◌∷◌, Some, slice_get, take}
use Rattle.serde_json.specs.Data.{Data}
use Rattle.result_files.specs.Trees.{list, AreFew, HasMember}

-- there are as many values as things, mostly trees, and each thing says the value at its place
abbrev pub SayEach : {X A : Type 0} → (X → A → Type 0) → List X → List A → Type 0
SayEach Says [] [] = Unit {0}
SayEach Says [] (value ∷ values) = ⊥
SayEach Says (thing ∷ things) [] = ⊥
SayEach Says (thing ∷ things) (value ∷ values) = Says thing value × SayEach Says things values

-- the first of these things that is bad; those before it say values
pub record FirstBad {X A : Type 0} (Says : X → A → Type 0) (IsBad : X → Type 0) (things : List X) (k : ℕ) : Type 0 where
  pub values : List A
  pub before : SayEach Says (take k things) values
  pub thing : X
  pub there : slice_get things k ≡ Some thing
  pub bad : IsBad thing

-- it says no value
abbrev pub SaysNone : {X A : Type 0} → (X → A → Type 0) → X → Type 0
SaysNone Says thing = (value : _) → Says thing value → ⊥

-- the tree is a list of at most 4,294,967,295 entries, which say these values, in order
pub record IsListOf {A : Type 0} (Says : Data → A → Type 0) (tree : Data) (values : List A) : Type 0 where
  pub trees : List Data
  pub tree_is : tree ≡ list trees
  pub few : AreFew trees
  pub each : SayEach Says trees values

-- the tree is an object with such a list as a member
pub record HasList {A : Type 0} (key : List ℕ) (Says : Data → A → Type 0) (tree : Data) (values : List A) : Type 0 where
  pub member : Data
  pub there : HasMember key member tree
  pub is : IsListOf Says member values
