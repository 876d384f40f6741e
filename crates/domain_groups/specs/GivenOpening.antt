-- What the text of an opening tells, not yet judged: values of input ports by name, flip-flops and latches
-- by path, and words of memories by path and address:
-- {"inputs":{"mode":"3"},"ones":["core/busy"],"words":[["core/buffer",12,"a0"]]}
-- The rule is told in docs/FORMATS.md, "Openings and events".
use Rattle.std.specs.Prelude.{ℕ, List, [], ◌∷◌, Option, Some, None, option_map, codes}
use Rattle.std.specs.Option.{option_map_or}
use Rattle.serde_json.specs.Data.{Data, Items, no_items, item, Members, no_members, member}
use Rattle.serde_json.specs.Find.{get, as_array, as_object, as_str}
use Rattle.json_members.specs.Members.{◌>>=◌, all_of, each, number_of}

-- the digits that a text gives a name
pub record GivenValue : Type 0 where
  pub name : List ℕ
  pub digits : List ℕ

-- the digits that a text gives a word of a memory
pub record GivenWord : Type 0 where
  pub path : List ℕ
  pub address : ℕ
  pub digits : List ℕ

pub record GivenOpening : Type 0 where
  pub inputs : List GivenValue
  pub ones : List (List ℕ)
  pub words : List GivenWord

-- the members of an object with their names; these stand in the order of their bytes, each once
abbrev pub listed : Members → List (List ℕ × Data)
listed no_members = []
listed (member name tree rest) = (name, tree) ∷ listed rest

-- a member that is a text gives its name these digits
abbrev pub value_told : List ℕ × Data → Option GivenValue
value_told (name, tree) = option_map (λ digits. record { name = name; digits = digits }) (as_str tree)

-- an object of texts
unfoldable pub values_told : Data → Option (List GivenValue)
values_told tree = do
  members ← as_object tree
  all_of value_told (listed members)

-- a list of texts
unfoldable pub paths_told : Data → Option (List (List ℕ))
paths_told tree = do
  items ← as_array tree
  each as_str items

-- a path, an address and digits
unfoldable pub entry_told : Data → Data → Data → Option GivenWord
entry_told first second third = do
  path ← as_str first
  address ← number_of 4294967295 second
  digits ← as_str third
  Some (record { path = path; address = address; digits = digits })

-- just these three
abbrev pub entry_in : Items → Option GivenWord
entry_in (item first (item second (item third no_items))) = entry_told first second third
entry_in other = None

abbrev pub word_told : Data → Option GivenWord
word_told tree = as_array tree >>= entry_in

-- a list of words
unfoldable pub words_told : Data → Option (List GivenWord)
words_told tree = do
  items ← as_array tree
  each word_told items

-- what a member tells; where it is left out it tells of nothing
abbrev pub told_by : {A : Type 0} → List ℕ → (Data → Option (List A)) → Data → Option (List A)
told_by key form tree = option_map_or form (get key tree) (Some [])

-- an object, each of whose three members may be left out; others may stand beside them
unfoldable pub opening_told : Data → Option GivenOpening
opening_told tree = do
  members ← as_object tree
  inputs ← told_by (codes "inputs") values_told tree
  ones ← told_by (codes "ones") paths_told tree
  words ← told_by (codes "words") words_told tree
  Some (record { inputs = inputs; ones = ones; words = words })
