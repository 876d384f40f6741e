-- Numbers, texts, lists and the members of objects, as the texts of this project use them. Each
-- definition gives what a value or a member stands for, and None where it is missing or of another
-- form.
-- The rule is told in docs/FORMATS.md, "JSON texts".
use Rattle.std.specs.Prelude.{ℕ, List, [], ◌∷◌, Option, Some, None, option_map, option_and_then, nat_le, if◌then◌else◌}
use Rattle.serde_json.specs.Data.{Data, Items, no_items, item}
use Rattle.serde_json.specs.Events.{items_len}
use Rattle.serde_json.specs.Find.{get, as_str, as_number, as_u64, as_array}

-- go on with the value, if there is one
infixl 10 ◌>>=◌
abbrev pub ◌>>=◌ : {A B : Type 0} → Option A → (A → Option B) → Option B
there >>= next = option_and_then next there

-- a number written without sign, point and exponent that is at most `most`
abbrev pub number_of : ℕ → Data → Option ℕ
number_of most tree =
    option_and_then (λ n. if nat_le n most then Some n else None) (option_and_then as_u64 (as_number tree))

-- such a number as the member of an object
abbrev pub number_member : List ℕ → ℕ → Data → Option ℕ
number_member key most tree = option_and_then (number_of most) (get key tree)

-- a number of 32 bits as the member of an object
abbrev pub word_member : List ℕ → Data → Option ℕ
word_member key = number_member key 4294967295

-- the text that is the member of an object
abbrev pub text_member : List ℕ → Data → Option (List ℕ)
text_member key tree = option_and_then as_str (get key tree)

-- a list whose items can be numbered with 32 bits; one of more than 4,294,967,295 items is none
unfoldable pub short_list : Items → Option Items
short_list items = if nat_le (items_len items) 4294967295 then Some items else None

-- such a list as a value
abbrev pub array_of : Data → Option Items
array_of tree = option_and_then short_list (as_array tree)

-- such a list as the member of an object
abbrev pub array_member : List ℕ → Data → Option Items
array_member key tree = option_and_then array_of (get key tree)

-- a member that may be left out: None inside where it is; one that is there must have its form
abbrev pub optional : {A : Type 0} → (Data → Option A) → Option Data → Option (Option A)
optional form None = Some None
optional form (Some member) = option_map Some (form member)

-- what each thing of a list stands for; none where one of them stands for nothing
abbrev pub all_of : {X A : Type 0} → (X → Option A) → List X → Option (List A)
all_of form [] = Some []
all_of form (x ∷ xs) = do
  value ← form x
  values ← all_of form xs
  Some (value ∷ values)

-- the items of an array as a list
abbrev pub data_of : Items → List Data
data_of no_items = []
data_of (item d ds) = d ∷ data_of ds

-- what each item of an array stands for; none where one of them stands for nothing
abbrev pub each : {A : Type 0} → (Data → Option A) → Items → Option (List A)
each form items = all_of form (data_of items)
