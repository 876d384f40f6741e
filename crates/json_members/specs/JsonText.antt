-- Which data a text is, and what the reader of texts answers.
-- The rule is told in docs/FORMATS.md, "JSON texts".
use Rattle.std.specs.Prelude.{◌≡◌, ℕ, List, Some, None, Result, Ok, Err, IsUtf8}
use Rattle.serde_json.specs.Data.{Data}
use Rattle.serde_json.specs.Read.{read}
use Rattle.serde_json.specs.View.{view}
use Rattle.serde_json.specs.declared.value.Value.{Value}
use Rattle.json_members.specs.declared.text.JsonFault.{JsonFault}
use Rattle.json_members.specs.declared.text.JsonFault.TheVariants.{NotJson, NoMemory}

-- the bytes are the UTF-8 of a JSON text for this data
pub record IsTextOf (bytes : List ℕ) (tree : Data) : Type 0 where
  pub utf8 : IsUtf8 bytes
  pub reads : read bytes ≡ Some tree

-- the bytes are no JSON text in UTF-8
abbrev pub IsNoJson : List ℕ → Type 0
IsNoJson bytes = IsUtf8 bytes → read bytes ≡ None

-- the data of the text; `NotJson` exactly where there is none
abbrev pub TextAnswers : List ℕ → Result Value JsonFault → Type 0
TextAnswers bytes (Ok value) = IsTextOf bytes (view value)
TextAnswers bytes (Err NotJson) = IsNoJson bytes
TextAnswers bytes (Err NoMemory) = Unit {0}
