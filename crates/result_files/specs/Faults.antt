-- The fault of a text that a fault of JSON is, and what a reader of texts answers.
use Rattle.std.specs.Prelude.{◌≡◌, Result, Ok, Err}
use Rattle.json_members.specs.declared.text.JsonFault.{JsonFault}
use Rattle.json_members.specs.declared.text.JsonFault.TheVariants as json
use Rattle.result_files.specs.declared.fault.FormFault.{FormFault}
use Rattle.result_files.specs.declared.fault.FormFault.TheVariants.{NotYet, NoMemory}

abbrev pub FromJson : JsonFault → FormFault → Type 0
FromJson json.NotJson fault = fault ≡ NotYet
FromJson json.NoMemory fault = fault ≡ NoMemory

-- a value that the text says, and `NotYet` exactly where it says none
abbrev pub Answers : {A : Type 0} → (A → Type 0) → Result A FormFault → Type 0
Answers Says (Ok value) = Says value
Answers Says (Err NotYet) = (value : _) → Says value → ⊥
Answers Says (Err NoMemory) = Unit {0}
