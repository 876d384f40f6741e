-- What the readers of members answer that take memory.
-- The rule is told in docs/FORMATS.md, "JSON texts".
use Rattle.std.specs.Prelude.{◌≡◌, Option, Some, None, Result, Ok, Err}
use Rattle.json_members.specs.declared.shape.ShapeFault.{ShapeFault}
use Rattle.json_members.specs.declared.shape.ShapeFault.TheVariants.{BadShape, NoMemory}

-- a reader's answer: Ok with the value that is there, BadShape exactly where none is; want of memory
-- may come in both cases
abbrev pub Reads : {A : Type 0} → Option A → Result A ShapeFault → Type 0
Reads there (Ok value) = there ≡ Some value
Reads there (Err BadShape) = there ≡ None
Reads there (Err NoMemory) = Unit {0}
