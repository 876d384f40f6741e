-- Inside the reader of openings: how its values stand for what a text tells.
use Rattle.std.specs.Prelude.{◌≡◌, Option, Some, None, Result, Ok, Err}
use Rattle.json_members.specs.declared.shape.ShapeFault.{ShapeFault}
use Rattle.json_members.specs.declared.shape.ShapeFault.TheVariants.{BadShape, NoMemory}

-- a reader's answer, where its value is seen as something
abbrev pub ReadsAs : {A B : Type 0} → (B → A) → Option A → Result B ShapeFault → Type 0
ReadsAs seen there (Ok value) = there ≡ Some (seen value)
ReadsAs seen there (Err BadShape) = there ≡ None
ReadsAs seen there (Err NoMemory) = Unit {0}
