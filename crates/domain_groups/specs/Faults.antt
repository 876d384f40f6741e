-- The fault of a groups' text that a fault of JSON, or of the form of a value, is.
-- The rule is told in docs/FORMATS.md, "Groups".
use Rattle.std.specs.Prelude.{◌≡◌}
use Rattle.json_members.specs.declared.shape.ShapeFault.{ShapeFault}
use Rattle.json_members.specs.declared.shape.ShapeFault.TheVariants as shape
use Rattle.json_members.specs.declared.text.JsonFault.{JsonFault}
use Rattle.json_members.specs.declared.text.JsonFault.TheVariants as json
use Rattle.domain_groups.specs.declared.fault.GroupFault.{GroupFault}
use Rattle.domain_groups.specs.declared.fault.GroupFault.TheVariants.{NotJson, BadShape, NoMemory}

-- a text that is no JSON, or no memory left
abbrev pub FromJson : JsonFault → GroupFault → Type 0
FromJson json.NotJson fault = fault ≡ NotJson
FromJson json.NoMemory fault = fault ≡ NoMemory

-- a value that is missing or of another form, or no memory left
abbrev pub FromShape : ShapeFault → GroupFault → Type 0
FromShape shape.BadShape fault = fault ≡ BadShape
FromShape shape.NoMemory fault = fault ≡ NoMemory
