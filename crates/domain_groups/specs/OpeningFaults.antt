-- The fault of an opening's text that a fault of JSON, or of the form of a value, is.
-- The rule is told in docs/FORMATS.md, "Openings and events".
use Rattle.std.specs.Prelude.{◌≡◌}
use Rattle.json_members.specs.declared.shape.ShapeFault.{ShapeFault}
use Rattle.json_members.specs.declared.shape.ShapeFault.TheVariants as shape
use Rattle.json_members.specs.declared.text.JsonFault.{JsonFault}
use Rattle.json_members.specs.declared.text.JsonFault.TheVariants as json
use Rattle.domain_groups.specs.declared.openings.OpeningFault.{OpeningFault}
use Rattle.domain_groups.specs.declared.openings.OpeningFault.TheVariants.{NotJson, BadShape, NoMemory}

-- a text that is no JSON, or no memory left
abbrev pub FromJson : JsonFault → OpeningFault → Type 0
FromJson json.NotJson fault = fault ≡ NotJson
FromJson json.NoMemory fault = fault ≡ NoMemory

-- a value of another form, or no memory left
abbrev pub FromShape : ShapeFault → OpeningFault → Type 0
FromShape shape.BadShape fault = fault ≡ BadShape
FromShape shape.NoMemory fault = fault ≡ NoMemory
