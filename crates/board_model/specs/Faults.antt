-- The fault of a board's text that a fault of JSON is.
-- The rule is told in docs/FORMATS.md, "The board".
use Rattle.std.specs.Prelude.{◌≡◌}
use Rattle.json_members.specs.declared.text.JsonFault.{JsonFault}
use Rattle.json_members.specs.declared.text.JsonFault.TheVariants as json
use Rattle.board_model.specs.declared.fault.BoardFault.{BoardFault}
use Rattle.board_model.specs.declared.fault.BoardFault.TheVariants.{NotJson, NoMemory}

-- a text that is no JSON, or no memory left
abbrev pub FromJson : JsonFault → BoardFault → Type 0
FromJson json.NotJson fault = fault ≡ NotJson
FromJson json.NoMemory fault = fault ≡ NoMemory
