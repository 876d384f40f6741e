use Rattle.std.proofs.Common.{◌≡◌, ◌∷◌, take}
use Rattle.std.specs.Prelude.{map}
use Rattle.serde_json.specs.Data.{string}
use Rattle.serde_json.specs.View.{view}
use Rattle.result_files.specs.Trees.{whole}
use Rattle.result_files.proofs.printed.row_of.Given as goal

-- what is there is the name, and the numbers so far
abbrev pub invariant-numbers : goal.invariant-numbers
invariant-numbers l = map view l.values.items ≡ string l.name ∷ map whole (take l.number-index l.numbers)
