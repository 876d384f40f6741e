-- The text so far, with what is left of the name, is the whole text.
use Rattle.std.proofs.Common.{◌≡◌, ◌++◌, drop}
use Rattle.design_core.specs.Names.{escaped}
use Rattle.design_core.proofs.names.push_escaped.Given as goal

abbrev pub invariant-bytes : goal.invariant-bytes
invariant-bytes l = l.text.items ++ escaped (drop l.byte-index l.name) ≡ l.initial.text.items ++ escaped l.name
