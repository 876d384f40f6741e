use Rattle.std.proofs.Common.{◌+◌, ◌∷◌, [], ◌-◌, ◌*◌, length}
use Rattle.verilog_tree.specs.declared.terminal.Terminal.TheVariants.{CloseBrace}
use Rattle.verilog_tree.specs.Grammar.{IsLefts}
use Rattle.verilog_tree.specs.Predict.{Gathers, left, more}
use Rattle.verilog_tree.proofs.expression.+lefts.Given as goal

abbrev pub decreases-read_left : goal.decreases-read_left
decreases-read_left l = 2 * (length l.reader.now - l.from)

abbrev pub decreases-read_lefts : goal.decreases-read_lefts
decreases-read_lefts l = 2 * (length l.reader.now - l.from) + 1

abbrev pub invariant-read_lefts-parts : goal.invariant-read_lefts-parts
invariant-read_lefts-parts l = Gathers l.reader (left ∷ more left CloseBrace ∷ []) left CloseBrace (IsLefts l.reader) l.from l.at l.parts

abbrev pub decreases-read_lefts-parts : goal.decreases-read_lefts-parts
decreases-read_lefts-parts l = length l.reader - l.at
