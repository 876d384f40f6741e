use Rattle.std.proofs.Common.{◌+◌, ◌∷◌, [], ◌-◌, ◌*◌, length}
use Rattle.verilog_tree.specs.declared.terminal.Terminal.TheVariants.{CloseBrace}
use Rattle.verilog_tree.specs.Grammar.{IsParts}
use Rattle.verilog_tree.specs.Predict.{Gathers, expr, more}
use Rattle.verilog_tree.proofs.expression.+expressions.Given as goal

abbrev pub decreases-read_brace : goal.decreases-read_brace
decreases-read_brace l = 3 * (length l.reader.now - l.start) - 1

abbrev pub decreases-read_expr : goal.decreases-read_expr
decreases-read_expr l = 3 * (length l.reader.now - l.from)

abbrev pub decreases-read_parts : goal.decreases-read_parts
decreases-read_parts l = 3 * (length l.reader.now - l.from) + 1

abbrev pub invariant-read_parts-parts : goal.invariant-read_parts-parts
invariant-read_parts-parts l = Gathers l.reader (expr ∷ more expr CloseBrace ∷ []) expr CloseBrace (IsParts l.reader) l.from l.at l.parts

abbrev pub decreases-read_parts-parts : goal.decreases-read_parts-parts
decreases-read_parts-parts l = length l.reader - l.at
