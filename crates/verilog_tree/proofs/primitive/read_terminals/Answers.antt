use Rattle.std.proofs.Common.{arith}
use Rattle.verilog_tree.specs.declared.terminal.Terminal.TheVariants.{CloseParen}
use Rattle.verilog_tree.specs.Grammar.{IsExpr, IsTerminals}
use Rattle.verilog_tree.specs.Predict.{Closed, Extends}
use Rattle.verilog_tree.proofs.Due.{answers_from, halted, passes, stays}
use Rattle.verilog_tree.proofs.Primitives.{terminals_closed}
use Rattle.verilog_tree.proofs.primitive.read_terminals.Goals as goal

pub returns-in_err-first : goal.returns-in_err-first
returns-in_err-first c =
    halted (Closed c.args.reader.now (IsTerminals c.args.reader.now) CloseParen) c.from_residual.result c.from_residual.ensures stays c.in_err-first.ensures

pub returns-in_err-comma : goal.returns-in_err-comma
returns-in_err-comma c =
    halted (Closed c.args.reader.now (IsTerminals c.args.reader.now) CloseParen) c.from_residual-in_err-comma.result c.from_residual-in_err-comma.ensures
    (passes stays c.in_ok-first.ensures.goes) c.in_err-comma.ensures

pub returns-in_err-second : goal.returns-in_err-second
returns-in_err-second c =
    halted (Closed c.args.reader.now (IsTerminals c.args.reader.now) CloseParen) c.from_residual-in_err-second.result c.from_residual-in_err-second.ensures
    (passes (passes stays c.in_ok-first.ensures.goes) c.in_ok-comma.ensures.goes) c.in_err-second.ensures

pub returns : goal.returns
returns c =
    answers_from (Closed c.args.reader.now (Extends c.args.reader.now (IsExpr c.args.reader.now) c.push-2.new.self) CloseParen) (Closed c.args.reader.now (IsTerminals c.args.reader.now) CloseParen) c.read_rest.result
    (passes (passes (passes stays c.in_ok-first.ensures.goes) c.in_ok-comma.ensures.goes) c.in_ok-second.ensures.goes)
    (omega (arith, c.in_ok-first.ensures.forward, c.in_ok-comma.ensures.forward, c.in_ok-second.ensures.forward))
    (λ n es rest. terminals_closed c.in_ok-terminals.ensures c.in_ok-push.ensures.ok c.in_ok-push-2.ensures.ok
    c.in_ok-first.ensures.stands c.in_ok-comma.ensures.is c.in_ok-second.ensures.stands rest)
    c.read_rest.ensures
