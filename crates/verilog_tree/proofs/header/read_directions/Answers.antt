use Rattle.std.proofs.Common.{rules, arith}
use Rattle.verilog_tree.specs.declared.terminal.Terminal.TheVariants.{CloseParen}
use Rattle.verilog_tree.specs.Grammar.{IsHeader}
use Rattle.verilog_tree.specs.Predict.{Closed}
use Rattle.verilog_tree.proofs.Due.{answered, halted, stays}
use Rattle.verilog_tree.proofs.Gathering.{more_fails, next_fails, separates, closes}
use Rattle.verilog_tree.proofs.Headers.{ports_first, ports_next, ports_read}
use Rattle.verilog_tree.proofs.header.read_directions.Goals as goal

pub returns-in_err-first : goal.returns-in_err-first
returns-in_err-first c =
    halted (Closed c.args.reader.now (IsHeader c.args.reader.now) CloseParen) c.from_residual.result c.from_residual.ensures stays c.in_err-first.ensures

pub continues-requires-clause-within : goal.continues-requires-clause-within
continues-requires-clause-within c = c.ports.invariant.inside

pub ports-init : goal.ports-init
ports-init c = ports_first c.new-ports.ensures c.in_ok-push.ensures.ok c.in_ok-first.ensures

pub returns-in_err-continues : goal.returns-in_err-continues
returns-in_err-continues c =
    let f = c.from_residual-in_err-continues.ensures in
    answered (Closed c.args.reader.now (IsHeader c.args.reader.now) CloseParen) c.from_residual-in_err-continues.result _ f.0 f.1
    (more_fails c.ports.invariant _ c.in_err-continues.ensures.ended)

pub returns-in_err-port : goal.returns-in_err-port
returns-in_err-port c =
    let f = c.from_residual-in_err-port.ensures in
    answered (Closed c.args.reader.now (IsHeader c.args.reader.now) CloseParen) c.from_residual-in_err-port.result _ f.0 f.1
    (next_fails c.ports.invariant _ (separates _ _ _ _ c.if-branch.true c.in_ok-continues.ensures.ended) c.in_err-port.ensures)

pub ports-preserved : goal.ports-preserved
ports-preserved c =
    ports_next c.in_ok-push-2.ensures.ok c.ports.invariant (separates _ _ _ _ c.if-branch.true c.in_ok-continues.ensures.ended) c.in_ok-port.ensures

pub returns : goal.returns
returns c = ports_read c.ports.invariant (closes _ _ _ _ c.if-branch.false c.in_ok-continues.ensures.ended)
