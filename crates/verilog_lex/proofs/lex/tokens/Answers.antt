-- Each piece is one step of the cutting.
use Rattle.std.proofs.Common.{Err, sym, subst}
use Rattle.verilog_lex.specs.Reads.{Answers}
use Rattle.verilog_lex.proofs.Cutting.{cutting-blank, cutting-setting, cutting-token, cutting-fault, cutting-ends}
use Rattle.verilog_lex.proofs.lex.tokens.Goals as goal

pub pieces-preserved-in-Blank : goal.pieces-preserved-in-Blank
pieces-preserved-in-Blank c = cutting-blank c.args.source.now c.pieces.implicit c.pieces.at c.pieces.found c.pieces.invariant c.pieces-test.true c.in-Blank.bytes c.in-Blank.ensures.is c.in-Blank.ensures.within

pub pieces-preserved-in-Setting : goal.pieces-preserved-in-Setting
pieces-preserved-in-Setting c = cutting-setting c.args.source.now c.pieces.implicit c.pieces.at c.pieces.found c.pieces.invariant c.pieces-test.true c.in-Setting.setting c.in-Setting.bytes c.in-Setting.ensures.is c.in-Setting.ensures.within

pub pieces-preserved : goal.pieces-preserved
pieces-preserved c = rw c.in_ok-push-in-Lexeme.ensures.ok (cutting-token c.args.source.now c.pieces.implicit c.pieces.at c.pieces.found c.pieces.invariant c.pieces-test.true c.in-Lexeme.kind c.in-Lexeme.start c.in-Lexeme.bytes c.in-Lexeme.ensures.is c.in-Lexeme.ensures.within)

pub returns-in-Fault-clause-reads : goal.returns-in-Fault-clause-reads
returns-in-Fault-clause-reads c =
    let text = c.args.source.now in
    subst (λ fault. Answers text (Err fault)) (sym c.fault.ensures) (cutting-fault c.args.source.now c.pieces.implicit c.pieces.at c.pieces.found c.pieces.invariant c.pieces-test.true c.in-Fault.cause c.in-Fault.offset c.in-Fault.ensures.is)

pub returns-clause-reads : goal.returns-clause-reads
returns-clause-reads c = cutting-ends c.args.source.now c.pieces.implicit c.pieces.at c.pieces.found c.pieces.invariant c.pieces-test.false
