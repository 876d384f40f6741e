-- Each turn of the loop goes one step on in the attribute that is left.
use Rattle.std.proofs.Common.{◌∙◌, arith}
use Rattle.verilog_lex.proofs.BlankSteps.{attribute-escape, attribute-inside, attribute-outside, attribute-closed}
use Rattle.verilog_lex.proofs.blank.attribute_len.Goals as goal
use Rattle.verilog_lex.proofs.blank.attribute_len.Goals.{else-byte-eq42-via-then-byte-eq42+else-byte_at-eq41, else-byte-eq42-via-else-byte-eq42}

pub loop-at-preserved-then-byte-eq92 : goal.loop-at-preserved-then-byte-eq92
loop-at-preserved-then-byte-eq92 c = (omega arith, attribute-escape c.args.text.now c.loop-at.at c.loop-at.quoted _ (omega arith) c.loop-at.invariant.1 c.if-quoted.true c.if-byte-eq92.true)

pub loop-at-preserved-else-byte-eq92 : goal.loop-at-preserved-else-byte-eq92
loop-at-preserved-else-byte-eq92 c = (omega arith, attribute-inside c.args.text.now c.loop-at.at c.loop-at.quoted _ (omega arith) c.loop-at.invariant.1 c.if-quoted.true c.if-byte-eq92.false)

pub returns-then-byte_at-eq41-clause-is : goal.returns-then-byte_at-eq41-clause-is
returns-then-byte_at-eq41-clause-is c = attribute-closed c.args.text.now c.loop-at.at c.loop-at.quoted _ (omega arith) c.loop-at.invariant.1 c.if-quoted.false c.if-byte-eq42.true (cc)

pub loop-at-preserved : goal.loop-at-preserved
loop-at-preserved c = (
  omega arith,
  attribute-outside c.args.text.now c.loop-at.at c.loop-at.quoted _ (omega arith) c.loop-at.invariant.1 c.if-quoted.false (elim c.else-byte-eq42.branch [
    | else-byte-eq42-via-then-byte-eq42+else-byte_at-eq41 w ↦ λ _ e. w.if-byte_at-eq41.false (w.byte_at.ensures ∙ e)
    | else-byte-eq42-via-else-byte-eq42 w ↦ λ e _. w.if-byte-eq42.false e
  ]),
)
