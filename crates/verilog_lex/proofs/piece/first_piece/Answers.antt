-- A blank has a byte and lies in the text, and so does any other piece.
use Rattle.std.proofs.Common.{length, sym, subst}
use Rattle.verilog_lex.specs.Pieces.{IsWithin}
use Rattle.verilog_lex.proofs.BlankSteps.{blank_len-positive}
use Rattle.verilog_lex.proofs.Within.{token_piece-within}
use Rattle.verilog_lex.proofs.piece.first_piece.Goals as goal

pub returns-in-Some-clause-within : goal.returns-in-Some-clause-within
returns-in-Some-clause-within c = (blank_len-positive c.args.text.now c.in-Some.bytes (sym c.in-Some.ensures.is), c.in-Some.ensures.within)

pub returns-in-None-clause-within : goal.returns-in-None-clause-within
returns-in-None-clause-within c =
    let size = length c.args.text.now in
    subst (λ piece. IsWithin size piece) (sym c.token_piece.ensures) (token_piece-within c.args.text.now c.requires).is
