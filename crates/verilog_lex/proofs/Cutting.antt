-- Cutting a text into its pieces, one by one.
use Rattle.std.proofs.Common.{◌≡◌, ℕ, ◌+◌, ◌<◌, ◌≤◌, Bool, true, List, [], ◌∷◌, ◌++◌, ◌-◌, length, take, drop, length-drop, length-append, append_assoc, Result, Ok, Err, refl, sym, ap, subst, ◌∙◌, arith}
use Rattle.std.specs.List.{All}
use Rattle.std.proofs.lemmas.List.Elements.{All-nil, All-push}
use Rattle.std.proofs.lemmas.Grind.{common_steps}
use Rattle.std.proofs.lemmas.List.{append-nil}
use Rattle.verilog_lex.specs.declared.fault.Cause.{Cause}
use Rattle.verilog_lex.specs.declared.fault.Cause.TheVariants as cause
use Rattle.verilog_lex.specs.declared.fault.LexFault.{LexFault}
use Rattle.verilog_lex.specs.declared.piece.Piece.TheVariants.{Blank, Setting, Lexeme, Fault}
use Rattle.verilog_lex.specs.declared.token.Token.{Token}
use Rattle.verilog_lex.specs.declared.token.TokenKind.{TokenKind}
use Rattle.verilog_lex.specs.Pieces.{first_piece, fault_at, IsWithin}
use Rattle.verilog_lex.specs.Reads.{with_token, Reads, ends, passes, sets, takes, fails, Answers, IsPartOf}

-- an answer with tokens before its tokens
abbrev pub with_tokens : List Token → Result (List Token) LexFault → Result (List Token) LexFault
with_tokens tokens (Ok more) = Ok (tokens ++ more)
with_tokens tokens (Err fault) = Err fault

with_tokens-none : (answer : Result (List Token) LexFault) → answer ≡ with_tokens [] answer
with_tokens-none (Ok more) = refl
with_tokens-none (Err fault) = refl

with_tokens-one : (tokens : List Token) (token : Token) (answer : Result (List Token) LexFault) → with_tokens tokens (with_token token answer) ≡ with_tokens (tokens ++ token ∷ []) answer
with_tokens-one tokens token (Ok more) = ap (λ (all : List Token). Ok all) (sym (append_assoc tokens (token ∷ []) more))
with_tokens-one tokens token (Err fault) = refl

-- a fault that a text has is what `tokens` answers
answers-fault : (text : List ℕ) (cause : Cause) (at : ℕ) → Reads text true 0 (Err (fault_at cause at)) → Answers text (Err (fault_at cause at))
answers-fault text cause.Byte at reading = reading
answers-fault text cause.Comment at reading = reading
answers-fault text cause.Attribute at reading = reading
answers-fault text cause.Number at reading = reading
answers-fault text cause.Digit at reading = reading
answers-fault text cause.Backquote at reading = reading

-- the tokens found are those before a place, where undeclared names become wires or not
pub record IsCutting (text : List ℕ) (implicit : Bool) (at : ℕ) (found : List Token) : Type 0 where
  pub within : at ≤ length text
  pub few : length found ≤ at
  pub parts : All (IsPartOf text) found
  pub reads : (answer : Result (List Token) LexFault) → Reads text implicit at answer → Reads text true 0 (with_tokens found answer)

pub cutting-begins : (text : List ℕ) → IsCutting text true 0 []
cutting-begins text = record {
  within = omega arith;
  few = omega arith;
  parts = All-nil (IsPartOf text);
  reads = λ answer reading. subst (λ given. Reads text true 0 given) (with_tokens-none answer) reading;
}

pub cutting-ends : (text : List ℕ) (implicit : Bool) (at : ℕ) (found : List Token) → IsCutting text implicit at found → length text ≤ at → Reads text true 0 (Ok found)
cutting-ends text implicit at found cutting over =
    let all : found ++ [] ≡ found = append-nil found in
    subst (λ (tokens : List Token). Reads text true 0 (Ok tokens)) all (cutting.reads (Ok []) (ends implicit at over))

-- one piece on; the text from a place on is a slice
module _ (text : List ℕ) (implicit : Bool) (at : ℕ) (found : List Token) (cutting : IsCutting text implicit at found) (inside : at < length text) where
  rest : take (length text - at) (drop at text) ≡ drop at text
  rest = grind (arith, common_steps)

  rest-length : length (take (length text - at) (drop at text)) ≡ length text - at
  rest-length = rw rest (length-drop at text)

  pub cutting-blank : (bytes : ℕ) → Blank bytes ≡ first_piece (take (length text - at) (drop at text)) → IsWithin (length (take (length text - at) (drop at text))) (Blank bytes) → IsCutting text implicit (at + bytes) found
  cutting-blank bytes is fits =
      let few = cutting.few in
      let size = rest-length in
      record {
        within = omega arith;
        few = omega arith;
        parts = cutting.parts;
        reads = λ answer reading. cutting.reads answer (passes implicit at bytes answer (record { inside = inside; is = ap first_piece (sym rest) ∙ sym is }) reading);
      }

  pub cutting-setting : (setting : Bool) (bytes : ℕ) → Setting setting bytes ≡ first_piece (take (length text - at) (drop at text)) → IsWithin (length (take (length text - at) (drop at text))) (Setting setting bytes) → IsCutting text setting (at + bytes) found
  cutting-setting setting bytes is fits =
      let few = cutting.few in
      let size = rest-length in
      record {
        within = omega arith;
        few = omega arith;
        parts = cutting.parts;
        reads = λ answer reading. cutting.reads answer (sets implicit setting at bytes answer (record { inside = inside; is = ap first_piece (sym rest) ∙ sym is }) reading);
      }

  pub cutting-token : (kind : TokenKind) (start bytes : ℕ) → Lexeme kind start bytes ≡ first_piece (take (length text - at) (drop at text)) → IsWithin (length (take (length text - at) (drop at text))) (Lexeme kind start bytes) → IsCutting text implicit (at + bytes) (found ++ record { kind = kind; start = at + start; end = at + bytes; implicit = implicit } ∷ [])
  cutting-token kind start bytes is fits =
      let few = cutting.few in
      let size = rest-length in
      let token : Token = record { kind = kind; start = at + start; end = at + bytes; implicit = implicit } in
      record {
        within = omega arith;
        few = simp length-append (omega arith);
        parts = All-push (IsPartOf text) found token cutting.parts (omega arith, omega arith);
        reads = λ answer reading. subst (λ given. Reads text true 0 given) (with_tokens-one found token answer) (cutting.reads (with_token token answer) (takes implicit at start bytes kind answer (record { inside = inside; is = ap first_piece (sym rest) ∙ sym is }) reading));
      }

  pub cutting-fault : (cause : Cause) (offset : ℕ) → Fault cause offset ≡ first_piece (take (length text - at) (drop at text)) → Answers text (Err (fault_at cause (at + offset)))
  cutting-fault cause offset is = answers-fault text cause (at + offset) (cutting.reads (Err (fault_at cause (at + offset))) (fails implicit at offset cause (record { inside = inside; is = ap first_piece (sym rest) ∙ sym is })))
