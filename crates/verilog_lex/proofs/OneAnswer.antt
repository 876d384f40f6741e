-- What a text holds, as a recursion over its bytes: there is one answer, and no other.
use Rattle.std.proofs.Common.{◌≡◌, ℕ, zero, suc, ◌+◌, ◌-◌, ◌<◌, ◌≤◌, Bool, true, List, [], ◌∷◌, length, drop, length-drop, Option, Some, None, Result, Ok, Err, refl, sym, ap, subst, ◌∙◌, arith, ◌⊎◌, inl, inr}
use Rattle.std.specs.Option.{option_map_or}
use Rattle.std.proofs.lemmas.List.{drop_more, drop-drop, drop_all}
use Rattle.verilog_lex.specs.declared.fault.LexFault.{LexFault}
use Rattle.verilog_lex.specs.declared.piece.Piece.{Piece}
use Rattle.verilog_lex.specs.declared.piece.Piece.TheVariants.{Blank, Setting, Lexeme, Fault}
use Rattle.verilog_lex.specs.declared.token.Token.{Token}
use Rattle.verilog_lex.specs.Blanks.{blank_len}
use Rattle.verilog_lex.specs.Pieces.{IsWithin, token_piece, first_piece, fault_at}
use Rattle.verilog_lex.specs.Reads.{Stands, with_token, Reads, ends, passes, sets, takes, fails, EachTextHasOneAnswer}
use Rattle.verilog_lex.proofs.BlankSteps.{blank_len-positive}
use Rattle.verilog_lex.proofs.Within.{token_piece-within}

abbrev Answer : Type 0
Answer = Result (List Token) LexFault

-- what a piece gives, when what comes after it is known
abbrev gives : Bool → ℕ → Piece → (Bool → ℕ → Answer) → Answer
gives implicit at (Blank bytes) next = next implicit (bytes - 1)
gives implicit at (Setting setting bytes) next = next setting (bytes - 1)
gives implicit at (Lexeme kind start bytes) next = with_token (record { kind = kind; start = at + start; end = at + bytes; implicit = implicit }) (next implicit (bytes - 1))
gives implicit at (Fault cause offset) next = Err (fault_at cause (at + offset))

-- what the rest of a text holds, of which so many bytes are of a piece that began before it
abbrev held : Bool → ℕ → ℕ → List ℕ → Answer
held implicit inside at [] = Ok []
held implicit (suc inside) at (b ∷ rest) = held implicit inside (at + 1) rest
held implicit zero at (b ∷ rest) = gives implicit at (first_piece (b ∷ rest)) (λ setting inside. held setting inside (at + 1) rest)

held-drop : (implicit : Bool) (inside at : ℕ) (rest : List ℕ) → held implicit inside at rest ≡ held implicit 0 (at + inside) (drop inside rest)
held-drop implicit zero at rest = let same : at ≡ at + 0 = omega arith in ap (λ k. held implicit 0 k rest) same
held-drop implicit (suc inside) at [] = refl
held-drop implicit (suc inside) at (b ∷ rest) =
    let same : at + 1 + inside ≡ at + suc inside = omega arith in
    held-drop implicit inside (at + 1) rest ∙ ap (λ k. held implicit 0 k (drop inside rest)) same

-- a piece has a byte
abbrev HasByte : Piece → Type 0
HasByte (Blank bytes) = 0 < bytes
HasByte (Setting setting bytes) = 0 < bytes
HasByte (Lexeme kind start bytes) = 0 < bytes
HasByte (Fault cause offset) = Unit {0}

within-HasByte : (size : ℕ) (piece : Piece) → IsWithin size piece → HasByte piece
within-HasByte size (Blank bytes) h = h.0
within-HasByte size (Setting setting bytes) h = h.0
within-HasByte size (Lexeme kind start bytes) h = omega (arith, h.0)
within-HasByte size (Fault cause offset) h = tt

first_piece-HasByte : (text : List ℕ) → 0 < length text → HasByte (first_piece text)
unfolding first_piece
first_piece-HasByte text h = go (blank_len text) (λ n. blank_len-positive text n)
  where
    go : (o : Option ℕ) → ((n : ℕ) → o ≡ Some n → 0 < n) → HasByte (option_map_or Blank o (token_piece text))
    go None f = within-HasByte (length text) (token_piece text) (token_piece-within text h).is
    go (Some n) f = f n refl

module _ (text : List ℕ) where
  stands-HasByte : (at : ℕ) (piece : Piece) → Stands text at piece → HasByte piece
  stands-HasByte at piece stands =
      let inside = stands.inside in
      let size = length-drop at text in
      subst HasByte stands.is (first_piece-HasByte (drop at text) (omega arith))

  -- what is held behind a piece that begins at a place
  behind : (at : ℕ) (implicit : Bool) (bytes : ℕ) → 0 < bytes → held implicit (bytes - 1) (at + 1) (drop (at + 1) text) ≡ held implicit 0 (at + bytes) (drop (at + bytes) text)
  behind at implicit bytes some =
      let same : at + 1 + (bytes - 1) ≡ at + bytes = omega arith in
      held-drop implicit (bytes - 1) (at + 1) (drop (at + 1) text) ∙ ap (λ rest. held implicit 0 (at + 1 + (bytes - 1)) rest) (drop-drop (bytes - 1) (at + 1) text) ∙ ap (λ k. held implicit 0 k (drop k text)) same

  held-stands : (at : ℕ) (implicit : Bool) (piece : Piece) → Stands text at piece → held implicit 0 at (drop at text) ≡ gives implicit at piece (λ setting inside. held setting inside (at + 1) (drop (at + 1) text))
  held-stands at implicit piece stands =
      let step = drop_more text at 0 stands.inside in
      ap (held implicit 0 at) step ∙ ap (λ front. gives implicit at (first_piece front) (λ setting inside. held setting inside (at + 1) (drop (at + 1) text))) (sym step) ∙ ap (λ found. gives implicit at found (λ setting inside. held setting inside (at + 1) (drop (at + 1) text))) stands.is

  held-ends : (at : ℕ) (implicit : Bool) → length text ≤ at → held implicit 0 at (drop at text) ≡ Ok []
  held-ends at implicit over = ap (held implicit 0 at) (drop_all at text over)

  only : {implicit : Bool} {at : ℕ} {answer : Answer} → Reads text implicit at answer → answer ≡ held implicit 0 at (drop at text)
  only (ends implicit at over) = sym (held-ends at implicit over)
  only (passes implicit at bytes answer stands reading) = only reading ∙ sym (held-stands at implicit (Blank bytes) stands ∙ behind at implicit bytes (stands-HasByte at (Blank bytes) stands))
  only (sets implicit setting at bytes answer stands reading) = only reading ∙ sym (held-stands at implicit (Setting setting bytes) stands ∙ behind at setting bytes (stands-HasByte at (Setting setting bytes) stands))
  only (takes implicit at start bytes kind answer stands reading) =
      let token : Token = record { kind = kind; start = at + start; end = at + bytes; implicit = implicit } in
      ap (with_token token) (only reading) ∙ sym (held-stands at implicit (Lexeme kind start bytes) stands ∙ ap (with_token token) (behind at implicit bytes (stands-HasByte at (Lexeme kind start bytes) stands)))
  only (fails implicit at offset cause stands) = sym (held-stands at implicit (Fault cause offset) stands)

  -- a place is before the end, or it is not
  placed : (at : ℕ) → (at < length text) ⊎ (length text ≤ at)
  placed at = grind arith

  some : (room at : ℕ) (implicit : Bool) → length text ≤ at + room → Reads text implicit at (held implicit 0 at (drop at text))
  some zero at implicit fits = subst (Reads text implicit at) (sym (held-ends at implicit (omega arith))) (ends implicit at (omega arith))
  some (suc room) at implicit fits =
      elim (placed at) [
        | inr over ↦ subst (Reads text implicit at) (sym (held-ends at implicit over)) (ends implicit at over)
        | inl inside ↦ go (first_piece (drop at text)) (record { inside = inside; is = refl }) (λ place setting further. some room place setting (omega (arith, further)))
      ]
    where
      go : (piece : Piece) → Stands text at piece → ((place : ℕ) (setting : Bool) → at < place → Reads text setting place (held setting 0 place (drop place text))) → Reads text implicit at (held implicit 0 at (drop at text))
      go (Blank bytes) stands next =
          let byte = stands-HasByte at (Blank bytes) stands in
          subst (Reads text implicit at) (sym (held-stands at implicit (Blank bytes) stands ∙ behind at implicit bytes byte)) (passes implicit at bytes _ stands (next (at + bytes) implicit (omega (arith, byte))))
      go (Setting setting bytes) stands next =
          let byte = stands-HasByte at (Setting setting bytes) stands in
          subst (Reads text implicit at) (sym (held-stands at implicit (Setting setting bytes) stands ∙ behind at setting bytes byte)) (sets implicit setting at bytes _ stands (next (at + bytes) setting (omega (arith, byte))))
      go (Lexeme kind start bytes) stands next =
          let byte = stands-HasByte at (Lexeme kind start bytes) stands in
          let token : Token = record { kind = kind; start = at + start; end = at + bytes; implicit = implicit } in
          subst (Reads text implicit at) (sym (held-stands at implicit (Lexeme kind start bytes) stands ∙ ap (with_token token) (behind at implicit bytes byte))) (takes implicit at start bytes kind _ stands (next (at + bytes) implicit (omega (arith, byte))))
      go (Fault cause offset) stands next = subst (Reads text implicit at) (sym (held-stands at implicit (Fault cause offset) stands)) (fails implicit at offset cause stands)

pub one_answer : EachTextHasOneAnswer
one_answer text = (held true 0 0 (drop 0 text), some text (length text) 0 true (omega arith), λ other reading. only text reading)
