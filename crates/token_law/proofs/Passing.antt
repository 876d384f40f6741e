-- What is passed over, and what a text holds behind it.
use Rattle.std.proofs.Common.{◌≡◌, ℕ, ◌+◌, arith, Bool, List, [], drop, refl, subst, sym, ap, ◌∙◌}
use Rattle.std.specs.Prelude.{Option, Some, None, option_map, Result, Err}
use Rattle.std.proofs.lemmas.Option.{none-some}
use Rattle.std.proofs.lemmas.List.{drop_all}
use Rattle.verilog_lex.specs.declared.fault.LexFault.{LexFault}
use Rattle.verilog_lex.specs.declared.token.Token.{Token}
use Rattle.verilog_lex.specs.Blanks.{blank_len}
use Rattle.verilog_lex.specs.Pieces.{first_piece}
use Rattle.verilog_lex.specs.Reads.{Reads, ends, passes, sets, takes, fails}
use Rattle.token_law.specs.Blanks.{Closes, closed, never}
use Rattle.token_law.proofs.Searches.{Finds, least_place, never_place}

empty_blank : blank_len [] ≡ None
unfolding blank_len
empty_blank = refl

-- behind so many bytes that are passed over a text holds what it holds here
pub passed : (text : List ℕ) (implicit : Bool) (at n : ℕ) (answer : Result (List Token) LexFault) → blank_len (drop at text) ≡ Some n → Reads text implicit at answer → Reads text implicit (at + n) answer
unfolding first_piece
passed text implicit at n answer e (ends i a over) = absurd (none-some n (sym empty_blank ∙ ap blank_len (sym (drop_all at text over)) ∙ e))
passed text implicit at n answer e (passes i a bytes b stands rest) =
    let h = rw e at stands.is in
    let same : bytes ≡ n = cc in
    subst (λ k. Reads text implicit (at + k) answer) same rest
passed text implicit at n answer e (sets i setting a bytes b stands rest) = let h = rw e at stands.is in absurd (cc)
passed text implicit at n answer e (takes i a start bytes kind b stands rest) = let h = rw e at stands.is in absurd (cc)
passed text implicit at n answer e (fails i a offset cause stands) = let h = rw e at stands.is in absurd (cc)

-- what two bytes begin closes, where a search behind them finds its least end
module _ (text : List ℕ) (implicit : Bool) (at : ℕ) (answer : Result (List Token) LexFault) (unclosed : LexFault) (P Q : ℕ → Type 0) where
  pub closes : (o : Option ℕ)
      → blank_len (drop at text) ≡ option_map (λ n. n + 2) o
      → (o ≡ None → answer ≡ Err unclosed)
      → ((j : ℕ) → P (at + 2 + j) → Q j)
      → ((j : ℕ) → Q j → P (at + 2 + j))
      → Finds Q o
      → Reads text implicit at answer
      → Closes text P unclosed implicit at answer
  closes None e fault back forth f reading =
      subst (Closes text P unclosed implicit at) (sym (fault refl)) (never (never_place P Q (at + 2) back f))
  closes (Some n) e fault back forth f reading =
      let place : at + (n + 2) ≡ at + 2 + f.0 + 2 = omega (arith, f.1) in
      closed (at + 2 + f.0) answer (least_place P Q (at + 2) f.0 back forth f.2 f.3)
      (subst (λ k. Reads text implicit k answer) place (passed text implicit at (n + 2) answer e reading))
