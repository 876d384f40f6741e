-- Stored tokens stay what they are when constants are added behind the others.
use Rattle.std.proofs.Common.{◌≡◌, ℕ, List, [], ◌∷◌, ◌++◌, length, map, refl, ap, ◌∙◌}
use Rattle.std.specs.List.{All}
use Rattle.std.proofs.lemmas.List.{get_or_append_left, map-append}
use Rattle.std.proofs.lemmas.List.Elements.{All-head, All-tail}
use Rattle.std.proofs.Math.Seq.{get_or-append_seam}
use Rattle.verilog_lex.specs.declared.token.Constant.{Constant}
use Rattle.verilog_lex.specs.declared.token.Form.{Form}
use Rattle.verilog_lex.specs.declared.token.Form.TheVariants as form
use Rattle.verilog_lex.specs.declared.token.Row.{Row}
use Rattle.verilog_lex.specs.declared.token.Token.{Token}
use Rattle.verilog_lex.specs.declared.token.TokenKind.{TokenKind}
use Rattle.verilog_lex.specs.declared.token.TokenKind.TheVariants as kind
use Rattle.verilog_lex.specs.Rows.{AreHeld, HasPlace, IsHeld, constants_of, form_of, kind_of, none, number_of, row_of, token_of}

kind_kept : (constants more : List Constant) (form : Form) (number : ℕ) → HasPlace (length constants) form number → kind_of (constants ++ more) form number ≡ kind_of constants form number
kind_kept constants more form.Name number h = refl
kind_kept constants more form.Keyword number h = refl
kind_kept constants more form.Number number h = refl
kind_kept constants more form.Constant number h = ap (λ c. kind.Constant c.size c.value) (get_or_append_left constants more none number h)
kind_kept constants more (form.Mark byte) number h = refl

-- a held token is the same with more constants
token_kept : (constants more : List Constant) (row : Row) → IsHeld (length constants) row → token_of (constants ++ more) row ≡ token_of constants row
token_kept constants more row h = ap (λ k. record { kind = k; start = row.start; end = row.end; implicit = row.implicit }) (kind_kept constants more row.form row.number h)

tokens_kept : (constants more : List Constant) (rows : List Row) → All (IsHeld (length constants)) rows → map (token_of (constants ++ more)) rows ≡ map (token_of constants) rows
tokens_kept constants more [] h = refl
tokens_kept constants more (row ∷ rows) h =
    let here : token_of (constants ++ more) row ≡ token_of constants row = token_kept constants more row (All-head (IsHeld (length constants)) row rows h) in
    let rest : map (token_of (constants ++ more)) rows ≡ map (token_of constants) rows = tokens_kept constants more rows (All-tail (IsHeld (length constants)) row rows h) in
    rw here (rw rest refl)

-- the kind of a new token is found in its row and the constants with it
kind_new : (constants : List Constant) (kind : TokenKind) → kind_of (constants ++ constants_of kind) (form_of kind) (number_of (length constants) kind) ≡ kind
kind_new constants kind.Name = refl
kind_new constants (kind.Keyword place) = refl
kind_new constants (kind.Number number) = refl
kind_new constants (kind.Constant size value) = ap (λ c. kind.Constant c.size c.value) (get_or-append_seam constants (record { size = size; value = value }) [] none)
kind_new constants (kind.Mark byte) = refl

token_new : (constants : List Constant) (token : Token) → token_of (constants ++ constants_of token.kind) (row_of (length constants) token) ≡ token
token_new constants token = ap (λ k. record { kind = k; start = token.start; end = token.end; implicit = token.implicit }) (kind_new constants token.kind)

-- the tokens after a push
pub pushed : (constants : List Constant) (rows : List Row) (token : Token) → AreHeld constants rows → map (token_of (constants ++ constants_of token.kind)) (rows ++ row_of (length constants) token ∷ []) ≡ map (token_of constants) rows ++ token ∷ []
pushed constants rows token h =
    let more = constants_of token.kind in
    let row = row_of (length constants) token in
    let split : map (token_of (constants ++ more)) (rows ++ row ∷ []) ≡ map (token_of (constants ++ more)) rows ++ token_of (constants ++ more) row ∷ [] = map-append (token_of (constants ++ more)) rows (row ∷ []) in
    let old : map (token_of (constants ++ more)) rows ≡ map (token_of constants) rows = tokens_kept constants more rows h.held in
    let new : token_of (constants ++ more) row ≡ token = token_new constants token in
    split ∙ ap (λ ts. ts ++ token_of (constants ++ more) row ∷ []) old ∙ ap (λ t. map (token_of constants) rows ++ t ∷ []) new
