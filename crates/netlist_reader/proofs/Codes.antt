-- Words told apart by a number.
use Rattle.std.proofs.Common.{◌≡◌, ◌+◌, ◌==◌, ℕ, false, List, [], ◌∷◌, ap, arith}
use Rattle.std.proofs.lemmas.Bool.Decides.{nat_tests}
use Rattle.token_words.specs.Word.{Word}
use Rattle.verilog_lex.specs.declared.token.TokenKind.{TokenKind}
use Rattle.verilog_lex.specs.declared.token.TokenKind.TheVariants.{Name, Keyword, Number, Constant, Mark}

abbrev pub kind_code : TokenKind → ℕ
kind_code Name = 500
kind_code (Keyword place) = 503
kind_code (Number n) = 501
kind_code (Constant size value) = 502
kind_code (Mark byte) = 1 + byte

-- of the first word; 0 where there is none
abbrev pub first_code : List Word → ℕ
first_code [] = 0
first_code (w ∷ ws) = kind_code w.kind

-- words whose numbers differ are not the same
pub differ : (v w : List Word) → v ≡ w → (first_code v == first_code w) ≡ false → ⊥
differ v w e off =
    let same : first_code v ≡ first_code w = ap first_code e in
    grind (arith, nat_tests)
