-- A terminal without a value is known by its number.
use Rattle.std.proofs.Common.{◌≡◌, ◌≢◌, ℕ, Bool, true, false, if◌then◌else◌, ◌==◌, nat_lt, ◌⊎◌, inl, inr, refl, sym, ◌∙◌, ap, subst}
use Rattle.verilog_tree.specs.declared.terminal.Terminal.{Terminal}
use Rattle.verilog_tree.specs.declared.terminal.Terminal.TheVariants.{Name, Number, Constant, Module, EndModule, Direction, Wire, Supply, Assign, Gate, Reserved, OpenParen, CloseParen, OpenBracket, CloseBracket, OpenBrace, CloseBrace, Comma, Semicolon, Colon, Equals, Dot, Stray}
use Rattle.verilog_tree.specs.Terminal.{code_of, is_plain}

plain_of : ℕ → Terminal
plain_of code =
    if code == 0 then Name
    else if code == 1 then Constant
    else if code == 2 then Module
    else if code == 3 then EndModule
    else if code == 4 then Wire
    else if code == 5 then Assign
    else if code == 6 then Gate
    else if code == 7 then Reserved
    else if code == 8 then OpenParen
    else if code == 9 then CloseParen
    else if code == 10 then OpenBracket
    else if code == 11 then CloseBracket
    else if code == 12 then OpenBrace
    else if code == 13 then CloseBrace
    else if code == 14 then Comma
    else if code == 15 then Semicolon
    else if code == 16 then Colon
    else if code == 17 then Equals
    else if code == 18 then Dot
    else if code == 19 then Stray
    else Stray

-- the terminal with a number, unless it is the number of all that have a value
again : (t : Terminal) → (plain_of (code_of t) ≡ t) ⊎ (code_of t ≡ 255)
unfolding plain_of
again (Number value) = inr refl
again (Direction dir) = inr refl
again (Supply one) = inr refl
again _ = inl refl

below : (t : Terminal) → is_plain t ≡ true → nat_lt (code_of t) 255 ≡ true
below (Number value) e = cc
below (Direction dir) e = cc
below (Supply one) e = cc
below _ e = refl

pub plain : (t u : Terminal) → is_plain u ≡ true → code_of t ≡ code_of u → t ≡ u
plain t u p e = go (again t) (again u)
  where
    has_value : code_of u ≡ 255 → t ≡ u
    has_value f = (let no : true ≡ false = sym (below u p) ∙ ap (λ n. nat_lt n 255) f in cc)

    go : (plain_of (code_of t) ≡ t) ⊎ (code_of t ≡ 255) → (plain_of (code_of u) ≡ u) ⊎ (code_of u ≡ 255) → t ≡ u
    go (inl a) (inl b) = sym a ∙ ap plain_of e ∙ b
    go (inl a) (inr b) = has_value b
    go (inr a) b = has_value (sym e ∙ a)
