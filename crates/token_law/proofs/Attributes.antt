-- Attributes end at the least end outside their strings.
use Rattle.std.proofs.Common.{◌≡◌, ℕ, zero, suc, ◌+◌, ◌-◌, arith, Bool, true, false, not, List, [], ◌∷◌, ◌++◌, take, drop, refl, subst, sym, ap, ◌∙◌, if◌then◌else◌}
use Rattle.std.specs.Prelude.{◌==◌, ◌&&◌, Some, None, option_map, Result, Err}
use Rattle.std.proofs.lemmas.List.{drop_all}
use Rattle.std.proofs.lemmas.Option.{none-some}
use Rattle.facts.proofs.Tests.{no, number_same, same_number}
use Rattle.verilog_lex.specs.declared.fault.LexFault.{LexFault}
use Rattle.verilog_lex.specs.declared.fault.LexFault.TheVariants.{OpenAttribute}
use Rattle.verilog_lex.specs.declared.token.Token.{Token}
use Rattle.verilog_lex.specs.Bytes.{star, backslash, opening, closing, double_quote, first}
use Rattle.verilog_lex.specs.Blanks.{attribute_len, blank_len}
use Rattle.verilog_lex.specs.Pieces.{first_piece, token_piece, fault_at}
use Rattle.verilog_lex.specs.Reads.{Reads, ends, passes, sets, takes, fails}
use Rattle.token_law.specs.Places.{Pair}
use Rattle.token_law.specs.Blanks as law
use Rattle.token_law.specs.Blanks.{AttributesClose, AttributeEnds, IsQuoted, LeavesNoString}
use Rattle.token_law.proofs.Searches.{Finds, goes_on, goes_on_two, opened, pair_dropped, pair_undropped, pair_here, no_pair_here}
use Rattle.token_law.proofs.Passing.{closes}

-- bytes that end the string which is open before them, and leave none open
data InString : List ℕ → Type 0 where
  done : (rest : List ℕ) → LeavesNoString rest → InString (double_quote ∷ rest)
  plain : (b : ℕ) (rest : List ℕ) → (b ≡ double_quote → ⊥) → (b ≡ backslash → ⊥) → InString rest → InString (b ∷ rest)
  taken : (b : ℕ) (rest : List ℕ) → InString rest → InString (backslash ∷ b ∷ rest)

in_string : (quoted rest : List ℕ) → IsQuoted quoted → LeavesNoString rest → InString (quoted ++ double_quote ∷ rest)
in_string quoted rest law.IsQuoted.nothing h = done rest h
in_string quoted rest (law.IsQuoted.plain b more quote back q) h = plain b (more ++ double_quote ∷ rest) quote back (in_string more rest q h)
in_string quoted rest (law.IsQuoted.taken b more q) h = taken b (more ++ double_quote ∷ rest) (in_string more rest q h)

-- what is between the quotes, and what is behind them
record Split (bytes : List ℕ) : Type 0 where
  quoted : List ℕ
  rest : List ℕ
  is : bytes ≡ quoted ++ double_quote ∷ rest
  inside : IsQuoted quoted
  behind : LeavesNoString rest

split : (bytes : List ℕ) → InString bytes → Split bytes
split bytes (done rest h) = record { quoted = []; rest = rest; is = refl; inside = law.IsQuoted.nothing; behind = h }
split bytes (plain b more quote back h) =
    let s = split more h in
    record { quoted = b ∷ s.quoted; rest = s.rest; is = ap (λ xs. b ∷ xs) s.is; inside = law.IsQuoted.plain b s.quoted quote back s.inside; behind = s.behind }
split bytes (taken b more h) =
    let s = split more h in
    record { quoted = backslash ∷ b ∷ s.quoted; rest = s.rest; is = ap (λ xs. backslash ∷ b ∷ xs) s.is; inside = law.IsQuoted.taken b s.quoted s.inside; behind = s.behind }

-- no string is open behind these bytes, where one was or was not open before them
abbrev Leaves : Bool → List ℕ → Type 0
Leaves true bytes = InString bytes
Leaves false bytes = LeavesNoString bytes

out : (b : ℕ) (rest : List ℕ) → (c : Bool) → (b == double_quote) ≡ c → LeavesNoString (b ∷ rest) → Leaves c rest
out b rest true e (law.LeavesNoString.plain b2 more quote h) = absurd (quote (number_same b double_quote e))
out b rest false e (law.LeavesNoString.plain b2 more quote h) = h
out b rest true e (law.LeavesNoString.whole quoted more q h) = in_string quoted more q h
out b rest false e (law.LeavesNoString.whole quoted more q h) = no (sym e)

differs : (b c : ℕ) → (b == c) ≡ false → b ≡ c → ⊥
differs b c e same = no (sym e ∙ same_number b c same)

back_out : (b : ℕ) (rest : List ℕ) → (c : Bool) → (b == double_quote) ≡ c → Leaves c rest → LeavesNoString (b ∷ rest)
back_out b rest false e h = law.LeavesNoString.plain b rest (differs b double_quote e) h
back_out b rest true e h =
    let s = split rest h in
    let same : double_quote ∷ s.quoted ++ double_quote ∷ s.rest ≡ b ∷ rest = ap (λ c. c ∷ s.quoted ++ double_quote ∷ s.rest) (sym (number_same b double_quote e)) ∙ ap (λ xs. b ∷ xs) (sym s.is) in
    subst LeavesNoString same (law.LeavesNoString.whole s.quoted s.rest s.inside s.behind)

on : (b : ℕ) (rest : List ℕ) → (b ≡ backslash → ⊥) → (c : Bool) → (b == double_quote) ≡ c → InString (b ∷ rest) → Leaves (not c) rest
on b rest back true e (done more h) = h
on b rest back false e (done more h) = no (sym e)
on b rest back true e (plain b2 more quote back2 h) = absurd (quote (number_same b double_quote e))
on b rest back false e (plain b2 more quote back2 h) = h
on b rest back c e (taken b2 more h) = absurd (back refl)

back_on : (b : ℕ) (rest : List ℕ) → (b ≡ backslash → ⊥) → (c : Bool) → (b == double_quote) ≡ c → Leaves (not c) rest → InString (b ∷ rest)
back_on b rest back true e h = subst (λ c. InString (c ∷ rest)) (sym (number_same b double_quote e)) (done rest h)
back_on b rest back false e h = plain b rest (differs b double_quote e) back h

over : (b c : ℕ) (rest : List ℕ) → b ≡ backslash → InString (b ∷ c ∷ rest) → InString rest
over b c rest e (done more h) = absurd (omega (arith, e))
over b c rest e (plain b2 more quote back h) = absurd (back e)
over b c rest e (taken b2 more h) = h

back_over : (b c : ℕ) (rest : List ℕ) → b ≡ backslash → InString rest → InString (b ∷ c ∷ rest)
back_over b c rest e h = subst (λ x. InString (x ∷ c ∷ rest)) (sym e) (taken c rest h)

not_left : InString [] → ⊥
not_left h = none (split [] h).quoted (split [] h).rest (split [] h).is
  where
    none : (quoted rest : List ℕ) → [] ≡ quoted ++ double_quote ∷ rest → ⊥
    none [] rest e = absurd (cc)
    none (b ∷ quoted) rest e = absurd (cc)

not_taken : (b : ℕ) → b ≡ backslash → InString (b ∷ []) → ⊥
not_taken b e (done rest h) = absurd (omega (arith, e))
not_taken b e (plain b2 rest quote back h) = back e

-- `*)` stands at a place of these bytes, and no string is open before it
record Ends (quoted : Bool) (bytes : List ℕ) (k : ℕ) : Type 0 where
  closes : Pair star closing bytes k
  outside : Leaves quoted (take k bytes)

attribute_found : (quoted : Bool) (bytes : List ℕ) → Finds (Ends quoted bytes) (attribute_len quoted bytes)
attribute_found true [] = λ k p. none-some star p.closes.0
attribute_found false [] = λ k p. none-some star p.closes.0
attribute_found true (b ∷ []) = go
  where
    go : (k : ℕ) → Ends true (b ∷ []) k → ⊥
    go zero p = none-some closing p.closes.1
    go (suc k) p = none-some star p.closes.0
attribute_found true (b ∷ c ∷ rest) = go (b == backslash) refl (attribute_found true rest) (λ quoted. attribute_found quoted (c ∷ rest))
  where
    go : (d : Bool) → (b == backslash) ≡ d → Finds (Ends true rest) (attribute_len true rest) → ((quoted : Bool) → Finds (Ends quoted (c ∷ rest)) (attribute_len quoted (c ∷ rest)))
        → Finds (Ends true (b ∷ c ∷ rest)) (if d then option_map (λ n. n + 2) (attribute_len true rest) else option_map (λ n. n + 1) (attribute_len (not (b == double_quote)) (c ∷ rest)))
    go true e two one =
        goes_on_two (Ends true (b ∷ c ∷ rest)) (Ends true rest) (attribute_len true rest)
        (λ p. not_left p.outside)
        (λ p. not_taken b (number_same b backslash e) p.outside)
        (λ k p. record { closes = p.closes; outside = over b c (take k rest) (number_same b backslash e) p.outside })
        (λ k p. record { closes = p.closes; outside = back_over b c (take k rest) (number_same b backslash e) p.outside })
        two
    go false e two one =
        goes_on (Ends true (b ∷ c ∷ rest)) (Ends (not (b == double_quote)) (c ∷ rest)) (attribute_len (not (b == double_quote)) (c ∷ rest))
        (λ p. not_left p.outside)
        (λ k p. record { closes = p.closes; outside = on b (take k (c ∷ rest)) (differs b backslash e) (b == double_quote) refl p.outside })
        (λ k p. record { closes = p.closes; outside = back_on b (take k (c ∷ rest)) (differs b backslash e) (b == double_quote) refl p.outside })
        (one (not (b == double_quote)))
attribute_found false (b ∷ rest) = go (b == star && first rest == closing) refl (λ quoted. attribute_found quoted rest)
  where
    go : (d : Bool) → (b == star && first rest == closing) ≡ d → ((quoted : Bool) → Finds (Ends quoted rest) (attribute_len quoted rest))
        → Finds (Ends false (b ∷ rest)) (if d then Some 2 else option_map (λ n. n + 1) (attribute_len (b == double_quote) rest))
    go true e one = (0, refl, record { closes = pair_here star closing b rest (λ z. absurd (omega (arith, z))) e; outside = law.LeavesNoString.nothing }, λ j less p. absurd (omega arith))
    go false e one =
        goes_on (Ends false (b ∷ rest)) (Ends (b == double_quote) rest) (attribute_len (b == double_quote) rest)
        (λ p. no_pair_here star closing b rest e p.closes)
        (λ k p. record { closes = p.closes; outside = out b (take k rest) (b == double_quote) refl p.outside })
        (λ k p. record { closes = p.closes; outside = back_out b (take k rest) (b == double_quote) refl p.outside })
        (one (b == double_quote))

-- what `(*` begins is passed over with so many bytes
attribute_blank : (more : List ℕ) → blank_len (opening ∷ star ∷ more) ≡ option_map (λ n. n + 2) (attribute_len false more)
unfolding blank_len
attribute_blank more = refl

-- a text whose attribute has no end has a fault there
open_attribute : (text : List ℕ) (implicit : Bool) (at : ℕ) (answer : Result (List Token) LexFault) (more : List ℕ) → drop at text ≡ opening ∷ star ∷ more → attribute_len false more ≡ None → Reads text implicit at answer → answer ≡ Err (OpenAttribute at)
unfolding first_piece blank_len token_piece
open_attribute text implicit at answer more e none (ends i a over) = let over = drop_all at text over in absurd (cc)
open_attribute text implicit at answer more e none (passes i a bytes b stands rest) = let h = rw none at (rw e at stands.is) in absurd (cc)
open_attribute text implicit at answer more e none (sets i setting a bytes b stands rest) = let h = rw none at (rw e at stands.is) in absurd (cc)
open_attribute text implicit at answer more e none (takes i a start bytes kind b stands rest) = let h = rw none at (rw e at stands.is) in absurd (cc)
open_attribute text implicit at answer more e none (fails i a offset cause stands) =
    let h = rw none at (rw e at stands.is) in
    let here : offset ≡ 0 = cc in
    let there : at + offset ≡ at = omega (arith, here) in
    let same : fault_at cause (at + offset) ≡ OpenAttribute at = cc in
    ap (λ (fault : LexFault). Err fault) same

module _ (text : List ℕ) (at : ℕ) where
  back : (j : ℕ) → AttributeEnds text (at + 2) (at + 2 + j) → Ends false (drop (at + 2) text) j
  back j p =
      let size : at + 2 + j - (at + 2) ≡ j = omega arith in
      record {
        closes = pair_dropped star closing (at + 2) text j p.closes;
        outside = subst (λ n. LeavesNoString (take n (drop (at + 2) text))) size p.outside;
      }

  forth : (j : ℕ) → Ends false (drop (at + 2) text) j → AttributeEnds text (at + 2) (at + 2 + j)
  forth j p =
      let size : at + 2 + j - (at + 2) ≡ j = omega arith in
      record {
        closes = pair_undropped star closing (at + 2) text j p.closes;
        outside = subst (λ n. LeavesNoString (take n (drop (at + 2) text))) (sym size) p.outside;
      }

pub attributes_close : AttributesClose
attributes_close text implicit at answer pair reading =
    let more : List ℕ = drop (at + 2) text in
    let shown : drop at text ≡ opening ∷ star ∷ more = opened opening star at text pair in
    closes text implicit at answer (OpenAttribute at) (AttributeEnds text (at + 2)) (Ends false more) (attribute_len false more)
    (ap blank_len shown ∙ attribute_blank more)
    (λ none. open_attribute text implicit at answer more shown none reading)
    (back text at)
    (forth text at)
    (attribute_found false more)
    reading
