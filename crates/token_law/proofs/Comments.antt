-- Comments end at their least end.
use Rattle.std.proofs.Common.{◌≡◌, ℕ, zero, suc, ◌+◌, ◌<◌, ◌≤◌, arith, Bool, true, false, not, cond, inl, inr, List, [], ◌∷◌, length, length-drop, drop, refl, subst, sym, ap, ◌∙◌, if◌then◌else◌}
use Rattle.std.specs.Prelude.{◌==◌, ◌&&◌, Some, None, option_map, Result, Err}
use Rattle.std.specs.List.{prefix_len}
use Rattle.std.proofs.lemmas.Option.{slice_get_within, same_Some}
use Rattle.std.proofs.lemmas.List.{drop_all}
use Rattle.facts.proofs.Tests.{no, number_same, same_number}
use Rattle.verilog_lex.specs.declared.fault.LexFault.{LexFault}
use Rattle.verilog_lex.specs.declared.fault.LexFault.TheVariants.{OpenComment}
use Rattle.verilog_lex.specs.declared.token.Token.{Token}
use Rattle.verilog_lex.specs.Bytes.{star, slash, newline, first}
use Rattle.verilog_lex.specs.Blanks.{comment_len, blank_len}
use Rattle.verilog_lex.specs.Pieces.{first_piece, token_piece, fault_at}
use Rattle.verilog_lex.specs.Reads.{Reads, ends, passes, sets, takes, fails}
use Rattle.token_law.specs.Places.{Pair}
use Rattle.token_law.specs.Blanks.{BlockCommentsClose, LineCommentsEnd, LineEnds}
use Rattle.token_law.proofs.Searches.{Finds, goes_on, get_drop, least_place, opened, pair_dropped, pair_undropped, pair_here, no_pair_here, no_pair}
use Rattle.token_law.proofs.Passing.{passed, closes}

not_zero : (c : ℕ) → 1 ≤ c → c ≡ 0 → ⊥
not_zero c h e = absurd (omega arith)

-- the bytes of a comment go up to and with its least end
pub comment_found : (rest : List ℕ) → Finds (Pair star slash rest) (comment_len rest)
comment_found [] = λ k p. no_pair star slash k p
comment_found (b ∷ rest) = go (b == star && first rest == slash) refl (comment_found rest)
  where
    go : (c : Bool) → (b == star && first rest == slash) ≡ c → Finds (Pair star slash rest) (comment_len rest) → Finds (Pair star slash (b ∷ rest)) (if c then Some 2 else option_map (λ n. n + 1) (comment_len rest))
    go true e h = (0, refl, pair_here star slash b rest (not_zero slash (omega arith)) e, λ j less p. absurd (omega arith))
    go false e h = goes_on (Pair star slash (b ∷ rest)) (Pair star slash rest) (comment_len rest) (no_pair_here star slash b rest e) (λ k p. p) (λ k p. p) h

-- what `/*` begins is passed over with so many bytes
block_blank : (more : List ℕ) → blank_len (slash ∷ star ∷ more) ≡ option_map (λ n. n + 2) (comment_len more)
unfolding blank_len
block_blank more = refl

-- a text whose comment has no end has a fault there
open_comment : (text : List ℕ) (implicit : Bool) (at : ℕ) (answer : Result (List Token) LexFault) (more : List ℕ) → drop at text ≡ slash ∷ star ∷ more → comment_len more ≡ None → Reads text implicit at answer → answer ≡ Err (OpenComment at)
unfolding first_piece blank_len token_piece
open_comment text implicit at answer more e none (ends i a over) = let over = drop_all at text over in absurd (cc)
open_comment text implicit at answer more e none (passes i a bytes b stands rest) = let h = rw none at (rw e at stands.is) in absurd (cc)
open_comment text implicit at answer more e none (sets i setting a bytes b stands rest) = let h = rw none at (rw e at stands.is) in absurd (cc)
open_comment text implicit at answer more e none (takes i a start bytes kind b stands rest) = let h = rw none at (rw e at stands.is) in absurd (cc)
open_comment text implicit at answer more e none (fails i a offset cause stands) =
    let h = rw none at (rw e at stands.is) in
    let here : offset ≡ 0 = cc in
    let there : at + offset ≡ at = omega (arith, here) in
    let same : fault_at cause (at + offset) ≡ OpenComment at = cc in
    ap (λ (fault : LexFault). Err fault) same

pub block_comments_close : BlockCommentsClose
block_comments_close text implicit at answer pair reading =
    let more : List ℕ = drop (at + 2) text in
    let shown : drop at text ≡ slash ∷ star ∷ more = opened slash star at text pair in
    closes text implicit at answer (OpenComment at) (Pair star slash text) (Pair star slash more) (comment_len more)
    (ap blank_len shown ∙ block_blank more)
    (λ none. open_comment text implicit at answer more shown none reading)
    (pair_dropped star slash (at + 2) text)
    (pair_undropped star slash (at + 2) text)
    (comment_found more)
    reading

-- ## Comments up to the end of a line

-- all bytes but the newline are of a line
abbrev is_line : ℕ → Bool
is_line b = not (b == newline)

line_blank : (more : List ℕ) → blank_len (slash ∷ slash ∷ more) ≡ Some (2 + prefix_len is_line more)
unfolding blank_len
line_blank more = let n : 2 + prefix_len is_line more ≡ 1 + (1 + prefix_len is_line more) = omega arith in ap Some (sym n)

line_ended : (rest : List ℕ) → LineEnds rest (prefix_len is_line rest) × ((j : ℕ) → j < prefix_len is_line rest → LineEnds rest j → ⊥)
line_ended [] = (inr refl, λ j less end. absurd (omega arith))
line_ended (b ∷ rest) = go (b == newline) refl (line_ended rest)
  where
    go : (c : Bool) → (b == newline) ≡ c → LineEnds rest (prefix_len is_line rest) × ((j : ℕ) → j < prefix_len is_line rest → LineEnds rest j → ⊥) → LineEnds (b ∷ rest) (cond (not c) (1 + prefix_len is_line rest) 0) × ((j : ℕ) → j < cond (not c) (1 + prefix_len is_line rest) 0 → LineEnds (b ∷ rest) j → ⊥)
    go true e h = (inl (ap Some (number_same b newline e)), λ j less end. absurd (omega arith))
    go false e h =
        let one : 1 + prefix_len is_line rest ≡ suc (prefix_len is_line rest) = omega arith in
        (subst (LineEnds (b ∷ rest)) (sym one) (on (prefix_len is_line rest) h.0), least)
      where
        on : (k : ℕ) → LineEnds rest k → LineEnds (b ∷ rest) (suc k)
        on k (inl at) = inl at
        on k (inr end) = inr (ap suc end)

        off : (k : ℕ) → LineEnds (b ∷ rest) (suc k) → LineEnds rest k
        off k (inl at) = inl at
        off k (inr end) = inr (omega (arith, end))

        least : (j : ℕ) → j < 1 + prefix_len is_line rest → LineEnds (b ∷ rest) j → ⊥
        least zero less (inl at) = no (sym e ∙ same_number b newline (same_Some b newline at))
        least zero less (inr end) = absurd (omega (arith, end))
        least (suc j) less end = h.1 j (omega (arith, less)) (off j end)

line_dropped : (n : ℕ) (text : List ℕ) → n ≤ length text → (j : ℕ) → LineEnds text (n + j) → LineEnds (drop n text) j
line_dropped n text fits j (inl at) = inl (get_drop n text j (n + j) refl ∙ at)
line_dropped n text fits j (inr end) = inr (omega (arith, end, length-drop n text))

line_undropped : (n : ℕ) (text : List ℕ) → n ≤ length text → (j : ℕ) → LineEnds (drop n text) j → LineEnds text (n + j)
line_undropped n text fits j (inl at) = inl (sym (get_drop n text j (n + j) refl) ∙ at)
line_undropped n text fits j (inr end) = inr (omega (arith, end, length-drop n text))

pub line_comments_end : LineCommentsEnd
line_comments_end text implicit at answer pair reading =
    let more : List ℕ = drop (at + 2) text in
    let shown : drop at text ≡ slash ∷ slash ∷ more = opened slash slash at text pair in
    let fits : at + 2 ≤ length text = omega (arith, slice_get_within text (suc at) slash pair.1) in
    let ended = line_ended more in
    let place : at + (2 + prefix_len is_line more) ≡ at + 2 + prefix_len is_line more = omega arith in (
      at + 2 + prefix_len is_line more,
      least_place (LineEnds text) (LineEnds more) (at + 2) (prefix_len is_line more) (line_dropped (at + 2) text fits) (line_undropped (at + 2) text fits) ended.0 ended.1,
      subst (λ k. Reads text implicit k answer) place (passed text implicit at (2 + prefix_len is_line more) answer (ap blank_len shown ∙ line_blank more) reading),
    )
