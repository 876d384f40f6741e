-- Words from a place on.
use Rattle.std.proofs.Common.{◌≡◌, ◌↔◌, ◌+◌, ◌<◌, ℕ, zero, suc, Bool, IsTrue, List, [], ◌∷◌, Some, length, slice_get, drop, refl, sym, ap, ◌∙◌, subst, arith}
use Rattle.std.specs.List.{slice_range}
use Rattle.std.proofs.lemmas.Option.{same_Some}
use Rattle.verilog_lex.specs.declared.token.Token.{Token}
use Rattle.verilog_lex.specs.declared.token.TokenKind.{TokenKind}
use Rattle.verilog_lex.specs.declared.token.TokenKind.TheVariants.{Name, Keyword, Number, Constant, Mark}
use Rattle.token_words.specs.Word.{Word, name, key}
use Rattle.token_words.specs.Words.{bytes_of, word_of, words_of, name_at}
use Rattle.netlist_reader.specs.Inside.{Begins}
use Rattle.netlist_reader.specs.Forms.{TellsName}

-- the word at a place begins the words from there on
pub begins_get : (F : Word → Type 0) (ws : List Word) (k : ℕ) (w : Word) → slice_get ws k ≡ Some w → F w → Begins F (drop k ws)
begins_get F [] k w e f = cc
begins_get F (v ∷ ws) zero w e f = subst F (sym (same_Some v w e)) f
begins_get F (v ∷ ws) (suc k) w e f = begins_get F ws k w e f

pub get_begins : (F : Word → Type 0) (ws : List Word) (k : ℕ) → Begins F (drop k ws) → (w : Word) × (slice_get ws k ≡ Some w) × F w
get_begins F [] zero b = absurd b
get_begins F [] (suc k) b = absurd b
get_begins F (v ∷ ws) zero b = (v, refl, b)
get_begins F (v ∷ ws) (suc k) b = get_begins F ws k b

pub begins_is : (ws : List Word) (k : ℕ) (w : Word) (before : List Word) (yes-is : Bool) → drop k ws ≡ before → (IsTrue yes-is ↔ (slice_get ws k ≡ Some w)) → IsTrue yes-is ↔ Begins (λ first. first ≡ w) before
begins_is ws k w before yes-is here tells = (
  λ t. subst (Begins (λ first. first ≡ w)) here (begins_get (λ first. first ≡ w) ws k w (tells.0 t) refl),
  λ b. (let found = get_begins (λ first. first ≡ w) ws k (subst (Begins (λ first. first ≡ w)) (sym here) b) in tells.1 (found.1 ∙ ap Some found.2)),
)

-- one word more is passed over
pub drop_next : (ws before : List Word) (k : ℕ) → drop k ws ≡ before → drop (k + 1) ws ≡ drop 1 before
drop_next ws before k e = go ws k ∙ ap (drop 1) e
  where
    go : (vs : List Word) (j : ℕ) → drop (j + 1) vs ≡ drop 1 (drop j vs)
    go [] zero = refl
    go [] (suc j) = (let step : suc j + 1 ≡ suc (suc j) = omega arith in ap (λ n. drop n []) step)
    go (v ∷ vs) zero = refl
    go (v ∷ vs) (suc j) = (let step : suc j + 1 ≡ suc (j + 1) = omega arith in ap (λ n. drop n (v ∷ vs)) step ∙ go vs j)

-- a name that is not empty is a name
named : (kind : TokenKind) (bytes : List ℕ) → 0 < length (bytes_of kind bytes) → ◌≡◌ {A = Word} (record { kind = kind; name = bytes_of kind bytes }) (name (bytes_of kind bytes))
named Name bytes some = refl
named (Keyword p) bytes some = absurd (omega arith)
named (Number n) bytes some = absurd (omega arith)
named (Constant s v) bytes some = absurd (omega arith)
named (Mark b) bytes some = absurd (omega arith)

name_there : (source : List ℕ) (tokens : List Token) (k : ℕ) → 0 < length (name_at (words_of source tokens) k) → slice_get (words_of source tokens) k ≡ Some (name (name_at (words_of source tokens) k))
name_there source [] k some = absurd (omega arith)
name_there source (t ∷ ts) zero some = ap Some (named t.kind (slice_range source t.start t.end) some)
name_there source (t ∷ ts) (suc k) some = name_there source ts k some

name_is : (ws : List Word) (k : ℕ) (w : Word) → slice_get ws k ≡ Some w → name_at ws k ≡ w.name
name_is [] k w e = cc
name_is (v ∷ ws) zero w e = ap (λ (u : Word). u.name) (same_Some v w e)
name_is (v ∷ ws) (suc k) w e = name_is ws k w e

pub tells_name : (source : List ℕ) (tokens : List Token) (k : ℕ) (before : List Word) (bytes : List ℕ) → drop k (words_of source tokens) ≡ before → bytes ≡ name_at (words_of source tokens) k → TellsName before bytes
tells_name source tokens k before bytes here is = record {
  there = λ some.
      let least : 0 < length (name_at (words_of source tokens) k) = subst (λ b. 0 < length b) is some in
      subst (Begins (λ w. w ≡ name bytes)) here
      (begins_get (λ w. w ≡ name bytes) (words_of source tokens) k (name (name_at (words_of source tokens) k)) (name_there source tokens k least) (ap name (sym is)));
  only = λ other b.
      let found = get_begins (λ w. w ≡ name other) (words_of source tokens) k (subst (Begins (λ w. w ≡ name other)) (sym here) b) in
      sym (ap (λ (u : Word). u.name) found.2) ∙ sym (name_is (words_of source tokens) k found.0 found.1) ∙ sym is;
}

-- the word of a token
pub got_word : (source : List ℕ) (token : Token) (ts : List Token) (j : ℕ) → slice_get ts j ≡ Some token → slice_get (words_of source ts) j ≡ Some (word_of source token)
got_word source token [] j e = cc
got_word source token (t ∷ ts) zero e = ap (λ (u : Token). Some (word_of source u)) (same_Some t token e)
got_word source token (t ∷ ts) (suc j) e = got_word source token ts j e

pub key_there : (source : List ℕ) (tokens : List Token) (k place : ℕ) (token : Token) (before : List Word) → drop k (words_of source tokens) ≡ before → slice_get tokens k ≡ Some token → token.kind ≡ Keyword place → Begins (λ w. w ≡ key place) before
key_there source tokens k place token before here at is =
    subst (Begins (λ w. w ≡ key place)) here
    (begins_get (λ w. w ≡ key place) (words_of source tokens) k (word_of source token) (got_word source token tokens k at) (keyed token.kind (slice_range source token.start token.end) is))
  where
    keyed : (kind : TokenKind) (bytes : List ℕ) → kind ≡ Keyword place → ◌≡◌ {A = Word} (record { kind = kind; name = bytes_of kind bytes }) (key place)
    keyed kind bytes e = ap (λ (u : TokenKind). record { kind = u; name = bytes_of u bytes }) e

pub no_key : (source : List ℕ) (tokens : List Token) (k : ℕ) (before : List Word) → drop k (words_of source tokens) ≡ before → (token : Token) → slice_get tokens k ≡ Some token → ((place : ℕ) → token.kind ≡ Keyword place → ⊥) → (place : ℕ) → Begins (λ w. w ≡ key place) before → ⊥
no_key source tokens k before here token at none place b =
    let found = get_begins (λ w. w ≡ key place) (words_of source tokens) k (subst (Begins (λ w. w ≡ key place)) (sym here) b) in
    go tokens k found.0 at found.1 found.2
  where
    go : (ts : List Token) (j : ℕ) (w : Word) → slice_get ts j ≡ Some token → slice_get (words_of source ts) j ≡ Some w → w ≡ key place → ⊥
    go [] j w at e is = cc
    go (t ∷ ts) zero w at e is =
        none place (ap (λ (u : Token). u.kind) (sym (same_Some t token at)) ∙ ap (λ (u : Word). u.kind) (same_Some (word_of source t) w e ∙ is))
    go (t ∷ ts) (suc j) w at e is = go ts j w at e is
