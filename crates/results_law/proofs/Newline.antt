-- A newline behind a printed text changes no token of it.
use Rattle.std.proofs.Common.{◌≡◌, ℕ, Bool, true, false, cond, ◌&&◌, List, [], ◌∷◌, ◌++◌, refl, sym, ap, ◌∙◌, append_assoc, append-nil}
use Rattle.std.proofs.lemmas.Bool.{false≢true}
use Rattle.json.specs.Token.{Token, begin_object, end_object, begin_array, end_array, key, string, number, boolean, null, bad}
use Rattle.json.specs.Word.{ends_word, word}
use Rattle.json.specs.Lex.{Lexeme, token, comma, string_token, lex, between, fresh, punctuate, tokens}
use Rattle.json.specs.Print.{escape, quoted, token_text, begins, ends, separator, print_from, print, IsPrintable, ArePrintable}
use Rattle.json.proofs.Printed.Strings.{content-escape, lex-escape}
use Rattle.json.proofs.Printed.Numbers.{lex-number, in_word-ended}

-- a text with a newline behind it
abbrev pub line : List ℕ → List ℕ
line text = text ++ 10 ∷ []

-- what stands behind two texts is read alike, and a word ends before both
record Alike (after : Bool) (r s : List ℕ) : Type 0 where
  same : lex between r ≡ lex between s
  left : after ≡ true → ends_word r ≡ true
  right : after ≡ true → ends_word s ≡ true

quoted_first : (s r : List ℕ) → lex between (quoted s ++ r) ≡ token (string s) ∷ lex between r
unfolding lex
quoted_first s r =
    ap (λ l. lex between (34 ∷ l)) (append_assoc (escape s) (34 ∷ []) r)
    ∙ (λ i. token (string_token (content-escape s r i)) ∷ lex-escape s r i)

word_first : (b : Bool) (r s : List ℕ) → Alike true r s → lex between (token_text (boolean b) ++ r) ≡ lex between (token_text (boolean b) ++ s)
unfolding lex word
word_first true r s h =
    (λ i. token (cond (h.left refl i) (boolean true) bad) ∷ in_word-ended r (h.left refl) i)
    ∙ ap (λ l. token (boolean true) ∷ l) h.same
    ∙ sym (λ i. token (cond (h.right refl i) (boolean true) bad) ∷ in_word-ended s (h.right refl) i)
word_first false r s h =
    (λ i. token (cond (h.left refl i) (boolean false) bad) ∷ in_word-ended r (h.left refl) i)
    ∙ ap (λ l. token (boolean false) ∷ l) h.same
    ∙ sym (λ i. token (cond (h.right refl i) (boolean false) bad) ∷ in_word-ended s (h.right refl) i)

-- so they are behind a token
behind : (t : Token) (r s : List ℕ) → IsPrintable t → Alike (ends t) r s → lex between (token_text t ++ r) ≡ lex between (token_text t ++ s)
unfolding lex word
behind begin_object r s h a = ap (λ l. token begin_object ∷ l) a.same
behind end_object r s h a = ap (λ l. token end_object ∷ l) a.same
behind begin_array r s h a = ap (λ l. token begin_array ∷ l) a.same
behind end_array r s h a = ap (λ l. token end_array ∷ l) a.same
behind (key k) r s h a =
    ap (lex between) (append_assoc (quoted k) (58 ∷ []) r) ∙ quoted_first k (58 ∷ r)
    ∙ ap (λ l. token (string k) ∷ l) (ap (λ l. lex between (58 ∷ []) ++ l) a.same)
    ∙ sym (ap (lex between) (append_assoc (quoted k) (58 ∷ []) s) ∙ quoted_first k (58 ∷ s))
behind (string k) r s h a = quoted_first k r ∙ ap (λ l. token (string k) ∷ l) a.same ∙ sym (quoted_first k s)
behind (number k) r s h a = lex-number k r h (a.left refl) ∙ ap (λ l. token (number k) ∷ l) a.same ∙ sym (lex-number k s h (a.right refl))
behind (boolean b) r s h a = word_first b r s a
behind null r s h a =
    (λ i. token (cond (a.left refl i) null bad) ∷ in_word-ended r (a.left refl) i)
    ∙ ap (λ l. token null ∷ l) a.same
    ∙ sym (λ i. token (cond (a.right refl i) null bad) ∷ in_word-ended s (a.right refl) i)
behind bad r s h a = absurd h

-- a word ends before what is printed behind a value, and before the newline
ended : (ts : List Token) → (ends_word (print_from true ts) ≡ true) × (ends_word (line (print_from true ts)) ≡ true)
unfolding print_from
ended [] = (refl, refl)
ended (begin_object ∷ ts) = (refl, refl)
ended (end_object ∷ ts) = (refl, refl)
ended (begin_array ∷ ts) = (refl, refl)
ended (end_array ∷ ts) = (refl, refl)
ended (key s ∷ ts) = (refl, refl)
ended (string s ∷ ts) = (refl, refl)
ended (number s ∷ ts) = (refl, refl)
ended (boolean b ∷ ts) = (refl, refl)
ended (null ∷ ts) = (refl, refl)
ended (bad ∷ ts) = (refl, refl)

comma_first : (b : Bool) (r s : List ℕ) → lex between r ≡ lex between s → lex between (cond b (44 ∷ []) [] ++ r) ≡ lex between (cond b (44 ∷ []) [] ++ s)
unfolding lex
comma_first true r s e = ap (λ l. comma ∷ l) e
comma_first false r s e = e

lexed : (c : Bool) (ts : List Token) → ArePrintable ts → lex between (line (print_from c ts)) ≡ lex between (print_from c ts)
unfolding lex print_from ArePrintable
lexed c [] h = refl
lexed c (t ∷ ts) h =
    ap (lex between) (append_assoc (separator c t) (token_text t ++ print_from (ends t) ts) (10 ∷ [])
    ∙ ap (λ l. separator c t ++ l) (append_assoc (token_text t) (print_from (ends t) ts) (10 ∷ [])))
    ∙ comma_first (c && begins t) (token_text t ++ line (print_from (ends t) ts)) (token_text t ++ print_from (ends t) ts)
    (behind t (line (print_from (ends t) ts)) (print_from (ends t) ts) h.0 (record {
      same = lexed (ends t) ts h.1;
      left = λ e. ap (λ b. ends_word (line (print_from b ts))) e ∙ (ended ts).1;
      right = λ e. ap (λ b. ends_word (print_from b ts)) e ∙ (ended ts).0;
    }))

pub same_tokens : (ts : List Token) → ArePrintable ts → tokens (line (print ts)) ≡ tokens (print ts)
same_tokens ts h = ap (punctuate fresh) (lexed false ts h)
