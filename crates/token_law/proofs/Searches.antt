-- What a search from the front of a text finds, and the same by places of the whole text.
use Rattle.std.proofs.Common.{◌≡◌, ℕ, zero, suc, ◌+◌, ◌-◌, ◌<◌, ◌≤◌, arith, true, false, List, [], ◌∷◌, drop, refl, subst, sym, ap, ◌∙◌}
use Rattle.std.specs.Prelude.{◌==◌, ◌&&◌, Option, Some, None, option_map, slice_get}
use Rattle.std.proofs.lemmas.Bool.Decides.{nat_tests}
use Rattle.std.proofs.lemmas.Option.{none-some, same_Some}
use Rattle.facts.proofs.Tests.{left, right, number_same, no}
use Rattle.verilog_lex.specs.Bytes.{first}
use Rattle.std.proofs.lemmas.List.{drop-drop}
use Rattle.token_law.specs.Places.{Pair, IsLeast}

-- an answer is two behind the least place with a property, and there is none where no place has it
abbrev pub Finds : (ℕ → Type 0) → Option ℕ → Type 0
Finds P None = (k : ℕ) → P k → ⊥
Finds P (Some n) = (k : ℕ) × (n ≡ k + 2) × P k × ((j : ℕ) → j < k → P j → ⊥)

-- a search goes on where the first place does not have the property
pub goes_on : (P Q : ℕ → Type 0) (o : Option ℕ) → (P zero → ⊥) → ((k : ℕ) → P (suc k) → Q k) → ((k : ℕ) → Q k → P (suc k)) → Finds Q o → Finds P (option_map (λ n. n + 1) o)
goes_on P Q None here back forth h = go
  where
    go : (k : ℕ) → P k → ⊥
    go zero p = here p
    go (suc k) p = h k (back k p)
goes_on P Q (Some n) here back forth h = (suc h.0, omega (arith, h.1), forth h.0 h.2, go)
  where
    go : (j : ℕ) → j < suc h.0 → P j → ⊥
    go zero less p = here p
    go (suc j) less p = h.3 j (omega arith) (back j p)

pub goes_on_two : (P Q : ℕ → Type 0) (o : Option ℕ) → (P zero → ⊥) → (P (suc zero) → ⊥) → ((k : ℕ) → P (suc (suc k)) → Q k) → ((k : ℕ) → Q k → P (suc (suc k))) → Finds Q o → Finds P (option_map (λ n. n + 2) o)
goes_on_two P Q None here next back forth h = go
  where
    go : (k : ℕ) → P k → ⊥
    go zero p = here p
    go (suc zero) p = next p
    go (suc (suc k)) p = h k (back k p)
goes_on_two P Q (Some n) here next back forth h = (suc (suc h.0), omega (arith, h.1), forth h.0 h.2, go)
  where
    go : (j : ℕ) → j < suc (suc h.0) → P j → ⊥
    go zero less p = here p
    go (suc zero) less p = next p
    go (suc (suc j)) less p = h.3 j (omega arith) (back j p)

-- ## Two bytes at the front

pub first_at : (rest : List ℕ) (c : ℕ) → (c ≡ 0 → ⊥) → first rest ≡ c → slice_get rest 0 ≡ Some c
first_at [] c some e = absurd (some (sym e))
first_at (b ∷ rest) c some e = ap Some e

pub pair_here : (a c b : ℕ) (rest : List ℕ) → (c ≡ 0 → ⊥) → (b == a && first rest == c) ≡ true → Pair a c (b ∷ rest) 0
pair_here a c b rest some e =
    (ap Some (number_same b a (left (b == a) (first rest == c) e)), first_at rest c some (number_same (first rest) c (right (b == a) (first rest == c) e)))

at_first : (rest : List ℕ) (c : ℕ) → slice_get rest 0 ≡ Some c → first rest ≡ c
at_first [] c e = absurd (none-some c e)
at_first (b ∷ rest) c e = same_Some b c e

pub pair_tested : (a c b : ℕ) (rest : List ℕ) → Pair a c (b ∷ rest) 0 → (b == a && first rest == c) ≡ true
pair_tested a c b rest p =
    let one : b ≡ a = same_Some b a p.0 in
    let two : first rest ≡ c = at_first rest c p.1 in
    grind (arith, nat_tests)

pub no_pair_here : (a c b : ℕ) (rest : List ℕ) → (b == a && first rest == c) ≡ false → Pair a c (b ∷ rest) 0 → ⊥
no_pair_here a c b rest e p = no (sym e ∙ pair_tested a c b rest p)

pub no_pair : (a c k : ℕ) → Pair a c [] k → ⊥
no_pair a c k p = none-some a p.0

-- ## Places of the whole text

pub get_drop : {X : Type 0} (n : ℕ) (xs : List X) (k j : ℕ) → j ≡ n + k → slice_get (drop n xs) k ≡ slice_get xs j
get_drop zero xs k j e = let same : k ≡ j = omega arith in ap (slice_get xs) same
get_drop (suc n) [] k j e = refl
get_drop (suc n) (x ∷ xs) k zero e = absurd (omega arith)
get_drop (suc n) (x ∷ xs) k (suc j) e = get_drop n xs k j (omega arith)

-- two bytes at the front of what is left are two bytes of the text
pub pair_dropped : (a c n : ℕ) (text : List ℕ) (k : ℕ) → Pair a c text (n + k) → Pair a c (drop n text) k
pair_dropped a c n text k p =
    (get_drop n text k (n + k) refl ∙ p.0, get_drop n text (suc k) (suc (n + k)) (omega arith) ∙ p.1)

pub pair_undropped : (a c n : ℕ) (text : List ℕ) (k : ℕ) → Pair a c (drop n text) k → Pair a c text (n + k)
pair_undropped a c n text k p =
    (sym (get_drop n text k (n + k) refl) ∙ p.0, sym (get_drop n text (suc k) (suc (n + k)) (omega arith)) ∙ p.1)

-- the least place of what is left is the least place of the text from there on
pub least_place : (P Q : ℕ → Type 0) (from k : ℕ) → ((j : ℕ) → P (from + j) → Q j) → ((j : ℕ) → Q j → P (from + j)) → Q k → ((j : ℕ) → j < k → Q j → ⊥) → IsLeast from P (from + k)
least_place P Q from k back forth has least =
    record {
      beyond = omega arith;
      has = forth k has;
      least = λ j low less p.
          let same : j ≡ from + (j - from) = omega arith in
          least (j - from) (omega arith) (back (j - from) (subst P same p));
    }

pub never_place : (P Q : ℕ → Type 0) (from : ℕ) → ((j : ℕ) → P (from + j) → Q j) → ((j : ℕ) → Q j → ⊥) → (k : ℕ) → from ≤ k → P k → ⊥
never_place P Q from back never k low p =
    let same : k ≡ from + (k - from) = omega arith in
    never (k - from) (back (k - from) (subst P same p))

-- a text whose first two bytes are known
pub opened : (a b at : ℕ) (text : List ℕ) → Pair a b text at → drop at text ≡ a ∷ b ∷ drop (at + 2) text
opened a b at text p =
    let here : at + 0 ≡ at = omega arith in
    split (drop at text) (pair_dropped a b at text 0 (subst (Pair a b text) (sym here) p)) ∙ ap (λ xs. a ∷ b ∷ xs) (drop-drop 2 at text)
  where
    split : (xs : List ℕ) → Pair a b xs 0 → xs ≡ a ∷ b ∷ drop 2 xs
    split [] p = absurd (none-some a p.0)
    split (x ∷ []) p = absurd (none-some b p.1)
    split (x ∷ y ∷ xs) p = ap (λ c. c ∷ y ∷ xs) (same_Some x a p.0) ∙ ap (λ c. a ∷ c ∷ xs) (same_Some y b p.1)
