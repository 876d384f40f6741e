-- Names of a stem and a number, and numbers between bars.
use Rattle.std.proofs.Common.{◌≡◌, ◌≢◌, ◌↔◌, ◌+◌, ◌-◌, ◌<◌, ◌^◌, ℕ, zero, suc, false, IsTrue, ◌⊎◌, inl, inr, List, [], ◌∷◌, ◌++◌, Some, None, Option, length, get_or, take, drop, refl, sym, ap, ◌∙◌, subst, arith, nat_eq}
use Rattle.std.specs.Prelude.{decimal, MatchOption}
use Rattle.std.proofs.lemmas.Bool.{cases_order}
use Rattle.std.proofs.lemmas.Bool.Decides.{nat_tests}
use Rattle.std.proofs.lemmas.List.{append_cancel_left, drop_more, length-append, length-drop, take_all, take-append-drop}
use Rattle.std.proofs.Math.Seq.{take-append_seam}
use Rattle.std.proofs.lemmas.Str.Parse.{digit_at}
use Rattle.std.proofs.lemmas.Fmt.{decimal_injective, decimal_is_IsNumeral, decimal_nonempty}
use Rattle.token_words.specs.Word.{Word, name}
use Rattle.netlist_reader.specs.Digits.{IsFirstBar}
use Rattle.netlist_reader.specs.Netlist.{numbered}
use Rattle.netlist_reader.specs.Inside.{Begins}
use Rattle.netlist_reader.specs.Forms.{TellsName}

pub same_stem : (stem : List ℕ) (m n : ℕ) → m < 2 ^ 64 → n < 2 ^ 64 → stem ++ decimal m ≡ stem ++ decimal n → m ≡ n
same_stem stem m n small small-2 e = decimal_injective m n small small-2 (append_cancel_left stem (decimal m) (decimal n) e)

some_name : (stem : List ℕ) (n : ℕ) → n < 2 ^ 64 → 0 < length (stem ++ decimal n)
some_name stem n small = (let some = decimal_nonempty n small in let sizes = length-append stem (decimal n) in omega arith)

-- the next word is the name of a stem and a number where its bytes are
pub numbered_begins : (words : List Word) (bytes stem : List ℕ) (n : ℕ) → n < 2 ^ 64 → TellsName words bytes → bytes ≡ stem ++ decimal n → Begins (λ w. w ≡ numbered stem n) words
numbered_begins words bytes stem n small tells e =
    let some : 0 < length bytes = subst (λ b. 0 < length b) (sym e) (some_name stem n small) in
    subst (λ b. Begins (λ w. w ≡ name b) words) e (tells.there some)

pub is_numbered : (words : List Word) (bytes stem : List ℕ) (found number : ℕ) → found < 2 ^ 32 → number < 2 ^ 32 → TellsName words bytes → bytes ≡ stem ++ decimal found → IsTrue (nat_eq found number) ↔ Begins (λ w. w ≡ numbered stem number) words
is_numbered words bytes stem found number small small-2 tells e = (
  λ t. (let same : found ≡ number = grind (arith, nat_tests) in subst (λ n. Begins (λ w. w ≡ numbered stem n) words) same (numbered_begins words bytes stem found (omega arith) tells e)),
  λ b. (let same = same_stem stem found number (omega arith) (omega arith) (sym e ∙ sym (tells.only (stem ++ decimal number) b)) in grind (arith, nat_tests)),
)

pub not_numbered : (words : List Word) (bytes stem : List ℕ) (number : ℕ) → number < 2 ^ 32 → TellsName words bytes → ((n : ℕ) → n < 2 ^ 32 → bytes ≢ stem ++ decimal n) → IsTrue false ↔ Begins (λ w. w ≡ numbered stem number) words
not_numbered words bytes stem number small tells none = (
  λ t. cc,
  λ b. absurd (none number small (sym (tells.only (stem ++ decimal number) b))),
)

-- the bytes of a number are digits
digit_of : (n k : ℕ) → n < 2 ^ 32 → k < length (decimal n) → get_or (decimal n) k 0 ≢ 95
digit_of n k small within e =
    let numeral = decimal_is_IsNumeral n (omega arith) in
    let range = digit_at (decimal n) k numeral.0.1 within in
    omega (arith, range)

get_first : (xs ys : List ℕ) (k : ℕ) → k < length xs → get_or (xs ++ ys) k 0 ≡ get_or xs k 0
get_first [] ys k h = absurd (omega arith)
get_first (x ∷ xs) ys zero h = refl
get_first (x ∷ xs) ys (suc k) h = get_first xs ys k (omega arith)

get_seam : (xs ys : List ℕ) (y : ℕ) → get_or (xs ++ y ∷ ys) (length xs) 0 ≡ y
get_seam [] ys y = refl
get_seam (x ∷ xs) ys y = get_seam xs ys y

-- the first bar behind a number stands at its end
bar_there : (bytes behind : List ℕ) (n p : ℕ) → n < 2 ^ 32 → bytes ≡ decimal n ++ 95 ∷ behind → IsFirstBar bytes (Some p) → p ≡ length (decimal n)
bar_there bytes behind n p small e is = go (cases_order p (length (decimal n)))
  where
    seam : get_or bytes (length (decimal n)) 0 ≡ 95
    seam = ap (λ bs. get_or bs (length (decimal n)) 0) e ∙ get_seam (decimal n) behind 95

    go : (p ≡ length (decimal n)) ⊎ ((p < length (decimal n)) ⊎ (length (decimal n) < p)) → p ≡ length (decimal n)
    go (inr (inl before)) =
        absurd (digit_of n p small before (sym (get_first (decimal n) (95 ∷ behind) p before) ∙ ap (λ bs. get_or bs p 0) (sym e) ∙ is.1))
    go (inl same) = same
    go (inr (inr past)) = absurd (is.2 (length (decimal n)) past seam)

pub no_bar : (bytes : List ℕ) → IsFirstBar bytes None → (n : ℕ) (behind : List ℕ) → n < 2 ^ 32 → bytes ≢ decimal n ++ 95 ∷ behind
no_bar bytes none n behind small e =
    let sizes = length-append (decimal n) (95 ∷ behind) in
    let whole : length bytes ≡ length (decimal n ++ 95 ∷ behind) = ap length e in
    none (length (decimal n)) (omega arith) (ap (λ bs. get_or bs (length (decimal n)) 0) e ∙ get_seam (decimal n) behind 95)

pub no_number : (bytes : List ℕ) (p : ℕ) → IsFirstBar bytes (Some p) → ((n : ℕ) → n < 2 ^ 32 → take p bytes ≢ decimal n) → (n : ℕ) (behind : List ℕ) → n < 2 ^ 32 → bytes ≢ decimal n ++ 95 ∷ behind
no_number bytes p is none n behind small e =
    none n small (ap (λ k. take k bytes) (bar_there bytes behind n p small e is) ∙ ap (take (length (decimal n))) e ∙ take-append_seam (decimal n) (95 ∷ behind))

pub number_there : (bytes : List ℕ) (p n : ℕ) → IsFirstBar bytes (Some p) → take p bytes ≡ decimal n → bytes ≡ decimal n ++ 95 ∷ take (length bytes - (p + 1)) (drop (p + 1) bytes)
number_there bytes p n is e =
    let left = length-drop (p + 1) bytes in
    sym (take-append-drop p bytes) ∙ ap (λ front. front ++ drop p bytes) e
    ∙ ap (λ rest. decimal n ++ rest) (drop_more bytes p 0 is.0 ∙ ap (λ b. b ∷ drop (p + 1) bytes) is.1)
    ∙ ap (λ rest. decimal n ++ 95 ∷ rest) (sym (take_all (length bytes - (p + 1)) (drop (p + 1) bytes) (omega arith)))

-- the number behind a stem
pub behind_stem : (bytes stem digits : List ℕ) (found : Option ℕ) → bytes ≡ stem ++ digits → MatchOption found ((n : ℕ) → n < 2 ^ 32 → digits ≢ decimal n) (λ n. digits ≡ decimal n) → MatchOption found ((n : ℕ) → n < 2 ^ 32 → bytes ≢ stem ++ decimal n) (λ n. bytes ≡ stem ++ decimal n)
behind_stem bytes stem digits None e none = λ n small f.
    none n small (append_cancel_left stem digits (decimal n) (sym e ∙ f))
behind_stem bytes stem digits (Some n) e is = e ∙ ap (λ d. stem ++ d) is

first_bar : (n : ℕ) (behind : List ℕ) → n < 2 ^ 32 → IsFirstBar (decimal n ++ 95 ∷ behind) (Some (length (decimal n)))
first_bar n behind small = (
  (let sizes = length-append (decimal n) (95 ∷ behind) in omega arith),
  get_seam (decimal n) behind 95,
  λ k before e. digit_of n k small before (sym (get_first (decimal n) (95 ∷ behind) k before) ∙ e),
)

-- numbers before bars are told apart
pub same_bar : (m n : ℕ) (a b : List ℕ) → m < 2 ^ 32 → n < 2 ^ 32 → decimal m ++ 95 ∷ a ≡ decimal n ++ 95 ∷ b → (m ≡ n) × (a ≡ b)
same_bar m n a b small small-2 e =
    let sizes : length (decimal m) ≡ length (decimal n) = bar_there (decimal m ++ 95 ∷ a) b n (length (decimal m)) small-2 e (first_bar m a small) in
    let fronts : decimal m ≡ decimal n =
    sym (take-append_seam (decimal m) (95 ∷ a)) ∙ ap (take (length (decimal m))) e ∙ ap (λ k. take k (decimal n ++ 95 ∷ b)) sizes ∙ take-append_seam (decimal n) (95 ∷ b) in
    let same = decimal_injective m n (omega arith) (omega arith) fronts in
    let tails : 95 ∷ a ≡ 95 ∷ b = append_cancel_left (decimal n) (95 ∷ a) (95 ∷ b) (ap (λ d. d ++ 95 ∷ a) (sym fronts) ∙ e) in
    (same, (cc))
