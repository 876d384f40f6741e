-- Numbered lines in front of a list of words.
use Rattle.std.proofs.Common.{◌≡◌, ◌+◌, ◌<◌, ◌≤◌, ◌^◌, ℕ, zero, suc, List, [], ◌∷◌, ◌++◌, length, refl, sym, ap, ◌∙◌, subst, arith, append_assoc}
use Rattle.std.specs.Prelude.{Result, Ok, Err, IsErr, flat_map}
use Rattle.std.specs.Result.{IsErrAnd}
use Rattle.std.proofs.lemmas.List.{append-nil, length-append}
use Rattle.std.specs.List.{enumerate_from}
use Rattle.std.proofs.lemmas.Option.{same_Some}
use Rattle.token_words.specs.Word.{Word}
use Rattle.netlist_reader.specs.Inside.{Begins, Anything, NoMore, Stuck, ReadsAll, ReadsNext}
use Rattle.netlist_reader.specs.Netlist.{Each, lines}
use Rattle.netlist_reader.specs.declared.fault.Stop.{Stop}
use Rattle.netlist_reader.specs.declared.fault.Stop.TheVariants as stop
use Rattle.netlist_reader.proofs.Stucks.{begins_alike, within}

abbrev pub lines_from : {X : Type 0} → (ℕ × X → List Word) → ℕ → List X → List Word
lines_from line k xs = flat_map line (enumerate_from k xs)

-- what each item of a longer list is
pub each_head : {X : Type 0} (Is : X → Type 0) (x : X) (xs : List X) → Each Is (x ∷ xs) → Is x
each_head Is x xs each = each 0 x refl

pub each_tail : {X : Type 0} (Is : X → Type 0) (x : X) (xs : List X) → Each Is (x ∷ xs) → Each Is xs
each_tail Is x xs each = λ k y at-y. each (suc k) y at-y

pub each_more : {X : Type 0} (Is : X → Type 0) (xs : List X) (x : X) → Each Is xs → Is x → Each Is (xs ++ x ∷ [])
each_more Is [] x each is zero y at-y = subst Is (same_Some x y at-y) is
each_more Is [] x each is (suc k) y at-y = cc
each_more Is (z ∷ zs) x each is zero y at-y = each 0 y at-y
each_more Is (z ∷ zs) x each is (suc k) y at-y = each_more Is zs x (each_tail Is z zs each) is k y at-y

-- one line more at the end
pub lines_more : {X : Type 0} (line : ℕ × X → List Word) (k : ℕ) (xs : List X) (x : X) (rest : List Word) → lines_from line k (xs ++ x ∷ []) ++ rest ≡ lines_from line k xs ++ (line (k + length xs, x) ++ rest)
lines_more line k [] x rest =
    let same : k ≡ k + 0 = omega arith in
    append_assoc (line (k, x)) [] rest ∙ ap (λ n. line (n, x) ++ rest) same
lines_more line k (y ∷ ys) x rest =
    let same : (k + 1) + length ys ≡ k + suc (length ys) = omega arith in
    append_assoc (line (k, y)) (lines_from line (k + 1) (ys ++ x ∷ [])) rest
    ∙ ap (λ ws. line (k, y) ++ ws) (lines_more line (k + 1) ys x rest)
    ∙ ap (λ n. line (k, y) ++ (lines_from line (k + 1) ys ++ (line (n, x) ++ rest))) same
    ∙ sym (append_assoc (line (k, y)) (lines_from line (k + 1) ys) (line (k + suc (length ys), x) ++ rest))

module _ {X : Type 0} (Is : X → Type 0) (line : ℕ × X → List Word) (First : Word → Type 0)
    (first : (k : ℕ) (x : X) (rest : List Word) → Is x → Begins First (line (k, x) ++ rest))
    (one : (k : ℕ) (x y : X) (a b : List Word) → Is x → Is y → line (k, x) ++ a ≡ line (k, y) ++ b → (x ≡ y) × (a ≡ b)) where
  begins_lines : (k : ℕ) (x : X) (xs : List X) (rest : List Word) → Is x → Begins First (lines_from line k (x ∷ xs) ++ rest)
  begins_lines k x xs rest is = subst (Begins First) (sym (append_assoc (line (k, x)) (lines_from line (k + 1) xs) rest)) (first k x (lines_from line (k + 1) xs ++ rest) is)

  next_lines : (k : ℕ) (x y : X) (xs ys : List X) (a b : List Word) → Is x → Is y → lines_from line k (x ∷ xs) ++ a ≡ lines_from line k (y ∷ ys) ++ b → (x ≡ y) × (lines_from line (k + 1) xs ++ a ≡ lines_from line (k + 1) ys ++ b)
  next_lines k x y xs ys a b is is-2 e =
      one k x y (lines_from line (k + 1) xs ++ a) (lines_from line (k + 1) ys ++ b) is is-2
      (sym (append_assoc (line (k, x)) (lines_from line (k + 1) xs) a) ∙ e ∙ append_assoc (line (k, y)) (lines_from line (k + 1) ys) b)

  -- lines end where no line begins
  pub same_lines_from : (k : ℕ) (xs ys : List X) (a b : List Word) → Each Is xs → Each Is ys → (Begins First a → ⊥) → (Begins First b → ⊥) → lines_from line k xs ++ a ≡ lines_from line k ys ++ b → (xs ≡ ys) × (a ≡ b)
  same_lines_from k [] [] a b each each-2 end end-2 e = (refl, e)
  same_lines_from k [] (y ∷ ys) a b each each-2 end end-2 e =
      absurd (end (subst (Begins First) (sym e) (begins_lines k y ys b (each_head Is y ys each-2))))
  same_lines_from k (x ∷ xs) [] a b each each-2 end end-2 e =
      absurd (end-2 (subst (Begins First) e (begins_lines k x xs a (each_head Is x xs each))))
  same_lines_from k (x ∷ xs) (y ∷ ys) a b each each-2 end end-2 e =
      let next = next_lines k x y xs ys a b (each_head Is x xs each) (each_head Is y ys each-2) e in
      let rest = same_lines_from (k + 1) xs ys a b (each_tail Is x xs each) (each_tail Is y ys each-2) end end-2 next.1 in
      (λ i. next.0 i ∷ rest.0 i, rest.1)

  -- where lines go on, the next of them stands there
  pub next_stands : (k : ℕ) (xs ys : List X) (a b : List Word) → Each Is xs → Each Is ys → Begins First a → (Begins First b → ⊥) → lines_from line k xs ++ a ≡ lines_from line k ys ++ b → (y : X) × (rest : List Word) × Is y × (a ≡ line (k + length xs, y) ++ rest)
  next_stands k [] [] a b each each-2 begun end e = absurd (end (subst (Begins First) e begun))
  next_stands k [] (y ∷ ys) a b each each-2 begun end e =
      let same : k ≡ k + 0 = omega arith in
      (y, lines_from line (k + 1) ys ++ b, each_head Is y ys each-2, e ∙ append_assoc (line (k, y)) (lines_from line (k + 1) ys) b ∙ ap (λ n. line (n, y) ++ (lines_from line (k + 1) ys ++ b)) same)
  next_stands k (x ∷ xs) [] a b each each-2 begun end e =
      absurd (end (subst (Begins First) e (begins_lines k x xs a (each_head Is x xs each))))
  next_stands k (x ∷ xs) (y ∷ ys) a b each each-2 begun end e =
      let next = next_lines k x y xs ys a b (each_head Is x xs each) (each_head Is y ys each-2) e in
      let found = next_stands (k + 1) xs ys a b (each_tail Is x xs each) (each_tail Is y ys each-2) begun end next.1 in
      let same : (k + 1) + length xs ≡ k + suc (length xs) = omega arith in
      (found.0, found.1, found.2, found.3 ∙ ap (λ n. line (n, found.0) ++ found.1) same)

  -- where the next line is stuck, all lines are
  pub lines_stuck : (xs : List X) (number : ℕ) (before mid after : List Word) → number ≡ length xs → Each Is xs → before ≡ lines line xs ++ mid → Begins First mid → Stuck Is Anything (λ x. line (number, x)) mid after → Stuck (Each Is) (NoMore First) (lines line) before after
  lines_stuck xs number before mid after size each split begun s =
      within (Each Is) Is (NoMore First) Anything (lines line) (λ x. line (number, x)) (lines line xs) before mid after split s
      (λ x is. (xs ++ x ∷ [], [], each_more Is xs x each is, whole x))
      (λ ys more words each-2 may follows e.
      let found = next_stands 0 xs ys words more each each-2 (begins_alike First mid words follows begun) may (sym e) in
      let same : 0 + length xs ≡ number = omega arith in
      (found.0, found.1, found.2, tt, found.3 ∙ ap (λ n. line (n, found.0) ++ found.1) same))
    where
      whole : (x : X) → lines line (xs ++ x ∷ []) ≡ lines line xs ++ (line (number, x) ++ [])
      whole x =
          let same : 0 + length xs ≡ number = omega arith in
          sym (append-nil (lines line (xs ++ x ∷ []))) ∙ lines_more line 0 xs x [] ∙ ap (λ n. lines line xs ++ (line (n, x) ++ [])) same

  -- lines that were read, and what follows them
  pub lines_apart : (xs ys : List X) (a b : List Word) → Each Is xs → Each Is ys → NoMore First a → NoMore First b → lines line xs ++ a ≡ lines line ys ++ b → (xs ≡ ys) × (a ≡ b)
  lines_apart xs ys a b each each-2 end end-2 e = same_lines_from 0 xs ys a b each each-2 end end-2 e

-- the line of one more item
pub one_more : {X : Type 0} (line : ℕ × X → List Word) (xs : List X) (x : X) (number : ℕ) (before rest after : List Word) → number ≡ length xs → before ≡ lines line xs ++ rest → rest ≡ line (number, x) ++ after → before ≡ lines line (xs ++ x ∷ []) ++ after
one_more line xs x number before rest after size e f =
    let same : number ≡ 0 + length xs = omega arith in
    e ∙ ap (λ r. lines line xs ++ r) (f ∙ ap (λ n. line (n, x) ++ after) same) ∙ sym (lines_more line 0 xs x after)

-- what was read with one line more
pub more_read : {X : Type 0} (Is : X → Type 0) (line : ℕ × X → List Word) (xs pushed : List X) (x : X) (number : ℕ) (before mid after : List Word) → number ≡ length xs → Each Is xs × (before ≡ lines line xs ++ mid) → Is x × (mid ≡ line (number, x) ++ after) → pushed ≡ xs ++ x ∷ [] → Each Is pushed × (before ≡ lines line pushed ++ after)
more_read Is line xs pushed x number before mid after size was is e =
    subst (λ ys. Each Is ys × (before ≡ lines line ys ++ after)) (sym e)
    (each_more Is xs x was.0 is.0, one_more line xs x number before mid after size was.1 is.1)

-- where reading stops in a line, it stops in the lines
pub lines_stop : {X : Type 0} (Is : X → Type 0) (line : ℕ × X → List Word) (First : Word → Type 0)
    (first : (k : ℕ) (x : X) (rest : List Word) → Is x → Begins First (line (k, x) ++ rest))
    (one : (k : ℕ) (x y : X) (a b : List Word) → Is x → Is y → line (k, x) ++ a ≡ line (k, y) ++ b → (x ≡ y) × (a ≡ b))
    (xs : List X) (number : ℕ) (before mid after : List Word) (r : Result (List X) Stop) (s : Stop)
    → IsErr r × IsErrAnd r (λ e. e ≡ s) → number ≡ length xs → Each Is xs × (before ≡ lines line xs ++ mid)
    → ReadsNext Is First (λ x. line (number, x)) mid after (Err s) → ReadsAll (Each Is) First (lines line) before after r
lines_stop Is line First first one xs number before mid after (Ok items) s is size was part = absurd is.1
lines_stop Is line First first one xs number before mid after (Err e) s is size was part =
    subst (λ f. ReadsAll (Each Is) First (lines line) before after (Err f)) (sym is.1) (go s part)
  where
    go : (t : Stop) → ReadsNext Is First (λ x. line (number, x)) mid after (Err t) → ReadsAll (Each Is) First (lines line) before after (Err t)
    go stop.Stuck both = lines_stuck Is line First first one xs number before mid after size was.0 was.1 both.0 both.1
    go stop.NoMemory none = tt

some_line : (F : Word → Type 0) (ws : List Word) → Begins F (ws ++ []) → 0 < length ws
some_line F [] b = absurd b
some_line F (w ∷ ws) b = omega arith

lines_size : {X : Type 0} (Is : X → Type 0) (line : ℕ × X → List Word) (First : Word → Type 0) (first : (k : ℕ) (x : X) (rest : List Word) → Is x → Begins First (line (k, x) ++ rest)) (k : ℕ) (xs : List X) → Each Is xs → length xs ≤ length (lines_from line k xs)
lines_size Is line First first k [] each = omega arith
lines_size Is line First first k (x ∷ xs) each =
    let some = some_line First (line (k, x)) (first k x [] (each_head Is x xs each)) in
    let rest = lines_size Is line First first (k + 1) xs (each_tail Is x xs each) in
    let sizes = length-append (line (k, x)) (lines_from line (k + 1) xs) in
    omega arith

-- there are no more items than words
pub items_fit : {X : Type 0} (Is : X → Type 0) (line : ℕ × X → List Word) (First : Word → Type 0) (first : (k : ℕ) (x : X) (rest : List Word) → Is x → Begins First (line (k, x) ++ rest)) (xs : List X) (number : ℕ) (before after : List Word) → number ≡ length xs → Each Is xs × (before ≡ lines line xs ++ after) → length before < 2 ^ 32 → number < 2 ^ 32
items_fit Is line First first xs number before after size was few =
    let least = lines_size Is line First first 0 xs was.0 in
    let sizes = length-append (lines line xs) after in
    let whole : length before ≡ length (lines line xs ++ after) = ap length was.1 in
    omega arith
