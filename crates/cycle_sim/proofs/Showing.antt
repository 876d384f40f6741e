-- The numbers that nets show, and nets that show a word.
use Rattle.std.proofs.Common.{◌≡◌, ◌<◌, ◌≤◌, ◌+◌, ◌^◌, ℕ, suc, Bool, true, false, not, cond, List, [], ◌∷◌, drop, set, length, get_or, refl, sym, ap, subst, ◌∙◌, inl, inr, arith, pow-suc, if◌then◌else◌}
use Rattle.std.specs.Prelude.{◌⊎◌, nat_lt, Option, Some, None, position, option_map, unwrap_or}
use Rattle.std.specs.List.{position_or_len}
use Rattle.std.proofs.lemmas.Bool.{cases_eq}
use Rattle.std.proofs.lemmas.Bool.Decides.{nat_tests}
use Rattle.std.proofs.lemmas.List.{drop_all, drop_more, length-map, length-drop, get_or-set_same, get_or-set_other}
use Rattle.std.proofs.Math.Pow.{pow_mono}
use Rattle.facts.proofs.Tests.{same_number}
use Rattle.id_arena.specs.declared.keys.ChipNetId.{ChipNetId}
use Rattle.design_core.specs.Operation.{bit_of, number}
use Rattle.emu_machine.specs.Netlist.{is_chip_net}
use Rattle.cycle_sim.specs.Values.{values_in}
use Rattle.cycle_sim.specs.Takes.{ShowWord}
use Rattle.cycle_sim.proofs.Counting.{is_less, is_other}

-- ## Numbers

number_low : (bs : List Bool) → number bs < 2 ^ length bs
number_low [] = omega arith
number_low (true ∷ bs) = omega (arith, pow-suc 2 (length bs), number_low bs)
number_low (false ∷ bs) = omega (arith, pow-suc 2 (length bs), number_low bs)

module _ (table : List Bool) where
  pub shown_low : (bits : List ChipNetId) → number (values_in table bits) < 2 ^ length bits
  shown_low bits =
      subst (λ (k : ℕ). number (values_in table bits) < 2 ^ k) (length-map bits (λ (n : ChipNetId). get_or table n.place false)) (number_low (values_in table bits))

  -- what the bits from a place on show fits, with one more bit below them
  pub rest_low : (bits : List ChipNetId) (place : ℕ) → length bits ≤ 128 → 0 < place → number (values_in table (drop place bits)) < 2 ^ 127
  rest_low bits place few some =
      let left : length (drop place bits) ≤ 127 = omega (arith, length-drop place bits) in
      let low : number (values_in table (drop place bits)) < 2 ^ length (drop place bits) = shown_low (drop place bits) in
      let power : 2 ^ length (drop place bits) ≤ 2 ^ 127 = pow_mono left in
      omega arith

-- ## Words

less_more : (m k : ℕ) (b : Bool) → nat_lt m k ≡ b → nat_lt (1 + m) (suc k) ≡ b
less_more m k true e = grind (arith, nat_tests, e)
less_more m k false e = grind (arith, nat_tests, e)

-- the first place of a list that begins with an item
first_place : {X : Type 0} (p : X → Bool) (x : X) (xs : List X) → position p (x ∷ xs) ≡ (if p x then Some 0 else option_map suc (position p xs))
first_place p x xs = go (p x) (nat_lt (position_or_len p xs) (length xs)) refl
  where
    go : (here less : Bool) → nat_lt (position_or_len p xs) (length xs) ≡ less
        → cond (nat_lt (cond {A = ℕ} (not here) (1 + position_or_len p xs) 0) (suc (length xs))) (Some (cond {A = ℕ} (not here) (1 + position_or_len p xs) 0)) None
        ≡ (if here then Some 0 else option_map suc (cond (nat_lt (position_or_len p xs) (length xs)) (Some (position_or_len p xs)) None))
    go true less e = ap (λ b. cond b (Some 0) None) (is_less 0 (suc (length xs)) (omega arith))
    go false true e =
        ap (λ b. cond b (Some (1 + position_or_len p xs)) None) (less_more (position_or_len p xs) (length xs) true e)
        ∙ ap Some (let next : 1 + position_or_len p xs ≡ suc (position_or_len p xs) = omega arith in next)
        ∙ sym (ap (λ b. option_map suc (cond b (Some (position_or_len p xs)) None)) e)
    go false false e =
        ap (λ b. cond b (Some (1 + position_or_len p xs)) None) (less_more (position_or_len p xs) (length xs) false e)
        ∙ sym (ap (λ b. option_map suc (cond b (Some (position_or_len p xs)) None)) e)

-- the word's bits from a place on, given to the nets from there on
abbrev pub ShowRest : List ChipNetId → ℕ → ℕ → List Bool → List Bool → Type 0
ShowRest bits left word before after =
    (n : ℕ) → get_or after n false ≡ unwrap_or (option_map (λ b. bit_of word (left + b)) (position (is_chip_net n) (drop left bits))) (get_or before n false)

pub none_shown : (bits : List ChipNetId) (left word : ℕ) (row : List Bool) → left ≡ length bits → ShowRest bits left word row row
none_shown bits left word row all n =
    sym (ap (λ ns. unwrap_or (option_map (λ b. bit_of word (left + b)) (position (is_chip_net n) ns)) (get_or row n false)) (drop_all left bits (let past : length bits ≤ left = omega (arith, all) in past)))

-- one more net shows its bit
module _ (bits : List ChipNetId) (k left word : ℕ) (next : left ≡ k + 1) (low : k < length bits) (net : ChipNetId) (at : get_or bits k net ≡ net) (before row : List Bool) (rest : ShowRest bits left word before row) (within : net.place < length row) where
  shift : (o : Option ℕ) (x : Bool) → unwrap_or (option_map (λ b. bit_of word (left + b)) o) x ≡ unwrap_or (option_map (λ b. bit_of word (k + b)) (option_map suc o)) x
  shift None x = refl
  shift (Some b) x = ap (λ (j : ℕ). bit_of word j) (let e : left + b ≡ k + suc b = omega (arith, next) in e)

  begins : drop k bits ≡ net ∷ drop left bits
  begins = drop_more bits k net low ∙ ap (λ n. n ∷ drop (k + 1) bits) at ∙ ap (λ (j : ℕ). net ∷ drop j bits) (sym next)

  pub one_shown : (value : Bool) → value ≡ bit_of word k → (after : List Bool) → after ≡ set row net.place value → ShowRest bits k word before after
  one_shown value is after put n =
      ap (λ t. get_or t n false) put
      ∙ go (cases_eq n net.place)
      ∙ ap (λ o. unwrap_or (option_map (λ b. bit_of word (k + b)) o) (get_or before n false)) (sym (ap (position (is_chip_net n)) begins ∙ first_place (is_chip_net n) net (drop left bits)))
    where
      here : value ≡ bit_of word (k + 0)
      here = is ∙ ap (λ (j : ℕ). bit_of word j) (let e : k ≡ k + 0 = omega arith in e)

      go : (n ≡ net.place) ⊎ (n ≡ net.place → ⊥)
          → get_or (set row net.place value) n false
          ≡ unwrap_or (option_map (λ b. bit_of word (k + b)) (if is_chip_net n net then Some 0 else option_map suc (position (is_chip_net n) (drop left bits)))) (get_or before n false)
      go (inl same) =
          ap (λ (j : ℕ). get_or (set row net.place value) j false) same
          ∙ get_or-set_same row net.place value false within
          ∙ here
          ∙ sym (ap (λ b. unwrap_or (option_map (λ b. bit_of word (k + b)) (if b then Some 0 else option_map suc (position (is_chip_net n) (drop left bits)))) (get_or before n false)) (same_number net.place n (sym same)))
      go (inr other) =
          get_or-set_other row net.place n value false other
          ∙ rest n
          ∙ shift (position (is_chip_net n) (drop left bits)) (get_or before n false)
          ∙ sym (ap (λ b. unwrap_or (option_map (λ b. bit_of word (k + b)) (if b then Some 0 else option_map suc (position (is_chip_net n) (drop left bits)))) (get_or before n false)) (is_other net.place n (λ e. other (sym e))))

pub all_shown : (bits : List ChipNetId) (left word : ℕ) → left ≡ 0 → (before after : List Bool) → ShowRest bits left word before after → ShowWord bits word before after
all_shown bits left word none before after rest n =
    subst (λ (k : ℕ). ShowRest bits k word before after) none rest n
    ∙ from_zero (position (is_chip_net n) bits)
  where
    from_zero : (o : Option ℕ) → unwrap_or (option_map (λ b. bit_of word (0 + b)) o) (get_or before n false) ≡ unwrap_or (option_map (bit_of word) o) (get_or before n false)
    from_zero None = refl
    from_zero (Some b) = ap (λ (j : ℕ). bit_of word j) (let e : 0 + b ≡ b = omega arith in e)
