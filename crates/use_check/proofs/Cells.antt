-- Two registers or memories that are there have no cell in common.
use Rattle.std.proofs.Common.{◌≡◌, ◌<◌, ◌≤◌, ◌+◌, ◌*◌, ◌⊎◌, ℕ, zero, suc, List, [], ◌∷◌, length, take, inl, inr, refl, ap, ◌∙◌, arith}
use Rattle.std.specs.Prelude.{◌%◌}
use Rattle.std.proofs.Math.Nat.{mod-lt}
use Rattle.std.proofs.lemmas.Bool.{cases_lt}
use Rattle.std.proofs.lemmas.List.Sums.{sum_by-cons}
use Rattle.emu_machine.specs.declared.netlist.Chip.{Chip}
use Rattle.emu_machine.specs.declared.place.Thing.{Thing}
use Rattle.emu_machine.specs.declared.place.Thing.TheVariants as thing
use Rattle.emu_machine.specs.Netlist.{chip_at}
use Rattle.use_check.specs.Uses.{IsPart, cell_of, part_number, parts_in, start_of}

-- the parts of a chip come before those of the later ones
pub starts_apart : (chips : List Chip) (c d : ℕ) → c < d → start_of chips c + parts_in (chip_at chips c) ≤ start_of chips d
starts_apart [] zero zero less = absurd (omega (arith, less))
starts_apart [] zero (suc d) less = omega arith
starts_apart [] (suc c) zero less = absurd (omega (arith, less))
starts_apart [] (suc c) (suc d) less = omega arith
starts_apart (x ∷ chips) c zero less = absurd (omega (arith, less))
starts_apart (x ∷ chips) zero (suc d) less = omega (arith, sum_by-cons parts_in x (take d chips))
starts_apart (x ∷ chips) (suc c) (suc d) less =
    let low : c < d = omega (arith, less) in
    omega (arith, sum_by-cons parts_in x (take c chips), sum_by-cons parts_in x (take d chips), starts_apart chips c d low)

module _ (chips : List Chip) where
  abbrev chip_of : Thing → ℕ
  chip_of (thing.Wire wire) = 0
  chip_of (thing.Register chip register) = chip.place
  chip_of (thing.Memory chip mem) = chip.place

  -- a part stands among those of its chip
  above : (x : Thing) → IsPart chips x → start_of chips (chip_of x) ≤ part_number chips x
  above (thing.Wire wire) p = absurd p
  above (thing.Register chip register) p = omega arith
  above (thing.Memory chip mem) p = omega arith

  under : (x : Thing) → IsPart chips x → part_number chips x < start_of chips (chip_of x) + parts_in (chip_at chips (chip_of x))
  under (thing.Wire wire) p = absurd p
  under (thing.Register chip register) p = omega (arith, p)
  under (thing.Memory chip mem) p = omega (arith, p)

  -- a chip with a part is there
  pub chip_there : (x : Thing) → IsPart chips x → chip_of x < length chips
  chip_there x p = go (cases_lt (chip_of x) (length chips))
    where
      empty : (cs : List Chip) (c : ℕ) → length cs ≤ c → parts_in (chip_at cs c) ≡ 0
      empty [] zero e = refl
      empty [] (suc c) e = refl
      empty (y ∷ cs) zero e = absurd (omega (arith, e))
      empty (y ∷ cs) (suc c) e = empty cs c (omega (arith, e))

      go : (chip_of x < length chips) ⊎ (length chips ≤ chip_of x) → chip_of x < length chips
      go (inl low) = low
      go (inr high) =
          let none : parts_in (chip_at chips (chip_of x)) ≡ 0 = empty chips (chip_of x) high in
          absurd (omega (arith, none, above x p, under x p))

  pub part_below : (x : Thing) → IsPart chips x → part_number chips x < start_of chips (length chips)
  part_below x p =
      let apart : start_of chips (chip_of x) + parts_in (chip_at chips (chip_of x)) ≤ start_of chips (length chips) = starts_apart chips (chip_of x) (length chips) (chip_there x p) in
      omega (arith, apart, under x p)

  same_chip : (x y : Thing) → IsPart chips x → IsPart chips y → part_number chips x ≡ part_number chips y → chip_of x ≡ chip_of y
  same_chip x y p q e = go (cases_lt (chip_of x) (chip_of y)) (cases_lt (chip_of y) (chip_of x))
    where
      go : (chip_of x < chip_of y) ⊎ (chip_of y ≤ chip_of x) → (chip_of y < chip_of x) ⊎ (chip_of x ≤ chip_of y) → chip_of x ≡ chip_of y
      go (inl less) other = absurd (omega (arith, e, starts_apart chips (chip_of x) (chip_of y) less, under x p, above y q))
      go (inr high) (inl less) = absurd (omega (arith, e, starts_apart chips (chip_of y) (chip_of x) less, under y q, above x p))
      go (inr high) (inr low) = omega (arith, high, low)

  on_one : (x y : Thing) → chip_of x ≡ chip_of y → IsPart chips x → IsPart chips y → part_number chips x ≡ part_number chips y → x ≡ y
  on_one (thing.Wire w) y same p q e = absurd p
  on_one (thing.Register c r) (thing.Wire w) same p q e = absurd q
  on_one (thing.Memory c m) (thing.Wire w) same p q e = absurd q
  on_one (thing.Register c r) (thing.Register d s) same p q e =
      let start : start_of chips c.place ≡ start_of chips d.place = ap (start_of chips) same in
      let number : r.place ≡ s.place = omega (arith, start, e) in
      ap (λ (n : ℕ). thing.Register (record { place = n }) r) same ∙ ap (λ (n : ℕ). thing.Register d (record { place = n })) number
  on_one (thing.Register c r) (thing.Memory d m) same p q e =
      let start : start_of chips c.place ≡ start_of chips d.place = ap (start_of chips) same in
      let count : length (chip_at chips c.place).registers ≡ length (chip_at chips d.place).registers = ap (λ (n : ℕ). length (chip_at chips n).registers) same in
      absurd (omega (arith, start, count, e, p))
  on_one (thing.Memory c m) (thing.Register d r) same p q e =
      let start : start_of chips c.place ≡ start_of chips d.place = ap (start_of chips) same in
      let count : length (chip_at chips c.place).registers ≡ length (chip_at chips d.place).registers = ap (λ (n : ℕ). length (chip_at chips n).registers) same in
      absurd (omega (arith, start, count, e, q))
  on_one (thing.Memory c m) (thing.Memory d n) same p q e =
      let start : start_of chips c.place ≡ start_of chips d.place = ap (start_of chips) same in
      let count : length (chip_at chips c.place).registers ≡ length (chip_at chips d.place).registers = ap (λ (k : ℕ). length (chip_at chips k).registers) same in
      let number : m.place ≡ n.place = omega (arith, start, count, e) in
      ap (λ (k : ℕ). thing.Memory (record { place = k }) m) same ∙ ap (λ (k : ℕ). thing.Memory d (record { place = k })) number

  pub cell_below : (x : Thing) (u : ℕ) → IsPart chips x → cell_of chips x u < 8 * start_of chips (length chips)
  cell_below x u p = let eight : u % 8 < 8 = mod-lt u (omega arith) in omega (arith, eight, part_below x p)

  pub cells_apart : (x y : Thing) (u v : ℕ) → IsPart chips x → IsPart chips y → cell_of chips x u ≡ cell_of chips y v → (x ≡ y) × (u % 8 ≡ v % 8)
  cells_apart x y u v p q e =
      let first : u % 8 < 8 = mod-lt u (omega arith) in
      let second : v % 8 < 8 = mod-lt v (omega arith) in
      let number : part_number chips x ≡ part_number chips y = omega (arith, e, first, second) in
      let column : u % 8 ≡ v % 8 = omega (arith, e, first, second) in
      (on_one x y (same_chip x y p q number) p q number, column)

-- of eight slots in a row each has a place of its own
pub one_of_eight : (t u v : ℕ) → t ≤ u → u < t + 8 → t ≤ v → v < t + 8 → u % 8 ≡ v % 8 → u ≡ v
one_of_eight t u v a b c d e = omega (arith, a, b, c, d, e)
