-- The numbers of registers and memories are small, and those of each chip follow the ones before.
use Rattle.std.proofs.Common.{◌≡◌, ◌<◌, ◌≤◌, ◌+◌, ◌*◌, ℕ, zero, suc, List, [], ◌∷◌, length, take, Option, None, Some, refl, sym, subst, ap, ◌∙◌, arith}
use Rattle.std.specs.Prelude.{slice_get, unwrap_or}
use Rattle.std.proofs.lemmas.List.Sums.{sum_by-cons}
use Rattle.std.proofs.lemmas.Option.{get_or_from_slice_get}
use Rattle.id_arena.specs.declared.keys.ChipId.{ChipId}
use Rattle.id_arena.specs.declared.keys.MemId.{MemId}
use Rattle.id_arena.specs.declared.keys.RegId.{RegId}
use Rattle.emu_machine.specs.declared.netlist.Chip.{Chip}
use Rattle.emu_machine.specs.declared.place.Thing.{Thing}
use Rattle.emu_machine.specs.declared.place.Thing.TheVariants as thing
use Rattle.emu_machine.specs.Building.{IsBuilt}
use Rattle.emu_machine.specs.Netlist.{chip_at, no_chip}
use Rattle.use_check.specs.Uses.{AreStarts, IsPart, part_number, parts_in, start_of}
use Rattle.use_check.proofs.Cells.{chip_there, part_below}

module _ (chips : List Chip) (built : IsBuilt chips) where
  pub few_registers : (c : ℕ) → length (chip_at chips c).registers ≤ 4294967294
  few_registers c = go (slice_get chips c) refl
    where
      go : (o : Option Chip) → slice_get chips c ≡ o → length (unwrap_or o no_chip).registers ≤ 4294967294
      go None is = omega arith
      go (Some chip) is = (built.formed.each c chip is).few_registers

  few_memories : (c : ℕ) → length (chip_at chips c).memories ≤ 4294967294
  few_memories c = go (slice_get chips c) refl
    where
      go : (o : Option Chip) → slice_get chips c ≡ o → length (unwrap_or o no_chip).memories ≤ 4294967294
      go None is = omega arith
      go (Some chip) is = (built.formed.each c chip is).few_memories

  few_parts : (c : ℕ) → parts_in (chip_at chips c) ≤ 8589934588
  few_parts c = omega (arith, few_registers c, few_memories c)

-- the first chips have few parts where each has
low_start : (chips : List Chip) → ((c : ℕ) → parts_in (chip_at chips c) ≤ 8589934588) → (c : ℕ) → start_of chips c ≤ c * 8589934588
low_start [] few zero = omega arith
low_start [] few (suc c) = omega arith
low_start (x ∷ chips) few zero = omega arith
low_start (x ∷ chips) few (suc c) =
    let first : parts_in x ≤ 8589934588 = few 0 in
    let rest : start_of chips c ≤ c * 8589934588 = low_start chips (λ d. few (suc d)) c in
    omega (arith, sum_by-cons parts_in x (take c chips), first, rest)

module _ (chips : List Chip) (built : IsBuilt chips) (few : length chips ≤ 16) where
  pub start_low : (c : ℕ) → c ≤ length chips → start_of chips c ≤ 137438953408
  start_low c low = let start : start_of chips c ≤ c * 8589934588 = low_start chips (few_parts chips built) c in omega (arith, start, low, few)

  pub number_low : (x : Thing) → IsPart chips x → part_number chips x ≤ 137438953408
  number_low x p = omega (arith, part_below chips x p, start_low (length chips) (omega arith))

pub start_read : (chips : List Chip) (starts : List ℕ) → AreStarts chips starts → (n x : ℕ) → n ≤ length chips → slice_get starts n ≡ Some x → x ≡ start_of chips n
start_read chips starts are n x low at = sym (get_or_from_slice_get starts n x 0 at) ∙ are.each n low

pub all_read : (chips found : List Chip) (starts : List ℕ) → AreStarts chips starts → found ≡ chips → (x : ℕ) → slice_get starts (length found) ≡ Some x → x ≡ start_of chips (length chips)
all_read chips found starts are same x at =
    let e : length found ≡ length chips = ap (λ (cs : List Chip). length cs) same in
    start_read chips starts are (length chips) x (omega arith) (subst (λ (n : ℕ). slice_get starts n ≡ Some x) e at)

-- a chip of the list has few parts
pub item_few : (chips : List Chip) → IsBuilt chips → (i : ℕ) (x : Chip) → slice_get chips i ≡ Some x → parts_in x ≤ 8589934588
item_few chips built i x at =
    subst (λ (y : Chip). parts_in y ≤ 8589934588) (ap (λ (o : Option Chip). unwrap_or o no_chip) at) (few_parts chips built i)

-- the chip of a memory that is there
pub memory_there : (chips : List Chip) (x : Thing) (c : ChipId) (m : MemId) → IsPart chips x → x ≡ thing.Memory c m → c.place < length chips
memory_there chips x c m p is = chip_there chips (thing.Memory c m) (subst (λ (y : Thing). IsPart chips y) is p)

module _ (chips : List Chip) (built : IsBuilt chips) (few : length chips ≤ 16) where
  pub register_low : (x : Thing) (c : ChipId) (r : RegId) → IsPart chips x → x ≡ thing.Register c r → start_of chips c.place + r.place ≤ 137438953408
  register_low x c r p is = number_low chips built few (thing.Register c r) (subst (λ (y : Thing). IsPart chips y) is p)

  pub memory_low : (x : Thing) (c : ChipId) (m : MemId) → IsPart chips x → x ≡ thing.Memory c m → start_of chips c.place + length (chip_at chips c.place).registers + m.place ≤ 137438953408
  memory_low x c m p is = number_low chips built few (thing.Memory c m) (subst (λ (y : Thing). IsPart chips y) is p)
