-- A7: the places of gates, registers and memories.
use Rattle.std.proofs.Common.{◌≡◌, ◌<◌, ◌≤◌, ℕ, Bool, true, false, List, [], ◌∷◌, ◌++◌, length, Option, None, Some, refl, sym, subst, ap, ◌∙◌, arith}
use Rattle.std.specs.Prelude.{slice_get, unwrap_or}
use Rattle.std.proofs.lemmas.Option.{none-some, slice_get_past}
use Rattle.facts.proofs.Tests.{no}
use Rattle.id_arena.specs.declared.keys.ChipId.{ChipId}
use Rattle.id_arena.specs.declared.keys.MemId.{MemId}
use Rattle.id_arena.specs.declared.keys.RegId.{RegId}
use Rattle.emu_machine.specs.declared.netlist.Chip.{Chip}
use Rattle.emu_machine.specs.declared.netlist.EmuGate.{EmuGate}
use Rattle.emu_machine.specs.declared.netlist.EmuMemory.{EmuMemory}
use Rattle.emu_machine.specs.declared.netlist.EmuRegister.{EmuRegister}
use Rattle.emu_machine.specs.declared.place.Place.{Place}
use Rattle.emu_machine.specs.declared.place.Place.TheVariants as place
use Rattle.emu_machine.specs.Netlist.{chip_at, no_chip}
use Rattle.emu_machine.specs.Building.{IsBuilt, IsMemoryOf}
use Rattle.emu_machine.specs.Origins.{gate_fits, register_fits}
use Rattle.emu_machine.specs.Acceptance.{Case, FailsA7, fails_test, mapped_memory_fits, place_key}
use Rattle.use_check.specs.Least.{Begins, IsLeastUnder}
use Rattle.shape_check.specs.Ports.{IsSmall}
use Rattle.use_check.proofs.Walk.{Just, Longer, here}

module _ {X : Type 0} (fails : Place → Type 0) (front : List ℕ) (xs : List X) (test : ℕ → X → Bool)
    (under : (j : ℕ) (at : Place) → Begins (front ++ j ∷ []) (place_key at) → fails at → fails_test (test j) (slice_get xs j)) where
  -- where an element passes its test, nothing fails at its place, nor behind the last
  passes : (j : ℕ) (x : X) → slice_get xs j ≡ Some x → test j x ≡ true → IsLeastUnder fails (front ++ j ∷ []) None
  passes j x is ok at b f = no (sym (subst (λ (o : Option X). fails_test (test j) o) is (under j at b f)) ∙ ok)

  behind : (j : ℕ) → length xs ≤ j → IsLeastUnder fails (front ++ j ∷ []) None
  behind j past at b f = subst (λ (o : Option X). fails_test (test j) o) (slice_get_past xs j past) (under j at b f)

fails_at : {X : Type 0} (test : X → Bool) (o : Option X) (x : X) → o ≡ Some x → test x ≡ false → fails_test test o
fails_at {X} test o x is bad = subst (λ (q : Option X). fails_test test q) (sym is) bad

module _ (c : Case) where
  pub just_three : Just (FailsA7 c) 3
  just_three (place.Gate a b) f = refl
  just_three (place.Register a b) f = refl
  just_three (place.Memory a b) f = refl
  just_three (place.Weight a b) f = absurd f
  just_three (place.Chips m) f = absurd f
  just_three (place.Frame a) f = absurd f
  just_three (place.Action a b d) f = absurd f
  just_three (place.Again a b d e) f = absurd f
  just_three (place.Input a) f = absurd f
  just_three (place.Element a) f = absurd f
  just_three (place.Output a) f = absurd f
  just_three (place.EndRegister a b d) f = absurd f
  just_three (place.EndMemory a b d) f = absurd f
  just_three (place.EndRead a b d e) f = absurd f

  pub longer : (n : ℕ) → n < 3 → Longer (FailsA7 c) n
  longer n low at f = let three : length (place_key at) ≡ 3 = just_three at f in omega (arith, three, low)

  module _ (k : ℕ) where
    under_gates : (j : ℕ) (at : Place) → Begins (k ∷ 0 ∷ j ∷ []) (place_key at) → FailsA7 c at → fails_test (gate_fits c.design c.results k) (slice_get (chip_at c.results.net k).gates j)
    under_gates j (place.Gate chip gate) b f =
        subst (λ (i : ℕ). fails_test (gate_fits c.design c.results i) (slice_get (chip_at c.results.net i).gates j)) (sym b.0)
        (subst (λ (i : ℕ). fails_test (gate_fits c.design c.results chip.place) (slice_get (chip_at c.results.net chip.place).gates i)) (sym b.1.1.0) f)
    under_gates j (place.Register chip r) b f = absurd (omega (arith, b.1.0))
    under_gates j (place.Memory chip m) b f = absurd (omega (arith, b.1.0))
    under_gates j other b f = absurd f

    under_registers : (j : ℕ) (at : Place) → Begins (k ∷ 1 ∷ j ∷ []) (place_key at) → FailsA7 c at → fails_test (register_fits c.design c.results k) (slice_get (chip_at c.results.net k).registers j)
    under_registers j (place.Gate chip gate) b f = absurd (omega (arith, b.1.0))
    under_registers j (place.Register chip r) b f =
        subst (λ (i : ℕ). fails_test (register_fits c.design c.results i) (slice_get (chip_at c.results.net i).registers j)) (sym b.0)
        (subst (λ (i : ℕ). fails_test (register_fits c.design c.results chip.place) (slice_get (chip_at c.results.net chip.place).registers i)) (sym b.1.1.0) f)
    under_registers j (place.Memory chip m) b f = absurd (omega (arith, b.1.0))
    under_registers j other b f = absurd f

    under_memories : (j : ℕ) (at : Place) → Begins (k ∷ 2 ∷ j ∷ []) (place_key at) → FailsA7 c at → fails_test (mapped_memory_fits c k j) (slice_get (chip_at c.results.net k).memories j)
    under_memories j (place.Gate chip gate) b f = absurd (omega (arith, b.1.0))
    under_memories j (place.Register chip r) b f = absurd (omega (arith, b.1.0))
    under_memories j (place.Memory chip m) b f =
        subst (λ (i : ℕ). fails_test (mapped_memory_fits c i j) (slice_get (chip_at c.results.net i).memories j)) (sym b.0)
        (subst (λ (i : ℕ). fails_test (mapped_memory_fits c chip.place i) (slice_get (chip_at c.results.net chip.place).memories i)) (sym b.1.1.0) f)
    under_memories j other b f = absurd f

    pub gate_passes : (j : ℕ) (x : EmuGate) → slice_get (chip_at c.results.net k).gates j ≡ Some x → gate_fits c.design c.results k x ≡ true → IsLeastUnder (FailsA7 c) (k ∷ 0 ∷ j ∷ []) None
    gate_passes = passes (FailsA7 c) (k ∷ 0 ∷ []) (chip_at c.results.net k).gates (λ i. gate_fits c.design c.results k) under_gates

    pub past_gates : (j : ℕ) → length (chip_at c.results.net k).gates ≤ j → IsLeastUnder (FailsA7 c) (k ∷ 0 ∷ j ∷ []) None
    past_gates = behind (FailsA7 c) (k ∷ 0 ∷ []) (chip_at c.results.net k).gates (λ i. gate_fits c.design c.results k) under_gates

    pub register_passes : (j : ℕ) (x : EmuRegister) → slice_get (chip_at c.results.net k).registers j ≡ Some x → register_fits c.design c.results k x ≡ true → IsLeastUnder (FailsA7 c) (k ∷ 1 ∷ j ∷ []) None
    register_passes = passes (FailsA7 c) (k ∷ 1 ∷ []) (chip_at c.results.net k).registers (λ i. register_fits c.design c.results k) under_registers

    pub past_registers : (j : ℕ) → length (chip_at c.results.net k).registers ≤ j → IsLeastUnder (FailsA7 c) (k ∷ 1 ∷ j ∷ []) None
    past_registers = behind (FailsA7 c) (k ∷ 1 ∷ []) (chip_at c.results.net k).registers (λ i. register_fits c.design c.results k) under_registers

    pub memory_passes : (j : ℕ) (x : EmuMemory) → slice_get (chip_at c.results.net k).memories j ≡ Some x → mapped_memory_fits c k j x ≡ true → IsLeastUnder (FailsA7 c) (k ∷ 2 ∷ j ∷ []) None
    memory_passes = passes (FailsA7 c) (k ∷ 2 ∷ []) (chip_at c.results.net k).memories (λ i. mapped_memory_fits c k i) under_memories

    pub past_memories : (j : ℕ) → length (chip_at c.results.net k).memories ≤ j → IsLeastUnder (FailsA7 c) (k ∷ 2 ∷ j ∷ []) None
    past_memories = behind (FailsA7 c) (k ∷ 2 ∷ []) (chip_at c.results.net k).memories (λ i. mapped_memory_fits c k i) under_memories

    -- a chip that is not there has nothing
    pub no_parts : slice_get c.results.net k ≡ None → IsLeastUnder (FailsA7 c) (k ∷ []) None
    no_parts none at b f = go at b f
      where
        empty : chip_at c.results.net k ≡ no_chip
        empty = ap (λ (o : Option Chip). unwrap_or o no_chip) none

        go : (at : Place) → Begins (k ∷ []) (place_key at) → FailsA7 c at → ⊥
        go (place.Gate chip gate) b f =
            subst (λ (h : Chip). fails_test (gate_fits c.design c.results chip.place) (slice_get h.gates gate)) empty
            (subst (λ (i : ℕ). fails_test (gate_fits c.design c.results chip.place) (slice_get (chip_at c.results.net i).gates gate)) (sym b.0) f)
        go (place.Register chip r) b f =
            subst (λ (h : Chip). fails_test (register_fits c.design c.results chip.place) (slice_get h.registers r.place)) empty
            (subst (λ (i : ℕ). fails_test (register_fits c.design c.results chip.place) (slice_get (chip_at c.results.net i).registers r.place)) (sym b.0) f)
        go (place.Memory chip m) b f =
            subst (λ (h : Chip). fails_test (mapped_memory_fits c chip.place m.place) (slice_get h.memories m.place)) empty
            (subst (λ (i : ℕ). fails_test (mapped_memory_fits c chip.place m.place) (slice_get (chip_at c.results.net i).memories m.place)) (sym b.0) f)
        go other b f = f

  pub gate_fails : (chip : ChipId) (j : ℕ) (x : EmuGate) → slice_get (chip_at c.results.net chip.place).gates j ≡ Some x → gate_fits c.design c.results chip.place x ≡ false
      → IsLeastUnder (FailsA7 c) (chip.place ∷ 0 ∷ j ∷ []) (Some (place.Gate chip j))
  gate_fails chip j x is bad =
      here (FailsA7 c) (chip.place ∷ 0 ∷ j ∷ []) (place.Gate chip j) just_three refl (refl, (refl, (refl, tt)))
      (fails_at (gate_fits c.design c.results chip.place) _ x is bad)

  pub register_fails : (chip : ChipId) (r : RegId) (x : EmuRegister) → slice_get (chip_at c.results.net chip.place).registers r.place ≡ Some x → register_fits c.design c.results chip.place x ≡ false
      → IsLeastUnder (FailsA7 c) (chip.place ∷ 1 ∷ r.place ∷ []) (Some (place.Register chip r))
  register_fails chip r x is bad =
      here (FailsA7 c) (chip.place ∷ 1 ∷ r.place ∷ []) (place.Register chip r) just_three refl (refl, (refl, (refl, tt)))
      (fails_at (register_fits c.design c.results chip.place) _ x is bad)

  pub memory_fails : (chip : ChipId) (m : MemId) (x : EmuMemory) → slice_get (chip_at c.results.net chip.place).memories m.place ≡ Some x → mapped_memory_fits c chip.place m.place x ≡ false
      → IsLeastUnder (FailsA7 c) (chip.place ∷ 2 ∷ m.place ∷ []) (Some (place.Memory chip m))
  memory_fails chip m x is bad =
      here (FailsA7 c) (chip.place ∷ 2 ∷ m.place ∷ []) (place.Memory chip m) just_three refl (refl, (refl, (refl, tt)))
      (fails_at (mapped_memory_fits c chip.place m.place) _ x is bad)

-- a chip's memory has few ports and bits
pub small_memory : (chips : List Chip) (k j : ℕ) (x : EmuMemory) → IsBuilt chips → slice_get (chip_at chips k).memories j ≡ Some x → IsSmall x
small_memory chips k j x built at = go (slice_get chips k) refl
  where
    go : (o : Option Chip) → slice_get chips k ≡ o → IsSmall x
    go None none = absurd (none-some x (subst (λ (q : Option Chip). slice_get (unwrap_or q no_chip).memories j ≡ Some x) none at))
    go (Some chip) is =
        let m : IsMemoryOf chip.nets x = (built.formed.each k chip is).memories j x (subst (λ (q : Option Chip). slice_get (unwrap_or q no_chip).memories j ≡ Some x) is at) in
        record {
          ports = m.ports;
          bits = λ i port here. let w : length port.bits ≡ x.width = (m.reads i port here).width in omega (arith, w, m.width);
        }
