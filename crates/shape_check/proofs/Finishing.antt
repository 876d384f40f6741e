-- A11: the places of registers, memories and read ports at the end of a frame.
use Rattle.std.proofs.Common.{◌≡◌, ◌<◌, ◌≤◌, ℕ, zero, suc, Bool, true, false, not, List, [], ◌∷◌, length, Option, None, Some, inl, inr, refl, sym, subst, ap, ◌∙◌, arith}
use Rattle.std.specs.Prelude.{◌&&◌, is_some, slice_get, unwrap_or, option_and_then, IsTrue}
use Rattle.std.proofs.lemmas.Option.{slice_get_past}
use Rattle.facts.proofs.Tests.{no}
use Rattle.id_arena.specs.declared.keys.ChipId.{ChipId}
use Rattle.id_arena.specs.declared.keys.MemId.{MemId}
use Rattle.id_arena.specs.declared.keys.RegId.{RegId}
use Rattle.design_core.specs.declared.node.NodeId.{NodeId}
use Rattle.emu_machine.specs.declared.netlist.Chip.{Chip}
use Rattle.emu_machine.specs.declared.netlist.EmuMemory.{EmuMemory}
use Rattle.emu_machine.specs.declared.netlist.EmuRead.{EmuRead}
use Rattle.emu_machine.specs.declared.netlist.EmuRegister.{EmuRegister}
use Rattle.emu_machine.specs.declared.place.Place.{Place}
use Rattle.emu_machine.specs.declared.place.Place.TheVariants as place
use Rattle.emu_machine.specs.Netlist.{chip_at, no_chip}
use Rattle.emu_machine.specs.State.{read_port}
use Rattle.emu_machine.specs.Acceptance.{Precedes, has_frame, memory_ends, place_key, read_ends, register_at, register_ends}
use Rattle.use_check.specs.Least.{Begins, IsLeastUnder}
use Rattle.use_check.proofs.Walk.{Longer, NoneBefore, found, nowhere}
use Rattle.shape_check.specs.Influences.{inside_of}
use Rattle.shape_check.specs.Ends.{FrameEnd, EndFails, ReadFails, AreReads}

-- no key that begins with another comes before it
none_begun_before : (front key : List ℕ) → Begins front key → Precedes key front → ⊥
none_begun_before [] key b p = go key p
  where
    go : (key : List ℕ) → Precedes key [] → ⊥
    go [] p = p
    go (a ∷ key) p = p
none_begun_before (a ∷ front) [] b p = b
none_begun_before (a ∷ front) (c ∷ key) b (inl less) = absurd (omega (arith, b.0, less))
none_begun_before (a ∷ front) (c ∷ key) b (inr same) = none_begun_before front key b.1 same.1

-- a place whose key is a front is the least under it
whole : (fails : Place → Type 0) (at : Place) → Begins (place_key at) (place_key at) → fails at → IsLeastUnder fails (place_key at) (Some at)
whole fails at b f = (b, f, λ other begun p g. none_begun_before (place_key at) (place_key other) begun p)

-- a test that fails and one that does not
failed : (there ends : Bool) → there ≡ true → ends ≡ false → IsTrue (there && not ends)
failed there ends h e = ap (λ (b : Bool). b && not ends) h ∙ ap not e

both : (there ends : Bool) → ends ≡ true → IsTrue (there && not ends) → ⊥
both true ends e f = no (sym (ap not e) ∙ f)
both false ends e f = no f

module _ (e : FrameEnd) where
  abbrev inside : ℕ → NodeId → Bool
  inside = inside_of e.spread

  pub longer : (n : ℕ) → n < 4 → Longer (EndFails e) n
  longer n low (place.EndRegister a b d) f = omega (arith, low)
  longer n low (place.EndMemory a b d) f = omega (arith, low)
  longer n low (place.EndRead a b d g) f = omega (arith, low)
  longer n low (place.Gate a b) f = absurd f
  longer n low (place.Register a b) f = absurd f
  longer n low (place.Memory a b) f = absurd f
  longer n low (place.Weight a b) f = absurd f
  longer n low (place.Chips m) f = absurd f
  longer n low (place.Frame a) f = absurd f
  longer n low (place.Action a b d) f = absurd f
  longer n low (place.Again a b d g) f = absurd f
  longer n low (place.Input a) f = absurd f
  longer n low (place.Element a) f = absurd f
  longer n low (place.Output a) f = absurd f

  pub longer_reads : Longer (ReadFails e) 4
  longer_reads (place.EndRead a b d g) f = omega arith
  longer_reads (place.EndRegister a b d) f = absurd f
  longer_reads (place.EndMemory a b d) f = absurd f
  longer_reads (place.Gate a b) f = absurd f
  longer_reads (place.Register a b) f = absurd f
  longer_reads (place.Memory a b) f = absurd f
  longer_reads (place.Weight a b) f = absurd f
  longer_reads (place.Chips m) f = absurd f
  longer_reads (place.Frame a) f = absurd f
  longer_reads (place.Action a b d) f = absurd f
  longer_reads (place.Again a b d g) f = absurd f
  longer_reads (place.Input a) f = absurd f
  longer_reads (place.Element a) f = absurd f
  longer_reads (place.Output a) f = absurd f

  module _ (k : ℕ) where
    -- a register that ends well
    pub register_passes : (j : ℕ) → register_ends e.judged inside e.frame k j (register_at e.judged k j) ≡ true → IsLeastUnder (EndFails e) (e.frame ∷ k ∷ 0 ∷ j ∷ []) None
    register_passes j ok (place.EndRegister f chip r) b g =
        both _ _ ok
        (subst (λ (i : ℕ). IsTrue (has_frame e.judged e.frame && not (register_ends e.judged inside e.frame k i (register_at e.judged k i)))) (sym b.1.1.1.0)
        (subst (λ (i : ℕ). IsTrue (has_frame e.judged e.frame && not (register_ends e.judged inside e.frame i r.place (register_at e.judged i r.place)))) (sym b.1.0)
        (subst (λ (i : ℕ). IsTrue (has_frame e.judged i && not (register_ends e.judged inside i chip.place r.place (register_at e.judged chip.place r.place)))) (sym b.0) g)))
    register_passes j ok (place.EndMemory f chip m) b g = absurd (omega (arith, b.1.1.0))
    register_passes j ok (place.EndRead f chip m p) b g = absurd (omega (arith, b.1.1.0))
    register_passes j ok other b g = absurd g

    pub past_registers : (j : ℕ) → length (chip_at e.judged.results.net k).registers ≤ j → IsLeastUnder (EndFails e) (e.frame ∷ k ∷ 0 ∷ j ∷ []) None
    past_registers j past =
        register_passes j (ap (λ (o : Option EmuRegister). register_ends e.judged inside e.frame k j o) (slice_get_past (chip_at e.judged.results.net k).registers j past))

    -- a read port that ends well
    pub read_passes : (m j : ℕ) → read_ends e.judged inside e.frame k m j (read_port e.judged.results.net k m j) ≡ true → IsLeastUnder (ReadFails e) (e.frame ∷ k ∷ 1 ∷ m ∷ j ∷ []) None
    read_passes m j ok (place.EndRead f chip mem p) b g =
        both _ _ ok
        (subst (λ (i : ℕ). IsTrue (has_frame e.judged e.frame && not (read_ends e.judged inside e.frame k m i (read_port e.judged.results.net k m i)))) (sym b.1.1.1.1.0)
        (subst (λ (i : ℕ). IsTrue (has_frame e.judged e.frame && not (read_ends e.judged inside e.frame k i p (read_port e.judged.results.net k i p)))) (sym b.1.1.1.0)
        (subst (λ (i : ℕ). IsTrue (has_frame e.judged e.frame && not (read_ends e.judged inside e.frame i mem.place p (read_port e.judged.results.net i mem.place p)))) (sym b.1.0)
        (subst (λ (i : ℕ). IsTrue (has_frame e.judged i && not (read_ends e.judged inside i chip.place mem.place p (read_port e.judged.results.net chip.place mem.place p)))) (sym b.0) g))))
    read_passes m j ok other b g = absurd g

    -- a read port that is not there
    no_read : (m j : ℕ) → read_port e.judged.results.net k m j ≡ None → IsLeastUnder (ReadFails e) (e.frame ∷ k ∷ 1 ∷ m ∷ j ∷ []) None
    no_read m j none = read_passes m j (ap (λ (o : Option EmuRead). read_ends e.judged inside e.frame k m j o) none)

    pub past_reads : (m j : ℕ) (reads : List EmuRead) → AreReads e k m reads → length reads ≤ j → IsLeastUnder (ReadFails e) (e.frame ∷ k ∷ 1 ∷ m ∷ j ∷ []) None
    past_reads m j reads are past = no_read m j (are.each j ∙ slice_get_past reads j past)

    -- a memory that does not end badly itself ends badly just where a read port does
    none_of_reads : (m : ℕ) → (IsTrue (has_frame e.judged e.frame && is_some (slice_get (chip_at e.judged.results.net k).memories m) && not (memory_ends e.judged inside e.frame k m)) → ⊥)
        → (at : Place) → Begins (e.frame ∷ k ∷ 1 ∷ m ∷ []) (place_key at) → EndFails e at → ReadFails e at
    none_of_reads m ok (place.EndRegister f chip r) b g = absurd (omega (arith, b.1.1.0))
    none_of_reads m ok (place.EndMemory f chip mem) b g =
        ok
        (subst (λ (i : ℕ). IsTrue (has_frame e.judged e.frame && is_some (slice_get (chip_at e.judged.results.net k).memories i) && not (memory_ends e.judged inside e.frame k i))) (sym b.1.1.1.0)
        (subst (λ (i : ℕ). IsTrue (has_frame e.judged e.frame && is_some (slice_get (chip_at e.judged.results.net i).memories mem.place) && not (memory_ends e.judged inside e.frame i mem.place))) (sym b.1.0)
        (subst (λ (i : ℕ). IsTrue (has_frame e.judged i && is_some (slice_get (chip_at e.judged.results.net chip.place).memories mem.place) && not (memory_ends e.judged inside i chip.place mem.place))) (sym b.0) g)))
    none_of_reads m ok (place.EndRead f chip mem p) b g = g
    none_of_reads m ok other b g = absurd g

    read_of : (at : Place) → ReadFails e at → EndFails e at
    read_of (place.EndRead f chip mem p) g = g
    read_of other g = absurd g

    by_reads : (m : ℕ) → (IsTrue (has_frame e.judged e.frame && is_some (slice_get (chip_at e.judged.results.net k).memories m) && not (memory_ends e.judged inside e.frame k m)) → ⊥)
        → (o : Option Place) → IsLeastUnder (ReadFails e) (e.frame ∷ k ∷ 1 ∷ m ∷ []) o → IsLeastUnder (EndFails e) (e.frame ∷ k ∷ 1 ∷ m ∷ []) o
    by_reads m ok None least = λ at b g. least at b (none_of_reads m ok at b g)
    by_reads m ok (Some at) least = (least.0, read_of at least.1, λ other b p g. least.2 other b p (none_of_reads m ok other b g))

    pub memory_passes : (m : ℕ) → memory_ends e.judged inside e.frame k m ≡ true
        → (o : Option Place) → IsLeastUnder (ReadFails e) (e.frame ∷ k ∷ 1 ∷ m ∷ []) o → IsLeastUnder (EndFails e) (e.frame ∷ k ∷ 1 ∷ m ∷ []) o
    memory_passes m ok = by_reads m (both _ _ ok)

    -- a memory that is not there
    pub past_memories : (m : ℕ) → length (chip_at e.judged.results.net k).memories ≤ m → IsLeastUnder (EndFails e) (e.frame ∷ k ∷ 1 ∷ m ∷ []) None
    past_memories m past =
        by_reads m not_there None
        (nowhere (ReadFails e) (e.frame ∷ k ∷ 1 ∷ m ∷ []) longer_reads 0 (λ j low. absurd (omega (arith, low)))
        (λ j high. no_read m j (ap (λ (o : Option EmuMemory). option_and_then (λ (memory : EmuMemory). slice_get memory.reads j) o) gone)))
      where
        gone : slice_get (chip_at e.judged.results.net k).memories m ≡ None
        gone = slice_get_past (chip_at e.judged.results.net k).memories m past

        not_there : IsTrue (has_frame e.judged e.frame && is_some (slice_get (chip_at e.judged.results.net k).memories m) && not (memory_ends e.judged inside e.frame k m)) → ⊥
        not_there f = go (has_frame e.judged e.frame) (slice_get (chip_at e.judged.results.net k).memories m) gone f
          where
            go : (x : Bool) (o : Option EmuMemory) → o ≡ None → IsTrue (x && is_some o && not (memory_ends e.judged inside e.frame k m)) → ⊥
            go true None none t = no t
            go false None none t = no t
            go x (Some memory) none t = absurd (let h : true ≡ false = ap is_some none in no (sym h))

    -- beside registers and memories a chip has nothing
    pub past_parts : (j : ℕ) → 2 ≤ j → IsLeastUnder (EndFails e) (e.frame ∷ k ∷ j ∷ []) None
    past_parts j high (place.EndRegister f chip r) b g = absurd (omega (arith, high, b.1.1.0))
    past_parts j high (place.EndMemory f chip m) b g = absurd (omega (arith, high, b.1.1.0))
    past_parts j high (place.EndRead f chip m p) b g = absurd (omega (arith, high, b.1.1.0))
    past_parts j high other b g = absurd g

    -- what is found of registers and memories is found of the chip
    pub first_register : (at : Place) → IsLeastUnder (EndFails e) (e.frame ∷ k ∷ 0 ∷ []) (Some at) → IsLeastUnder (EndFails e) (e.frame ∷ k ∷ []) (Some at)
    first_register at least = found (EndFails e) (e.frame ∷ k ∷ []) (longer 2 (omega arith)) 0 at (λ j low. absurd (omega (arith, low))) least

    pub then_memories : IsLeastUnder (EndFails e) (e.frame ∷ k ∷ 0 ∷ []) None → (o : Option Place) → IsLeastUnder (EndFails e) (e.frame ∷ k ∷ 1 ∷ []) o → IsLeastUnder (EndFails e) (e.frame ∷ k ∷ []) o
    then_memories registers (Some at) least =
        found (EndFails e) (e.frame ∷ k ∷ []) (longer 2 (omega arith)) 1 at (λ j low. subst (λ (i : ℕ). IsLeastUnder (EndFails e) (e.frame ∷ k ∷ i ∷ []) None) (omega (arith, low)) registers) least
    then_memories registers None least =
        nowhere (EndFails e) (e.frame ∷ k ∷ []) (longer 2 (omega arith)) 2 before past_parts
      where
        before : NoneBefore (EndFails e) (e.frame ∷ k ∷ []) 2
        before zero low = registers
        before (suc zero) low = least
        before (suc (suc j)) low = absurd (omega (arith, low))

    -- a chip that is not there has nothing
    pub no_parts : slice_get e.judged.results.net k ≡ None → IsLeastUnder (EndFails e) (e.frame ∷ k ∷ []) None
    no_parts none =
        then_memories
        (nowhere (EndFails e) (e.frame ∷ k ∷ 0 ∷ []) (longer 3 (omega arith)) 0 (λ j low. absurd (omega (arith, low)))
        (λ j high. past_registers j (subst (λ (chip : Chip). length chip.registers ≤ j) (sym empty) high)))
        None
        (nowhere (EndFails e) (e.frame ∷ k ∷ 1 ∷ []) (longer 3 (omega arith)) 0 (λ j low. absurd (omega (arith, low)))
        (λ j high. past_memories j (subst (λ (chip : Chip). length chip.memories ≤ j) (sym empty) high)))
      where
        empty : chip_at e.judged.results.net k ≡ no_chip
        empty = ap (λ (o : Option Chip). unwrap_or o no_chip) none

  module _ (there : has_frame e.judged e.frame ≡ true) (chip : ChipId) where
    pub register_fails : (r : RegId) → register_ends e.judged inside e.frame chip.place r.place (register_at e.judged chip.place r.place) ≡ false
        → IsLeastUnder (EndFails e) (e.frame ∷ chip.place ∷ 0 ∷ r.place ∷ []) (Some (place.EndRegister e.frame chip r))
    register_fails r bad = whole (EndFails e) (place.EndRegister e.frame chip r) (refl, (refl, (refl, (refl, tt)))) (failed _ _ there bad)

    pub memory_fails : (m : MemId) → is_some (slice_get (chip_at e.judged.results.net chip.place).memories m.place) ≡ true → memory_ends e.judged inside e.frame chip.place m.place ≡ false
        → IsLeastUnder (EndFails e) (e.frame ∷ chip.place ∷ 1 ∷ m.place ∷ []) (Some (place.EndMemory e.frame chip m))
    memory_fails m here bad =
        whole (EndFails e) (place.EndMemory e.frame chip m) (refl, (refl, (refl, (refl, tt)))) (failed _ _ (ap (λ (b : Bool). b && is_some (slice_get (chip_at e.judged.results.net chip.place).memories m.place)) there ∙ here) bad)

    pub read_fails : (m : MemId) (j : ℕ) → read_ends e.judged inside e.frame chip.place m.place j (read_port e.judged.results.net chip.place m.place j) ≡ false
        → IsLeastUnder (ReadFails e) (e.frame ∷ chip.place ∷ 1 ∷ m.place ∷ j ∷ []) (Some (place.EndRead e.frame chip m j))
    read_fails m j bad = whole (ReadFails e) (place.EndRead e.frame chip m j) (refl, (refl, (refl, (refl, (refl, tt))))) (failed _ _ there bad)
