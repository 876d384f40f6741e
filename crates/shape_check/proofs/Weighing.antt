-- A3: the places of weights, and the limits of gates and memories.
use Rattle.std.proofs.Common.{◌≡◌, ◌<◌, ◌≤◌, ℕ, List, [], ◌∷◌, length, Option, None, Some, refl, sym, subst, ap, ◌∙◌, arith}
use Rattle.std.specs.Prelude.{slice_get, IsSomeAnd}
use Rattle.std.proofs.lemmas.Option.{slice_get_past}
use Rattle.id_arena.specs.declared.keys.ChipId.{ChipId}
use Rattle.design_core.specs.declared.operation.Op.{Op}
use Rattle.design_core.specs.declared.operation.Op.TheVariants as op
use Rattle.design_core.specs.Limits.{most_inputs}
use Rattle.emu_machine.specs.declared.netlist.Chip.{Chip}
use Rattle.emu_machine.specs.declared.netlist.EmuGate.{EmuGate}
use Rattle.emu_machine.specs.declared.netlist.EmuMemory.{EmuMemory}
use Rattle.emu_machine.specs.Building.{IsBuilt, IsMemoryOf}
use Rattle.emu_machine.specs.declared.place.Place.TheVariants as place
use Rattle.emu_machine.specs.Acceptance.{Case, FailsA3, chip_weight, place_key}
use Rattle.use_check.specs.Least.{IsLeastUnder}
use Rattle.use_check.proofs.Walk.{Just, Longer, here}

-- a gate has at most 64 inputs
pub few_inputs : (o : Op) (n : ℕ) → n ≤ most_inputs o → n ≤ 64
few_inputs op.And n few = few
few_inputs op.Nand n few = few
few_inputs op.Or n few = few
few_inputs op.Nor n few = few
few_inputs op.Xor n few = few
few_inputs op.Xnor n few = few
few_inputs op.Buf n few = few
few_inputs op.Not n few = few
few_inputs (op.Table t) n few = omega (arith, few)

module _ (c : Case) where
  pub just_one : Just (FailsA3 c) 1
  just_one (place.Weight a b) f = refl
  just_one (place.Chips m) f = absurd f
  just_one (place.Gate a b) f = absurd f
  just_one (place.Frame a) f = absurd f
  just_one (place.Action a b d) f = absurd f
  just_one (place.Again a b d e) f = absurd f
  just_one (place.Register a b) f = absurd f
  just_one (place.Memory a b) f = absurd f
  just_one (place.Input a) f = absurd f
  just_one (place.Element a) f = absurd f
  just_one (place.Output a) f = absurd f
  just_one (place.EndRegister a b d) f = absurd f
  just_one (place.EndMemory a b d) f = absurd f
  just_one (place.EndRead a b d e) f = absurd f

  pub some_long : Longer (FailsA3 c) 0
  some_long at f = let one : length (place_key at) ≡ 1 = just_one at f in omega (arith, one)

  pub too_heavy : (chip : ChipId) (room weight : ℕ) → slice_get c.board.rooms chip.place ≡ Some room → weight ≡ chip_weight c chip.place → room < weight
      → IsLeastUnder (FailsA3 c) (chip.place ∷ []) (Some (place.Weight chip weight))
  too_heavy chip room weight at is over =
      here (FailsA3 c) (chip.place ∷ []) (place.Weight chip weight) just_one refl (refl, tt)
      (is, subst (λ (o : Option ℕ). IsSomeAnd o (λ room. room < weight)) (sym at) over)

  pub light : (k room weight : ℕ) → slice_get c.board.rooms k ≡ Some room → weight ≡ chip_weight c k → weight ≤ room → IsLeastUnder (FailsA3 c) (k ∷ []) None
  light k room weight at is under (place.Weight chip other) b f =
      let over : room < other = subst (λ (o : Option ℕ). IsSomeAnd o (λ room. room < other)) (subst (λ (n : ℕ). slice_get c.board.rooms n ≡ Some room) b.0 at) f.1 in
      let same : other ≡ weight = f.0 ∙ ap (chip_weight c) (sym b.0) ∙ sym is in
      omega (arith, over, same, under)
  light k room weight at is under other b f = f

  pub no_room : (k : ℕ) → length c.board.rooms ≤ k → IsLeastUnder (FailsA3 c) (k ∷ []) None
  no_room k past (place.Weight chip other) b f =
      subst (λ (o : Option ℕ). IsSomeAnd o (λ room. room < other)) (subst (λ (n : ℕ). slice_get c.board.rooms n ≡ None) b.0 (slice_get_past c.board.rooms k past)) f.1
  no_room k past other b f = f

-- a chip that was found among those of a netlist has gates and memories within their limits
pub gates_small : (chips : List Chip) (k : ℕ) (o : Option Chip) (chip : Chip) → IsBuilt chips → o ≡ slice_get chips k → o ≡ Some chip → (j : ℕ) (gate : EmuGate) → slice_get chip.gates j ≡ Some gate → length gate.inputs ≤ 64
gates_small chips k o chip built is found j gate at =
    let here : slice_get chips k ≡ Some chip = sym is ∙ found in
    few_inputs gate.op (length gate.inputs) ((built.formed.each k chip here).gates j gate at).few

pub memories_small : (chips : List Chip) (k : ℕ) (o : Option Chip) (chip : Chip) → IsBuilt chips → o ≡ slice_get chips k → o ≡ Some chip → (j : ℕ) (memory : EmuMemory) → slice_get chip.memories j ≡ Some memory → (memory.address_bits ≤ 16) × (memory.width ≤ 128)
memories_small chips k o chip built is found j memory at =
    let here : slice_get chips k ≡ Some chip = sym is ∙ found in
    let small : IsMemoryOf chip.nets memory = (built.formed.each k chip here).memories j memory at in
    (small.address_bits, small.width)
