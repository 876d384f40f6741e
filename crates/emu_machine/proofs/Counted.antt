-- What the counted drivers of a chip tell.
use Rattle.std.proofs.Common.{◌≡◌, ◌<◌, ◌∙◌, ℕ, zero, suc, List, Option, None, Some, length, slice_get, get_or, refl, ap, subst, arith}
use Rattle.std.specs.Prelude.{min, replicate}
use Rattle.std.proofs.lemmas.List.{length-replicate}
use Rattle.id_arena.specs.declared.keys.ChipNetId.{ChipNetId}
use Rattle.emu_machine.specs.declared.netlist.Chip.{Chip}
use Rattle.emu_machine.specs.declared.netlist.EmuGate.{EmuGate}
use Rattle.emu_machine.specs.declared.netlist.EmuMemory.{EmuMemory}
use Rattle.emu_machine.specs.declared.netlist.EmuRegister.{EmuRegister}
use Rattle.emu_machine.specs.Netlist.{net_drivers}
use Rattle.emu_machine.specs.Building.{IsChip}
use Rattle.emu_machine.specs.Counts.{Adds, DriveBelow, MemoriesBelow, gate_output, gates_of, memory_nets, nets_of, register_output, registers_of, TellsMisdriven, TellsOther}

-- what gates, registers and memories of a chip drive is there
pub gates_below : (chip : Chip) (gates : List EmuGate) (nets : ℕ) → IsChip chip → gates ≡ chip.gates → nets ≡ chip.nets → DriveBelow gate_output nets gates
gates_below chip gates nets is same count = λ k gate at.
    let low = (is.gates k gate (subst (λ (gs : List EmuGate). slice_get gs k ≡ Some gate) same at)).output in
    omega arith

pub registers_below : (chip : Chip) (registers : List EmuRegister) (nets : ℕ) → IsChip chip → registers ≡ chip.registers → nets ≡ chip.nets → DriveBelow register_output nets registers
registers_below chip registers nets is same count = λ k register at.
    let low = (is.registers k register (subst (λ (rs : List EmuRegister). slice_get rs k ≡ Some register) same at)).q in
    omega arith

pub memories_below : (chip : Chip) (memories : List EmuMemory) (nets : ℕ) → IsChip chip → memories ≡ chip.memories → nets ≡ chip.nets → MemoriesBelow nets memories
memories_below chip memories nets is same count = λ m memory at k port there j bit here.
    let fits = is.memories m memory (subst (λ (ms : List EmuMemory). slice_get ms m ≡ Some memory) same at) in
    let low = (fits.reads k port there).bits j bit here in
    omega arith

all_zero : (n m : ℕ) → get_or {A = ℕ} (replicate m 0) n 0 ≡ 0
all_zero n zero = refl
all_zero zero (suc m) = refl
all_zero (suc n) (suc m) = all_zero n m

module _ (chip : Chip) (gates : List EmuGate) (registers : List EmuRegister) (memories : List EmuMemory)
    (none first second third : List ℕ)
    (same-gates : gates ≡ chip.gates) (same-registers : registers ≡ chip.registers) (same-memories : memories ≡ chip.memories)
    (zeros : none ≡ replicate chip.nets 0)
    (by-gates : Adds (gates_of gates) none first)
    (by-registers : Adds (registers_of registers) first second)
    (by-memories : Adds (nets_of (memory_nets memories)) second third) where
  size : length none ≡ chip.nets
  size = ap length zeros ∙ length-replicate chip.nets 0

  last_size : length third ≡ chip.nets
  last_size = by-memories.size ∙ by-registers.size ∙ by-gates.size ∙ size

  counted : (n : ℕ) → n < chip.nets → get_or third n 0 ≡ min 255 (net_drivers chip n)
  counted n low =
      let start : get_or none n 0 ≡ 0 = ap (λ (xs : List ℕ). get_or xs n 0) zeros ∙ all_zero n chip.nets in
      let long = size in
      let a = by-gates.counts n (omega arith) in
      let b = by-registers.counts n (omega (arith, by-gates.size)) in
      let c = by-memories.counts n (omega (arith, by-gates.size, by-registers.size)) in
      let some : gates_of gates n ≡ gates_of chip.gates n = ap (λ (gs : List EmuGate). gates_of gs n) same-gates in
      let more : registers_of registers n ≡ registers_of chip.registers n = ap (λ (rs : List EmuRegister). registers_of rs n) same-registers in
      let rest : nets_of (memory_nets memories) n ≡ nets_of (memory_nets chip.memories) n = ap (λ (ms : List EmuMemory). nets_of (memory_nets ms) n) same-memories in
      omega arith

  -- the least count that is not 1 is that of the least net without exactly one driver
  pub tells : (o : Option ChipNetId) → TellsOther third o → TellsMisdriven chip o
  tells None all = λ n low.
      let long = last_size in
      let one = all n (omega arith) in
      let is = counted n low in
      omega arith
  tells (Some net) least =
      let long = last_size in
      let within = least.within in
      let low : net.place < chip.nets = omega arith in
      let is = counted net.place low in
      record {
        there = low;
        here = λ one. least.here (omega arith);
        earlier = λ m less.
            let one = least.earlier m less in
            let this = counted m (omega arith) in
            omega arith;
      }
