-- A text of fewer than 2^32 words has chips whose parts can be numbered.
use Rattle.std.proofs.Common.{◌≡◌, ◌+◌, ◌*◌, ◌<◌, ◌≤◌, ◌^◌, ℕ, zero, suc, List, [], ◌∷◌, ◌++◌, Some, length, slice_get, refl, ap, subst, arith}
use Rattle.std.specs.Prelude.{sum_by}
use Rattle.std.proofs.Math.Nat.{suc-mul}
use Rattle.std.proofs.lemmas.List.{length-append}
use Rattle.std.proofs.lemmas.List.Sums.{sum_by-cons}
use Rattle.std.proofs.lemmas.Option.{same_Some}
use Rattle.token_words.specs.Word.{Word, close_parenthesis, semicolon}
use Rattle.id_arena.specs.declared.keys.ChipNetId.{ChipNetId}
use Rattle.emu_machine.specs.declared.netlist.Chip.{Chip}
use Rattle.emu_machine.specs.declared.netlist.EmuGate.{EmuGate}
use Rattle.emu_machine.specs.declared.netlist.EmuMemory.{EmuMemory}
use Rattle.emu_machine.specs.declared.netlist.EmuRegister.{EmuRegister}
use Rattle.emu_machine.specs.Building.{AreChips, IsChip}
use Rattle.netlist_reader.specs.Netlist.{HasForms, SaysChips, body_words, chip_words, closed_words, gate_pins, gate_words, lines, memory_words, more_words, netlist_words, register_words, wires}
use Rattle.netlist_reader.proofs.Bodies.{ends, t2, t3, t4}
use Rattle.netlist_reader.proofs.NumberedLines.{lines_from}

-- lines have a word for each item at least, and as many more as each item weighs
lines_weigh : {X : Type 0} (f : X → ℕ) (line : ℕ × X → List Word) → ((j : ℕ) (x : X) → f x + 1 ≤ length (line (j, x))) → (k : ℕ) (xs : List X) → sum_by f xs + length xs ≤ length (lines_from line k xs)
lines_weigh f line least k [] = omega arith
lines_weigh f line least k (x ∷ xs) =
    let first = least k x in
    let rest = lines_weigh f line least (k + 1) xs in
    let sum = sum_by-cons f x xs in
    let sizes = length-append (line (k, x)) (lines_from line (k + 1) xs) in
    omega arith

line_within : {X : Type 0} (line : ℕ × X → List Word) (k : ℕ) (xs : List X) (c : ℕ) (x : X) → slice_get xs c ≡ Some x → (j : ℕ) × (length (line (j, x)) ≤ length (lines_from line k xs))
line_within {X = X} line k [] c x e = absurd (no_item c e)
  where
    no_item : (j : ℕ) → slice_get {X = X} [] j ≡ Some x → ⊥
    no_item j f = cc
line_within line k (y ∷ ys) zero x e =
    let sizes = length-append (line (k, y)) (lines_from line (k + 1) ys) in
    (k, subst (λ z. length (line (k, z)) ≤ length (line (k, y) ++ lines_from line (k + 1) ys)) (same_Some y x e) (omega arith))
line_within line k (y ∷ ys) (suc c) x e =
    let found = line_within line (k + 1) ys c x e in
    let below = found.1 in
    let sizes = length-append (line (k, y)) (lines_from line (k + 1) ys) in
    (found.0, omega arith)

more_size : (ns : List ChipNetId) → length (more_words ns) ≡ length ns * 2
more_size [] = omega arith
more_size (n ∷ ns) = (let rest = more_size ns in let product = suc-mul (length ns) 2 in omega arith)

gate_size : (j : ℕ) (gate : EmuGate) → length gate.inputs + 1 ≤ length (gate_words (j, gate))
gate_size j gate =
    let more = more_size gate.inputs in
    let closed = length-append (more_words gate.inputs) (close_parenthesis ∷ []) in
    let whole = length-append (closed_words (gate_pins gate)) (semicolon ∷ []) in
    omega arith

-- the parts of a chip are fewer than the words of its module
body_size : (chip : Chip) → (sum_by (λ gate. length gate.inputs) chip.gates + length chip.gates + 1 ≤ length (body_words chip)) × (length chip.registers + 1 ≤ length (body_words chip)) × (length chip.memories + 1 ≤ length (body_words chip))
body_size chip =
    let gates = lines_weigh (λ (gate : EmuGate). length gate.inputs) gate_words gate_size 0 chip.gates in
    let registers = lines_weigh (λ (r : EmuRegister). 0) register_words (λ j r. omega arith) 0 chip.registers in
    let memories = lines_weigh (λ (m : EmuMemory). 0) memory_words (λ j m. omega arith) 0 chip.memories in
    let s1 = length-append (wires chip.nets) (t2 chip.gates chip.registers chip.memories) in
    let s2 = length-append (lines gate_words chip.gates) (t3 chip.registers chip.memories) in
    let s3 = length-append (lines register_words chip.registers) (t4 chip.memories) in
    let s4 = length-append (lines memory_words chip.memories) ends in
    (omega arith, omega arith, omega arith)

chip_is : (chip : Chip) → HasForms chip → length (body_words chip) < 2 ^ 32 → IsChip chip
chip_is chip is few =
    let sizes = body_size chip in
    let first = sizes.0 in
    let second = sizes.1 in
    let third = sizes.2 in
    record {
      gates = is.gates;
      registers = is.registers;
      memories = is.memories;
      few_gates = omega arith;
      few_registers = omega arith;
      few_memories = omega arith;
      few_inputs = omega arith;
    }

pub are_chips : (words : List Word) (chips : List Chip) → length words < 2 ^ 32 → SaysChips words chips → AreChips chips
are_chips words chips few is =
    let size : length words ≡ length (netlist_words chips) = ap length is.words_are in
    let weigh = lines_weigh (λ (c : Chip). 1) chip_words (λ j c. omega arith) 0 chips in
    let ones = sum_ones chips in
    record {
      few = omega arith;
      each = λ c chip e.
          let within = line_within chip_words 0 chips c chip e in
          let below = within.1 in
          chip_is chip (is.forms c chip e) (omega arith);
    }
  where
    sum_ones : (cs : List Chip) → sum_by (λ (c : Chip). 1) cs ≡ length cs
    sum_ones [] = refl
    sum_ones (c ∷ cs) = (let rest = sum_ones cs in let sum = sum_by-cons (λ (d : Chip). 1) c cs in omega arith)
