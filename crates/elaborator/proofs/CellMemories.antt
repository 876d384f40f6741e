-- The memory of an instance of a cell: there is one at most.
use Rattle.std.proofs.Common.{◌≡◌, ◌+◌, ◌^◌, ◌≤◌, ◌∙◌, ℕ, List, [], ◌∷◌, ◌++◌, ap, arith, length, refl, subst, sym}
use Rattle.std.proofs.lemmas.List.{length-append}
use Rattle.std.proofs.lemmas.List.Sums.{sum_by-cons}
use Rattle.cell_table.specs.declared.cell.CellKind.{CellKind}
use Rattle.cell_table.specs.declared.cell.CellKind.TheVariants as kind
use Rattle.cell_table.specs.declared.cell.CellRead.{CellRead}
use Rattle.cell_table.specs.declared.cell.CellWrite.{CellWrite}
use Rattle.cell_table.specs.Sound.{IsSoundKind}
use Rattle.cell_parts.specs.CellElements.{cell_memories}
use Rattle.cell_parts.specs.CellStates.{memory_at}
use Rattle.cell_parts.specs.Wires.{Wires}
use Rattle.design_core.specs.declared.element.Memory.{Memory}
use Rattle.flattening.specs.Pieces.{words_in}
use Rattle.elaborator.proofs.Joining.{zero_more}

pub words_of_memory : (w : Wires) {k : CellKind} {a width : ℕ} {writes : List CellWrite} {reads : List CellRead} → k ≡ kind.Memory a width writes reads → words_in (cell_memories w k) ≡ 2 ^ a
unfolding cell_memories
words_of_memory w {k = k} {a = a} {width = width} {writes = writes} {reads = reads} e =
    ap (λ (k : CellKind). words_in (cell_memories w k)) e
    ∙ sum_by-cons (λ (m : Memory). 2 ^ m.address_bits) (memory_at w a width writes reads) []
    ∙ zero_more (2 ^ a)

few : (w : Wires) (k : CellKind) → length (cell_memories w k) ≤ 1
unfolding cell_memories
few w (kind.Comb inputs outputs) = omega arith
few w (kind.Flop clock feed clear preset q qn) = omega arith
few w (kind.Latch gate feed clear preset q qn) = omega arith
few w (kind.GateClock clock enable test output) = omega arith
few w (kind.Memory a width writes reads) = omega arith

none_before : (rest : List Memory) (m : Memory) → length (rest ++ m ∷ []) ≤ 1 → rest ≡ []
none_before [] m is = refl
none_before (first ∷ rest) m is = absurd (omega (arith, is, length-append rest (m ∷ [])))

-- what is taken from its memories is the only one
pub only_memory : (w : Wires) (k : CellKind) (m : Memory) (rest : List Memory) → cell_memories w k ≡ rest ++ m ∷ [] → cell_memories w k ≡ m ∷ []
only_memory w k m rest is =
    is ∙ ap (λ l. l ++ m ∷ []) (none_before rest m (subst (λ (l : List Memory). length l ≤ 1) is (few w k)))

first_bits : List Memory → ℕ
first_bits [] = 0
first_bits (m ∷ ms) = m.address_bits

pub sound_bits : (w : Wires) (k : CellKind) (m : Memory) → IsSoundKind k → cell_memories w k ≡ m ∷ [] → m.address_bits ≤ 16
unfolding cell_memories first_bits
sound_bits w (kind.Comb inputs outputs) m sound is = absurd (omega (arith, ap (λ (l : List Memory). length l) is))
sound_bits w (kind.Flop clock feed clear preset q qn) m sound is = absurd (omega (arith, ap (λ (l : List Memory). length l) is))
sound_bits w (kind.Latch gate feed clear preset q qn) m sound is = absurd (omega (arith, ap (λ (l : List Memory). length l) is))
sound_bits w (kind.GateClock clock enable test output) m sound is = absurd (omega (arith, ap (λ (l : List Memory). length l) is))
sound_bits w (kind.Memory a width writes reads) m sound is = subst (λ n. n ≤ 16) (ap first_bits is) sound.few_address_bits
