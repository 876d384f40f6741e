-- Which nets show the state from before an event, as tables of chips.
-- The rule is told in docs/RULES.md, "Acceptance".
use Rattle.std.specs.Prelude.{◌≡◌, ◌<◌, ◌≤◌, ℕ, Bool, false, if◌then◌else◌, List, [], length, get_or, sum_by}
use Rattle.design_core.specs.declared.parts.Parts.{Parts}
use Rattle.emu_machine.specs.declared.map.Spot.{Spot}
use Rattle.emu_machine.specs.declared.netlist.Chip.{Chip}
use Rattle.emu_machine.specs.declared.netlist.EmuGate.{EmuGate}
use Rattle.emu_machine.specs.Results.{Results}
use Rattle.emu_machine.specs.Netlist.{chip_at}
use Rattle.emu_machine.specs.Marks.{Mark, no_mark, only_before}
use Rattle.emu_machine.specs.Acceptance.{Case, shows_before}
use Rattle.gate_pass.specs.Gates.{value_on}
use Rattle.chip_pass.specs.Chips.{ChipState, ChipOthersWait}

-- the part of a case that A12 goes by
pub record OutputCase : Type 0 where
  pub design : Parts
  pub results : Results

-- a test tells, in each case of this design and these results, whether a net shows the state from before
abbrev pub HasShown : Parts → Results → Spot → Bool → Type 0
HasShown p r spot test = (c : Case) → c.design ≡ p → c.results ≡ r → test ≡ shows_before c spot

-- how many gates some chips have
abbrev pub gate_count : List Chip → ℕ
gate_count chips = sum_by (λ chip. length chip.gates) chips

-- ## Inside: a table for each chip

-- net `n` of chip `c`
abbrev pub spot_at : ℕ → ℕ → Spot
spot_at c n = record { chip = record { place = c }; net = record { place = n } }

-- a table tells of each net of a chip whether it shows the state from before
pub record IsShown (p : Parts) (r : Results) (c : ℕ) (table : List Bool) : Type 0 where
  pub count : length table ≡ (chip_at r.net c).nets
  pub tells : (n : ℕ) → n < (chip_at r.net c).nets → HasShown p r (spot_at c n) (get_or table n false)

-- the same of the first chips, so many
pub record AreFirst (p : Parts) (r : Results) (count : ℕ) (tables : List (List Bool)) : Type 0 where
  pub many : length tables ≡ count
  pub each : (c : ℕ) → c < count → IsShown p r c (get_or tables c [])

-- and of all chips
abbrev pub AreShown : Parts → Results → List (List Bool) → Type 0
AreShown p r tables = AreFirst p r (length r.net) tables

-- one net of a pass has taken "before" alone, if it is kept
pub record HasPut (kept : Bool) (n : ℕ) (old new : ChipState Mark) : Type 0 where
  pub chip : new.chip ≡ old.chip
  pub nets : length new.pass.values ≡ length old.pass.values
  pub here : value_on no_mark new.pass.values n ≡ (if kept then only_before else value_on no_mark old.pass.values n)
  pub others : (m : ℕ) → (m ≡ n → ⊥) → value_on no_mark new.pass.values m ≡ value_on no_mark old.pass.values m
  pub wait : (gives : EmuGate → List Mark → Mark) → ChipOthersWait gives no_mark old → ChipOthersWait gives no_mark new

-- the first nets of a pass, so many, have taken "before" alone where they are kept
pub record HasKept (kept : List Bool) (count : ℕ) (old new : ChipState Mark) : Type 0 where
  pub chip : new.chip ≡ old.chip
  pub nets : length new.pass.values ≡ length old.pass.values
  pub low : (n : ℕ) → n < count
      → value_on no_mark new.pass.values n ≡ (if get_or kept n false then only_before else value_on no_mark old.pass.values n)
  pub high : (n : ℕ) → count ≤ n → value_on no_mark new.pass.values n ≡ value_on no_mark old.pass.values n
  pub wait : (gives : EmuGate → List Mark → Mark) → ChipOthersWait gives no_mark old → ChipOthersWait gives no_mark new
