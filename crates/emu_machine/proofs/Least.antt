-- The least net of several chips that has not exactly one driver.
use Rattle.std.proofs.Common.{◌≡◌, ◌<◌, ◌≤◌, ◌+◌, ◌∙◌, ℕ, List, Option, None, Some, inl, inr, slice_get, length, subst, sym, ap, arith}
use Rattle.std.specs.Prelude.{◌⊎◌, unwrap_or}
use Rattle.std.proofs.lemmas.Bool.{cases_eq, cases_lt}
use Rattle.std.proofs.lemmas.Option.{slice_get_past}
use Rattle.id_arena.specs.declared.keys.ChipNetId.{ChipNetId}
use Rattle.emu_machine.specs.declared.netlist.Chip.{Chip}
use Rattle.emu_machine.specs.Netlist.{no_chip, chip_at, net_drivers, IsNetlist}
use Rattle.emu_machine.specs.Building.{IsLeastMisdriven}
use Rattle.emu_machine.specs.Counts.{TellsMisdriven}

-- the nets of the chips before chip `k` have one driver each
abbrev pub AreDriven : List Chip → ℕ → Type 0
AreDriven chips k = (c n : ℕ) → c < k → n < (chip_at chips c).nets → net_drivers (chip_at chips c) n ≡ 1

is_at : (chips : List Chip) (k : ℕ) (chip : Chip) → slice_get chips k ≡ Some chip → chip_at chips k ≡ chip
is_at chips k chip at = ap (λ (o : Option Chip). unwrap_or o no_chip) at

pub driven_next : (chips : List Chip) (k : ℕ) (chip : Chip) → slice_get chips k ≡ Some chip → TellsMisdriven chip None → AreDriven chips k → AreDriven chips (k + 1)
driven_next chips k chip at all before = λ c n less low. go c n low (cases_eq c k) less
  where
    go : (c n : ℕ) → n < (chip_at chips c).nets → (c ≡ k) ⊎ (c ≡ k → ⊥) → c < k + 1 → net_drivers (chip_at chips c) n ≡ 1
    go c n low (inl same) less =
        let is : chip_at chips c ≡ chip = ap (chip_at chips) same ∙ is_at chips k chip at in
        let within : n < chip.nets = subst (λ (h : Chip). n < h.nets) is low in
        subst (λ (h : Chip). net_drivers h n ≡ 1) (sym is) (all n within)
    go c n low (inr other) less = before c n (omega (arith, other)) low

pub least_of_all : (chips : List Chip) (k : ℕ) (chip : Chip) (net : ChipNetId) (c : ℕ) → slice_get chips k ≡ Some chip → TellsMisdriven chip (Some net) → AreDriven chips k → c ≡ k → IsLeastMisdriven chips c net.place
least_of_all chips k chip net c at least before same =
    let is : chip_at chips c ≡ chip = ap (chip_at chips) same ∙ is_at chips k chip at in
    record {
      there = subst (λ (h : Chip). net.place < h.nets) (sym is) least.there;
      here = λ one. least.here (subst (λ (h : Chip). net_drivers h net.place ≡ 1) is one);
      earlier = earlier is;
    }
  where
    earlier : chip_at chips c ≡ chip → (b m : ℕ) → m < (chip_at chips b).nets → (b < c) ⊎ ((b ≡ c) × (m < net.place)) → net_drivers (chip_at chips b) m ≡ 1
    earlier is b m low (inl less) = before b m (omega (arith, same)) low
    earlier is b m low (inr here) =
        let this : chip_at chips b ≡ chip = ap (chip_at chips) here.0 ∙ is in
        subst (λ (h : Chip). net_drivers h m ≡ 1) (sym this) (least.earlier m here.1)

-- where the nets of all chips have one driver each, they make a netlist
pub driven_all : (chips : List Chip) (k : ℕ) → length chips ≤ k → AreDriven chips k → IsNetlist chips
driven_all chips k all driven = λ c n low. driven c n (go c n low (cases_lt c k)) low
  where
    go : (c n : ℕ) → n < (chip_at chips c).nets → (c < k) ⊎ (k ≤ c) → c < k
    go c n low (inl less) = less
    go c n low (inr past) =
        let none : chip_at chips c ≡ no_chip = ap (λ (o : Option Chip). unwrap_or o no_chip) (slice_get_past chips c (omega arith)) in
        let below : n < no_chip.nets = subst (λ (h : Chip). n < h.nets) none low in
        absurd (omega (arith, below))
