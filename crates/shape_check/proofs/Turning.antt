-- A2: the chips are taken in order.
use Rattle.std.proofs.Common.{◌≡◌, ◌<◌, ◌≤◌, ◌+◌, ◌⊎◌, inl, inr, ℕ, List, [], ◌∷◌, length, Option, None, Some, refl, sym, subst, ap, ◌∙◌, arith}
use Rattle.std.specs.Prelude.{Result, Ok, Err, IfOk, slice_get, unwrap_or}
use Rattle.emu_io.specs.declared.no_memory.NoMemory.{NoMemory}
use Rattle.std.proofs.lemmas.Bool.{cases_eq, cases_lt}
use Rattle.std.proofs.lemmas.Option.{none-some, slice_get_past}
use Rattle.id_arena.specs.declared.keys.ChipId.{ChipId}
use Rattle.emu_machine.specs.declared.netlist.Chip.{Chip}
use Rattle.emu_machine.specs.Building.{IsBuilt}
use Rattle.emu_machine.specs.Netlist.{chip_at, net_drivers, no_chip, IsOnCycle, LeadsTo, next, through}
use Rattle.emu_machine.specs.declared.place.Place.{Place}
use Rattle.emu_machine.specs.declared.place.Place.TheVariants as place
use Rattle.emu_machine.specs.Acceptance.{Case, FailsA2, Precedes, place_key}
use Rattle.gate_cycles.specs.Gates.{IsDriven, IsLeastOnCycle}
use Rattle.use_check.specs.Least.{IsLeast}

-- a chip that is not there has no gates
no_way : (j k : ℕ) → LeadsTo no_chip j k → ⊥
no_way j k (next a b x y ax by h) = none-some x ax
no_way j k (through a b d l m) = no_way a b l

module _ (chips : List Chip) where
  chip_is : (k : ℕ) (o : Option Chip) → slice_get chips k ≡ o → o ≡ None → chip_at chips k ≡ no_chip
  chip_is k o e n = ap (λ (x : Option Chip). unwrap_or x no_chip) (e ∙ n)

  pub no_cycle : (k : ℕ) → slice_get chips k ≡ None → IsLeastOnCycle (chip_at chips k) None
  no_cycle k e = subst (λ (chip : Chip). IsLeastOnCycle chip None) (sym (chip_is k None e refl)) (λ (g : ℕ) (on : IsOnCycle no_chip g). no_way g g on)

  pub driven : IsBuilt chips → (k : ℕ) (chip : Chip) → slice_get chips k ≡ Some chip → IsDriven chip
  driven b k chip at =
      let is : chip_at chips k ≡ chip = ap (λ (x : Option Chip). unwrap_or x no_chip) at in
      record {
        formed = b.formed.each k chip at;
        driven = subst (λ (x : Chip). (n : ℕ) → n < x.nets → net_drivers x n ≡ 1) is (b.netlist k);
      }

  pub same_chip : (k : ℕ) (chip : Chip) (o : Option ℕ) → slice_get chips k ≡ Some chip → IsLeastOnCycle chip o → IsLeastOnCycle (chip_at chips k) o
  same_chip k chip o at h =
      subst (λ (x : Chip). IsLeastOnCycle x o) (sym (ap (λ (x : Option Chip). unwrap_or x no_chip) at)) h

  pub same_told : (k : ℕ) (chip : Chip) (r : Result (Option ℕ) NoMemory) → slice_get chips k ≡ Some chip → IfOk r (λ o. IsLeastOnCycle chip o)
      → IfOk r (λ o. IsLeastOnCycle (chip_at chips k) o)
  same_told k chip (Ok o) at h = same_chip k chip o at h
  same_told k chip (Err e) at h = h

module _ (c : Case) where
  -- no gate of the first chips lies on a cycle
  abbrev pub NoneBefore : ℕ → Type 0
  NoneBefore k = (j g : ℕ) → j < k → IsOnCycle (chip_at c.results.net j) g → ⊥

  pub more : (k n : ℕ) (o : Option ℕ) → NoneBefore k → IsLeastOnCycle (chip_at c.results.net k) o → o ≡ None → n ≡ k + 1 → NoneBefore n
  more k n o before here none is j g low on = go (cases_eq j k)
    where
      go : (j ≡ k) ⊎ (j ≡ k → ⊥) → ⊥
      go (inl same) =
          subst (λ (x : Option ℕ). IsLeastOnCycle (chip_at c.results.net k) x) none here g
          (subst (λ (i : ℕ). IsOnCycle (chip_at c.results.net i) g) same on)
      go (inr apart) = before j g (omega (arith, low, is, apart)) on

  pub none_at_all : (k : ℕ) → NoneBefore k → length c.results.net ≤ k → IsLeast (FailsA2 c) None
  none_at_all k before end (place.Gate chip gate) f = go (cases_lt chip.place k)
    where
      go : (chip.place < k) ⊎ (k ≤ chip.place) → ⊥
      go (inl low) = before chip.place gate low f
      go (inr high) = no_cycle c.results.net chip.place (slice_get_past c.results.net chip.place (omega (arith, high, end))) gate f
  none_at_all k before end other f = f

  pub found : (chip : ChipId) (gate : ℕ) (o : Option ℕ) → NoneBefore chip.place → IsLeastOnCycle (chip_at c.results.net chip.place) o → o ≡ Some gate
      → IsLeast (FailsA2 c) (Some (place.Gate chip gate))
  found chip gate o before here is = (least.0, earlier)
    where
      least : IsLeastOnCycle (chip_at c.results.net chip.place) (Some gate)
      least = subst (λ (x : Option ℕ). IsLeastOnCycle (chip_at c.results.net chip.place) x) is here

      earlier : (other : Place) → Precedes (place_key other) (chip.place ∷ 0 ∷ gate ∷ []) → FailsA2 c other → ⊥
      earlier (place.Gate b g) (inl low) f = before b.place g low f
      earlier (place.Gate b g) (inr (same, inl low)) f = absurd (omega (arith, low))
      earlier (place.Gate b g) (inr (same, inr (zero, inl low))) f =
          least.1 g low (subst (λ (k : ℕ). IsOnCycle (chip_at c.results.net k) g) same f)
      earlier (place.Gate b g) (inr (same, inr (zero, inr (equal, p)))) f = absurd p
      earlier other p f = f
