-- A pass over a chip tells of each net whether "before" comes to it from what is kept.
use Rattle.std.proofs.Common.{◌≡◌, ◌<◌, ◌≤◌, ℕ, zero, suc, Bool, true, false, List, length, map, get_or, if◌then◌else◌, refl, sym, subst, ap, ◌∙◌, inl, inr, arith}
use Rattle.std.specs.Prelude.{◌⊎◌, Option, Some, None, replicate}
use Rattle.std.specs.Option.{option_map_or}
use Rattle.std.proofs.lemmas.Bool.{cases_lt}
use Rattle.std.proofs.lemmas.List.{get_or-map, get_or-replicate, get_or_past, length-map, length-replicate}
use Rattle.design_core.specs.declared.parts.Parts.{Parts}
use Rattle.id_arena.specs.declared.keys.ChipNetId.{ChipNetId}
use Rattle.emu_machine.specs.declared.netlist.Chip.{Chip}
use Rattle.emu_machine.specs.declared.netlist.EmuGate.{EmuGate}
use Rattle.emu_machine.specs.declared.map.Spot.{Spot}
use Rattle.emu_machine.specs.Building.{IsBuilt}
use Rattle.emu_machine.specs.Results.{Results}
use Rattle.emu_machine.specs.Netlist.{chip_at, gate_of, on_net, through_gates}
use Rattle.emu_machine.specs.Mapped.{is_kept}
use Rattle.emu_machine.specs.Marks.{Mark, no_mark, only_before}
use Rattle.emu_machine.specs.Acceptance.{shows_before}
use Rattle.gate_pass.specs.Gates.{value_on}
use Rattle.chip_pass.specs.Chips.{ChipState, ChipHasSettled}
use Rattle.chip_pass.proofs.Through.{same_map, through_free}
use Rattle.mark_rule.specs.Gates.{plain_gives}
use Rattle.mark_rule.specs.Kept.{AreKept}
use Rattle.mark_rule.proofs.Free.{chip_formed, free_far, kept_low}
use Rattle.output_marks.specs.Shown.{HasShown, IsShown, HasKept, spot_at}

-- what comes through gates is the same from sources that are the same
module _ {A : Type 0} (chip : Chip) (source other : ℕ → A) (combine : EmuGate → List A → A) (same : (n : ℕ) → source n ≡ other n) where
  same_within : (room n : ℕ) → on_net chip source combine room n ≡ on_net chip other combine room n
  same_within zero n = same n
  same_within (suc room) n = go (same_within room) (gate_of chip n)
    where
      go : ((m : ℕ) → on_net chip source combine room m ≡ on_net chip other combine room m) → (o : Option EmuGate)
          → option_map_or (λ gate. combine gate (map (λ i. on_net chip source combine room i.place) gate.inputs)) o (source n)
          ≡ option_map_or (λ gate. combine gate (map (λ i. on_net chip other combine room i.place) gate.inputs)) o (other n)
      go deep None = same n
      go deep (Some gate) =
          ap (combine gate) (same_map (λ (i : ChipNetId). on_net chip source combine room i.place) (λ (i : ChipNetId). on_net chip other combine room i.place) gate.inputs (λ i has. deep i.place))

  pub same_through : (n : ℕ) → through_gates chip source combine n ≡ through_gates chip other combine n
  same_through n = same_within (length chip.gates) n

-- the mark that a net begins with
abbrev pub first_mark : Results → ℕ → ℕ → Mark
first_mark r c n = if is_kept r c n then only_before else no_mark

-- the marks that come to a net
abbrev pub marks_shown : Parts → Results → ℕ → ℕ → Mark
marks_shown p r c n = through_gates (chip_at r.net c) (first_mark r c) (plain_gives p r c) n

-- a test that says whether "before" comes to a net says what A12 asks
pub shown_so : (p : Parts) (r : Results) (spot : Spot) (test : Bool) → test ≡ (marks_shown p r spot.chip.place spot.net.place).before → HasShown p r spot test
shown_so p r spot test so c design results =
    so
    ∙ ap (λ (q : Parts). (marks_shown q r spot.chip.place spot.net.place).before) (sym design)
    ∙ ap (λ (s : Results). (marks_shown c.design s spot.chip.place spot.net.place).before) (sym results)

-- and what it says is one answer for all cases
pub shown_as : (p : Parts) (r : Results) (spot other : Spot) (test same : Bool) → spot ≡ other → test ≡ same → HasShown p r spot same → HasShown p r other test
shown_as p r spot other test same e f h = λ c design results. f ∙ h c design results ∙ ap (shows_before c) e

module _ (p : Parts) (r : Results) (built : IsBuilt r.net) (c : ℕ) where
  -- a net that is not there is not kept
  not_kept : (n : ℕ) → (chip_at r.net c).nets ≤ n → is_kept r c n ≡ false
  not_kept n far = go (is_kept r c n) refl
    where
      go : (b : Bool) → is_kept r c n ≡ b → is_kept r c n ≡ false
      go false e = e
      go true e = let low : n < (chip_at r.net c).nets = kept_low r built c n e in absurd (omega arith)

  -- and nothing comes to it
  pub far_shown : (spot : Spot) → spot.chip.place ≡ c → (chip_at r.net c).nets ≤ spot.net.place → HasShown p r spot false
  far_shown spot is far =
      let n : ℕ = spot.net.place in
      let none : through_gates (chip_at r.net c) (first_mark r c) (plain_gives p r c) spot.net.place ≡ no_mark =
      through_free (chip_at r.net c) (first_mark r c) (plain_gives p r c) spot.net.place
      (free_far (chip_at r.net c) (chip_formed r.net built.formed c) (built.netlist c) spot.net.place far)
      ∙ ap (λ (b : Bool). if b then only_before else no_mark) (not_kept spot.net.place far) in
      shown_so p r spot false (sym (ap (λ (k : ℕ). (marks_shown p r k spot.net.place).before) is ∙ ap (λ (m : Mark). m.before) none))

  module _ (kept : List Bool) (are : AreKept r c kept) (start old new : ChipState Mark) (count : ℕ)
      (is_chip : start.chip ≡ chip_at r.net c) (blank : start.pass.values ≡ replicate count no_mark) (nets : count ≡ (chip_at r.net c).nets)
      (put : HasKept kept count start old) (settled : ChipHasSettled (plain_gives p r c) no_mark old new) where
    blank_at : (n : ℕ) → value_on no_mark start.pass.values n ≡ no_mark
    blank_at n = ap (λ (v : List Mark). value_on no_mark v n) blank ∙ go (cases_lt n count)
      where
        go : (n < count) ⊎ (count ≤ n) → value_on no_mark (replicate count no_mark) n ≡ no_mark
        go (inl low) = get_or-replicate count n no_mark no_mark low
        go (inr past) = let size : length (replicate count no_mark) ≡ count = length-replicate count no_mark in get_or_past (replicate count no_mark) n no_mark (omega (arith, size, past))

    -- the nets begin as A12 says
    begins : (n : ℕ) → value_on no_mark old.pass.values n ≡ first_mark r c n
    begins n = go (cases_lt n count)
      where
        go : (n < count) ⊎ (count ≤ n) → value_on no_mark old.pass.values n ≡ first_mark r c n
        go (inl low) =
            let there : n < (chip_at r.net c).nets = omega (arith, low, nets) in
            put.low n low
            ∙ ap (λ (m : Mark). if get_or kept n false then only_before else m) (blank_at n)
            ∙ ap (λ (b : Bool). if b then only_before else no_mark) (are.tells n there)
        go (inr past) =
            let far : (chip_at r.net c).nets ≤ n = omega (arith, past, nets) in
            put.high n past ∙ blank_at n ∙ ap (λ (b : Bool). if b then only_before else no_mark) (sym (not_kept n far))

    same_chip : old.chip ≡ chip_at r.net c
    same_chip = put.chip ∙ is_chip

    comes : (n : ℕ) → n < (chip_at r.net c).nets → value_on no_mark new.pass.values n ≡ marks_shown p r c n
    comes n low =
        settled.through n (subst (λ (chip : Chip). n < chip.nets) (sym same_chip) low)
        ∙ ap (λ (chip : Chip). through_gates chip (λ k. value_on no_mark old.pass.values k) (plain_gives p r c) n) same_chip
        ∙ same_through (chip_at r.net c) (λ k. value_on no_mark old.pass.values k) (first_mark r c) (plain_gives p r c) begins n

    -- so the table is right
    pub table_shown : (table : List Bool) → table ≡ map (λ (m : Mark). m.before) new.pass.values → IsShown p r c table
    table_shown table are_befores = record { count = size; tells = λ n low. shown_so p r (spot_at c n) (get_or table n false) (tells n low) }
      where
        many : length new.pass.values ≡ (chip_at r.net c).nets
        many =
            let begun : length start.pass.values ≡ count = ap length blank ∙ length-replicate count no_mark in
            settled.pass.nets ∙ put.nets ∙ begun ∙ nets

        size : length table ≡ (chip_at r.net c).nets
        size = ap length are_befores ∙ length-map new.pass.values (λ (m : Mark). m.before) ∙ many

        tells : (n : ℕ) → n < (chip_at r.net c).nets → get_or table n false ≡ (marks_shown p r c n).before
        tells n low =
            let there : n < length new.pass.values = omega (arith, many, low) in
            ap (λ (bs : List Bool). get_or bs n false) are_befores
            ∙ get_or-map (λ (m : Mark). m.before) new.pass.values n no_mark false there
            ∙ ap (λ (m : Mark). m.before) (comes n low)
