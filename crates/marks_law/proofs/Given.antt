-- Offered to the crates above: what the first of some actions to give anything gives, and what is given on a
-- register.
use Rattle.std.proofs.Common.{◌≡◌, ℕ, suc, Bool, true, false, List, [], ◌∷◌, refl, ap, ◌∙◌, if◌then◌else◌}
use Rattle.std.specs.Prelude.{◌==◌, Option, Some, None, slice_get, option_and_then}
use Rattle.std.specs.Option.{option_or}
use Rattle.emu_machine.specs.declared.map.Subject.{Subject}
use Rattle.emu_machine.specs.declared.netlist.Chip.{Chip}
use Rattle.emu_machine.specs.declared.netlist.EmuRegister.{EmuRegister}
use Rattle.emu_machine.specs.declared.schedule.Action.{Action}
use Rattle.emu_machine.specs.Netlist.{chip_at, is_chip_net}
use Rattle.emu_machine.specs.State.{first_given, on_register}
use Rattle.emu_machine.specs.Acceptance.{same_subjects}
use Rattle.facts.proofs.Tests.{no, number_same}
use Rattle.marks_law.proofs.Inputs.{same_subject_is}

-- where no action gives anything, nothing is given
pub none_given : {A : Type 0} (gives : Action → Option A) (actions : List Action) → ((j : ℕ) (a : Action) → slice_get actions j ≡ Some a → gives a ≡ None) → first_given gives actions ≡ None
none_given gives [] h = refl
none_given gives (a ∷ actions) h =
    ap (λ o. option_or o (first_given gives actions)) (h 0 a refl) ∙ none_given gives actions (λ j. h (suc j))

-- to show a fact of what two rules give on a register, show it where nothing is given and where the net is its Q
module _ {A B : Type 0} (chips : List Chip) (at k c n : ℕ) (f : EmuRegister → Option A) (g : EmuRegister → Option B) (P : Option A → Option B → Type 0)
    (nothing : P None None)
    (on : (register : EmuRegister) → at ≡ c → slice_get (chip_at chips c).registers k ≡ Some register → register.q.place ≡ n → P (f register) (g register)) where
  by_net : (register : EmuRegister) → at ≡ c → slice_get (chip_at chips c).registers k ≡ Some register → (b : Bool) → is_chip_net n register.q ≡ b
      → P (if b then f register else None) (if b then g register else None)
  by_net register here found false e = nothing
  by_net register here found true e = on register here found (number_same _ _ e)

  by_register : at ≡ c → (o : Option EmuRegister) → slice_get (chip_at chips c).registers k ≡ o
      → P (option_and_then (λ register. if is_chip_net n register.q then f register else None) o)
      (option_and_then (λ register. if is_chip_net n register.q then g register else None) o)
  by_register here None e = nothing
  by_register here (Some register) e = by_net register here e (is_chip_net n register.q) refl

  by_chip : (b : Bool) → (at == c) ≡ b
      → P (if b then option_and_then (λ register. if is_chip_net n register.q then f register else None) (slice_get (chip_at chips c).registers k) else None)
      (if b then option_and_then (λ register. if is_chip_net n register.q then g register else None) (slice_get (chip_at chips c).registers k) else None)
  by_chip false e = nothing
  by_chip true e = by_register (number_same _ _ e) (slice_get (chip_at chips c).registers k) refl

  pub on_both : P (on_register chips at k f c n) (on_register chips at k g c n)
  on_both = by_chip (at == c) refl

-- subjects that are the same are equal
pub same_subjects_are : (a b : Option Subject) → same_subjects a b ≡ true → a ≡ b
same_subjects_are None b h = no h
same_subjects_are (Some x) None h = no h
same_subjects_are (Some x) (Some y) h = ap Some (same_subject_is x y h)

-- a net whose subject is the same as one that is told has it
pub same_subjects_is : (o : Option Subject) (what : Subject) → same_subjects o (Some what) ≡ true → o ≡ Some what
same_subjects_is o what h = same_subjects_are o (Some what) h
