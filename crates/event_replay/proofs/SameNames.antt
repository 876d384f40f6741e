-- Two names that lead to one port are the same.
use Rattle.std.proofs.Common.{◌≡◌, ℕ, ◌+◌, Some, List, [], ◌∷◌, inl, inr, sym, ◌∙◌, arith}
use Rattle.std.specs.List.{position_from}
use Rattle.std.specs.Str.{bytes_eq}
use Rattle.std.proofs.lemmas.Bool.{cases_Bool}
use Rattle.std.proofs.lemmas.Slice.Eq.{bytes_eq-Decides}
use Rattle.design_core.specs.declared.parts.Port.{Port}
use Rattle.domain_groups.proofs.FirstPorts.{position_within, first_yes, first_no}

pub same_name : (from place : ℕ) (ports : List Port) (n m : List ℕ) → position_from (λ port. bytes_eq n port.name) from ports ≡ Some place → position_from (λ port. bytes_eq m port.name) from ports ≡ Some place → n ≡ m
same_name from place [] n m one other = absurd (cc)
same_name from place (port ∷ ports) n m one other =
    let test-n = λ (p : Port). bytes_eq n p.name in
    let test-m = λ (p : Port). bytes_eq m p.name in
    elim (cases_Bool (bytes_eq n port.name)) [
      | inl yes-n ↦ elim (cases_Bool (bytes_eq m port.name)) [
        | inl yes-m ↦ (bytes_eq-Decides n port.name).0 yes-n ∙ sym ((bytes_eq-Decides m port.name).0 yes-m)
        | inr no-m ↦ absurd (let here : Some from ≡ Some place = sym (first_yes test-n from port ports yes-n) ∙ one in
            let place_is : from ≡ place = cc in
            let later = position_within test-m (from + 1) place ports (sym (first_no test-m from port ports no-m) ∙ other) in
            omega (arith, place_is, later.0))
      ]
      | inr no-n ↦ elim (cases_Bool (bytes_eq m port.name)) [
        | inl yes-m ↦ absurd (let here : Some from ≡ Some place = sym (first_yes test-m from port ports yes-m) ∙ other in
            let place_is : from ≡ place = cc in
            let later = position_within test-n (from + 1) place ports (sym (first_no test-n from port ports no-n) ∙ one) in
            omega (arith, place_is, later.0))
        | inr no-m ↦ same_name (from + 1) place ports n m (sym (first_no test-n from port ports no-n) ∙ one) (sym (first_no test-m from port ports no-m) ∙ other)
      ]
    ]
