-- One rule after the other: which is the first that fails.
use Rattle.std.proofs.Common.{◌≡◌, ◌<◌, ◌≤◌, ◌+◌, ◌⊎◌, inl, inr, ℕ, Bool, false, Option, Some, None, refl, sym, ap, ◌∙◌, subst, arith, if◌then◌else◌}
use Rattle.std.specs.Prelude.{◌==◌, Result, Ok, Err, IfOk}
use Rattle.emu_io.specs.declared.no_memory.NoMemory.{NoMemory}
use Rattle.std.proofs.lemmas.Bool.{cases_eq}
use Rattle.design_core.specs.declared.node.NodeId.{NodeId}
use Rattle.emu_machine.specs.declared.place.Place.{Place}
use Rattle.emu_machine.specs.declared.rule.Rule.{Rule}
use Rattle.emu_machine.specs.declared.rule.Rule.TheVariants.{A1, A2, A3, A4, A5, A6, A7, A8, A9, A10, A11, A12}
use Rattle.emu_machine.specs.Acceptance.{Case, Fails, rule_number}
use Rattle.use_check.specs.Least.{IsLeast, Never}
use Rattle.shape_check.specs.Verdict.{FirstIsFirstFailure, HoldBefore, IsShapeVerdict}
use Rattle.shape_check.specs.declared.verdict.Verdict.TheVariants.{Accepted, Rejected}

-- the rule of a number
abbrev rule_of : ℕ → Rule
rule_of n =
    if n == 1 then A1
    else if n == 2 then A2
    else if n == 3 then A3
    else if n == 4 then A4
    else if n == 5 then A5
    else if n == 6 then A6
    else if n == 7 then A7
    else if n == 8 then A8
    else if n == 9 then A9
    else if n == 10 then A10
    else if n == 11 then A11
    else A12

numbered : (r : Rule) → rule_of (rule_number r) ≡ r
numbered A1 = refl
numbered A2 = refl
numbered A3 = refl
numbered A4 = refl
numbered A5 = refl
numbered A6 = refl
numbered A7 = refl
numbered A8 = refl
numbered A9 = refl
numbered A10 = refl
numbered A11 = refl
numbered A12 = refl

pub same_rule : (a b : Rule) → rule_number a ≡ rule_number b → a ≡ b
same_rule a b e = sym (numbered a) ∙ ap rule_of e ∙ numbered b

-- the least place at which a rule fails, whatever the influences are
abbrev Finds : Case → Rule → Option Place → Type 0
Finds c rule at = (inside : ℕ → NodeId → Bool) → IsLeast (Fails c inside rule) at

module _ (c : Case) where
  pub none_before : (n : ℕ) → n ≤ 1 → HoldBefore c n
  none_before n low inside other less = absurd (some other less)
    where
      some : (r : Rule) → rule_number r < n → ⊥
      some A1 l = omega (arith, l, low)
      some A2 l = omega (arith, l, low)
      some A3 l = omega (arith, l, low)
      some A4 l = omega (arith, l, low)
      some A5 l = omega (arith, l, low)
      some A6 l = omega (arith, l, low)
      some A7 l = omega (arith, l, low)
      some A8 l = omega (arith, l, low)
      some A9 l = omega (arith, l, low)
      some A10 l = omega (arith, l, low)
      some A11 l = omega (arith, l, low)
      some A12 l = omega (arith, l, low)

  -- a rule that fails nowhere holds besides those before it
  pub one_more : (k n : ℕ) (rule : Rule) (at : Option Place) → rule_number rule ≡ k + 1 → n ≡ k + 2 → HoldBefore c (k + 1)
      → Finds c rule at → at ≡ None → HoldBefore c n
  one_more k n rule at number next before found none inside other less = go (cases_eq (rule_number other) (k + 1))
    where
      go : (rule_number other ≡ k + 1) ⊎ (rule_number other ≡ k + 1 → ⊥) → Never (Fails c inside other)
      go (inl same) =
          subst (λ (r : Rule). Never (Fails c inside r)) (sym (same_rule other rule (same ∙ sym number)))
          (subst (λ (o : Option Place). IsLeast (Fails c inside rule) o) none (found inside))
      go (inr apart) = before inside other (omega (arith, less, next, apart))

  pub accepts : (k : ℕ) → 9 ≤ k → HoldBefore c (k + 1) → IsShapeVerdict c Accepted
  accepts k end before inside rule low = before inside rule (omega (arith, end, low))

  pub rejects : (k : ℕ) (rule : Rule) (o : Option Place) (at : Place) → rule_number rule ≡ k + 1 → k < 9 → HoldBefore c (k + 1)
      → Finds c rule o → o ≡ Some at → IsShapeVerdict c (Rejected rule at)
  rejects k rule o at number low before found is = (
    omega (arith, number, low),
    λ (inside : ℕ → NodeId → Bool). record {
      earlier = λ (other : Rule) (less : rule_number other < rule_number rule). before inside other (omega (arith, less, number));
      least = subst (λ (p : Option Place). IsLeast (Fails c inside rule) p) is (found inside);
    },
  )

  -- what was found of a rule by its name
  pub finds : (name rule : Rule) (at : Option Place) → rule ≡ name → Finds c name at → Finds c rule at
  finds name rule at is found = subst (λ (r : Rule). Finds c r at) (sym is) found

  pub finds_told : (name rule : Rule) (r : Result (Option Place) NoMemory) → rule ≡ name
      → ((inside : ℕ → NodeId → Bool) → IfOk r (λ at. IsLeast (Fails c inside name) at)) → IfOk r (λ at. Finds c rule at)
  finds_told name rule (Ok at) is found = finds name rule at is found
  finds_told name rule (Err e) is found = found (λ _ _. false)

  -- a rule before one holds
  pub granted : (rule other : Rule) (n : ℕ) → HoldBefore c (rule_number rule) → rule ≡ other → n < rule_number other → (r : Rule) → rule_number r ≡ n
      → Never (Fails c (λ _ _. false) r)
  granted rule other n before is less r number =
      before (λ _ _. false) r (subst (λ (x : Rule). rule_number r < rule_number x) (sym is) (omega (arith, number, less)))

pub first_failure : FirstIsFirstFailure
first_failure c inside rule at influences first = record {
  inside = inside;
  influences = influences;
  earlier = first.earlier;
  here = first.least.0;
  least = first.least.1;
}
