-- All twelve rules, one after the other, where the influences of the groups are known.
use Rattle.std.proofs.Common.{◌≡◌, ◌<◌, ◌⊎◌, inl, inr, ℕ, Bool, Option, Some, None, sym, subst, arith}
use Rattle.std.specs.Prelude.{◌+◌, Result, Ok, Err, IfOk}
use Rattle.emu_io.specs.declared.no_memory.NoMemory.{NoMemory}
use Rattle.std.proofs.lemmas.Bool.{cases_eq}
use Rattle.design_core.specs.declared.node.NodeId.{NodeId}
use Rattle.design_core.specs.declared.parts.Parts.{Parts}
use Rattle.design_core.specs.Influence.{IsInfluence}
use Rattle.domain_groups.specs.Influences.{AreInfluences, is_marked}
use Rattle.emu_machine.specs.declared.place.Place.{Place}
use Rattle.emu_machine.specs.declared.rule.Rule.{Rule}
use Rattle.emu_machine.specs.declared.rule.Rule.TheVariants.{A1, A2, A3, A4, A5, A6, A7, A8, A9, A10, A11, A12}
use Rattle.emu_machine.specs.Acceptance.{Case, Fails, Influences, rule_number}
use Rattle.use_check.specs.Least.{IsLeast, Never}
use Rattle.shape_check.specs.Influences.{Spread, inside_of}
use Rattle.shape_check.specs.Verdict.{HoldBefore, IsVerdict, IsVerdictOn}
use Rattle.shape_check.specs.declared.verdict.Verdict.{Verdict}
use Rattle.shape_check.specs.declared.verdict.Verdict.TheVariants.{Accepted, Rejected}
use Rattle.shape_check.proofs.Ordered.{first_failure, same_rule}

module _ (c : Case) (inside : ℕ → NodeId → Bool) where
  -- the rules before the one of this number hold
  abbrev pub AllBefore : ℕ → Type 0
  AllBefore n = (other : Rule) → rule_number other < n → Never (Fails c inside other)

  pub at_first : HoldBefore c 10 → AllBefore 10
  at_first before = before inside

  -- a rule that fails nowhere holds besides
  pub and_next : (n : ℕ) (rule : Rule) (o : Option Place) → rule_number rule ≡ n → AllBefore n → IsLeast (Fails c inside rule) o → o ≡ None → AllBefore (n + 1)
  and_next n rule o number before least none other less = go (cases_eq (rule_number other) n)
    where
      go : (rule_number other ≡ n) ⊎ (rule_number other ≡ n → ⊥) → Never (Fails c inside other)
      go (inl same) =
          subst (λ (r : Rule). Never (Fails c inside r)) (same_rule rule other (let e : rule_number rule ≡ rule_number other = omega (arith, number, same) in e))
          (subst (λ (x : Option Place). IsLeast (Fails c inside rule) x) none least)
      go (inr apart) = before other (omega (arith, less, apart))

  -- the first that fails somewhere
  pub and_fails : (n : ℕ) (rule : Rule) (o : Option Place) (at : Place) → rule_number rule ≡ n → AllBefore n → IsLeast (Fails c inside rule) o → o ≡ Some at → IsVerdictOn c inside (Rejected rule at)
  and_fails n rule o at number before least is = record {
    earlier = λ other less. before other (omega (arith, less, number));
    least = subst (λ (x : Option Place). IsLeast (Fails c inside rule) x) is least;
  }

  -- all twelve hold
  pub and_all : AllBefore 13 → IsVerdictOn c inside Accepted
  and_all before rule = before rule (low rule)
    where
      low : (r : Rule) → rule_number r < 13
      low A1 = omega arith
      low A2 = omega arith
      low A3 = omega arith
      low A4 = omega arith
      low A5 = omega arith
      low A6 = omega arith
      low A7 = omega arith
      low A8 = omega arith
      low A9 = omega arith
      low A10 = omega arith
      low A11 = omega arith
      low A12 = omega arith

-- a table tells the influences of the groups
influences_told : (c : Case) (spread : Spread) → spread.design ≡ c.design → AreInfluences c.design c.groups spread.table → Influences c (inside_of spread)
influences_told c spread of are k g at =
    subst (λ (p : Parts). IsInfluence c.design g (is_marked p spread.table k)) (sym of) (are.each k g at)

-- the verdict by the influences that a table tells is the verdict
pub is_verdict : (c : Case) (spread : Spread) → spread.design ≡ c.design → AreInfluences c.design c.groups spread.table
    → (verdict : Verdict) → IsVerdictOn c (inside_of spread) verdict → IsVerdict c verdict
is_verdict c spread of are Accepted on = record { inside = inside_of spread; influences = influences_told c spread of are; rules = on }
is_verdict c spread of are (Rejected rule at) on = first_failure c (inside_of spread) rule at (influences_told c spread of are) on

-- the same of an answer
pub answer_told : (r : Result Verdict NoMemory) (c judged : Case) (spread : Spread) → judged ≡ c → spread.design ≡ c.design → AreInfluences c.design c.groups spread.table
    → IfOk r (λ verdict. IsVerdictOn judged (inside_of spread) verdict) → IfOk r (λ verdict. IsVerdict c verdict)
answer_told (Ok verdict) c judged spread same of are on =
    is_verdict c spread of are verdict (subst (λ (x : Case). IsVerdictOn x (inside_of spread) verdict) same on)
answer_told (Err fault) c judged spread same of are on = tt
