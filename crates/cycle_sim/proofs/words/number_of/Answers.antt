-- What so many bits show is below the power of two.
use Rattle.std.proofs.Common.{◌≡◌, ◌<◌, ◌^◌, ℕ, drop, length, subst, sym, ap, ◌∙◌, arith}
use Rattle.design_core.specs.Operation.{number}
use Rattle.cycle_sim.specs.Values.{values_in}
use Rattle.cycle_sim.proofs.Showing.{shown_low, rest_low}
use Rattle.cycle_sim.proofs.words.number_of.Goals as goal

pub overflow_mul-number : goal.overflow_mul-number
overflow_mul-number c =
    let low : c.bits.number < 2 ^ 127 = subst (λ (k : ℕ). k < 2 ^ 127) (sym c.bits.invariant.number) (rest_low c.args.table.now c.args.bits.now c.bits.place c.requires.few c.bits-test.true) in
    omega (arith, low)

pub overflow_add-number : goal.overflow_add-number
overflow_add-number c =
    let low : c.bits.number < 2 ^ 127 = subst (λ (k : ℕ). k < 2 ^ 127) (sym c.bits.invariant.number) (rest_low c.args.table.now c.args.bits.now c.bits.place c.requires.few c.bits-test.true) in
    let f = c.from.ensures in
    grind (arith, low, f)

pub returns-clause-low : goal.returns-clause-low
returns-clause-low c =
    let done : c.bits.place ≡ 0 = omega (arith, c.bits-test.false) in
    let whole : c.bits.number ≡ number (values_in c.args.table.now c.args.bits.now) =
    c.bits.invariant.number ∙ ap (λ (k : ℕ). number (values_in c.args.table.now (drop k c.args.bits.now))) done in
    subst (λ (k : ℕ). k < 2 ^ length c.args.bits.now) (sym whole) (shown_low c.args.table.now c.args.bits.now)
