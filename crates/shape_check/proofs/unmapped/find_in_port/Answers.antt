-- The bits of a port are taken in order.
use Rattle.std.proofs.Common.{◌≡◌, ◌+◌, ◌∙◌, [], ◌∷◌, sym, subst, arith, ℕ, length}
use Rattle.std.proofs.lemmas.Option.{slice_get-get_or}
use Rattle.emu_machine.specs.declared.place.Place.TheVariants as place
use Rattle.emu_machine.specs.Acceptance.{FailsA9}
use Rattle.shape_check.specs.Mapped.{NoOutputBefore}
use Rattle.shape_check.proofs.Lost.{differing, longer, the_same}
use Rattle.use_check.proofs.Walk.{found, more}
use Rattle.shape_check.proofs.unmapped.find_in_port.Goals as goal

pub each-init : goal.each-init
each-init c = let z : c.args.start ≡ c.args.start + 0 = omega arith in subst (λ (k : ℕ). NoOutputBefore c.args.case.now k) z c.requires.before

pub differs-requires : goal.differs-requires
differs-requires c = c.requires.bits c.each.i _ (slice_get-get_or c.args.nets.now c.each.i _ c.each-test.true)

pub returns-then-differs : goal.returns-then-differs
returns-then-differs c =
    found (FailsA9 c.args.case.now) (2 ∷ []) (longer c.args.case.now 1 (omega arith)) (c.args.start + c.each.i) (place.Output (c.args.start + c.each.i)) c.each.invariant
    (differing c.args.case.now (c.args.start + c.each.i) (sym c.differs.ensures ∙ c.if-differs.true))

pub each-preserved : goal.each-preserved
each-preserved c =
    more (FailsA9 c.args.case.now) (2 ∷ []) (c.args.start + c.each.i) _ c.each.invariant
    (the_same c.args.case.now (c.args.start + c.each.i) (sym c.differs.ensures ∙ c.if-differs.false))
    (omega arith)

pub returns : goal.returns
returns c =
    let all : c.args.start + c.each.i ≡ c.args.start + length c.args.nets.now = omega (arith, c.each-test.false, c.each.auto.i-end) in
    subst (λ (k : ℕ). NoOutputBefore c.args.case.now k) all c.each.invariant
