-- The frames are taken in order.
use Rattle.std.proofs.Common.{◌≡◌, ◌≤◌, ◌∙◌, [], sym, length, subst, arith, refl, List, ℕ, ◌<◌}
use Rattle.emu_machine.specs.declared.schedule.Frame.{Frame}
use Rattle.std.specs.Prelude.{Some}
use Rattle.emu_machine.specs.declared.place.Place.TheVariants as place
use Rattle.emu_machine.specs.Acceptance.{FailsA4}
use Rattle.shape_check.proofs.Framing.{fit_not, misfit_not, no_more, one_more, some_long}
use Rattle.use_check.proofs.Walk.{NoneBefore, least_found, least_none, more, nowhere}
use Rattle.shape_check.proofs.frames.find_a4.Goals as goal

pub each-preserved : goal.each-preserved
each-preserved c =
    more (FailsA4 c.args.case.now) [] c.each.frame _ c.each.invariant
    (fit_not c.args.case.now c.each.frame (sym c.fits.ensures ∙ c.if-not-fits.false)) refl

pub returns-then-not-fits : goal.returns-then-not-fits
returns-then-not-fits c =
    least_found (FailsA4 c.args.case.now) (some_long c.args.case.now) c.each.frame (Some (place.Frame c.each.frame)) (place.Frame c.each.frame) c.each.invariant
    (misfit_not c.args.case.now c.each.frame (sym c.fits.ensures ∙ c.if-not-fits.true)) refl

pub returns-then-frames-groups : goal.returns-then-frames-groups
returns-then-frames-groups c =
    let long : c.groups-groups.result < length c.args.case.now.results.schedule.frames = subst (λ (fs : List Frame). c.groups-groups.result < length fs) c.frames.ensures c.if-frames-groups.true in
    let same : c.each.frame ≡ c.groups-groups.result = omega (arith, c.each-test.false, c.each.auto.frame-end) in
    least_found (FailsA4 c.args.case.now) (some_long c.args.case.now) c.groups-groups.result (Some (place.Frame c.groups-groups.result)) (place.Frame c.groups-groups.result)
    (subst (λ (k : ℕ). NoneBefore (FailsA4 c.args.case.now) [] k) same c.each.invariant)
    (one_more c.args.case.now c.groups-groups.result c.groups-groups.ensures.is long) refl

pub returns : goal.returns
returns c =
    let short : length c.args.case.now.results.schedule.frames ≤ c.groups-groups.result = subst (λ (fs : List Frame). length fs ≤ c.groups-groups.result) c.frames.ensures c.if-frames-groups.false in
    let same : c.each.frame ≡ c.groups-groups.result = omega (arith, c.each-test.false, c.each.auto.frame-end) in
    least_none (FailsA4 c.args.case.now)
    (nowhere (FailsA4 c.args.case.now) [] (some_long c.args.case.now) c.each.frame c.each.invariant
    (no_more c.args.case.now c.each.frame (same ∙ c.groups-groups.ensures.is) (omega (arith, short, same))))
