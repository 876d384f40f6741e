-- The frames are taken in order.
use Rattle.std.proofs.Common.{◌<◌, ◌≤◌, [], ◌∷◌, List, length, subst, arith, refl}
use Rattle.emu_machine.specs.declared.place.Place.TheVariants as place
use Rattle.emu_machine.specs.declared.schedule.Frame.{Frame}
use Rattle.emu_machine.specs.Results.{Results}
use Rattle.emu_machine.specs.Netlist.{IsOnCycle, chip_at}
use Rattle.emu_machine.specs.Acceptance.{FailsA11}
use Rattle.use_check.specs.Least.{IsLeastUnder}
use Rattle.use_check.proofs.Walk.{least_found, least_none, more, nowhere}
use Rattle.shape_check.specs.Influences.{inside_of}
use Rattle.shape_check.proofs.Framing.{few}
use Rattle.shape_check.proofs.Followed.{past_frames, some_long}
use Rattle.shape_check.proofs.following.find_a11.Goals as goal

pub new-requires : goal.new-requires
new-requires c chip k cycle =
    c.requires.cycles (place.Gate (record { place = chip }) k) (subst (λ (r : Results). IsOnCycle (chip_at r.net chip) k) c.results.ensures cycle)

pub overflow_cast-k : goal.overflow_cast-k
overflow_cast-k c =
    let low : length c.args.case.now.results.schedule.frames ≤ 33 = (few c.args.case.now c.stands.ensures c.requires.frames).frames in
    let less : c.frames.k < length c.args.case.now.results.schedule.frames = subst (λ (fs : List Frame). c.frames.k < length fs) c.frames-k-end.ensures c.frames-test.true in
    omega (arith, low, less)

pub returns-in-Some : goal.returns-in-Some
returns-in-Some c =
    least_found (FailsA11 c.args.case.now (inside_of c.args.influences.now)) (some_long c.args.case.now (inside_of c.args.influences.now)) c.frames.k c.in_ok-at.field-0 c.in-Some.at c.frames.invariant.0 c.in_ok-at.ensures.found c.in-Some.is

pub frames-preserved : goal.frames-preserved
frames-preserved c = (
  more (FailsA11 c.args.case.now (inside_of c.args.influences.now)) [] c.frames.k _ c.frames.invariant.0 (subst (λ o. IsLeastUnder (FailsA11 c.args.case.now (inside_of c.args.influences.now)) (c.frames.k ∷ []) o) c.in_default.is c.in_ok-at.ensures.found) refl,
  c.find_in_frame.ensures.marks,
)

pub returns : goal.returns
returns c =
    least_none (FailsA11 c.args.case.now (inside_of c.args.influences.now))
    (nowhere (FailsA11 c.args.case.now (inside_of c.args.influences.now)) [] (some_long c.args.case.now (inside_of c.args.influences.now)) c.frames.k c.frames.invariant.0
    (λ k high. past_frames c.args.case.now (inside_of c.args.influences.now) k
    (subst (λ (fs : List Frame). length fs ≤ k) c.frames-k-end.ensures (omega (arith, high, c.frames-test.false)))))
