-- The frames are taken in order.
use Rattle.std.proofs.Common.{◌≡◌, ◌<◌, ◌≤◌, ◌∙◌, [], sym, ap, length, subst, arith, refl, List, ℕ, get_or}
use Rattle.std.specs.Prelude.{slice_get, Option, Some}
use Rattle.std.specs.Option.{option_map_or}
use Rattle.std.proofs.lemmas.Option.{slice_get_read}
use Rattle.emu_machine.specs.declared.schedule.Frame.{Frame}
use Rattle.shape_check.specs.Actions.{FailsTest}
use Rattle.shape_check.proofs.Acting.{longer, past_frames}
use Rattle.shape_check.proofs.Framing.{few}
use Rattle.use_check.proofs.Walk.{least_found, least_none, more, nowhere}
use Rattle.shape_check.proofs.actions.find_action.Goals as goal

slots_of : (xs ys : List Frame) (k : ℕ) (x : Frame) → xs ≡ ys → k < length xs → x ≡ get_or xs k x → x.slots ≡ option_map_or (λ frame. frame.slots) (slice_get ys k) []
slots_of xs ys k x same low is =
    sym (ap (λ (o : Option Frame). option_map_or (λ (frame : Frame). frame.slots) o [])
    (subst (λ (zs : List Frame). slice_get zs k ≡ Some x) same (slice_get_read xs (length xs) k x refl low is)))

pub overflow_cast-k : goal.overflow_cast-k
overflow_cast-k c =
    let low : length c.args.case.now.results.schedule.frames ≤ 33 = (few c.args.case.now c.stands.ensures c.requires.frames).frames in
    let less : c.each.k < length c.args.case.now.results.schedule.frames = subst (λ (fs : List Frame). c.each.k < length fs) c.frames-frames.ensures c.each-test.true in
    omega (arith, low, less)

pub find_in_frame-requires : goal.find_in_frame-requires
find_in_frame-requires c = record {
  few = few c.args.case.now c.stands.ensures c.requires.frames;
  slots = c.as_slice.ensures ∙ ap (λ (f : Frame). f.slots) (sym c.index-frames-k.is) ∙ slots_of c.frames-frames.result.now _ c.each.k c.index-frames-k.result c.frames-frames.ensures c.each-test.true c.index-frames-k.is;
}

pub returns-in-Some : goal.returns-in-Some
returns-in-Some c =
    least_found (FailsTest c.args.case.now c.args.test) (longer c.args.case.now c.args.test 0 (omega arith)) c.each.k c.find_in_frame.result _ c.each.invariant c.find_in_frame.ensures c.in-Some.is

pub each-preserved : goal.each-preserved
each-preserved c =
    more (FailsTest c.args.case.now c.args.test) [] c.each.k _ c.each.invariant c.in_default.ensures refl

pub returns : goal.returns
returns c =
    least_none (FailsTest c.args.case.now c.args.test) (nowhere (FailsTest c.args.case.now c.args.test) [] (longer c.args.case.now c.args.test 0 (omega arith)) c.each.k c.each.invariant
    (λ k high. past_frames c.args.case.now c.args.test k
    (subst (λ (xs : List Frame). length xs ≤ k) c.frames-frames.ensures (omega (arith, high, c.each-test.false)))))
