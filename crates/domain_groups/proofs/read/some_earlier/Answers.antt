use Rattle.std.proofs.Common.{◌<◌, ◌≡◌, length, refl, arith}
use Rattle.std.proofs.lemmas.Option.{slice_get-get_or}
use Rattle.domain_groups.proofs.Placed.{found_earlier, mark_next, found_none, all_marked}
use Rattle.domain_groups.proofs.read.some_earlier.Goals as goal

pub returns-then-marks-place-clause-found : goal.returns-then-marks-place-clause-found
returns-then-marks-place-clause-found c =
    let within : c.places.place-index < length c.args.places.now = omega arith in
    let low = c.requires c.places.place-index 0 within in
    let size = c.places.invariant.size in
    found_earlier c.args.marks.now c.places.marks c.args.places.now c.places.place-index _ c.places.invariant (slice_get-get_or c.args.places.now c.places.place-index 0 within) (omega arith) c.if-marks-place.true

pub places-preserved : goal.places-preserved
places-preserved c =
    let within : c.places.place-index < length c.args.places.now = omega arith in
    let low = c.requires c.places.place-index 0 within in
    let size = c.places.invariant.size in
    mark_next c.args.marks.now c.places.marks c.args.places.now c.places.place-index _ c.places.invariant (slice_get-get_or c.args.places.now c.places.place-index 0 within) (omega arith) _ c.if-marks-place.false refl

pub returns-clause-found : goal.returns-clause-found
returns-clause-found c = found_none c.args.marks.now c.places.marks c.args.places.now c.places.place-index c.places.invariant (omega arith)

pub returns-clause-marked : goal.returns-clause-marked
returns-clause-marked c =
    λ before marks e. all_marked c.args.marks.now c.places.marks c.args.places.now c.places.place-index c.places.invariant (omega arith) before marks
