-- An element that is good is claimed, and the table has the memories among one more element.
use Rattle.std.proofs.Common.{◌≡◌, ◌∙◌, true, Some, take, drop, length, slice_get, sym, refl}
use Rattle.std.proofs.lemmas.List.{take_at}
use Rattle.std.proofs.lemmas.Option.{slice_get_read}
use Rattle.design_core.specs.Faults.{claimed, element_good}
use Rattle.design_core.proofs.Owning.{claimed_is, good_here, one_more_good, shape_of}
use Rattle.design_core.proofs.owners.owners_of.Goals as goal

pub elements-preserved : goal.elements-preserved
elements-preserved c =
    let p = c.args.parts.now in
    let k = c.elements.place in
    let e = c.index-elements-place.result in
    let here-1 = slice_get_read c.as_slice-elements.result.now _ k e refl c.elements-test.true c.index-elements-place.is in
    let here : slice_get p.elements k ≡ Some e = rw c.as_slice-elements.ensures at here-1 in
    let good : element_good p (take k p.elements) (slice_get p.paths k) e ≡ true = sym c.if-not-element_good.ensures in
    let shape = shape_of p (take k p.elements) (slice_get p.paths k) e good in
    let more = claimed_is p k c.of-id.result e c.elements.owners.items here c.of-id.ensures shape c.elements.invariant.owned in
    let size : length c.claim.new.owners ≡ c.elements.owners.len = c.claim.auto.owners ∙ c.deref_mut.ensures.len in
    let new : c.claim.new.owners ≡ claimed c.of-id.result e c.elements.owners.items = rw c.deref_mut.ensures.value at c.claim.ensures in
    let whole = take_at c.claim.new.owners (drop (length c.claim.new.owners) c.elements.owners.items) c.elements.owners.len size in
    record {
      owned = rw (whole, new) more;
      good = one_more_good p k c.elements.invariant.good (good_here p k e here good);
    }
