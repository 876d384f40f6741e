use Rattle.std.proofs.Common.{◌≡◌, ◌-◌, ◌<◌, length, get_or, arith}
use Rattle.design_core.proofs.Outwards.{inward, path_done}
use Rattle.design_core.proofs.names.path_text.Goals as goal

pub inwards-preserved : goal.inwards-preserved
inwards-preserved c =
    let place = c.index-place.result.now in
    let trail = c.in_ok-trail.trail.items in
    let size : c.len.result ≡ length trail = omega arith in
    let within : c.inwards.written < length trail = omega arith in
    let item : place ≡ get_or trail (length trail - 1 - c.inwards.written) place = rw size at c.index-place.ensures in
    inward c.args.scopes.now trail c.inwards.written place place c.inwards.text.items c.push_name.new.text.items within item c.inwards.invariant c.in_ok-push_name.ensures

pub returns : goal.returns
returns c =
    let all : c.inwards.written ≡ length c.in_ok-trail.trail.items = omega arith in
    path_done c.args.scopes.now c.args.from c.inwards.written c.in_ok-trail.trail.items c.inwards.text.items all c.in_ok-trail.ensures.trail c.inwards.invariant
