use Rattle.std.proofs.Common.{◌≡◌, ◌+◌, ℕ, ap, subst, sym, ◌∙◌, arith}
use Rattle.std.specs.Prelude.{Option, Some, slice_get}
use Rattle.std.specs.Option.{option_map_or}
use Rattle.std.proofs.lemmas.Option.{slice_get-get_or}
use Rattle.gate_pass.specs.Readers.{AreFound}
use Rattle.gate_pass.proofs.Chains.{next_found, falls, falls_by_measure}
use Rattle.gate_pass.proofs.readers.Chains.fill.Goals as goal

pub index-pin-requires : goal.index-pin-requires
index-pin-requires c =
    let here = (c.back.invariant c.requires.linked.0 c.requires.linked.1).here c.in-Some.place c.in-Some.is in
    omega (arith, here.0, c.args.self.now.pins.ok.0)

pub back-smaller : goal.back-smaller
back-smaller c =
    let at : slice_get c.args.self.now.pins.items c.in-Some.place ≡ Some c.index-pin.result.now =
    slice_get-get_or c.args.self.now.pins.items c.in-Some.place c.index-pin.result.now ((c.back.invariant c.requires.linked.0 c.requires.linked.1).here c.in-Some.place c.in-Some.is).0 ∙ ap Some (sym c.index-pin.ensures) in
    let is : option_map_or (λ (p : ℕ). p + 1) c.back.at 0 ≡ c.in-Some.place + 1 = ap (λ (o : Option ℕ). option_map_or (λ (p : ℕ). p + 1) o 0) c.in-Some.is in
    falls_by_measure c.index-pin.result.now.before c.in-Some.place c.back.at is (falls c.requires.linked.0 c.args.self.now.last.items c.args.self.now.pins.items c.requires.linked.1 c.in-Some.place c.index-pin.result.now at)

pub back-preserved : goal.back-preserved
back-preserved c all linked =
    let at : slice_get c.args.self.now.pins.items c.in-Some.place ≡ Some c.index-pin.result.now =
    slice_get-get_or c.args.self.now.pins.items c.in-Some.place c.index-pin.result.now ((c.back.invariant c.requires.linked.0 c.requires.linked.1).here c.in-Some.place c.in-Some.is).0 ∙ ap Some (sym c.index-pin.ensures) in
    let found : AreFound c.args.self.now.pins.items all c.args.net (Some c.in-Some.place) c.back.gates.items =
    subst (λ (o : Option ℕ). AreFound c.args.self.now.pins.items all c.args.net o c.back.gates.items) c.in-Some.is (c.back.invariant all linked) in
    subst (AreFound c.args.self.now.pins.items all c.args.net c.index-pin.result.now.before) (sym c.in_ok-push.ensures.items)
    (next_found all c.args.self.now.last.items c.args.self.now.pins.items linked c.args.net c.in-Some.place c.index-pin.result.now c.back.gates.items at found)
