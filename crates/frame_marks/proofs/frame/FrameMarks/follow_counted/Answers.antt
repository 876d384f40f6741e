use Rattle.std.proofs.Common.{◌≡◌, List, sym, subst, ap}
use Rattle.id_arena.specs.declared.wire.Wire.{Wire}
use Rattle.emu_machine.specs.declared.schedule.Slot.{Slot}
use Rattle.emu_machine.specs.Results.{Results}
use Rattle.emu_machine.specs.State.{frame_slots}
use Rattle.frame_marks.specs.Frames.{FrameState, FrameStands}
use Rattle.frame_marks.proofs.frame.FrameMarks.follow_counted.Goals as goal

pub follow_frame-requires-clause-slots : goal.follow_frame-requires-clause-slots
follow_frame-requires-clause-slots g c =
    let results : c.self.inside.results.now ≡ c.args.self.now.results = ap (λ (f : FrameState). f.results) c.self.view_is in
    let wires : c.self.inside.wires.now ≡ c.args.self.now.wires = ap (λ (f : FrameState). f.wires) c.self.view_is in
    subst (λ (some : List Slot). FrameStands c.self.inside.results.now c.self.inside.wires.now some) (sym c.slots_of-slots.ensures)
    (subst (λ (r : Results). FrameStands r c.self.inside.wires.now (frame_slots r c.args.frame)) (sym results)
    (subst (λ (some : List Wire). FrameStands c.args.self.now.results some (frame_slots c.args.self.now.results c.args.frame)) (sym wires) c.requires.stands))
