use Rattle.std.proofs.Common.{List, sym, subst, ◌∙◌}
use Rattle.emu_machine.specs.declared.schedule.Action.{Action}
use Rattle.slot_endings.specs.Endings.{HaveMore}
use Rattle.slot_endings.proofs.Ending.{slot_at, slot_ending, written_back}
use Rattle.slot_endings.proofs.endings.endings_of.Goals as goal

pub slots-preserved : goal.slots-preserved
slots-preserved c =
    let more : HaveMore c.args.wires.now c.slots.t c.as_slice.result.now c.slots.endings.items c.add_actions.new.endings =
    subst (λ (before : List (List Action)). HaveMore c.args.wires.now c.slots.t c.as_slice.result.now before c.add_actions.new.endings)
    c.deref_mut.ensures.value c.in_ok-add_actions.ensures in
    slot_ending c.args.wires.now c.args.slots.now c.slots.t c.slots-test.true c.as_slice.result.now
    (c.as_slice.ensures ∙ slot_at c.args.slots.now c.slots.t c.index-slots-t.result c.slots-test.true)
    c.slots.endings.items _ c.slots.invariant
    (subst (HaveMore c.args.wires.now c.slots.t c.as_slice.result.now c.slots.endings.items)
    (sym (written_back c.slots.endings.items c.add_actions.new.endings c.slots.endings.len c.slots.endings.ok.0 more.count)) more)
