use Rattle.std.proofs.Common.{rules, ◌≡◌, List, sym, subst, ◌∙◌}
use Rattle.std.specs.Prelude.{All}
use Rattle.emu_machine.specs.declared.schedule.Action.{Action}
use Rattle.emu_machine.specs.State.{ending}
use Rattle.frame_marks.specs.Standing.{IsNamed, CanSend}
use Rattle.frame_marks.proofs.Naming.{ending_named, starting_named, starting_sent}
use Rattle.frame_marks.proofs.Stepping.{stepped}
use Rattle.frame_marks.proofs.slots.do_slot.Goals as goal

pub collect-requires-clause-starting : goal.collect-requires-clause-starting
collect-requires-clause-starting g c =
    subst (λ (some : List Action). All (IsNamed c.args.plan.results.now c.args.plan.wires.now) some) (sym c.starting_in-starting.ensures)
    (starting_named c.args.plan.results.now c.args.plan.wires.now c.args.frame.slots.now c.args.t c.requires.slots)

pub collect-requires-clause-ending : goal.collect-requires-clause-ending
collect-requires-clause-ending g c =
    let is : c.ending_in-ending.result.now ≡ ending c.args.plan.wires.now c.args.frame.slots.now c.args.t = c.ending_in-ending.ensures ∙ c.requires.endings.each c.args.t c.requires.there in
    subst (λ (some : List Action). All (IsNamed c.args.plan.results.now c.args.plan.wires.now) some) (sym is)
    (ending_named c.args.plan.results.now c.args.plan.wires.now c.args.frame.slots.now c.args.t c.requires.slots)

pub send_all-requires-clause-actions : goal.send_all-requires-clause-actions
send_all-requires-clause-actions g c =
    subst (λ (some : List Action). All (CanSend c.args.plan.wires.now c.settle_all.new.chips) some) (sym c.starting_in-starting.ensures)
    (starting_sent c.args.plan.results.now c.args.plan.wires.now c.args.frame.slots.now c.args.t c.requires.slots c.settle_all.new.chips c.settle_all.ensures.tables)

pub returns-clause-followed : goal.returns-clause-followed
returns-clause-followed g c s between =
    let is : c.ending_in-ending.result.now ≡ ending c.args.plan.wires.now c.args.frame.slots.now c.args.t = c.ending_in-ending.ensures ∙ c.requires.endings.each c.args.t c.requires.there in
    stepped c.args.plan.design.now c.args.plan.results.now c.args.plan.wires.now (g.I.Inside.inside c.args.inside.now) s
    c.args.chips.now c.settle_all.new.chips c.put_given.new.chips c.args.memories.now c.put_written.new.memories c.args.carried.now c.send_all.new.carried
    c.args.frame.slots.now c.args.t
    c.settle_all.ensures.settled
    c.collect.new.gifts.nets.items c.ending_in-ending.result.now is c.in_ok-collect.ensures.given
    (search rules)
    c.collect.new.gifts.memories.items c.starting_in-starting.result.now c.starting_in-starting.ensures c.in_ok-collect.ensures.written
    (search rules)
    c.send_all.ensures.sent
    (search rules) c.put_given.ensures.others between
