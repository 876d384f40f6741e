use Rattle.std.proofs.Common.{◌≡◌, List, length, sym, subst, ◌∙◌}
use Rattle.std.specs.Prelude.{All}
use Rattle.emu_machine.specs.declared.schedule.Action.{Action}
use Rattle.emu_machine.specs.State.{ending}
use Rattle.cycle_sim.specs.Standing.{CanTake, CanSend, CanStore}
use Rattle.cycle_sim.specs.Passes.{rows_of}
use Rattle.cycle_sim.proofs.Fitting.{ending_taken, starting_sent, starting_stored}
use Rattle.cycle_sim.proofs.Levels.{rows_fit}
use Rattle.cycle_sim.proofs.UnderWay.{slot_done, level_done}
use Rattle.cycle_sim.proofs.slots.do_slot.Goals as goal

pub take_all-requires-clause-actions : goal.take_all-requires-clause-actions
take_all-requires-clause-actions c =
    let is : c.ending_in-ending.result.now ≡ ending c.args.plan.wires.now c.args.frame.slots.now c.args.t = c.ending_in-ending.ensures ∙ c.requires.endings.each c.args.t c.requires.there in
    subst (λ (some : List Action). All (CanTake c.args.plan.results.now c.args.plan.wires.now (length c.args.outside.now)) some) (sym is)
    (ending_taken c.args.plan.results.now c.args.plan.wires.now (length c.args.outside.now) c.args.frame.slots.now c.args.t c.requires.slots)

pub send_all-requires-clause-actions : goal.send_all-requires-clause-actions
send_all-requires-clause-actions c =
    subst (λ (some : List Action). All (CanSend c.args.plan.wires.now (rows_of c.serve.new.passes)) some) (sym c.starting_in-starting.ensures)
    (starting_sent c.args.plan.results.now c.args.plan.wires.now (length c.args.outside.now) c.args.frame.slots.now c.args.t (rows_of c.serve.new.passes) c.requires.slots
    (rows_fit c.args.plan.results.now c.serve.new.passes c.serve.ensures.passes))

pub store_all-requires-clause-actions : goal.store_all-requires-clause-actions
store_all-requires-clause-actions c =
    subst (λ (some : List Action). All (CanStore c.args.plan.results.now) some) (sym c.starting_in-starting.ensures)
    (starting_stored c.args.plan.results.now c.args.plan.wires.now (length c.args.outside.now) c.args.frame.slots.now c.args.t c.requires.slots)

pub take_all-requires-clause-ready : goal.take_all-requires-clause-ready
take_all-requires-clause-ready c =
    record { runs = c.requires.before.equipped.runs; sizes = rows_fit c.args.plan.results.now c.serve.new.passes c.serve.ensures.passes }

pub store_all-requires-clause-shown : goal.store_all-requires-clause-shown
store_all-requires-clause-shown c = rows_fit c.args.plan.results.now c.serve.new.passes c.serve.ensures.passes

pub show_taken-requires-clause-actions : goal.show_taken-requires-clause-actions
show_taken-requires-clause-actions c =
    let is : c.ending_in-ending.result.now ≡ ending c.args.plan.wires.now c.args.frame.slots.now c.args.t = c.ending_in-ending.ensures ∙ c.requires.endings.each c.args.t c.requires.there in (
      length c.args.outside.now,
      subst (λ (some : List Action). All (CanTake c.args.plan.results.now c.args.plan.wires.now (length c.args.outside.now)) some) (sym is)
          (ending_taken c.args.plan.results.now c.args.plan.wires.now (length c.args.outside.now) c.args.frame.slots.now c.args.t c.requires.slots),
    )

pub returns-clause-after : goal.returns-clause-after
returns-clause-after c =
    record {
      equipped = record {
        runs = c.requires.before.equipped.runs;
        held = c.take_all.ensures.sizes;
        words = c.store_all.ensures.sizes;
        carried = c.send_all.ensures.size;
      };
      passes_are = c.show_taken.ensures.passes;
      level =
          level_done c.args.plan.results.now c.args.plan.wires.now c.args.words.now c.args.outside.now c.args.carried.now (rows_of c.serve.new.passes) c.args.held.now
          c.starting_in-starting.result.now c.ending_in-ending.result.now (c.serve.ensures.taken c.args.held.now c.requires.before.level) (c.serve.ensures.left c.args.held.now c.requires.before.level)
          c.take_all.new.held (rows_of c.show_taken.new.passes) (c.serve.ensures.level c.args.held.now c.requires.before.level) c.take_all.ensures.taken c.show_taken.ensures.shown;
    }

pub returns-clause-state : goal.returns-clause-state
returns-clause-state c =
    slot_done c.args.plan.results.now c.args.plan.wires.now c.args.words.now c.args.outside.now c.args.carried.now (rows_of c.serve.new.passes) c.args.held.now
    c.starting_in-starting.result.now c.ending_in-ending.result.now (c.serve.ensures.taken c.args.held.now c.requires.before.level) (c.serve.ensures.left c.args.held.now c.requires.before.level)
    c.args.frame.slots.now c.args.t c.starting_in-starting.ensures
    (c.ending_in-ending.ensures ∙ c.requires.endings.each c.args.t c.requires.there)
    c.take_all.new.held c.take_all.ensures.taken c.store_all.new.words c.store_all.ensures.stored c.send_all.new.carried (c.send_all.ensures.sent c.args.plan.results.now)
