use Rattle.std.proofs.Common.{List, length, refl, ap, ◌∙◌, arith}
use Rattle.id_arena.specs.declared.wire.Wire.{Wire}
use Rattle.emu_machine.specs.State.{after_frame}
use Rattle.cycle_sim.specs.Tables.{state}
use Rattle.event_replay.proofs.RunGrowth.{none_ran, stepped, stands_after, written_more, replay_broke_off, replay_done}
use Rattle.event_replay.proofs.InRange.{contains, inputs_there}
use Rattle.event_replay.proofs.replaying.replay_lines.Goals as goal

pub events-init : goal.events-init
events-init g c =
    record {
      results = c.requires.results;
      wires = refl;
      inputs = refl;
      later = omega arith;
      ran = refl;
      text = none_ran c.args.design.now c.args.results.now c.args.machine.now.wires c.args.events.now (state c.args.machine.now) (g.O.Sink.written c.args.out.now);
    }

pub replay_line-requires-clause-group : goal.replay_line-requires-clause-group
replay_line-requires-clause-group g c =
    c.requires.frames c.get-event.result.now (contains c.args.events.now c.events.place c.get-event.result.now c.get-event.ensures)

pub replay_line-requires-clause-values : goal.replay_line-requires-clause-values
replay_line-requires-clause-values g c =
    inputs_there c.args.design.now (length c.events.machine.tables.outside) c.get-event.result.now.values
    c.stands.ensures.design c.input_is_input_bit.ensures c.input_bit_is_input.ensures
    (c.events.invariant.inputs ∙ c.requires.inputs)
    (c.requires.values c.get-event.result.now (contains c.args.events.now c.events.place c.get-event.result.now c.get-event.ensures))

pub returns-in_err-replay_line-clause-means : goal.returns-in_err-replay_line-clause-means
returns-in_err-replay_line-clause-means g c =
    replay_broke_off c.args.design.now c.args.results.now c.args.machine.now.wires c.args.events.now (state c.args.machine.now)
    c.events.place c.get-event.result.now c.get-event.ensures (state c.events.machine) (state c.replay_line.new.machine)
    c.events.invariant.ran (c.replay_line.ensures.state ∙ ap (λ (wires : List Wire). after_frame c.args.results.now wires c.get-event.result.now (state c.events.machine)) c.events.invariant.wires)
    c.outputs.result.now (g.O.Sink.written c.args.out.now) (g.O.Sink.written c.events.out) (g.O.Sink.written c.replay_line.new.out)
    (g.O.Sink.faults c.args.out.now) (g.O.Sink.faults c.events.out) (g.O.Sink.faults c.replay_line.new.out)
    c.in_err-replay_line.field-0.0 c.from_residual.result c.outputs.ensures c.from_residual.ensures
    c.events.invariant.text c.events.invariant.later c.in_err-replay_line.ensures.means

pub events-preserved : goal.events-preserved
events-preserved g c =
    record {
      results = c.replay_line.ensures.results ∙ c.events.invariant.results;
      wires = c.replay_line.ensures.wires ∙ c.events.invariant.wires;
      inputs = c.replay_line.ensures.inputs ∙ c.events.invariant.inputs;
      later = omega (arith, c.replay_line.ensures.later, c.events.invariant.later);
      ran =
          stands_after c.args.design.now c.args.results.now c.args.machine.now.wires c.args.events.now (state c.args.machine.now)
          c.events.place c.get-event.result.now c.get-event.ensures (state c.events.machine) (state c.replay_line.new.machine)
          c.events.invariant.ran (c.replay_line.ensures.state ∙ ap (λ (wires : List Wire). after_frame c.args.results.now wires c.get-event.result.now (state c.events.machine)) c.events.invariant.wires);
      text =
          written_more c.args.design.now c.args.results.now c.args.machine.now.wires c.args.events.now (state c.args.machine.now)
          c.events.place c.get-event.result.now c.get-event.ensures (state c.events.machine) (state c.replay_line.new.machine)
          c.events.invariant.ran (c.replay_line.ensures.state ∙ ap (λ (wires : List Wire). after_frame c.args.results.now wires c.get-event.result.now (state c.events.machine)) c.events.invariant.wires)
          c.outputs.result.now (g.O.Sink.written c.args.out.now) (g.O.Sink.written c.events.out) (g.O.Sink.written c.replay_line.new.out)
          c.outputs.ensures c.events.invariant.text c.in_ok-replay_line.ensures.means;
    }

pub returns-clause-means : goal.returns-clause-means
returns-clause-means g c =
    replay_done c.args.design.now c.args.results.now c.args.machine.now.wires c.args.events.now (state c.args.machine.now)
    (Unit {0}) tt c.events.place (state c.events.machine)
    (g.O.Sink.written c.args.out.now) (g.O.Sink.written c.events.out) (g.O.Sink.faults c.args.out.now) (g.O.Sink.faults c.events.out)
    (omega (arith, c.events-test.false, c.events.auto.place-end, c.len-place-end.ensures))
    c.events.invariant.ran c.events.invariant.text
