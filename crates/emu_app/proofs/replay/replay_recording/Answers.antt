use Rattle.std.proofs.Common.{◌≡◌, ◌∙◌, length, Ok, Err, sym, subst}
use Rattle.id_arena.specs.declared.wire.Wire.{Wire}
use Rattle.std.specs.Prelude.{List, ℕ}
use Rattle.design_core.specs.declared.parts.Parts.{Parts}
use Rattle.design_core.specs.Design.{IsDesign, net_count, port_bits}
use Rattle.emu_machine.specs.Acceptance.{Case}
use Rattle.emu_machine.specs.Law.{IsCase}
use Rattle.emu_machine.specs.Results.{Results}
use Rattle.emu_machine.specs.State.{State, run_of}
use Rattle.cycle_sim.specs.Standing.{CanRun}
use Rattle.cycle_sim.specs.Tables.{state}
use Rattle.domain_groups.specs.Traces.{machine_trace}
use Rattle.event_replay.specs.Runs.{ReplayMeans}
use Rattle.emu_app.specs.Reading.{case_of}
use Rattle.emu_app.specs.Runs.{IsMachineTrace, NoAnswer}
use Rattle.emu_app.proofs.Cases.{is_case}
use Rattle.emu_app.proofs.Replaying.{as_many, can_load, can_run, frame_there, keeps_nets, loaded_trace, run_stopped, run_written, spots_there}
use Rattle.emu_app.proofs.replay.replay_recording.Goals as goal

pub load-requires-clause-mapped : goal.load-requires-clause-mapped
load-requires-clause-mapped g c =
    can_load c.judged_can_load.ensures (case_of c.args.ranked.now.design c.args.groups.now c.args.plan.now) c.requires.fit

pub load-requires-clause-kept : goal.load-requires-clause-kept
load-requires-clause-kept g c =
    let p : Parts = c.args.ranked.now.design in
    let judged : Case = case_of p c.args.groups.now c.args.plan.now in
    let design : IsDesign p = subst (λ (q : Parts). IsDesign q) c.design-design.ensures c.stands.ensures.design in
    let case : IsCase judged =
    is_case p c.args.groups.now c.args.plan.now design c.stands-2.ensures.ranked c.stands-3.ensures c.requires.of c.stand.ensures.netlist.netlist c.stand.ensures.results.mapped in
    keeps_nets judged case c.requires.fit

pub open-requires-clause-runs : goal.open-requires-clause-runs
open-requires-clause-runs g c =
    let p : Parts = c.args.ranked.now.design in
    let judged : Case = case_of p c.args.groups.now c.args.plan.now in
    let design : IsDesign p = subst (λ (q : Parts). IsDesign q) c.design-design.ensures c.stands.ensures.design in
    let case : IsCase judged =
    is_case p c.args.groups.now c.args.plan.now design c.stands-2.ensures.ranked c.stands-3.ensures c.requires.of c.stand.ensures.netlist.netlist c.stand.ensures.results.mapped in
    subst (λ (nets : ℕ). CanRun c.args.plan.now.results c.all_wires.result.now nets) (sym c.in-Ok.ensures.outside)
    (subst (λ (wires : List Wire). CanRun c.args.plan.now.results wires (net_count p)) (sym c.all_wires.ensures)
    (can_run c.judged_can_run.ensures judged case c.requires.fit))

pub replay_lines-requires-clause-frames : goal.replay_lines-requires-clause-frames
replay_lines-requires-clause-frames g c =
    frame_there (case_of c.args.ranked.now.design c.args.groups.now c.args.plan.now) c.args.recording.events c.requires.fit c.requires.events

pub replay_lines-requires-clause-outputs : goal.replay_lines-requires-clause-outputs
replay_lines-requires-clause-outputs g c =
    subst (λ (q : Parts). length c.args.plan.now.results.map.outputs ≡ length (port_bits q.outputs)) (sym c.design-design.ensures)
    (as_many c.outputs_are_mapped.ensures (case_of c.args.ranked.now.design c.args.groups.now c.args.plan.now) c.requires.fit)

pub replay_lines-requires-clause-spots : goal.replay_lines-requires-clause-spots
replay_lines-requires-clause-spots g c = spots_there c.args.plan.now.results c.stand.ensures.results.mapped

pub returns-in-Ok-replay_lines : goal.returns-in-Ok-replay_lines
returns-in-Ok-replay_lines g c =
    let p : Parts = c.args.ranked.now.design in
    let judged : Case = case_of p c.args.groups.now c.args.plan.now in
    let design : IsDesign p = subst (λ (q : Parts). IsDesign q) c.design-design.ensures c.stands.ensures.design in
    let case : IsCase judged =
    is_case p c.args.groups.now c.args.plan.now design c.stands-2.ensures.ranked c.stands-3.ensures c.requires.of c.stand.ensures.netlist.netlist c.stand.ensures.results.mapped in
    let results : Results = c.args.plan.now.results in
    let x : State = state c.in-Ok-open.machine in
    let y : State = state c.replay_lines.new.machine in
    let wires : List Wire = c.args.plan.now.board.wires in
    let same_wires : c.in-Ok-open.machine.wires ≡ wires = c.in-Ok-open.ensures.wires ∙ c.all_wires.ensures in
    let trace : IsMachineTrace judged c.args.recording (machine_trace p results (run_of results wires x c.args.recording.events)) =
    loaded_trace c.traces_agree.ensures c.loaded_trace_is_one.ensures c.one_history.ensures c.openings_fit.ensures judged c.args.recording x _
    case c.stand.ensures.netlist c.requires.fit c.requires.fits c.requires.events c.in-Ok-open.ensures.state c.in-Ok.ensures.loaded c.in-Ok.ensures.free in
    run_written (IsMachineTrace judged c.args.recording) p results wires c.args.recording.events x y
    (g.O.Sink.written c.args.out.now) (g.O.Sink.written c.replay_lines.new.out) (g.O.Sink.faults c.args.out.now) (g.O.Sink.faults c.replay_lines.new.out)
    trace (Unit {0}) c.in-Ok-replay_lines.field-0
    (subst (λ (q : Parts). ReplayMeans q results wires c.args.recording.events x y (g.O.Sink.written c.args.out.now) (g.O.Sink.written c.replay_lines.new.out) (g.O.Sink.faults c.args.out.now) (g.O.Sink.faults c.replay_lines.new.out) (Ok c.in-Ok-replay_lines.field-0))
    c.design-design.ensures (subst (λ (ws : List Wire). ReplayMeans c.design-design.result.now results ws c.args.recording.events x y (g.O.Sink.written c.args.out.now) (g.O.Sink.written c.replay_lines.new.out) (g.O.Sink.faults c.args.out.now) (g.O.Sink.faults c.replay_lines.new.out) (Ok c.in-Ok-replay_lines.field-0))
    same_wires c.in-Ok-replay_lines.ensures.means))

pub returns : goal.returns
returns g c =
    let p : Parts = c.args.ranked.now.design in
    let judged : Case = case_of p c.args.groups.now c.args.plan.now in
    let design : IsDesign p = subst (λ (q : Parts). IsDesign q) c.design-design.ensures c.stands.ensures.design in
    let case : IsCase judged =
    is_case p c.args.groups.now c.args.plan.now design c.stands-2.ensures.ranked c.stands-3.ensures c.requires.of c.stand.ensures.netlist.netlist c.stand.ensures.results.mapped in
    let results : Results = c.args.plan.now.results in
    let x : State = state c.in-Ok-open.machine in
    let y : State = state c.replay_lines.new.machine in
    let wires : List Wire = c.args.plan.now.board.wires in
    let same_wires : c.in-Ok-open.machine.wires ≡ wires = c.in-Ok-open.ensures.wires ∙ c.all_wires.ensures in
    let trace : IsMachineTrace judged c.args.recording (machine_trace p results (run_of results wires x c.args.recording.events)) =
    loaded_trace c.traces_agree.ensures c.loaded_trace_is_one.ensures c.one_history.ensures c.openings_fit.ensures judged c.args.recording x _
    case c.stand.ensures.netlist c.requires.fit c.requires.fits c.requires.events c.in-Ok-open.ensures.state c.in-Ok.ensures.loaded c.in-Ok.ensures.free in
    run_stopped (IsMachineTrace judged c.args.recording) p results wires c.args.recording.events x y
    (g.O.Sink.written c.args.out.now) (g.O.Sink.written c.replay_lines.new.out) (g.O.Sink.faults c.args.out.now) (g.O.Sink.faults c.replay_lines.new.out)
    trace (Unit {0}) NoAnswer c.in-Err.fault c.broken_traces.ensures
    (subst (λ (q : Parts). ReplayMeans {X = Unit {0}} q results wires c.args.recording.events x y (g.O.Sink.written c.args.out.now) (g.O.Sink.written c.replay_lines.new.out) (g.O.Sink.faults c.args.out.now) (g.O.Sink.faults c.replay_lines.new.out) (Err c.in-Err.fault))
    c.design-design.ensures (subst (λ (ws : List Wire). ReplayMeans {X = Unit {0}} c.design-design.result.now results ws c.args.recording.events x y (g.O.Sink.written c.args.out.now) (g.O.Sink.written c.replay_lines.new.out) (g.O.Sink.faults c.args.out.now) (g.O.Sink.faults c.replay_lines.new.out) (Err c.in-Err.fault))
    same_wires c.in-Err.ensures.means))
