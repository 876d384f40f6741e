use Rattle.std.proofs.Common.{rules, ◌≡◌, subst, ap}
use Rattle.std.specs.Prelude.{Some}
use Rattle.emu_machine.specs.Results.{Results}
use Rattle.emu_machine.specs.State.{write_port}
use Rattle.emu_machine.specs.Building.{IsBuilt}
use Rattle.frame_marks.specs.Frames.{FrameState}
use Rattle.frame_marks.proofs.Ports.{write_enable, write_address, write_feed}
use Rattle.frame_marks.proofs.Writing.{due_counts}
use Rattle.frame_marks.proofs.memories.write_counts.Goals as goal

pub is_ready-requires-clause-enable : goal.is_ready-requires-clause-enable
is_ready-requires-clause-enable c =
    let same : c.start.inside.results.now ≡ c.args.start.now.results = ap (λ (f : FrameState). f.results) c.start.view_is in
    let at : write_port c.args.start.now.results.net c.args.chip.place c.args.mem.place c.args.port ≡ Some c.write_port_of.result.now =
    subst (λ (r : Results). write_port r.net c.args.chip.place c.args.mem.place c.args.port ≡ Some c.write_port_of.result.now) same c.write_port_of.ensures in
    let built : IsBuilt c.args.start.now.results.net = subst (λ (r : Results). IsBuilt r.net) same c.stand.ensures.netlist in
    write_enable c.args.start.now.results c.args.chip.place c.args.mem.place c.args.port c.write_port_of.result.now at built

pub is_ready-requires-clause-address : goal.is_ready-requires-clause-address
is_ready-requires-clause-address c =
    let same : c.start.inside.results.now ≡ c.args.start.now.results = ap (λ (f : FrameState). f.results) c.start.view_is in
    let at : write_port c.args.start.now.results.net c.args.chip.place c.args.mem.place c.args.port ≡ Some c.write_port_of.result.now =
    subst (λ (r : Results). write_port r.net c.args.chip.place c.args.mem.place c.args.port ≡ Some c.write_port_of.result.now) same c.write_port_of.ensures in
    let built : IsBuilt c.args.start.now.results.net = subst (λ (r : Results). IsBuilt r.net) same c.stand.ensures.netlist in
    write_address c.args.start.now.results c.args.chip.place c.args.mem.place c.args.port c.write_port_of.result.now at built

pub is_ready-requires-clause-feed : goal.is_ready-requires-clause-feed
is_ready-requires-clause-feed c =
    let same : c.start.inside.results.now ≡ c.args.start.now.results = ap (λ (f : FrameState). f.results) c.start.view_is in
    let at : write_port c.args.start.now.results.net c.args.chip.place c.args.mem.place c.args.port ≡ Some c.write_port_of.result.now =
    subst (λ (r : Results). write_port r.net c.args.chip.place c.args.mem.place c.args.port ≡ Some c.write_port_of.result.now) same c.write_port_of.ensures in
    let built : IsBuilt c.args.start.now.results.net = subst (λ (r : Results). IsBuilt r.net) same c.stand.ensures.netlist in
    write_feed c.args.start.now.results c.args.chip.place c.args.mem.place c.args.port c.write_port_of.result.now at built

pub returns-clause-counted : goal.returns-clause-counted
returns-clause-counted c =
    let same : c.start.inside.results.now ≡ c.args.start.now.results = ap (λ (f : FrameState). f.results) c.start.view_is in
    let at : write_port c.args.start.now.results.net c.args.chip.place c.args.mem.place c.args.port ≡ Some c.write_port_of.result.now =
    subst (λ (r : Results). write_port r.net c.args.chip.place c.args.mem.place c.args.port ≡ Some c.write_port_of.result.now) same c.write_port_of.ensures in
    let built : IsBuilt c.args.start.now.results.net = subst (λ (r : Results). IsBuilt r.net) same c.stand.ensures.netlist in
    due_counts c.args.start.now c.args.chip.place c.args.mem.place c.args.port c.write_port_of.result.now at c.args.standing c.requires.standing (search rules)
    (write_enable c.args.start.now.results c.args.chip.place c.args.mem.place c.args.port c.write_port_of.result.now at built)
    (write_address c.args.start.now.results c.args.chip.place c.args.mem.place c.args.port c.write_port_of.result.now at built)
    (write_feed c.args.start.now.results c.args.chip.place c.args.mem.place c.args.port c.write_port_of.result.now at built)
    c.is_ready.result c.is_ready.ensures
