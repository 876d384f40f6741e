use Rattle.std.proofs.Common.{rules, ◌≡◌, List, refl, sym, subst, ap}
use Rattle.std.specs.Prelude.{Some}
use Rattle.id_arena.specs.declared.keys.ChipNetId.{ChipNetId}
use Rattle.emu_machine.specs.Results.{Results}
use Rattle.emu_machine.specs.State.{read_port}
use Rattle.emu_machine.specs.Building.{IsBuilt}
use Rattle.frame_marks.specs.Frames.{FrameState}
use Rattle.frame_marks.specs.Tables.{AreNets}
use Rattle.frame_marks.proofs.Ports.{read_address}
use Rattle.frame_marks.proofs.Reading.{read_clocked, read_open}
use Rattle.frame_marks.proofs.given.read_marks.Goals as goal

pub is_old-before-requires-clause-nets : goal.is_old-before-requires-clause-nets
is_old-before-requires-clause-nets c =
    let same : c.start.inside.results.now ≡ c.args.start.now.results = ap (λ (f : FrameState). f.results) c.start.view_is in
    let at : read_port c.args.start.now.results.net c.args.chip.place c.args.mem.place c.args.port ≡ Some c.read_port_of-read.result.now =
    subst (λ (r : Results). read_port r.net c.args.chip.place c.args.mem.place c.args.port ≡ Some c.read_port_of-read.result.now) same c.read_port_of-read.ensures in
    let built : IsBuilt c.args.start.now.results.net = subst (λ (r : Results). IsBuilt r.net) same c.stand.ensures.netlist in
    subst (λ (nets : List ChipNetId). AreNets c.args.start.now.results c.args.chip.place nets) (sym c.as_slice-address.ensures)
    (read_address c.args.start.now.results c.args.chip.place c.args.mem.place c.args.port c.read_port_of-read.result.now at built)

pub returns-then-has_clock : goal.returns-then-has_clock
returns-then-has_clock c =
    let same : c.start.inside.results.now ≡ c.args.start.now.results = ap (λ (f : FrameState). f.results) c.start.view_is in
    let at : read_port c.args.start.now.results.net c.args.chip.place c.args.mem.place c.args.port ≡ Some c.read_port_of-read.result.now =
    subst (λ (r : Results). read_port r.net c.args.chip.place c.args.mem.place c.args.port ≡ Some c.read_port_of-read.result.now) same c.read_port_of-read.ensures in
    let built : IsBuilt c.args.start.now.results.net = subst (λ (r : Results). IsBuilt r.net) same c.stand.ensures.netlist in
    read_clocked c.args.start.now c.args.chip.place c.args.mem.place c.args.port c.read_port_of-read.result.now at
    (read_address c.args.start.now.results c.args.chip.place c.args.mem.place c.args.port c.read_port_of-read.result.now at built)
    c.memory_of-memory.result c.memory_of-memory.ensures c.is_old-before.result
    (search rules) (search rules) c.after_if.result c.after_if.ensures

pub is_new-after-requires-clause-nets : goal.is_new-after-requires-clause-nets
is_new-after-requires-clause-nets c =
    let same : c.start.inside.results.now ≡ c.args.start.now.results = ap (λ (f : FrameState). f.results) c.start.view_is in
    let at : read_port c.args.start.now.results.net c.args.chip.place c.args.mem.place c.args.port ≡ Some c.read_port_of-read.result.now =
    subst (λ (r : Results). read_port r.net c.args.chip.place c.args.mem.place c.args.port ≡ Some c.read_port_of-read.result.now) same c.read_port_of-read.ensures in
    let built : IsBuilt c.args.start.now.results.net = subst (λ (r : Results). IsBuilt r.net) same c.stand.ensures.netlist in
    subst (λ (nets : List ChipNetId). AreNets c.args.start.now.results c.args.chip.place nets) (sym c.as_slice-address.ensures)
    (read_address c.args.start.now.results c.args.chip.place c.args.mem.place c.args.port c.read_port_of-read.result.now at built)

pub returns : goal.returns
returns c =
    let same : c.start.inside.results.now ≡ c.args.start.now.results = ap (λ (f : FrameState). f.results) c.start.view_is in
    let at : read_port c.args.start.now.results.net c.args.chip.place c.args.mem.place c.args.port ≡ Some c.read_port_of-read.result.now =
    subst (λ (r : Results). read_port r.net c.args.chip.place c.args.mem.place c.args.port ≡ Some c.read_port_of-read.result.now) same c.read_port_of-read.ensures in
    let built : IsBuilt c.args.start.now.results.net = subst (λ (r : Results). IsBuilt r.net) same c.stand.ensures.netlist in
    read_open c.args.start.now c.args.chip.place c.args.mem.place c.args.port c.read_port_of-read.result.now at
    (read_address c.args.start.now.results c.args.chip.place c.args.mem.place c.args.port c.read_port_of-read.result.now at built)
    c.memory_of-memory.result c.memory_of-memory.ensures c.is_old-before.result c.is_new-after.result
    (search rules) c.write_count-count.result c.write_count-count.ensures (search rules) (search rules) _ refl
