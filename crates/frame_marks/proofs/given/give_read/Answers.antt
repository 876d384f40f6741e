use Rattle.std.proofs.Common.{◌≡◌, List, sym, subst, ap}
use Rattle.std.specs.Prelude.{Some, All}
use Rattle.emu_machine.specs.Results.{Results}
use Rattle.emu_machine.specs.Building.{IsBuilt}
use Rattle.frame_marks.specs.Frames.{FrameState}
use Rattle.emu_machine.specs.State.{read_port}
use Rattle.id_arena.specs.declared.keys.ChipNetId.{ChipNetId}
use Rattle.frame_marks.specs.Takes.{IsFree}
use Rattle.frame_marks.proofs.Ports.{read_free}
use Rattle.frame_marks.proofs.given.give_read.Goals as goal

pub returns-clause-free : goal.returns-clause-free
returns-clause-free c =
    let same : c.start.inside.results.now ≡ c.args.start.now.results = ap (λ (f : FrameState). f.results) c.start.view_is in
    let built : IsBuilt c.args.start.now.results.net = subst (λ (r : Results). IsBuilt r.net) same c.stand.ensures.netlist in
    let at : read_port c.args.start.now.results.net c.args.chip.place c.args.mem.place c.args.port ≡ Some c.read_port_of-read.result.now =
    subst (λ (r : Results). read_port r.net c.args.chip.place c.args.mem.place c.args.port ≡ Some c.read_port_of-read.result.now) same c.read_port_of-read.ensures in
    c.in_ok-give_bits.ensures.free c.args.start.now.results
    (subst (λ (nets : List ChipNetId). All (λ n. IsFree c.args.start.now.results c.args.chip.place n.place) nets) (sym c.as_slice.ensures)
    (read_free c.args.start.now.results c.args.chip.place c.args.mem.place c.args.port c.read_port_of-read.result.now at built))
    c.requires.free
