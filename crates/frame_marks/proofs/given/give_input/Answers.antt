use Rattle.std.proofs.Common.{◌≡◌, subst, ap}
use Rattle.std.specs.Prelude.{Some, slice_get}
use Rattle.emu_machine.specs.Results.{Results}
use Rattle.emu_machine.specs.Building.{IsBuilt}
use Rattle.emu_machine.specs.Netlist.{chip_at}
use Rattle.frame_marks.specs.Frames.{FrameState}
use Rattle.frame_marks.proofs.Ports.{register_free}
use Rattle.frame_marks.proofs.Giving.{one_free, input_given}
use Rattle.frame_marks.proofs.given.give_input.Goals as goal

pub returns-clause-free : goal.returns-clause-free
returns-clause-free c =
    let same : c.start.inside.results.now ≡ c.args.start.now.results = ap (λ (f : FrameState). f.results) c.start.view_is in
    let built : IsBuilt c.args.start.now.results.net = subst (λ (r : Results). IsBuilt r.net) same c.stand.ensures.netlist in
    let at : slice_get (chip_at c.args.start.now.results.net c.args.chip.place).registers c.args.register.place ≡ Some c.register_of-register.result =
    subst (λ (r : Results). slice_get (chip_at r.net c.args.chip.place).registers c.args.register.place ≡ Some c.register_of-register.result) same c.register_of-register.ensures in
    one_free c.args.start.now.results c.args.chip c.register_of-register.result.q.place c.only_after.result
    (register_free c.args.start.now.results built c.args.chip.place c.args.register.place c.register_of-register.result at)
    c.args.given.now.items c.requires.free c.give_net.new.given.items c.in_ok-give_net.ensures

pub returns-clause-given : goal.returns-clause-given
returns-clause-given c =
    let same : c.start.inside.results.now ≡ c.args.start.now.results = ap (λ (f : FrameState). f.results) c.start.view_is in
    let built : IsBuilt c.args.start.now.results.net = subst (λ (r : Results). IsBuilt r.net) same c.stand.ensures.netlist in
    let at : slice_get (chip_at c.args.start.now.results.net c.args.chip.place).registers c.args.register.place ≡ Some c.register_of-register.result =
    subst (λ (r : Results). slice_get (chip_at r.net c.args.chip.place).registers c.args.register.place ≡ Some c.register_of-register.result) same c.register_of-register.ensures in
    input_given c.args.start.now c.args.chip c.args.register c.register_of-register.result at c.only_after.result
    c.args.given.now.items c.give_net.new.given.items c.in_ok-give_net.ensures c.args.net c.only_after.ensures
