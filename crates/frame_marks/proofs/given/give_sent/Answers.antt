use Rattle.std.proofs.Common.{rules, ◌≡◌, subst, ap}
use Rattle.std.specs.Prelude.{Some, slice_get}
use Rattle.emu_machine.specs.Results.{Results}
use Rattle.emu_machine.specs.Building.{IsBuilt}
use Rattle.emu_machine.specs.Netlist.{chip_at}
use Rattle.frame_marks.specs.Frames.{FrameState}
use Rattle.frame_marks.proofs.Ports.{register_free}
use Rattle.frame_marks.proofs.Giving.{one_free, send_given}
use Rattle.frame_marks.proofs.given.give_sent.Goals as goal

pub returns-clause-free : goal.returns-clause-free
returns-clause-free c =
    let same : c.start.inside.results.now ≡ c.args.start.now.results = ap (λ (f : FrameState). f.results) c.start.view_is in
    let built : IsBuilt c.args.start.now.results.net = subst (λ (r : Results). IsBuilt r.net) same c.stand.ensures.netlist in
    let at : slice_get (chip_at c.args.start.now.results.net c.ends_of-ends.result.to.place).registers c.args.register.place ≡ Some c.register_of-register.result =
    subst (λ (r : Results). slice_get (chip_at r.net c.ends_of-ends.result.to.place).registers c.args.register.place ≡ Some c.register_of-register.result) same c.register_of-register.ensures in
    one_free c.args.start.now.results c.ends_of-ends.result.to c.register_of-register.result.q.place c.arriving-marks.result
    (register_free c.args.start.now.results built c.ends_of-ends.result.to.place c.args.register.place c.register_of-register.result at)
    c.args.given.now.items c.requires.free c.give_net.new.given.items c.in_ok-give_net.ensures

pub returns-clause-given : goal.returns-clause-given
returns-clause-given c =
    let same : c.start.inside.results.now ≡ c.args.start.now.results = ap (λ (f : FrameState). f.results) c.start.view_is in
    let built : IsBuilt c.args.start.now.results.net = subst (λ (r : Results). IsBuilt r.net) same c.stand.ensures.netlist in
    let at : slice_get (chip_at c.args.start.now.results.net c.ends_of-ends.result.to.place).registers c.args.register.place ≡ Some c.register_of-register.result =
    subst (λ (r : Results). slice_get (chip_at r.net c.ends_of-ends.result.to.place).registers c.args.register.place ≡ Some c.register_of-register.result) same c.register_of-register.ensures in
    send_given c.args.start.now c.args.wire c.args.net c.args.register c.ends_of-ends.result (search rules) c.register_of-register.result at (search rules)
    c.arriving-marks.result c.arriving-marks.ensures
    c.args.given.now.items c.give_net.new.given.items c.in_ok-give_net.ensures
