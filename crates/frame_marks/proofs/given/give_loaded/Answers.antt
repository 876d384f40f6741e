use Rattle.std.proofs.Common.{◌≡◌, sym, subst, ap, ◌∙◌}
use Rattle.std.specs.Prelude.{Some, slice_get}
use Rattle.emu_machine.specs.Results.{Results}
use Rattle.emu_machine.specs.Building.{IsBuilt}
use Rattle.emu_machine.specs.Netlist.{chip_at}
use Rattle.frame_marks.specs.Frames.{FrameState}
use Rattle.frame_marks.proofs.Ports.{register_free, register_of_chip}
use Rattle.frame_marks.proofs.Giving.{one_free, load_given}
use Rattle.frame_marks.proofs.given.give_loaded.Goals as goal

pub loaded_marks-requires-clause-register : goal.loaded_marks-requires-clause-register
loaded_marks-requires-clause-register c =
    let same : c.start.inside.results.now ≡ c.args.start.now.results = ap (λ (f : FrameState). f.results) c.start.view_is in
    let built : IsBuilt c.args.start.now.results.net = subst (λ (r : Results). IsBuilt r.net) same c.stand.ensures.netlist in
    let at : slice_get (chip_at c.args.start.now.results.net c.args.chip.place).registers c.args.register.place ≡ Some c.register_of-register.result =
    subst (λ (r : Results). slice_get (chip_at r.net c.args.chip.place).registers c.args.register.place ≡ Some c.register_of-register.result) same c.register_of-register.ensures in
    register_of_chip c.args.start.now.results built c.args.chip.place c.args.register.place c.register_of-register.result at

pub returns-in_ok-give_net-in-Some-clause-free : goal.returns-in_ok-give_net-in-Some-clause-free
returns-in_ok-give_net-in-Some-clause-free c =
    let same : c.start.inside.results.now ≡ c.args.start.now.results = ap (λ (f : FrameState). f.results) c.start.view_is in
    let built : IsBuilt c.args.start.now.results.net = subst (λ (r : Results). IsBuilt r.net) same c.stand.ensures.netlist in
    let at : slice_get (chip_at c.args.start.now.results.net c.args.chip.place).registers c.args.register.place ≡ Some c.register_of-register.result =
    subst (λ (r : Results). slice_get (chip_at r.net c.args.chip.place).registers c.args.register.place ≡ Some c.register_of-register.result) same c.register_of-register.ensures in
    one_free c.args.start.now.results c.args.chip c.register_of-register.result.q.place c.in-Some.marks
    (register_free c.args.start.now.results built c.args.chip.place c.args.register.place c.register_of-register.result at)
    c.args.given.now.items c.requires.free c.give_net.new.given.items c.in_ok-give_net-in-Some.ensures

pub returns-in_ok-give_net-in-Some-clause-given : goal.returns-in_ok-give_net-in-Some-clause-given
returns-in_ok-give_net-in-Some-clause-given c =
    let same : c.start.inside.results.now ≡ c.args.start.now.results = ap (λ (f : FrameState). f.results) c.start.view_is in
    let built : IsBuilt c.args.start.now.results.net = subst (λ (r : Results). IsBuilt r.net) same c.stand.ensures.netlist in
    let at : slice_get (chip_at c.args.start.now.results.net c.args.chip.place).registers c.args.register.place ≡ Some c.register_of-register.result =
    subst (λ (r : Results). slice_get (chip_at r.net c.args.chip.place).registers c.args.register.place ≡ Some c.register_of-register.result) same c.register_of-register.ensures in
    load_given c.args.start.now c.args.chip c.args.register c.register_of-register.result at c.in-Some.marks
    c.args.given.now.items c.give_net.new.given.items c.in_ok-give_net-in-Some.ensures
    (register_of_chip c.args.start.now.results built c.args.chip.place c.args.register.place c.register_of-register.result at)
    (sym c.in-Some.is ∙ c.loaded_marks.ensures)
