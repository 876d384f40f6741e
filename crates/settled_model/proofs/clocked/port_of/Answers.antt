-- The port of which a net is a bit is there.
use Rattle.std.proofs.Common.{◌≡◌, ◌<◌, ℕ, length, subst, sym, ap, ◌∙◌}
use Rattle.std.specs.Prelude.{Some, slice_get}
use Rattle.std.proofs.lemmas.Option.{slice_get_within}
use Rattle.settled_model.specs.Clocked.{port_among}
use Rattle.settled_model.proofs.Sizes.{bit_named, port_within}
use Rattle.settled_model.proofs.clocked.port_of.Goals as goal

pub mem-requires : goal.mem-requires
mem-requires c =
    let x = bit_named c.args.design.now c.args.net.place c.args.from.0 c.args.from.1 c.args.from.2 c.requires in
    slice_get_within c.args.design.now.memories c.args.from.0.place x.1.memory x.1.at

pub get-requires : goal.get-requires
get-requires c =
    let x = bit_named c.args.design.now c.args.net.place c.args.from.0 c.args.from.1 c.args.from.2 c.requires in
    subst (λ (k : ℕ). k < length c.mem.result.now.reads) (sym c.from.ensures)
    (port_within c.args.design.now c.args.from.0.place c.args.from.1 c.args.from.2 x.0 x.1 c.mem.result.now c.mem.ensures.here)

pub returns : goal.returns
returns c =
    ap (port_among c.args.from.1) c.mem.ensures.here
    ∙ subst (λ (k : ℕ). slice_get c.mem.result.now.reads k ≡ Some c.get.result.now) c.from.ensures c.get.ensures
