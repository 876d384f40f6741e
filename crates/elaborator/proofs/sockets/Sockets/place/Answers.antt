use Rattle.std.proofs.Common.{ap, false, is_some, sym, true, ◌≡◌, ◌∙◌}
use Rattle.flattening.specs.Links.{socket_names}
use Rattle.elaborator.proofs.Placing.{place_is_some}
use Rattle.elaborator.proofs.sockets.Sockets.place.Goals as goal

pub unreachable-requires : goal.unreachable-requires
unreachable-requires c =
    let none = sym c.find.ensures ∙ c.in-None.is in
    let bad : false ≡ true = sym (ap (λ o. is_some o) none) ∙ place_is_some (socket_names c.args.self.now) c.args.name.now ∙ c.requires in
    cc
