use Rattle.std.proofs.Common.{◌∙◌, Some, ap, sym}
use Rattle.std.specs.Option.{option_map}
use Rattle.link_rows.proofs.Held.{holds, holds-read_prev}
use Rattle.link_rows.proofs.rows.Rows.before.Goals as goal

pub returns-in_err-prev : goal.returns-in_err-prev
returns-in_err-prev g c =
    let v = c.args.self.now in
    let told = holds-read_prev _ _ v (holds _ _ v c.self.view_is c.self.invariant) (g.I.Key.place_of c.args.i) c.place.result c.index.result.now c.requires c.place.ensures c.index.ensures in
    c.from_residual.ensures ∙ ap (option_map g.I.Key.key_of) (sym c.in_err-prev.was ∙ told)

pub returns : goal.returns
returns g c =
    let v = c.args.self.now in
    let told = holds-read_prev _ _ v (holds _ _ v c.self.view_is c.self.invariant) (g.I.Key.place_of c.args.i) c.place.result c.index.result.now c.requires c.place.ensures c.index.ensures in
    ap Some c.of.ensures ∙ ap (option_map g.I.Key.key_of) (sym c.in_ok-prev.was ∙ told)
