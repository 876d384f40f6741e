use Rattle.std.proofs.Common.{◌≡◌, ◌∙◌, Some, None, ap, sym, rules}
use Rattle.id_arena.specs.Names.{place_among}
use Rattle.id_arena.proofs.FirstPlaces.{place_among-last}
use Rattle.id_arena.proofs.names.Names.intern.Goals as goal

pub returns-clause-place : goal.returns-clause-place
returns-clause-place c =
    let new : place_among c.args.self.now c.args.text.now ≡ None = search rules in
    ap (λ names. place_among names c.args.text.now) c.in_ok-add.ensures.added
    ∙ place_among-last c.args.self.now c.args.text.now new
    ∙ ap Some (sym c.len-place.ensures)
