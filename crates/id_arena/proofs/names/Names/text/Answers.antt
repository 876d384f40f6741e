use Rattle.std.proofs.Common.{◌∙◌, ap, get_or, ◌<◌, length, arith}
use Rattle.std.proofs.lemmas.List.{length-map}
use Rattle.id_arena.specs.Names.{place_among}
use Rattle.id_arena.proofs.StoredNames.{place_among-own}
use Rattle.id_arena.proofs.names.Names.text.Goals as goal

pub returns-clause-once : goal.returns-clause-once
returns-clause-once c =
    let stored = c.self.inside.texts.keys in
    let here = c.index-as_slice-place in
    let within : c.args.place < length stored = omega (arith, ap length c.self.view_is, length-map stored (λ text. text.items)) in
    let same = c.as_slice-2.ensures.value ∙ ap (λ text. text.items) here.is ∙ ap (λ texts. (get_or texts c.args.place here.result).items) c.as_slice.ensures.keys in
    ap (λ text. place_among c.args.self.now text) same
    ∙ place_among-own (λ text. text.items) stored c.args.self.now c.args.place here.result c.self.view_is c.as_slice.ensures.unique within
