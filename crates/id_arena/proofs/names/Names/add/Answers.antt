use Rattle.std.proofs.Common.{◌≡◌, ◌∙◌, ap, map, rules}
use Rattle.id_arena.proofs.StoredNames.{insert_key-new}
use Rattle.id_arena.proofs.names.Names.add.Goals as goal

pub returns-clause-added : goal.returns-clause-added
returns-clause-added c =
    let same : c.in_ok-copy.copy.items ≡ c.args.text.now = search rules in
    ap (map (λ text. text.items)) c.in_ok-insert.ensures.keys
    ∙ insert_key-new (λ text. text.items) c.self.inside.texts.keys c.args.self.now c.args.text.now c.in_ok-copy.copy c.self.view_is c.requires.new same
