use Rattle.std.proofs.Common.{◌∙◌, ap, is_some, sym}
use Rattle.id_arena.specs.Names.{place_among, with_name}
use Rattle.module_nets.specs.Names.{text_of}
use Rattle.module_bits.proofs.Noting.{notes_known, notes_new}
use Rattle.module_bits.proofs.ports.note.Goals as goal

pub returns-in_ok-push : goal.returns-in_ok-push
returns-in_ok-push c =
    let names = c.args.given.now.names in
    notes_new (text_of c.args.source.now c.args.tokens.now) c.args.given.now c.args.direction c.intern.new.self c.push.new.self
    c.find.result (ap (λ t. place_among names t) (sym c.text_at-text.ensures) ∙ sym c.find.ensures.place) c.if-is_none.ensures
    (c.in-Ok.ensures.names ∙ ap (λ t. with_name names t) c.text_at-text.ensures)
    c.in_ok-push.ensures.ok

pub returns-else-is_none : goal.returns-else-is_none
returns-else-is_none c =
    notes_known (text_of c.args.source.now c.args.tokens.now) c.args.given.now c.args.direction
    (ap (λ o. is_some o) (ap (λ t. place_among c.args.given.now.names t) (sym c.text_at-text.ensures) ∙ sym c.find.ensures.place) ∙ c.if-is_none.ensures)
