use Rattle.link_rows.proofs.Tables.{read-room, read-first_clear}
use Rattle.link_rows.proofs.bit_rows.BitRows.first_clear_from.Goals as goal

pub first_clear-requires : goal.first_clear-requires
first_clear-requires c =
    read-room (λ words. words.items) c.self.inside.width c.self.inside.rows.items c.args.self.now c.self.view_is c.self.invariant c.args.row c.index.result.now c.deref.result.now c.requires.row c.index.ensures c.deref.ensures.value

pub returns : goal.returns
returns c =
    read-first_clear (λ words. words.items) c.self.inside.width c.self.inside.rows.items c.args.self.now c.self.view_is c.self.invariant c.args.row c.index.result.now c.deref.result.now c.requires.row c.index.ensures c.deref.ensures.value
    c.args.at c.first_clear.result c.first_clear.ensures
