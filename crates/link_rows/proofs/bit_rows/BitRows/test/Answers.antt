use Rattle.std.proofs.Common.{◌∙◌}
use Rattle.link_rows.proofs.Tables.{read-within, read-bit}
use Rattle.link_rows.proofs.bit_rows.BitRows.test.Goals as goal

pub test_bit-requires : goal.test_bit-requires
test_bit-requires c =
    read-within (λ words. words.items) c.self.inside.width c.self.inside.rows.items c.args.self.now c.self.view_is c.self.invariant c.args.row c.index.result.now c.deref.result.now c.requires.row c.index.ensures c.deref.ensures.value c.args.at c.requires.at

pub returns : goal.returns
returns c =
    c.test_bit.ensures
    ∙ read-bit (λ words. words.items) c.self.inside.width c.self.inside.rows.items c.args.self.now c.self.view_is c.self.invariant c.args.row c.index.result.now c.deref.result.now c.requires.row c.index.ensures c.deref.ensures.value c.args.at c.requires.at
