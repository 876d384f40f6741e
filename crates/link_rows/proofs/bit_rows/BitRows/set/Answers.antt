use Rattle.std.proofs.Common.{◌≡◌, ◌∙◌, ap, length, arith}
use Rattle.std.specs.Vec.{with_items}
use Rattle.link_rows.specs.Words.{bit_in}
use Rattle.link_rows.proofs.Tables.{rectangular-table, read-within, refilled, write-room, write-table}
use Rattle.link_rows.proofs.bit_rows.BitRows.set.Goals as goal

pub put_bit-requires : goal.put_bit-requires
put_bit-requires c =
    read-within (λ words. words.items) c.self.inside.width c.self.inside.rows.items c.args.self.now c.self.view_is c.self.invariant c.args.row c.index_mut.result.now c.deref_mut.result.now c.requires.row c.index_mut.ensures.value c.deref_mut.ensures.value c.args.at c.requires.at

-- the row's words are those that were written
words-are : (c : goal.After-self-1) → (with_items c.index_mut.result.now c.put_bit.new.words).items ≡ c.put_bit.new.words
words-are c =
    let own = c.index_mut.result.now in
    refilled own.len own.items c.put_bit.new.words (omega (arith, own.ok.0)) (c.put_bit.auto.words ∙ ap length c.deref_mut.ensures.value)

pub invariant_of-self : goal.invariant_of-self
invariant_of-self c =
    write-room (λ words. words.items) c.self.inside.width c.self.inside.rows.items c.args.self.now c.self.view_is c.self.invariant c.args.row c.index_mut.result.now c.deref_mut.result.now c.requires.row c.index_mut.ensures.value c.deref_mut.ensures.value
    c.args.at c.args.value (with_items c.index_mut.result.now c.put_bit.new.words) c.requires.at (ap length (words-are c) ∙ c.put_bit.auto.words) (λ k. ap (λ words. bit_in words k) (words-are c) ∙ c.put_bit.ensures k)

pub returns-clause-bit : goal.returns-clause-bit
returns-clause-bit c =
    write-table (λ words. words.items) c.self.inside.width c.self.inside.rows.items c.args.self.now c.self.view_is c.self.invariant c.args.row c.index_mut.result.now c.deref_mut.result.now c.requires.row c.index_mut.ensures.value c.deref_mut.ensures.value
    c.args.at c.args.value (with_items c.index_mut.result.now c.put_bit.new.words) c.requires.at (ap length (words-are c) ∙ c.put_bit.auto.words) (λ k. ap (λ words. bit_in words k) (words-are c) ∙ c.put_bit.ensures k)

pub returns-clause-rectangular : goal.returns-clause-rectangular
returns-clause-rectangular c = rectangular-table c.self.inside.width _
