use Rattle.std.proofs.Common.{◌≡◌, ◌∙◌, ap, length, sym}
use Rattle.std.proofs.lemmas.Slice.Zip.{zip_end}
use Rattle.std.specs.Iterator.Adapters.{zip_first, zip_second}
use Rattle.std.specs.Slice.Iter.{iter_rest}
use Rattle.flattening.specs.Pieces.{elements_in, joined}
use Rattle.elaborator.proofs.Joining.{buffers_end, joined_none}
use Rattle.elaborator.proofs.making.Making.push_buffers.Goals as goal

pub returns : goal.returns
returns c =
    let first : iter_rest (zip_first c.into_iter-source-iterator.result) ≡ c.args.from.now = search in
    let second : iter_rest (zip_second c.into_iter-source-iterator.result) ≡ c.args.to.now = search in
    let count = zip_end c.args.from.now c.args.to.now c.bits.yielded c.into_iter-source-iterator.result c.bits.source-iterator c.next.new.self c.next.result first second c.bits.yielded_by c.in-None.is c.next.ensures.steps in
    sym (joined_none c.bits.self c.args.scope)
    ∙ ap (λ es. joined c.bits.self (elements_in c.args.scope es)) (sym (buffers_end c.args.from.now c.args.to.now (length c.bits.yielded) count))
    ∙ c.bits.invariant
