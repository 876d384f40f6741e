use Rattle.std.proofs.Common.{◌≡◌, ◌∙◌, ap, length, sym}
use Rattle.std.proofs.lemmas.Slice.Zip.{zip_end}
use Rattle.std.specs.Iterator.Adapters.{zip_first, zip_second}
use Rattle.std.specs.Slice.Iter.{iter_rest}
use Rattle.flattening.specs.Pieces.{elements_in, joined}
use Rattle.elaborator.proofs.Joining.{joined_none}
use Rattle.elaborator.proofs.Porting.{ports_end}
use Rattle.elaborator.proofs.feeding.push_ports.Goals as goal

pub returns : goal.returns
returns c =
    let first : iter_rest (zip_first c.into_iter-port-iterator.result) ≡ c.args.ports.now = search in
    let second : iter_rest (zip_second c.into_iter-port-iterator.result) ≡ c.args.tied.now = search in
    let count = zip_end c.args.ports.now c.args.tied.now c.ports.yielded c.into_iter-port-iterator.result c.ports.port-iterator c.next.new.self c.next.result first second c.ports.yielded_by c.in-None.is c.next.ensures.steps in
    sym (joined_none c.ports.making c.args.child.now.scope)
    ∙ ap (λ es. joined c.ports.making (elements_in c.args.child.now.scope es))
    (sym (ports_end c.args.side c.args.setting.now c.args.child.now c.args.ports.now c.args.tied.now (length c.ports.yielded) count))
    ∙ c.ports.invariant
