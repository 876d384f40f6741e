-- The path, a slash after one that is not empty, the name and the index are the net's text.
use Rattle.std.proofs.Common.{◌≡◌, ◌∙◌, ◌++◌, Some, ap, slice_get}
use Rattle.design_core.specs.Names.{IsPathIn, before_name, index_text, named_in}
use Rattle.design_core.proofs.Outwards.{net_named}
use Rattle.design_core.proofs.names.named_text.Goals as goal

pub returns : goal.returns
returns c =
    let p = c.args.parts.now in
    let n = c.args.net.place in
    let name = c.get-name.result.now in
    let path = c.in_ok-text.text.items in
    let at-n = c.from.ensures ∙ c.place.ensures in
    let here : slice_get p.net_names n ≡ Some name = rw at-n at c.get-name.ensures in
    let is-path : IsPathIn p.scopes name.scope path = rw (c.as_slice.ensures) at c.in_ok-text.ensures in
    let same : c.from_vec.result ≡ named_in path name =
    c.from_vec.ensures
    ∙ c.in_ok-push_index.ensures
    ∙ ap (λ t. t ++ index_text name.index)
    (c.in_ok-extend_from_slice.ensures.items ∙ ap (λ t. t ++ c.bytes.result.now) c.in_ok-push_slash.ensures ∙ ap (λ b. before_name path ++ b) c.bytes.ensures) in
    net_named p n name path c.from_vec.result c.requires.free here is-path same
