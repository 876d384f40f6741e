use Rattle.std.proofs.Common.{◌≡◌, ◌∙◌, ap, arith}
use Rattle.design_core.specs.Design.{net_count}
use Rattle.domain_groups.proofs.NodeMarks.{net_room}
use Rattle.domain_groups.proofs.influences.net_marked.Goals as goal

pub test-requires-clause-at : goal.test-requires-clause-at
test-requires-clause-at c =
    let count : c.nets.result ≡ net_count c.args.ranked.now.design = c.nets.ensures.count ∙ ap net_count c.design.ensures in
    let place = c.place.ensures in
    let low = net_room c.args.ranked.now.design c.args.net (omega arith) in
    let same = c.place-then-place-nets.ensures in
    let wide = c.requires.row.width in
    omega arith
