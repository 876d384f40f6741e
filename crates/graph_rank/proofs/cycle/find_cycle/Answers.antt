use Rattle.std.proofs.Common.{◌≡◌, Some, None, get_or, arith, ◌∙◌}
use Rattle.graph_rank.proofs.Walks.{read_as, in_places, needs_marked, need_unranked, walks_on, cut_is, none_left}
use Rattle.graph_rank.proofs.cycle.find_cycle.Goals as goal

pub split_off-requires : goal.split_off-requires
split_off-requires c =
    let s = c.walk.invariant in
    let so = read_as _ c.walk.node c.index.result.now (Some c.in-Some.place) (in_places _ _ _ _ s) c.index.ensures c.in-Some.is in
    let h = (s.placed _ _ so).0 in omega arith

pub returns-in-Some : goal.returns-in-Some
returns-in-Some c =
    let s = c.walk.invariant in
    let so = read_as _ c.walk.node c.index.result.now (Some c.in-Some.place) (in_places _ _ _ _ s) c.index.ensures c.in-Some.is in
    cut_is _ _ _ _ s c.in-Some.place so _ _ c.from_vec.ensures c.in_ok-split_off.ensures.tail

pub least_unranked-node-requires-clause-bounds : goal.least_unranked-node-requires-clause-bounds
least_unranked-node-requires-clause-bounds c =
    needs_marked _ _ c.requires.marks _ _ _ c.walk.invariant _ c.row.ensures

pub least_unranked-node-requires-clause-some : goal.least_unranked-node-requires-clause-some
least_unranked-node-requires-clause-some c =
    need_unranked _ _ c.requires.marks _ _ _ c.walk.invariant _ c.row.ensures

pub walk-preserved : goal.walk-preserved
walk-preserved c =
    let s = c.walk.invariant in
    let new : get_or c.walk.places.items c.walk.node None ≡ None =
    read_as _ c.walk.node c.index.result.now None (in_places _ _ _ _ s) c.index.ensures (none_left _ c.in_default.not-Some) in
    walks_on _ _ c.requires.marks _ _ _ s _ c.row.ensures new _ c.least_unranked-node.ensures _ _ c.in_ok-push.ensures.items (c.len.ensures ∙ c.walk.walk.ok.0)
