use Rattle.std.proofs.Common.{refl}
use Rattle.graph_rank.proofs.Finished.{needs_in, lows_in, finishes, follows}
use Rattle.graph_rank.proofs.search.Search.step.Goals as goal

pub first_unranked-requires-clause-bounds : goal.first_unranked-requires-clause-bounds
first_unranked-requires-clause-bounds c =
    needs_in _ _ _ _ c.requires.search _ c.requires.last _ c.row-needs.ensures _ c.as_slice.ensures.value

pub rank_above-rank-requires-clause-bounds : goal.rank_above-rank-requires-clause-bounds
rank_above-rank-requires-clause-bounds c =
    needs_in _ _ _ _ c.requires.search _ c.requires.last _ c.row-needs.ensures _ c.as_slice-in-None.ensures.value

pub rank_above-rank-requires-clause-low : goal.rank_above-rank-requires-clause-low
rank_above-rank-requires-clause-low c =
    lows_in _ _ _ _ c.requires.search _ c.requires.last _ c.row-needs.ensures _ _ c.as_slice.ensures.value c.as_slice-in-None.ensures.value c.in-None.ensures

pub follow-requires : goal.follow-requires
follow-requires c =
    needs_in _ _ _ _ c.requires.search _ c.requires.last _ c.row-needs.ensures c.args.self.now.marks.items refl
    c.in-Some.end 0 c.in-Some.ensures.0

pub returns-in-None : goal.returns-in-None
returns-in-None c =
    finishes _ _ _ _ c.requires.search _ c.requires.last _ c.row-needs.ensures _ _ c.as_slice.ensures.value c.as_slice-in-None.ensures.value
    c.in-None.ensures _ c.rank_above-rank.ensures _ _ _ c.finish.ensures.marks c.finish.ensures.next c.finish.ensures.trail

pub returns-in_ok-follow-in-Some : goal.returns-in_ok-follow-in-Some
returns-in_ok-follow-in-Some c =
    follows _ _ _ _ c.requires.search _ c.requires.last _ c.row-needs.ensures c.in-Some.end c.in-Some.ensures.0
    (rw c.as_slice.ensures.value at c.in-Some.ensures.1) (rw c.as_slice.ensures.value at c.in-Some.ensures.2) _ _ _
    c.in_ok-follow-in-Some.ensures.marks c.in_ok-follow-in-Some.ensures.next c.in_ok-follow-in-Some.ensures.trail
