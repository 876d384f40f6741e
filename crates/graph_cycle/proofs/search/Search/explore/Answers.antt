use Rattle.graph_cycle.proofs.Steps.{need_there, explored, rests}
use Rattle.graph_cycle.proofs.search.Search.explore.Goals as goal

pub returns-then-at-needs-clause-search : goal.returns-then-at-needs-clause-search
returns-then-at-needs-clause-search c =
    rw c.drop_last.ensures
    (rests _ c.args.self.now c.requires.search _ _ c.requires.last c.requires.work c.requires.group _ _ _ c.index-node.ensures c.row-needs.ensures c.index-at.ensures c.if-at-needs.true)

pub follow-requires : goal.follow-requires
follow-requires c =
    need_there _ c.args.self.now c.requires.search _ _ c.requires.last c.requires.work c.requires.group _ _ _ c.index-node.ensures c.row-needs.ensures c.index-at.ensures c.if-at-needs.false

pub returns-clause-search : goal.returns-clause-search
returns-clause-search c =
    (explored _ c.args.self.now c.requires.search _ _ c.requires.last c.requires.work c.requires.group _ _ _ c.index-node.ensures c.row-needs.ensures c.index-at.ensures
    c.follow.new.self c.if-at-needs.false c.in_ok-follow.ensures).search

pub returns-clause-keeps : goal.returns-clause-keeps
returns-clause-keeps c =
    (explored _ c.args.self.now c.requires.search _ _ c.requires.last c.requires.work c.requires.group _ _ _ c.index-node.ensures c.row-needs.ensures c.index-at.ensures
    c.follow.new.self c.if-at-needs.false c.in_ok-follow.ensures).keeps

pub returns-clause-less : goal.returns-clause-less
returns-clause-less c =
    (explored _ c.args.self.now c.requires.search _ _ c.requires.last c.requires.work c.requires.group _ _ _ c.index-node.ensures c.row-needs.ensures c.index-at.ensures
    c.follow.new.self c.if-at-needs.false c.in_ok-follow.ensures).less
