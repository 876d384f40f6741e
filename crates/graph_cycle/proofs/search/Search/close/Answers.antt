use Rattle.graph_cycle.proofs.Shutting.{closes, closes_keep, closes_less}
use Rattle.graph_cycle.proofs.search.Search.close.Goals as goal

pub returns-clause-search : goal.returns-clause-search
returns-clause-search c =
    rw (c.truncate.ensures.items, c.drop_last.ensures)
    (closes _ _ _ _ _ _ c.requires.search _ c.requires.last c.requires.work _ _ c.turns-on.ensures c.as_slice.ensures.value _ c.shut.ensures c.as_slice-2.ensures.value)

pub returns-clause-keeps : goal.returns-clause-keeps
returns-clause-keeps c =
    closes_keep _ _ _ _ _ _ c.requires.search _ c.requires.last c.requires.work _ _ c.turns-on.ensures c.as_slice.ensures.value _ c.shut.ensures c.as_slice-2.ensures.value

pub returns-clause-less : goal.returns-clause-less
returns-clause-less c =
    rw c.drop_last.ensures
    (closes_less _ _ _ _ _ _ c.requires.search _ c.requires.last c.requires.work _ _ c.turns-on.ensures c.as_slice.ensures.value _ c.shut.ensures c.as_slice-2.ensures.value)
