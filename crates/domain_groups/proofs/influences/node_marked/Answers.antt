use Rattle.std.proofs.Common.{sym, ap, ◌∙◌}
use Rattle.link_rows.specs.BitRows.{bits_at, is_set}
use Rattle.domain_groups.proofs.NodeMarks.{node_room, mark_is}
use Rattle.domain_groups.proofs.influences.node_marked.Goals as goal

pub test-requires-clause-at : goal.test-requires-clause-at
test-requires-clause-at c =
    node_room c.args.ranked.now.design c.args.node c.number.result c.args.table.now.width c.requires.node c.number.ensures c.requires.row.width

pub returns : goal.returns
returns c =
    c.test.ensures ∙ ap (is_set (bits_at c.args.table.now c.args.row)) c.number.ensures ∙ sym (mark_is c.args.ranked.now.design c.args.table.now c.args.row c.args.node c.requires.node)
