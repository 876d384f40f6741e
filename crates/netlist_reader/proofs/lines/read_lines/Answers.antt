use Rattle.std.proofs.Common.{rules}
use Rattle.netlist_reader.proofs.NumberedLines.{items_fit, lines_stop, more_read}
use Rattle.netlist_reader.proofs.lines.read_lines.Goals as goal

pub overflow_cast-len : goal.overflow_cast-len
overflow_cast-len g c =
    let fits = items_fit (g.T.Line.Is c.args.nets) g.T.Line.line (g.T.Line.First c.args.nets) c.requires.begins _ _ _ _ c.len.ensures c.items.invariant c.requires.few in search rules

pub returns-in_err-item : goal.returns-in_err-item
returns-in_err-item g c =
    lines_stop (g.T.Line.Is c.args.nets) g.T.Line.line (g.T.Line.First c.args.nets) c.requires.begins
    c.requires.apart
    _ _ _ _ _ _ _ c.from_residual.ensures c.len.ensures c.items.invariant c.in_err-item.ensures

pub items-preserved : goal.items-preserved
items-preserved g c =
    more_read (g.T.Line.Is c.args.nets) g.T.Line.line _ _ _ _ _ _ _ c.len.ensures c.items.invariant (rw c.in-Some.is at c.in_ok-item.ensures) c.in_ok-push.ensures.ok
