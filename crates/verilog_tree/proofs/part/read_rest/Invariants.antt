use Rattle.std.proofs.Common.{◌-◌, ◌∷◌, [], length}
use Rattle.verilog_tree.specs.Predict.{Extends, Gathers, more}
use Rattle.verilog_tree.proofs.part.read_rest.Given as goal

abbrev pub invariant-items : goal.invariant-items
invariant-items g l =
    Gathers l.reader (more g.P.Part.symbol l.end ∷ []) g.P.Part.symbol l.end (Extends l.reader (g.P.Part.stands l.reader) l.fn.first) l.from l.at l.items

abbrev pub decreases-items : goal.decreases-items
decreases-items g l = length l.reader - l.at
