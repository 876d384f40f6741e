use Rattle.std.proofs.Common.{rules, map, take, drop, ◌+◌}
use Rattle.netlist_reader.specs.Forms.{piece_word}
use Rattle.netlist_reader.proofs.Pieces.{pieces_split}
use Rattle.netlist_reader.proofs.Stucks.{stops, fixed}
use Rattle.netlist_reader.proofs.piece.take_all.Goals as goal

pub returns-in_err-take : goal.returns-in_err-take
returns-in_err-take c =
    stops (λ u. Unit {0}) (λ u. Unit {0}) _ _ (map piece_word (take c.pieces.place c.args.pieces.now)) _ _ _ _ _ c.from_residual.ensures c.pieces.invariant
    (fixed _ _ _ (map piece_word (drop (c.pieces.place + 1) c.args.pieces.now)) _ (pieces_split c.args.pieces.now c.pieces.place _ c.pieces-test.true (search rules)))
    c.in_err-take.ensures
