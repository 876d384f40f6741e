use Rattle.std.proofs.Common.{◌≡◌, ◌++◌, map, take}
use Rattle.netlist_reader.specs.Forms.{piece_word}
use Rattle.netlist_reader.proofs.piece.take_all.Given as goal

abbrev pub invariant-pieces : goal.invariant-pieces
invariant-pieces l = l.initial.rest ≡ map piece_word (take l.place l.pieces) ++ l.rest
