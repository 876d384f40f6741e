use Rattle.std.proofs.Common.{rules}
use Rattle.netlist_reader.proofs.piece.is_numbered.Goals as goal
use Rattle.netlist_reader.proofs.Names.{is_numbered, not_numbered}

pub returns-in-Some : goal.returns-in-Some
returns-in-Some c =
    rw c.text.ensures at (is_numbered c.args.rest.now c.name.result.now c.text.result.now c.in-Some.found c.args.number (search rules) c.ranges.number.fits c.name.ensures c.in-Some.ensures)

pub returns-in-None : goal.returns-in-None
returns-in-None c =
    rw c.text.ensures at (not_numbered c.args.rest.now c.name.result.now c.text.result.now c.args.number c.ranges.number.fits c.name.ensures c.in-None.ensures)
