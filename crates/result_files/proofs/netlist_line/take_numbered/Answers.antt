use Rattle.std.proofs.Common.{rules}
use Rattle.result_files.proofs.netlist_line.take_numbered.Goals as goal
use Rattle.result_files.proofs.Numbers.{number_taken}

pub returns-in-Some : goal.returns-in-Some
returns-in-Some c = number_taken _ c.in-Some.found c.args.number _ _ (search rules) c.ranges.number.fits c.in-Some.ensures
