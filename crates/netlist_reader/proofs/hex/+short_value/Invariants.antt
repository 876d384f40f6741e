use Rattle.std.proofs.Common.{length}
use Rattle.netlist_reader.proofs.hex.+short_value.Given as goal

abbrev pub decreases-short_value : goal.decreases-short_value
decreases-short_value l = length l.digits.now
