use Rattle.netlist_writer.specs.HexDigits.{HexLeft}
use Rattle.netlist_writer.proofs.text.append_hex.Given as goal

abbrev pub invariant-digits : goal.invariant-digits
invariant-digits l = HexLeft l.digits l.first l.rest l.number

abbrev pub decreases-digits : goal.decreases-digits
decreases-digits l = l.first
