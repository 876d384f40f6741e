use Rattle.std.proofs.Common.{arith}
use Rattle.netlist_reader.proofs.ItemLines.{shows_register}
use Rattle.netlist_reader.proofs.items.next_register.Goals as goal

pub returns : goal.returns
returns c =
    shows_register c.args.nets _ _ _ (omega arith) c.name.ensures c.register_shape.ensures
