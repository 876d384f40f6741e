use Rattle.std.proofs.Common.{rules, arith, refl, [], ◌∷◌}
use Rattle.verilog_tree.specs.declared.terminal.Terminal.TheVariants.{Name, Direction, Wire, Supply, Assign, Gate, Semicolon}
use Rattle.verilog_tree.specs.Predict.{due, inst, more, net, pair, prim, range, wire}
use Rattle.verilog_tree.proofs.Items.{item_reads, item_wrong}
use Rattle.verilog_tree.proofs.item.read_item.Goals as goal

pub returns-in-Some-Direction : goal.returns-in-Some-Direction
returns-in-Some-Direction c =
    let p = item_reads c.args.reader.now c.args.at (Direction c.in-Some-Direction.dir) (wire ∷ range ∷ due Name ∷ more (due Name) Semicolon ∷ []) c.read_ports.result (search rules) refl c.read_ports.ensures in
    record { stands = p.0; further = p.1 }

pub returns-in-Some-Wire : goal.returns-in-Some-Wire
returns-in-Some-Wire c =
    let p = item_reads c.args.reader.now c.args.at Wire (range ∷ net ∷ more net Semicolon ∷ []) c.read_nets.result (search rules) refl c.read_nets.ensures in
    record { stands = p.0; further = p.1 }

pub returns-in-Some-Supply : goal.returns-in-Some-Supply
returns-in-Some-Supply c =
    let p = item_reads c.args.reader.now c.args.at (Supply c.in-Some-Supply.one) (range ∷ due Name ∷ more (due Name) Semicolon ∷ []) c.read_supply.result (search rules) refl c.read_supply.ensures in
    record { stands = p.0; further = p.1 }

pub returns-in-Some-Assign : goal.returns-in-Some-Assign
returns-in-Some-Assign c =
    let p = item_reads c.args.reader.now c.args.at Assign (pair ∷ more pair Semicolon ∷ []) c.read_assign.result (search rules) refl c.read_assign.ensures in
    record { stands = p.0; further = p.1 }

pub returns-in-Some-Gate : goal.returns-in-Some-Gate
returns-in-Some-Gate c =
    let p = item_reads c.args.reader.now c.args.at Gate (prim ∷ more prim Semicolon ∷ []) c.read_gates.result (search rules) refl c.read_gates.ensures in
    record { stands = p.0; further = p.1 }

pub returns-in-Some-Name : goal.returns-in-Some-Name
returns-in-Some-Name c =
    let p = item_reads c.args.reader.now c.args.at Name (inst ∷ more inst Semicolon ∷ []) c.read_instances.result (search rules) refl c.read_instances.ensures in
    record { stands = p.0; further = p.1 }

pub returns-in_default : goal.returns-in_default
returns-in_default c = record { stands = item_wrong _ _ c.requires (search rules) (search rules) (search rules) (search rules) (search rules) (search rules); further = tt }
