-- The elements of flip-flops, latches and memories.
-- The rule is told in docs/FORMATS.md, "Cells".
use Rattle.std.specs.Prelude.{ℕ, true, Option, Some, None, List, [], ◌∷◌, ◌++◌, map, option_map}
use Rattle.id_arena.specs.declared.keys.NetId.{NetId}
use Rattle.cell_table.specs.declared.cell.CellRead.{CellRead}
use Rattle.cell_table.specs.declared.cell.CellWrite.{CellWrite}
use Rattle.cell_table.specs.declared.cell.EdgePin.{EdgePin}
use Rattle.cell_table.specs.declared.cell.FeedPin.{FeedPin}
use Rattle.cell_table.specs.declared.cell.FeedPin.TheVariants as feed
use Rattle.cell_table.specs.declared.cell.LevelPin.{LevelPin}
use Rattle.design_core.specs.declared.element.Edge.{Edge}
use Rattle.design_core.specs.declared.element.Element.{Element}
use Rattle.design_core.specs.declared.element.Element.TheVariants as element
use Rattle.design_core.specs.declared.element.Flop.{Flop}
use Rattle.design_core.specs.declared.element.Latch.{Latch}
use Rattle.design_core.specs.declared.element.Level.{Level}
use Rattle.design_core.specs.declared.element.Memory.{Memory}
use Rattle.design_core.specs.declared.element.ReadPort.{ReadPort}
use Rattle.design_core.specs.declared.element.WritePort.{WritePort}
use Rattle.design_core.specs.declared.operation.Op.TheVariants.{Not}
use Rattle.cell_parts.specs.CellGates.{table_gate}
use Rattle.cell_parts.specs.Wires.{Wires, net_numbered, nets_at, pin_at}

-- a pin with a level, on its net
abbrev pub level_at : Wires → LevelPin → Level
level_at w level = record { net = pin_at w level.pin; high = level.high }

-- a clock pin with its edge, on its net
abbrev pub edge_at : Wires → EdgePin → Edge
edge_at w edge = record { net = pin_at w edge.pin; rise = edge.rise }

-- a table over pins has an inner net for its output
abbrev pub feed_inner : FeedPin → ℕ
feed_inner (feed.Pin pin) = 0
feed_inner (feed.Table pins table) = 1

-- the gate of a table, if the data is one
abbrev pub feed_gates : Wires → ℕ → FeedPin → List Element
feed_gates w inner (feed.Pin pin) = []
feed_gates w inner (feed.Table pins table) = table_gate w pins table (net_numbered inner) ∷ []

-- the net that a flip-flop or a latch takes its value from
abbrev pub feed_net : Wires → ℕ → FeedPin → NetId
feed_net w inner (feed.Pin pin) = pin_at w pin
feed_net w inner (feed.Table pins table) = net_numbered inner

-- a `not` from the output to the inverted output, where this is connected: else it has no net
abbrev pub inverse_gates : Wires → List ℕ → Option (List ℕ) → List Element
inverse_gates w q None = []
inverse_gates w q (Some qn) = map (element.Gate Not (pin_at w q ∷ [])) (nets_at w qn)

-- the flip-flop itself
abbrev pub flop_at : Wires → ℕ → EdgePin → FeedPin → Option LevelPin → Option LevelPin → List ℕ → Flop
flop_at w inner clock f clear preset q =
    record {
      clock = pin_at w clock.pin;
      rise = clock.rise;
      feed = feed_net w inner f;
      clear = option_map (level_at w) clear;
      preset = option_map (level_at w) preset;
      q = pin_at w q;
    }

-- the latch itself
abbrev pub latch_at : Wires → ℕ → LevelPin → FeedPin → Option LevelPin → Option LevelPin → List ℕ → Latch
latch_at w inner gate f clear preset q =
    record {
      gate = level_at w gate;
      feed = feed_net w inner f;
      clear = option_map (level_at w) clear;
      preset = option_map (level_at w) preset;
      q = pin_at w q;
    }

-- a table gate where the data has a table, then the state element, then the inverted output
abbrev pub flop_elements : Wires → ℕ → EdgePin → FeedPin → Option LevelPin → Option LevelPin → List ℕ → Option (List ℕ)
    → List Element
flop_elements w inner clock f clear preset q qn =
    feed_gates w inner f ++ element.Flop (flop_at w inner clock f clear preset q) ∷ inverse_gates w q qn

-- the same with a latch
abbrev pub latch_elements : Wires → ℕ → LevelPin → FeedPin → Option LevelPin → Option LevelPin → List ℕ → Option (List ℕ)
    → List Element
latch_elements w inner gate f clear preset q qn =
    feed_gates w inner f ++ element.Latch (latch_at w inner gate f clear preset q) ∷ inverse_gates w q qn

-- an absent enable is net 1, active high
abbrev pub enable_at : Wires → Option LevelPin → Level
enable_at w None = record { net = net_numbered 1; high = true }
enable_at w (Some enable) = level_at w enable

-- without address bits there is no address pin, and no net
abbrev pub address_at : Wires → Option (List ℕ) → List NetId
address_at w None = []
address_at w (Some address) = nets_at w address

-- a write port on its nets
abbrev pub write_port : Wires → CellWrite → WritePort
write_port w write =
    record {
      clock = pin_at w write.clock.pin;
      rise = write.clock.rise;
      enable = enable_at w write.enable;
      address = address_at w write.address;
      feed = nets_at w write.feed;
    }

-- a read port on its nets; one without a clock pin has no clock
abbrev pub read_port : Wires → CellRead → ReadPort
read_port w read =
    record { clock = option_map (edge_at w) read.clock; address = address_at w read.address; bits = nets_at w read.bits }

-- the memory of a cell, with its ports in order
abbrev pub memory_at : Wires → ℕ → ℕ → List CellWrite → List CellRead → Memory
memory_at w address_bits width writes reads =
    record { address_bits = address_bits; width = width; writes = map (write_port w) writes; reads = map (read_port w) reads }
