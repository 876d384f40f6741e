-- Inside: what the program does of a primitive.
use Rattle.std.specs.Prelude.{ℕ, Some, List, flat_map, map}
use Rattle.id_arena.specs.declared.keys.NetId.{NetId}
use Rattle.verilog_tree.specs.declared.source.Expr.{Expr}
use Rattle.verilog_tree.specs.declared.source.GatePart.{GatePart}
use Rattle.flattening.specs.Faults.{bits_here, expression_test}
use Rattle.flattening.specs.Pieces.{performed}
use Rattle.flattening.specs.Places.{Given, Inside}
use Rattle.flattening.specs.Primitives.{op_at, primitive_deed}
use Rattle.flattening.specs.Steps.{Step, Test}

-- the tests of terminals: each has one bit
abbrev pub terminal_tests : Given → Inside → List Expr → List Test
terminal_tests g here terminals = map (expression_test g here (Some 1)) terminals

-- the nets at terminals
abbrev pub terminal_nets : Given → Inside → List Expr → List NetId
terminal_nets g here terminals = flat_map (bits_here g here) terminals

-- the step of a primitive, in an item that begins at a byte with the gate word at a token
abbrev pub primitive_step : Given → Inside → ℕ → ℕ → GatePart → Step
primitive_step g here at word prim made = performed at (primitive_deed g here at (op_at g.tokens word) prim made) made
