-- What supply nets, values of wires and assignments make.
-- The rule is told in docs/FORMATS.md, "Expansion".
use Rattle.std.specs.Prelude.{ℕ, Bool, if◌then◌else◌, Option, Some, None, List, [], ◌∷◌, length, map}
use Rattle.id_arena.specs.declared.keys.NetId.{NetId}
use Rattle.verilog_tree.specs.declared.source.AssignPair.{AssignPair}
use Rattle.verilog_tree.specs.declared.source.Expr.{Expr}
use Rattle.verilog_tree.specs.declared.source.NetPart.{NetPart}
use Rattle.design_core.specs.declared.element.Element.TheVariants as element
use Rattle.design_core.specs.declared.operation.Op.TheVariants.{Buf}
use Rattle.flattening.specs.Faults.{bits_here, expression_test, width_here}
use Rattle.flattening.specs.Pieces.{Deed, buffers, elements_in, nothing}
use Rattle.flattening.specs.Places.{Given, Inside, name_in, named_bits}

-- all bits of the net that a token names, from bit 0 on
abbrev pub net_bits : Given → Inside → ℕ → List NetId
net_bits g here token = named_bits here (name_in g token)

-- net 0 or net 1
abbrev pub constant_net : Bool → NetId
constant_net one = record { place = if one then 1 else 0 }

-- a supply net: each bit is driven by a `buf` from net 0 or net 1, without a test
unfoldable pub supply_deed : Given → Inside → Bool → ℕ → Deed
supply_deed g here one name =
    record {
      tests = [];
      piece = elements_in here.scope (map (λ bit. element.Gate Buf (constant_net one ∷ []) bit) (net_bits g here name));
    }

-- the value of a wire has the width of the wire, and drives it; a wire without value makes nothing
abbrev pub value_deed : Given → Inside → ℕ → Option Expr → Deed
value_deed g here name None = record { tests = []; piece = nothing }
value_deed g here name (Some value) =
    record {
      tests = expression_test g here (Some (length (net_bits g here name))) value ∷ [];
      piece = elements_in here.scope (buffers (bits_here g here value) (net_bits g here name));
    }

-- a wire in an item, with its value or without
unfoldable pub net_deed : Given → Inside → NetPart → Deed
net_deed g here net = value_deed g here net.name net.value

-- an assignment: the left side and then the right side, which has the width of the left one, and drives it
unfoldable pub pair_deed : Given → Inside → AssignPair → Deed
pair_deed g here pair =
    record {
      tests = expression_test g here None pair.left ∷ expression_test g here (Some (width_here g here pair.left)) pair.right ∷ [];
      piece = elements_in here.scope (buffers (bits_here g here pair.right) (bits_here g here pair.left));
    }
