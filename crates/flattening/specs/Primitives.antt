-- What a primitive makes.
-- The rule is told in docs/FORMATS.md, "Expansion" and "Names and paths".
use Rattle.std.specs.Prelude.{◌-◌, ◌==◌, ℕ, Bool, true, false, if◌then◌else◌, Option, Some, None, List, [], ◌∷◌, ◌++◌, flat_map, length, map, slice_get, take}
use Rattle.id_arena.specs.declared.keys.NetId.{NetId}
use Rattle.verilog_lex.specs.declared.keyword.TheConstants.{AND, BUF, NAND, NOR, NOT, OR, XNOR}
use Rattle.verilog_lex.specs.declared.token.Token.{Token}
use Rattle.verilog_lex.specs.declared.token.TokenKind.{TokenKind}
use Rattle.verilog_lex.specs.declared.token.TokenKind.TheVariants.{Keyword}
use Rattle.verilog_tree.specs.declared.source.GatePart.{GatePart}
use Rattle.design_core.specs.declared.element.Element.{Element}
use Rattle.design_core.specs.declared.element.Element.TheVariants as element
use Rattle.design_core.specs.declared.fault.LimitKind.TheVariants.{Inputs}
use Rattle.design_core.specs.declared.operation.Op.{Op}
use Rattle.design_core.specs.declared.operation.Op.TheVariants.{And, Nand, Or, Nor, Xor, Xnor, Buf, Not}
use Rattle.design_core.specs.declared.parts.Scope.{Scope}
use Rattle.design_core.specs.Most.{most_gate_inputs}
use Rattle.flattening.specs.declared.made.Made.{Made}
use Rattle.flattening.specs.Faults.{bits_here, expression_test}
use Rattle.flattening.specs.Pieces.{Deed, beyond, elements_in}
use Rattle.flattening.specs.Places.{Given, Inside, name_in}
use Rattle.flattening.specs.Steps.{Test}

-- the operation of a gate word; a list of primitives begins with no other word than these and `xor`
abbrev pub op_at_place : ℕ → Op
op_at_place place =
    if place == AND then And
    else if place == NAND then Nand
    else if place == OR then Or
    else if place == NOR then Nor
    else if place == XNOR then Xnor
    else if place == BUF then Buf
    else if place == NOT then Not
    else Xor

-- the operation of a reserved word
abbrev pub op_of : TokenKind → Op
op_of (Keyword place) = op_at_place place
op_of other = Xor

-- the operation of the word at a token
abbrev pub op_at : List Token → ℕ → Op
op_at tokens place = elim (slice_get tokens place) [ None ↦ Xor | Some token ↦ op_of token.kind ]

-- `buf` and `not` have one input, the last terminal, and an output at each other terminal
abbrev pub has_one_input : Op → Bool
has_one_input Buf = true
has_one_input Not = true
has_one_input other = false

-- the last of some nets
abbrev pub last_of : List NetId → List NetId
last_of [] = []
last_of (net ∷ []) = net ∷ []
last_of (net ∷ next ∷ nets) = last_of (next ∷ nets)

-- a gate at each terminal but the last, which is its input
abbrev pub one_input_gates : Op → List NetId → List Element
one_input_gates op nets = map (element.Gate op (last_of nets)) (take (length nets - 1) nets)

-- one gate, whose output is the first of the terminals
abbrev pub one_output_gate : Op → List NetId → List Element
one_output_gate op [] = []
one_output_gate op (output ∷ inputs) = element.Gate op inputs output ∷ []

-- the gates of a primitive that has these nets at its terminals
abbrev pub gates_of : Op → List NetId → List Element
gates_of op nets = if has_one_input op then one_input_gates op nets else one_output_gate op nets

-- how many inputs a gate of the primitive has
abbrev pub inputs_of : Op → ℕ → ℕ
inputs_of op terminals = if has_one_input op then 1 else terminals - 1

-- each terminal has one bit; and no gate has too many inputs
abbrev pub primitive_tests : Given → Inside → ℕ → Op → GatePart → List Test
primitive_tests g here at op prim =
    map (expression_test g here (Some 1)) prim.terminals
    ++ beyond Inputs at most_gate_inputs (inputs_of op (length prim.terminals)) ∷ []

-- a primitive with a name has a scope of its own, the next one, in which the paths of its gates end; else they end in that
-- of the module around it
abbrev pub scopes_of : Given → Inside → Option ℕ → List Scope
scopes_of g here None = []
scopes_of g here (Some name) = record { parent = Some here.scope; name = name_in g name } ∷ []

-- the scope in which the paths of its gates end
abbrev pub path_of : Inside → Option ℕ → Made → ℕ
path_of here None made = here.scope
path_of here (Some name) made = length made.scopes

-- the scope, if it has a name, and the gates
abbrev pub primitive_piece : Given → Inside → Op → GatePart → Made → Made
primitive_piece g here op prim made =
    record (elements_in (path_of here prim.name made) (gates_of op (flat_map (bits_here g here) prim.terminals))) {
      scopes = scopes_of g here prim.name;
    }

-- the deed of a primitive
unfoldable pub primitive_deed : Given → Inside → ℕ → Op → GatePart → Made → Deed
primitive_deed g here at op prim made =
    record { tests = primitive_tests g here at op prim; piece = primitive_piece g here op prim made }
