-- The items of an instance make what is good.
use Rattle.std.proofs.Common.{◌≡◌, ◌+◌, ◌<◌, ◌≤◌, ℕ, Bool, true, false, List, [], ◌∷◌, Option, Some, None, arith, length, length-append, map, refl, subst, sym}
use Rattle.std.specs.Prelude.{flat_map}
use Rattle.id_arena.specs.declared.keys.NetId.{NetId}
use Rattle.verilog_tree.specs.declared.source.AssignPair.{AssignPair}
use Rattle.verilog_tree.specs.declared.source.Expr.{Expr}
use Rattle.verilog_tree.specs.declared.source.GatePart.{GatePart}
use Rattle.verilog_tree.specs.declared.source.NetPart.{NetPart}
use Rattle.design_core.specs.declared.element.Element.TheVariants as element
use Rattle.design_core.specs.declared.fault.LimitKind.TheVariants.{Inputs}
use Rattle.design_core.specs.declared.operation.Op.{Op}
use Rattle.design_core.specs.declared.operation.Op.TheVariants.{Buf}
use Rattle.design_core.specs.Most.{most_gate_inputs}
use Rattle.flattening.specs.declared.made.Made.{Made}
use Rattle.flattening.specs.Faults.{bits_here, expression_test}
use Rattle.flattening.specs.Items.{constant_net, net_bits, net_deed, pair_deed, supply_deed, value_deed}
use Rattle.flattening.specs.Pieces.{beyond, elements_in, nothing, performed}
use Rattle.flattening.specs.Places.{Given, Inside, context_of, name_in}
use Rattle.flattening.specs.Primitives.{gates_of, inputs_of, path_of, primitive_deed, primitive_piece, primitive_tests, scopes_of}
use Rattle.flattening.proofs.Everywhere.{Every, every_flat, every_one}
use Rattle.flattening.proofs.GoodBits.{bits_below, named_below, sized}
use Rattle.flattening.proofs.GoodGates.{IsWord, buffer_simple, buffers_simple, gates_simple, gates_some}
use Rattle.flattening.proofs.GoodPieces.{AreBelow}
use Rattle.flattening.proofs.Growing.{IsHere, IsMade, IsNext, IsSimple, Keeps, deed_keeps, elements_good, elements_next}
use Rattle.flattening.proofs.Passing.{Passes, every_parts, of_map, within_most}
use Rattle.flattening.proofs.TwoTerminals.{HasTwo}

module _ (g : Given) (here : Inside) (made : Made) (is : IsMade made) (at : IsHere here made) where
  -- the bits of an expression, and those of a name
  here_below : (e : Expr) → AreBelow (length made.net_names) (bits_here g here e)
  here_below e = bits_below (length made.net_names) (context_of g here) is.constants at.nets e

  name_below : (token : ℕ) → AreBelow (length made.net_names) (net_bits g here token)
  name_below token = named_below (length made.net_names) here (name_in g token) at.nets

supplied : (n : ℕ) (one : Bool) (nets : List NetId) → 2 ≤ n → AreBelow n nets → Every (IsSimple n) (map (λ bit. element.Gate Buf (constant_net one ∷ []) bit) nets)
supplied n one [] two all = tt
supplied n true (net ∷ nets) two all = (buffer_simple n (constant_net true) net (omega (arith, two)) all.0, supplied n true nets two all.1)
supplied n false (net ∷ nets) two all = (buffer_simple n (constant_net false) net (omega (arith, two)) all.0, supplied n false nets two all.1)

pub supply_keeps : (g : Given) (here : Inside) (at : ℕ) (one : Bool) (name : ℕ) → Keeps here (performed at (supply_deed g here one name))
unfolding supply_deed
supply_keeps g here at one name made new is there e =
    deed_keeps at (supply_deed g here one name) made new is e (λ _.
    elements_next made here.scope _ is there.scope (supplied (length made.net_names) one (net_bits g here name) is.constants (name_below g here made is there name)))

-- nothing is made
nothing_next : (made : Made) → IsMade made → IsNext made nothing
nothing_next made is = record {
  good = record { names = tt; parents = tt; elements = tt; paths = tt; one_path = refl; memories = tt; takes = (let e : length made.memories ≡ length made.memories + 0 = omega arith in e) };
  modules = (let few = is.modules in omega (arith, few));
  scopes = omega arith;
}

value_keeps : (g : Given) (here : Inside) (at name : ℕ) (value : Option Expr) → Keeps here (performed at (value_deed g here name value))
value_keeps g here at name None made new is there e = deed_keeps at (value_deed g here name None) made new is e (λ _. nothing_next made is)
value_keeps g here at name (Some value) made new is there e =
    deed_keeps at (value_deed g here name (Some value)) made new is e (λ _.
    elements_next made here.scope _ is there.scope
    (buffers_simple (length made.net_names) (bits_here g here value) (net_bits g here name) (here_below g here made is there value) (name_below g here made is there name)))

pub net_keeps : (g : Given) (here : Inside) (at : ℕ) (net : NetPart) → Keeps here (performed at (net_deed g here net))
unfolding net_deed
net_keeps g here at net = value_keeps g here at net.name net.value

pub pair_keeps : (g : Given) (here : Inside) (at : ℕ) (pair : AssignPair) → Keeps here (performed at (pair_deed g here pair))
unfolding pair_deed
pair_keeps g here at pair made new is there e =
    deed_keeps at (pair_deed g here pair) made new is e (λ _.
    elements_next made here.scope _ is there.scope
    (buffers_simple (length made.net_names) (bits_here g here pair.right) (bits_here g here pair.left) (here_below g here made is there pair.right) (here_below g here made is there pair.left)))

-- ---- primitives

-- the nets of terminals, each of which has one bit
terminals_below : (n : ℕ) (g : Given) (here : Inside) (es : List Expr) → ((e : Expr) → AreBelow n (bits_here g here e)) → AreBelow n (flat_map (bits_here g here) es)
terminals_below n g here es each = every_flat (λ (m : NetId). m.place < n) (bits_here g here) es (every_one _ es each)

terminals_long : (g : Given) (here : Inside) (es : List Expr) → Every (λ e. Passes (expression_test g here (Some 1) e)) es → length (flat_map (bits_here g here) es) ≡ length es
terminals_long g here [] all = refl
terminals_long g here (e ∷ es) all =
    let split = length-append (bits_here g here e) (flat_map (bits_here g here) es) in
    let one = sized g here 1 e all.0 in
    let rest = terminals_long g here es all.1 in
    omega (arith, split, one, rest)

module _ (g : Given) (here : Inside) (token : ℕ) (op : Op) (prim : GatePart) (word : IsWord op) (two : HasTwo prim) (made : Made) (is : IsMade made) (at : IsHere here made) where
  prim_next : Every Passes (primitive_tests g here token op prim) → IsNext made (primitive_piece g here op prim made)
  prim_next tests = go prim.name
    where
      parts : Every Passes (map (expression_test g here (Some 1)) prim.terminals) × Every Passes (beyond Inputs token most_gate_inputs (inputs_of op (length prim.terminals)) ∷ [])
      parts = every_parts Passes (map (expression_test g here (Some 1)) prim.terminals) (beyond Inputs token most_gate_inputs (inputs_of op (length prim.terminals)) ∷ []) tests

      nets : List NetId
      nets = flat_map (bits_here g here) prim.terminals

      long : length nets ≡ length prim.terminals
      long = terminals_long g here prim.terminals (of_map Passes (expression_test g here (Some 1)) prim.terminals parts.0)

      few : inputs_of op (length nets) ≤ 64
      few = subst (λ k. inputs_of op k ≤ 64) (sym long) (within_most Inputs token most_gate_inputs (inputs_of op (length prim.terminals)) parts.1.0)

      below : AreBelow (length made.net_names) nets
      below = terminals_below (length made.net_names) g here prim.terminals (here_below g here made is at)

      many : 2 ≤ length nets
      many = omega (arith, long, two)

      simple : Every (IsSimple (length made.net_names)) (gates_of op nets)
      simple = gates_simple (length made.net_names) op nets word many few below

      some : 1 ≤ length (gates_of op nets)
      some = gates_some (length made.net_names) op nets word many few below

      go : (name : Option ℕ) → IsNext made (record (elements_in (path_of here name made) (gates_of op nets)) { scopes = scopes_of g here name })
      go None = elements_next made here.scope (gates_of op nets) is at.scope simple
      go (Some name) =
          let alone = elements_good (length made.net_names + 0) (length made.scopes + 1) (length made.memories) (length made.scopes) (length made.scopes) (gates_of op nets) (omega arith) (subst (λ k. Every (IsSimple k) (gates_of op nets)) (let e : length made.net_names ≡ length made.net_names + 0 = omega arith in e) simple) in
          record {
            good = record {
              names = tt;
              parents = (at.scope, tt);
              elements = alone.elements;
              paths = alone.paths;
              one_path = alone.one_path;
              memories = tt;
              takes = alone.takes;
            };
            modules = (let most = is.modules in omega (arith, most));
            scopes = (let gates : 1 ≤ length (gates_of op nets) = some in omega (arith, gates));
          }

pub prim_keeps : (g : Given) (here : Inside) (token : ℕ) (op : Op) (prim : GatePart) → IsWord op → HasTwo prim → Keeps here (λ made. performed token (primitive_deed g here token op prim made) made)
unfolding primitive_deed
prim_keeps g here token op prim word two made new is at e = deed_keeps token (primitive_deed g here token op prim made) made new is e (prim_next g here token op prim word two made is at)
