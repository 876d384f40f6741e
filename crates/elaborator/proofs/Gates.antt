-- The pieces of primitives, by what was read of them.
use Rattle.std.proofs.Common.{◌≡◌, ◌∙◌, ◌+◌, ◌-◌, ◌≤◌, ℕ, suc, arith, get_or, Some, None, List, [], ◌∷◌, ◌++◌, Ok, Err, ap, sym, refl, append-nil, length}
use Rattle.std.specs.Option.{option_or}
use Rattle.id_arena.specs.declared.keys.NetId.{NetId}
use Rattle.verilog_tree.specs.declared.source.GatePart.{GatePart}
use Rattle.design_core.specs.declared.element.Element.{Element}
use Rattle.design_core.specs.declared.fault.LimitKind.TheVariants.{Inputs}
use Rattle.design_core.specs.declared.operation.Op.{Op}
use Rattle.design_core.specs.declared.parts.Scope.{Scope}
use Rattle.design_core.specs.Most.{most_gate_inputs}
use Rattle.flattening.specs.declared.fault.ElabFault.{ElabFault}
use Rattle.flattening.specs.declared.made.Made.{Made}
use Rattle.flattening.specs.Pieces.{beyond, elements_in, joined, nothing, performed}
use Rattle.flattening.specs.Places.{Given, Inside}
use Rattle.flattening.specs.Primitives.{gates_of, inputs_of, last_of, path_of, primitive_deed, primitive_piece, primitive_tests, scopes_of}
use Rattle.flattening.specs.Steps.{Test, first_fault}
use Rattle.elaborator.specs.Primitives.{terminal_nets, terminal_tests}
use Rattle.elaborator.specs.Room.{limits}
use Rattle.elaborator.proofs.Joining.{zero_more}
use Rattle.elaborator.proofs.Performing.{failed, first_both, fits, full}

-- the last of some nets
pub last_at : (nets : List NetId) (other : NetId) → 1 ≤ length nets → last_of nets ≡ get_or nets (length nets - 1) other ∷ []
last_at [] other some = absurd (omega (arith, some))
last_at (net ∷ []) other some = refl
last_at (net ∷ next ∷ nets) other some =
    let place : length (net ∷ next ∷ nets) - 1 ≡ suc (length (next ∷ nets) - 1) = omega arith in
    last_at (next ∷ nets) other (omega arith) ∙ ap (λ k. get_or (net ∷ next ∷ nets) k other ∷ []) (sym place)

abbrev pub inputs_test : ℕ → Op → GatePart → Test
inputs_test at op prim = beyond Inputs at most_gate_inputs (inputs_of op (length prim.terminals))

pub inputs_test_is : (at : ℕ) (op : Op) (prim : GatePart) (len inputs : ℕ) (test : Test) → len ≡ length prim.terminals → inputs ≡ inputs_of op len → beyond Inputs at most_gate_inputs (inputs + 0) ≡ test → inputs_test at op prim ≡ test
inputs_test_is at op prim len inputs test all is found =
    ap (λ n. beyond Inputs at most_gate_inputs (inputs_of op n)) (sym all)
    ∙ ap (λ n. beyond Inputs at most_gate_inputs n) (sym is ∙ sym (zero_more inputs))
    ∙ found

-- the tests of a primitive, where those of its terminals pass
tests_are : (g : Given) (here : Inside) (at : ℕ) (op : Op) (prim : GatePart) (test : Test) → first_fault (terminal_tests g here prim.terminals) ≡ None → inputs_test at op prim ≡ test → first_fault (primitive_tests g here at op prim) ≡ option_or test None
tests_are g here at op prim test none is =
    first_both (terminal_tests g here prim.terminals) (inputs_test at op prim ∷ [])
    ∙ ap (λ t. option_or t (first_fault (inputs_test at op prim ∷ []))) none
    ∙ ap (λ t. option_or t None) is

pub prim_terminals : (g : Given) (here : Inside) (at : ℕ) (op : Op) (prim : GatePart) (made : Made) (fault : ElabFault) → first_fault (terminal_tests g here prim.terminals) ≡ Some fault → performed at (primitive_deed g here at op prim made) made ≡ Err fault
unfolding primitive_deed
prim_terminals g here at op prim made fault some =
    failed at (primitive_tests g here at op prim) (primitive_piece g here op prim made) made fault
    (first_both (terminal_tests g here prim.terminals) (inputs_test at op prim ∷ []) ∙ ap (λ t. option_or t (first_fault (inputs_test at op prim ∷ []))) some)

pub prim_inputs : (g : Given) (here : Inside) (at : ℕ) (op : Op) (prim : GatePart) (made : Made) (fault : ElabFault) → first_fault (terminal_tests g here prim.terminals) ≡ None → inputs_test at op prim ≡ Some fault → performed at (primitive_deed g here at op prim made) made ≡ Err fault
unfolding primitive_deed
prim_inputs g here at op prim made fault none some =
    failed at (primitive_tests g here at op prim) (primitive_piece g here op prim made) made fault (tests_are g here at op prim (Some fault) none some)

-- so many gates
count_is : (g : Given) (here : Inside) (op : Op) (prim : GatePart) (nets : List NetId) (count : ℕ) → nets ≡ terminal_nets g here prim.terminals → count ≡ length (gates_of op nets) → count ≡ length (gates_of op (terminal_nets g here prim.terminals))
count_is g here op prim nets count are is = is ∙ ap (λ (ns : List NetId). length (gates_of op ns)) are

pub prim_full : (g : Given) (here : Inside) (at : ℕ) (op : Op) (prim : GatePart) (made : Made) (nets : List NetId) (count : ℕ) (fault : ElabFault) → first_fault (terminal_tests g here prim.terminals) ≡ None → inputs_test at op prim ≡ None → nets ≡ terminal_nets g here prim.terminals → count ≡ length (gates_of op nets) → first_fault (limits at made 0 count 0) ≡ Some fault → performed at (primitive_deed g here at op prim made) made ≡ Err fault
unfolding primitive_deed
prim_full g here at op prim made nets count fault none few are is some =
    full at (primitive_tests g here at op prim) (primitive_piece g here op prim made) made 0 count 0 fault (tests_are g here at op prim None none few) refl (count_is g here op prim nets count are is) refl some

-- a scope, and then gates, are one piece
scope_first : (made : Made) (scopes : List Scope) (path : ℕ) (gates : List Element) → joined (joined made (record nothing { scopes = scopes })) (elements_in path gates) ≡ joined made (record (elements_in path gates) { scopes = scopes })
scope_first made scopes path gates =
    rw (
      append-nil made.net_names,
      append-nil made.net_names,
      append-nil (made.scopes ++ scopes),
      append-nil made.elements,
      append-nil made.paths,
      append-nil made.memories,
      append-nil made.memories,
      zero_more made.modules,
      zero_more made.modules,
    ) refl

pub prim_done : (g : Given) (here : Inside) (at : ℕ) (op : Op) (prim : GatePart) (made named new : Made) (nets : List NetId) (count path : ℕ) → first_fault (terminal_tests g here prim.terminals) ≡ None → inputs_test at op prim ≡ None → nets ≡ terminal_nets g here prim.terminals → count ≡ length (gates_of op nets) → first_fault (limits at made 0 count 0) ≡ None → path ≡ path_of here prim.name made → named ≡ joined made (record nothing { scopes = scopes_of g here prim.name }) → new ≡ joined named (elements_in path (gates_of op nets)) → performed at (primitive_deed g here at op prim made) made ≡ Ok new
unfolding primitive_deed
prim_done g here at op prim made named new nets count path none few are is room way scope gates =
    fits at (primitive_tests g here at op prim) (primitive_piece g here op prim made) made 0 count 0 (tests_are g here at op prim None none few) refl (count_is g here op prim nets count are is) refl room
    ∙ ap Ok (sym (gates
    ∙ ap (λ (m : Made). joined m (elements_in path (gates_of op nets))) scope
    ∙ scope_first made (scopes_of g here prim.name) path (gates_of op nets)
    ∙ ap (λ p. joined made (record (elements_in p (gates_of op nets)) { scopes = scopes_of g here prim.name })) way
    ∙ ap (λ (ns : List NetId). joined made (record (elements_in (path_of here prim.name made) (gates_of op ns)) { scopes = scopes_of g here prim.name })) are))
