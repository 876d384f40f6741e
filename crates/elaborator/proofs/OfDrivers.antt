-- No step is refused for what drives a net: those faults come of building alone.
use Rattle.std.proofs.Common.{◌≡◌, ◌+◌, ◌==◌, ℕ, zero, suc, Bool, true, false, cond, is_none, Option, Some, None, List, [], ◌∷◌, ◌++◌, Result, Ok, Err, ap, length, map, refl, subst, sym}
use Rattle.std.specs.Prelude.{flat_map, nat_lt, option_map, take}
use Rattle.std.specs.List.{enumerate_from, list_any, zip}
use Rattle.id_arena.specs.declared.keys.NetId.{NetId}
use Rattle.verilog_tree.specs.declared.source.AssignPair.{AssignPair}
use Rattle.verilog_tree.specs.declared.source.Expr.{Expr}
use Rattle.verilog_tree.specs.declared.source.GatePart.{GatePart}
use Rattle.verilog_tree.specs.declared.source.Inst.{Inst}
use Rattle.verilog_tree.specs.declared.source.Item.{Item}
use Rattle.verilog_tree.specs.declared.source.Item.TheVariants as item
use Rattle.verilog_tree.specs.declared.source.Links.{Links}
use Rattle.verilog_tree.specs.declared.source.Links.TheVariants.{Empty, Ordered, Named}
use Rattle.verilog_tree.specs.declared.source.Module.{Module}
use Rattle.verilog_tree.specs.declared.source.NamedLink.{NamedLink}
use Rattle.verilog_tree.specs.declared.source.NetPart.{NetPart}
use Rattle.cell_table.specs.declared.cell.Cell.{Cell}
use Rattle.cell_parts.specs.Pins.{pins_of}
use Rattle.design_core.specs.declared.fault.LimitKind.{LimitKind}
use Rattle.design_core.specs.declared.fault.LimitKind.TheVariants as limit
use Rattle.design_core.specs.declared.operation.Op.{Op}
use Rattle.design_core.specs.declared.parts.Parts.{Parts}
use Rattle.design_core.specs.Most.{most_elements, most_gate_inputs, most_nets, most_words}
use Rattle.module_nets.specs.declared.fault.Cause.{Cause}
use Rattle.module_nets.specs.declared.fault.Cause.TheVariants as cause
use Rattle.module_nets.specs.declared.mention.Mention.{Mention}
use Rattle.module_nets.specs.Declarations.{cause_at}
use Rattle.module_nets.specs.Names.{Name, is_among}
use Rattle.module_nets.specs.Nets.{counted_in}
use Rattle.module_bits.specs.declared.sized.BitsFault.{BitsFault}
use Rattle.module_bits.specs.declared.sized.BitsFault.TheVariants as bits_fault
use Rattle.module_bits.specs.Sized.{sized_meaning}
use Rattle.flattening.specs.declared.fault.ElabFault.{ElabFault}
use Rattle.flattening.specs.declared.fault.ElabFault.TheVariants as fault
use Rattle.flattening.specs.declared.made.Made.{Made}
use Rattle.flattening.specs.Cells.{cell_deed, pin_sockets}
use Rattle.flattening.specs.Faults.{declaration_tests, expression_test, fault_of, mention_test, module_test, module_tests, sized_test, width_here}
use Rattle.flattening.specs.Flattening.{as_parts, cell_named, cell_step, constants_alone, expanded, flattened, instance_step, item_step, items_step, levels_below_top, module_named, module_or_cell_step, parts_of, top_inside, top_parts, top_steps}
use Rattle.flattening.specs.Instances.{Enter, depth_test, entering, entry_deed, fed, feeding, items_of, module_steps, most_modules, port_deed, recursive_test, standing_tests}
use Rattle.flattening.specs.Items.{net_bits, net_deed, pair_deed, supply_deed, value_deed}
use Rattle.flattening.specs.Links.{Socket, connection_tests, count_test, link_tests, no_port_test, place_tests, port_sockets, port_twice_test, socket_names, target_tests, value_tests, width_named}
use Rattle.flattening.specs.Pieces.{Deed, beyond, performed, room_tests, words_in}
use Rattle.flattening.specs.Places.{Given, Inside, context_of, module_names, name_in, next_inside, start_in}
use Rattle.flattening.specs.Primitives.{inputs_of, op_at, primitive_deed, primitive_tests}
use Rattle.flattening.specs.Steps.{Outcome, Step, Test, all_steps, first_fault, followed, in_turn, tested, unless}
use Rattle.elaborator.specs.Top.{of_drivers}

-- a test that does not fail for drivers
abbrev IsPlain : Test → Type 0
IsPlain None = Unit {0}
IsPlain (Some fault) = of_drivers fault ≡ false

-- no test does
abbrev ArePlain : List Test → Type 0
ArePlain [] = Unit {0}
ArePlain (test ∷ tests) = IsPlain test × ArePlain tests

-- a result that is not refused for drivers
abbrev IsFree : {A : Type 0} → Result A ElabFault → Type 0
IsFree (Ok a) = Unit {0}
IsFree (Err fault) = of_drivers fault ≡ false

-- a step that is never refused for drivers
abbrev Frees : Step → Type 0
Frees step = (made : Made) → IsFree (step made)

first_plain : (tests : List Test) → ArePlain tests → IsPlain (first_fault tests)
first_plain [] all = tt
first_plain (None ∷ tests) all = first_plain tests all.1
first_plain (Some fault ∷ tests) all = all.0

both_plain : (tests more : List Test) → ArePlain tests → ArePlain more → ArePlain (tests ++ more)
both_plain [] more all others = others
both_plain (test ∷ tests) more all others = (all.0, both_plain tests more all.1 others)

map_plain : {X : Type 0} (f : X → Test) (xs : List X) → ((x : X) → IsPlain (f x)) → ArePlain (map f xs)
map_plain f [] each = tt
map_plain f (x ∷ xs) each = (each x, map_plain f xs each)

flat_plain : {X : Type 0} (f : X → List Test) (xs : List X) → ((x : X) → ArePlain (f x)) → ArePlain (flat_map f xs)
flat_plain f [] each = tt
flat_plain f (x ∷ xs) each = both_plain (f x) (flat_map f xs) (each x) (flat_plain f xs each)

unless_free : {A : Type 0} (test : Test) (a : A) → IsPlain test → IsFree (unless test a)
unless_free None a plain = tt
unless_free (Some fault) a plain = plain

-- a test that gives one fault, or none
failing : (b : Bool) (fault : ElabFault) → of_drivers fault ≡ false → IsPlain (cond {A = Test} b (Some fault) None)
failing true fault plain = plain
failing false fault plain = tt

passing : (b : Bool) (fault : ElabFault) → of_drivers fault ≡ false → IsPlain (cond {A = Test} b None (Some fault))
passing true fault plain = tt
passing false fault plain = plain

beyond_plain : (which : LimitKind) (at most count : ℕ) → IsPlain (beyond which at most count)
beyond_plain which at most count = failing (nat_lt most count) (fault.Limit which at) refl

room_plain : (at : ℕ) (made piece : Made) → ArePlain (room_tests at made piece)
room_plain at made piece = (
  beyond_plain limit.Nets at most_nets (length made.net_names + length piece.net_names),
  (
    beyond_plain limit.Elements at most_elements (length made.elements + length piece.elements),
    (beyond_plain limit.Words at most_words (words_in made.memories + words_in piece.memories), tt),
  ),
)

performed_free : (at : ℕ) (deed : Deed) (made : Made) → ArePlain deed.tests → IsFree (performed at deed made)
performed_free at deed made plain =
    unless_free (first_fault (deed.tests ++ room_tests at made deed.piece)) _
    (first_plain (deed.tests ++ room_tests at made deed.piece) (both_plain deed.tests (room_tests at made deed.piece) plain (room_plain at made deed.piece)))

-- the fault of a cause
cause_plain : (c : Cause) (at : ℕ) → of_drivers (fault_of c at) ≡ false
cause_plain cause.NotDeclared at = refl
cause_plain cause.NameTwice at = refl
cause_plain cause.BadIndex at = refl
cause_plain cause.Width at = refl

sized_plain : (answer : Result (List NetId) BitsFault) → IsPlain (sized_test answer)
sized_plain (Ok nets) = tt
sized_plain (Err (bits_fault.Refused c at)) = cause_plain c at
sized_plain (Err (bits_fault.WidthDiffers at)) = refl
sized_plain (Err bits_fault.NoMemory) = tt

expression_plain : (g : Given) (here : Inside) (asked : Option ℕ) (e : Expr) → IsPlain (expression_test g here asked e)
expression_plain g here asked e = sized_plain (sized_meaning (context_of g here) asked e)

module_plain : (g : Given) (k : ℕ) (m : Module) → IsPlain (module_test g k m)
module_plain g k m = failing (is_among (take k (module_names g)) (name_in g m.name)) (fault.NameTwice (start_in g m.name)) refl

modules_plain : (g : Given) → ArePlain (module_tests g)
modules_plain g = map_plain _ (enumerate_from 0 g.modules) (λ ((k, m) : ℕ × Module). module_plain g k m)

told_plain : (told : Option Cause) (at : ℕ) → IsPlain (option_map (λ c. fault_of c at) told)
told_plain None at = tt
told_plain (Some c) at = cause_plain c at

declarations_plain : (g : Given) (m : Module) → ArePlain (declaration_tests g m)
declarations_plain g m =
    let ms = counted_in g.source g.tokens m in
    map_plain _ (enumerate_from 0 ms) (λ ((k, mention) : ℕ × Mention). told_plain (cause_at (name_in g) ms k) (start_in g mention.token))

place_plain : (g : Given) (here : Inside) (asked : Option ℕ) (place : Option Expr) → ArePlain (place_tests g here asked place)
place_plain g here asked None = tt
place_plain g here asked (Some e) = (expression_plain g here asked e, tt)

values_plain : (g : Given) (here : Inside) (sockets : List Socket) (links : Links) → ArePlain (value_tests g here sockets links)
values_plain g here sockets Empty = tt
values_plain g here sockets (Ordered places) = flat_plain _ (zip sockets places) (λ ((socket, place) : Socket × Option Expr). place_plain g here socket.width place)
values_plain g here sockets (Named links) = flat_plain _ links (λ (link : NamedLink). place_plain g here (width_named sockets (name_in g link.port)) link.expr)

link_plain : (g : Given) (sockets : List Socket) (links : List NamedLink) (k : ℕ) (link : NamedLink) → ArePlain (no_port_test g sockets link ∷ port_twice_test g (take k links) link ∷ [])
link_plain g sockets links k link = (
  passing (is_among (socket_names sockets) (name_in g link.port)) (fault.NoPort (start_in g link.port)) refl,
  (failing (is_among (map (λ other. name_in g other.port) (take k links)) (name_in g link.port)) (fault.PortTwice (start_in g link.port)) refl, tt),
)

targets_plain : (g : Given) (sockets : List Socket) (at : ℕ) (links : Links) →
    ArePlain (elim links [ Empty ↦ [] | Ordered places ↦ count_test at sockets places ∷ [] | Named links ↦ link_tests g sockets links ])
targets_plain g sockets at Empty = tt
targets_plain g sockets at (Ordered places) = (passing (length places == length sockets) (fault.PortCount at) refl, tt)
targets_plain g sockets at (Named links) = flat_plain (λ ((k, link) : ℕ × NamedLink). no_port_test g sockets link ∷ port_twice_test g (take k links) link ∷ []) (enumerate_from 0 links) (λ ((k, link) : ℕ × NamedLink). link_plain g sockets links k link)

connections_plain : (g : Given) (here : Inside) (sockets : List Socket) (inst : Inst) → ArePlain (connection_tests g here sockets inst)
connections_plain g here sockets inst =
    both_plain (target_tests g sockets inst) (value_tests g here sockets inst.links) (targets_plain g sockets (start_in g inst.name) inst.links) (values_plain g here sockets inst.links)

standing_plain : (enter : Option Enter) (g : Given) (here : Inside) (at : ℕ) (inst : Inst) (place : ℕ) (child : Inside) (made : Made) → ArePlain (standing_tests enter g here at inst place child made)
standing_plain enter g here at inst place child made = (
  failing (list_any (λ other. other == place) here.around) (fault.Recursive at) refl,
  (
    failing (is_none enter) (fault.Limit limit.Depth at) refl,
    (
      beyond_plain limit.Instances at most_modules (made.modules + 1),
      connections_plain g here (port_sockets g child.module_of) inst,
    ),
  ),
)

-- steps one after the other
followed_free : (outcome : Outcome) (next : Step) → IsFree outcome → Frees next → IsFree (followed outcome next)
followed_free (Ok made) next first later = later made
followed_free (Err fault) next first later = first

in_turn_free : {X : Type 0} (step : X → Step) (xs : List X) → ((x : X) → Frees (step x)) → Frees (in_turn step xs)
in_turn_free step [] each made = tt
in_turn_free step (x ∷ xs) each made = followed_free (step x made) (in_turn step xs) (each x made) (in_turn_free step xs each)

entering_free : (g : Given) (parent : Option ℕ) (name : Name) (child : Inside) → Frees (entering g parent name child)
unfolding entering
entering_free g parent name child made = performed_free (start_in g child.module_of.name) (entry_deed g parent name child) made (declarations_plain g child.module_of)

-- instances are entered without such a fault
abbrev Enters : Option Enter → Type 0
Enters None = Unit {0}
Enters (Some enter) = (child : Inside) → Frees (enter child)

items_free : (enter : Option Enter) (child : Inside) → Enters enter → Frees (items_of enter child)
items_free None child enters made = tt
items_free (Some enter) child enters made = enters child made

ports_free : (at : ℕ) (side : Inside → Socket → Option (List NetId) → List _) (g : Given) (here : Inside) (inst : Inst) (child : Inside) → Frees (performed at (port_deed side g here inst child))
ports_free at side g here inst child made = performed_free at (port_deed side g here inst child) made tt

module_free : (enter : Option Enter) (g : Given) (here : Inside) (at : ℕ) (inst : Inst) (place : ℕ) (child : Inside) → Enters enter → Frees (module_steps enter g here at inst place child)
unfolding module_steps
module_free enter g here at inst place child enters made =
    followed_free (tested (standing_tests enter g here at inst place child made) made) (all_steps (entered ∷ fed-in ∷ items ∷ fed-out ∷ []))
    (unless_free (first_fault (standing_tests enter g here at inst place child made)) made (first_plain (standing_tests enter g here at inst place child made) (standing_plain enter g here at inst place child made)))
    (λ m. followed_free (entered m) (all_steps (fed-in ∷ items ∷ fed-out ∷ [])) (entering_free g (Some here.scope) (name_in g inst.name) child m)
    (λ m. followed_free (fed-in m) (all_steps (items ∷ fed-out ∷ [])) (ports_free at feeding g here inst child m)
    (λ m. followed_free (items m) (all_steps (fed-out ∷ [])) (items_free enter child enters m)
    (λ m. followed_free (fed-out m) (all_steps []) (ports_free at fed g here inst child m) (λ m. tt)))))
  where
    entered : Step
    entered = entering g (Some here.scope) (name_in g inst.name) child

    fed-in : Step
    fed-in = performed at (port_deed feeding g here inst child)

    items : Step
    items = items_of enter child

    fed-out : Step
    fed-out = performed at (port_deed fed g here inst child)

cell_free : (g : Given) (here : Inside) (at : ℕ) (inst : Inst) (cell : Option Cell) → Frees (cell_step g here at inst cell)
unfolding cell_deed
cell_free g here at inst None made = refl
cell_free g here at inst (Some cell) made = performed_free at (cell_deed g here inst cell made) made (connections_plain g here (pin_sockets (pins_of cell.kind)) inst)

module_or_cell_free : (enter : Option Enter) (g : Given) (here : Inside) (at : ℕ) (inst : Inst) (name : Name) (there : Option (ℕ × Module)) → Enters enter →
    Frees (module_or_cell_step enter g here at inst name there)
module_or_cell_free enter g here at inst name None enters made = cell_free g here at inst (cell_named g name) made
module_or_cell_free enter g here at inst name (Some (place, m)) enters made = module_free enter g here at inst place (next_inside g here.around place m made) enters made

instance_free : (enter : Option Enter) (g : Given) (here : Inside) (token : ℕ) → Enters enter → (inst : Inst) → Frees (instance_step enter g here token inst)
unfolding instance_step
instance_free enter g here token enters inst made = module_or_cell_free enter g here (start_in g token) inst (name_in g token) (module_named g (name_in g token)) enters made

value_plain : (g : Given) (here : Inside) (name : ℕ) (value : Option Expr) → ArePlain (value_deed g here name value).tests
value_plain g here name None = tt
value_plain g here name (Some e) = (expression_plain g here (Some (length (net_bits g here name))) e, tt)

net_free : (g : Given) (here : Inside) (at : ℕ) (net : NetPart) → Frees (performed at (net_deed g here net))
unfolding net_deed
net_free g here at net made = performed_free at (net_deed g here net) made (value_plain g here net.name net.value)

supply_free : (g : Given) (here : Inside) (at : ℕ) (one : Bool) (name : ℕ) → Frees (performed at (supply_deed g here one name))
unfolding supply_deed
supply_free g here at one name made = performed_free at (supply_deed g here one name) made tt

pair_free : (g : Given) (here : Inside) (at : ℕ) (pair : AssignPair) → Frees (performed at (pair_deed g here pair))
unfolding pair_deed
pair_free g here at pair made =
    performed_free at (pair_deed g here pair) made (expression_plain g here None pair.left, (expression_plain g here (Some (width_here g here pair.left)) pair.right, tt))

primitive_free : (g : Given) (here : Inside) (at : ℕ) (op : Op) (prim : GatePart) (made : Made) → IsFree (performed at (primitive_deed g here at op prim made) made)
unfolding primitive_deed
primitive_free g here at op prim made =
    performed_free at (primitive_deed g here at op prim made) made
    (both_plain (map (expression_test g here (Some 1)) prim.terminals) (beyond limit.Inputs at most_gate_inputs (inputs_of op (length prim.terminals)) ∷ [])
    (map_plain (expression_test g here (Some 1)) prim.terminals (expression_plain g here (Some 1)))
    (beyond_plain limit.Inputs at most_gate_inputs (inputs_of op (length prim.terminals)), tt))

item_free : (enter : Option Enter) (g : Given) (here : Inside) → Enters enter → (i : Item) → Frees (item_step enter g here i)
item_free enter g here enters (item.Ports at dir range names) made = tt
item_free enter g here enters (item.Nets at range nets) made = in_turn_free _ nets (net_free g here (start_in g at)) made
item_free enter g here enters (item.Supply at one range names) made = in_turn_free _ names (supply_free g here (start_in g at) one) made
item_free enter g here enters (item.Assign at pairs) made = in_turn_free _ pairs (pair_free g here (start_in g at)) made
item_free enter g here enters (item.Gates at prims) made = in_turn_free _ prims (primitive_free g here (start_in g at) (op_at g.tokens at)) made
item_free enter g here enters (item.Instances at insts) made = in_turn_free (instance_step enter g here at) insts (instance_free enter g here at enters) made

expanded_free : (room : ℕ) (g : Given) (here : Inside) → Frees (expanded room g here)
unfolding expanded
expanded_free zero g here made = in_turn_free (item_step None g here) here.module_of.items (item_free None g here tt) made
expanded_free (suc room) g here made = in_turn_free (item_step (Some (expanded room g)) g here) here.module_of.items (item_free (Some (expanded room g)) g here (expanded_free room g)) made

steps_free : (g : Given) (top : Name) (here : Inside) → Frees (top_steps g top here)
steps_free g top here made =
    followed_free (tested (module_tests g) made) (all_steps (entering g None top here ∷ expanded levels_below_top g here ∷ []))
    (unless_free (first_fault (module_tests g)) made (first_plain (module_tests g) (modules_plain g)))
    (λ m. followed_free (entering g None top here m) (all_steps (expanded levels_below_top g here ∷ [])) (entering_free g None top here m)
    (λ m. followed_free (expanded levels_below_top g here m) (all_steps []) (expanded_free levels_below_top g here m) (λ m. tt)))

parts_free : (g : Given) (here : Inside) (outcome : Outcome) → IsFree outcome → IsFree (as_parts g here outcome)
parts_free g here (Ok made) free = tt
parts_free g here (Err fault) free = free

top_free : (g : Given) (top : Name) (there : Option (ℕ × Module)) → IsFree (top_parts g top there)
top_free g top None = refl
top_free g top (Some (place, m)) = parts_free g (top_inside g place m) (top_steps g top (top_inside g place m) constants_alone) (steps_free g top (top_inside g place m) constants_alone)

-- what a text is refused for is no fault of drivers
pub not_of_drivers : (g : Given) (top : Name) (f : ElabFault) → flattened g top ≡ Err f → of_drivers f ≡ false
unfolding flattened
not_of_drivers g top f is = subst (λ (r : Result Parts ElabFault). IsFree r) is (top_free g top (module_named g top))
