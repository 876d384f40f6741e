-- Instances, and all items down to any depth, make what is good.
use Prim.Native.Nat.{zero, suc}
use Rattle.std.proofs.Common.{◌≡◌, ◌+◌, ◌≤◌, ◌∙◌, ℕ, Bool, true, false, cond, List, [], ◌∷◌, Option, Some, None, Ok, Err, ap, arith, length, option_map, refl, slice_get, subst, sym}
use Rattle.std.specs.Prelude.{IfSome}
use Rattle.std.specs.List.{enumerate_from, zip}
use Rattle.std.proofs.lemmas.Option.{option_and_then_some}
use Rattle.facts.proofs.Tests.{mapped}
use Rattle.id_arena.specs.declared.keys.NetId.{NetId}
use Rattle.id_arena.specs.Names.{place_among}
use Rattle.verilog_tree.specs.declared.source.Expr.{Expr}
use Rattle.verilog_tree.specs.declared.source.Inst.{Inst}
use Rattle.verilog_tree.specs.declared.source.Item.{Item}
use Rattle.verilog_tree.specs.declared.source.Item.TheVariants as item
use Rattle.verilog_tree.specs.declared.source.Links.{Links}
use Rattle.verilog_tree.specs.declared.source.Module.{Module}
use Rattle.cell_table.specs.declared.cell.Cell.{Cell}
use Rattle.cell_table.specs.Table.{names_of}
use Rattle.design_core.specs.declared.element.Element.{Element}
use Rattle.design_core.specs.declared.fault.LimitKind.TheVariants.{Instances}
use Rattle.module_nets.specs.Names.{Name}
use Rattle.flattening.specs.declared.fault.ElabFault.TheVariants.{UnknownModule}
use Rattle.flattening.specs.declared.made.Made.{Made}
use Rattle.flattening.specs.Faults.{bits_here}
use Rattle.flattening.specs.Flattening.{cell_named, cell_step, expanded, instance_step, item_step, items_step, module_named, module_or_cell_step}
use Rattle.flattening.specs.Instances.{Enter, entering, fed, feeding, has_dir, is_input, is_output, items_of, module_steps, most_modules, port_deed, standing_tests}
use Rattle.flattening.specs.Items.{net_deed, pair_deed, supply_deed}
use Rattle.flattening.specs.Links.{Socket, connected, port_sockets, ties}
use Rattle.flattening.specs.Pieces.{buffers, performed}
use Rattle.flattening.specs.Places.{Given, Inside, context_of, module_names, name_in, named_bits, next_inside, own_names, start_in}
use Rattle.flattening.specs.Primitives.{op_at}
use Rattle.flattening.specs.Steps.{all_steps, tested}
use Rattle.flattening.proofs.CellPieces.{cell_keeps}
use Rattle.flattening.proofs.Entered.{has_entered}
use Rattle.flattening.proofs.Everywhere.{Every, every_at, every_flat, every_map, every_more, every_one}
use Rattle.flattening.proofs.GoodBits.{bits_below, named_below}
use Rattle.flattening.proofs.GoodGates.{buffers_simple, token_word}
use Rattle.flattening.proofs.GoodPieces.{AreBelow, piece_more}
use Rattle.flattening.proofs.Growing.{AreFit, Grows, IsHere, IsMade, IsSimple, Keeps, deed_keeps, elements_next, grows_more, here_more, stays_good, turns_keep}
use Rattle.flattening.proofs.ItemSteps.{net_keeps, pair_keeps, prim_keeps, supply_keeps}
use Rattle.flattening.proofs.Passing.{done, tested_ok, within_most}
use Rattle.flattening.proofs.SoundCells.{IsGoodCell}
use Rattle.flattening.proofs.TwoTerminals.{AreTwofold, HasTwo, HaveTwo}

-- ---- buffers at ports

found_below : (n : ℕ) (g : Given) (here : Inside) (found : Option Expr) → 2 ≤ n → AreFit n here.base here.nets.rows → IfSome (option_map (bits_here g here) found) (AreBelow n)
found_below n g here None two fit = tt
found_below n g here (Some e) two fit = bits_below n (context_of g here) two fit e

ties_there : (n : ℕ) (g : Given) (here : Inside) (links : Links) (sockets : List Socket) → 2 ≤ n → AreFit n here.base here.nets.rows → Every (λ tie. IfSome tie (AreBelow n)) (ties g here links sockets)
ties_there n g here links sockets two fit =
    every_map (λ (tie : Option (List NetId)). IfSome tie (AreBelow n)) (λ (e : ℕ × Socket). option_map (bits_here g here) (connected g links e.0 e.1.name)) (enumerate_from 0 sockets)
    (every_one _ (enumerate_from 0 sockets) (λ e. found_below n g here (connected g links e.0 e.1.name) two fit))

every_zip : {X Y : Type 0} (P : Y → Type 0) (xs : List X) (ys : List Y) → Every P ys → Every (λ (e : X × Y). P e.1) (zip xs ys)
every_zip P [] ys all = tt
every_zip P (x ∷ xs) [] all = tt
every_zip P (x ∷ xs) (y ∷ ys) all = (all.0, every_zip P xs ys all.1)

-- what a port makes of what is connected to it
abbrev MakesSimple : (Inside → Socket → Option (List NetId) → List Element) → Type 0
MakesSimple made_at =
    (n : ℕ) (child : Inside) (socket : Socket) (tie : Option (List NetId)) → AreFit n child.base child.nets.rows → IfSome tie (AreBelow n) → Every (IsSimple n) (made_at child socket tie)

feeding_simple : MakesSimple feeding
feeding_simple n child socket None fit below = tt
feeding_simple n child socket (Some nets) fit below = go (has_dir is_input child socket.name)
  where
    go : (b : Bool) → Every (IsSimple n) (cond b (buffers nets (named_bits child socket.name)) [])
    go true = buffers_simple n nets (named_bits child socket.name) below (named_below n child socket.name fit)
    go false = tt

fed_simple : MakesSimple fed
fed_simple n child socket None fit below = tt
fed_simple n child socket (Some nets) fit below = go (has_dir is_output child socket.name)
  where
    go : (b : Bool) → Every (IsSimple n) (cond b (buffers (named_bits child socket.name) nets) [])
    go true = buffers_simple n (named_bits child socket.name) nets (named_below n child socket.name fit) below
    go false = tt

ports_keep : (made_at : Inside → Socket → Option (List NetId) → List Element) → MakesSimple made_at → (g : Given) (here : Inside) (at : ℕ) (inst : Inst) (child : Inside) (made new : Made) → IsMade made → IsHere here made → IsHere child made → performed at (port_deed made_at g here inst child) made ≡ Ok new → Grows made new
ports_keep made_at makes g here at inst child made new is outer inner e =
    let n = length made.net_names in
    let sockets = port_sockets g child.module_of in
    deed_keeps at (port_deed made_at g here inst child) made new is e (λ _.
    elements_next made child.scope _ is inner.scope
    (every_flat (IsSimple n) (λ (p : Socket × Option (List NetId)). made_at child p.0 p.1) (zip sockets (ties g here inst.links sockets))
    (every_more (λ (p : Socket × Option (List NetId)). IfSome p.1 (AreBelow n)) (λ (p : Socket × Option (List NetId)). Every (IsSimple n) (made_at child p.0 p.1)) (zip sockets (ties g here inst.links sockets))
    (λ p below. makes n child p.0 p.1 inner.nets below)
    (every_zip (λ (tie : Option (List NetId)). IfSome tie (AreBelow n)) sockets (ties g here inst.links sockets) (ties_there n g here inst.links sockets is.constants outer.nets)))))

-- ---- an instance of a module

-- how the items below are done makes what is good
abbrev pub EntersWell : Option Enter → Type 0
EntersWell None = Unit {0}
EntersWell (Some enter) = (child : Inside) → AreTwofold child.module_of → Keeps child (enter child)

items_keep : (enter : Option Enter) (child : Inside) → EntersWell enter → AreTwofold child.module_of → Keeps child (items_of enter child)
items_keep None child well two made new is at e = stays_good made new is (let same : made ≡ new = cc in same)
items_keep (Some enter) child well two made new is at e = well child two made new is at e

module _ (enter : Option Enter) (well : EntersWell enter) (g : Given) (here : Inside) (at : ℕ) (inst : Inst) (place : ℕ) (m : Module) (two : AreTwofold m) (made : Made) (is : IsMade made) (outer : IsHere here made) where
  child : Inside
  child = next_inside g here.around place m made

  -- the steps after the tests
  after_tests : (new : Made) → all_steps (entering g (Some here.scope) (name_in g inst.name) child ∷ performed at (port_deed feeding g here inst child) ∷ items_of enter child ∷ performed at (port_deed fed g here inst child) ∷ []) made ≡ Ok new → made.modules + 1 ≤ most_modules → Grows made new
  unfolding child
  after_tests new e most =
      let one = done (entering g (Some here.scope) (name_in g inst.name) child) (all_steps (performed at (port_deed feeding g here inst child) ∷ items_of enter child ∷ performed at (port_deed fed g here inst child) ∷ [])) made new e in
      let entered = has_entered g here.around place m made (Some here.scope) (name_in g inst.name) one.mid one.before
      (piece_more (length made.net_names) (length made.net_names + length (own_names child)) (length made.scopes) (length made.scopes + 1) 0 0 made (omega arith) (omega arith) is.good)
      is.constants is.scopes most outer.scope in
      let outer-1 = here_more here made one.mid entered.grows outer in
      let two_more = done (performed at (port_deed feeding g here inst child)) (all_steps (items_of enter child ∷ performed at (port_deed fed g here inst child) ∷ [])) one.mid new one.after in
      let fed_in = ports_keep feeding feeding_simple g here at inst child one.mid two_more.mid entered.grows.all outer-1 entered.here two_more.before in
      let outer-2 = here_more here one.mid two_more.mid fed_in outer-1 in
      let inner-2 = here_more child one.mid two_more.mid fed_in entered.here in
      let three = done (items_of enter child) (all_steps (performed at (port_deed fed g here inst child) ∷ [])) two_more.mid new two_more.after in
      let items = items_keep enter child well two two_more.mid three.mid fed_in.all inner-2 three.before in
      let outer-3 = here_more here two_more.mid three.mid items outer-2 in
      let inner-3 = here_more child two_more.mid three.mid items inner-2 in
      let four = done (performed at (port_deed fed g here inst child)) (all_steps []) three.mid new three.after in
      let fed_out = ports_keep fed fed_simple g here at inst child three.mid four.mid items.all outer-3 inner-3 four.before in
      let last = stays_good four.mid new fed_out.all (let same : four.mid ≡ new = (let e-5 : Ok four.mid ≡ Ok new = four.after in cc) in same) in
      grows_more made one.mid new entered.grows
      (grows_more one.mid two_more.mid new fed_in
      (grows_more two_more.mid three.mid new items
      (grows_more three.mid four.mid new fed_out last)))

  pub module_keeps : (new : Made) → module_steps enter g here at inst place (next_inside g here.around place m made) made ≡ Ok new → Grows made new
  unfolding module_steps child
  module_keeps new e =
      let tests = λ (now : Made). tested (standing_tests enter g here at inst place child now) now in
      let rest = all_steps (entering g (Some here.scope) (name_in g inst.name) child ∷ performed at (port_deed feeding g here inst child) ∷ items_of enter child ∷ performed at (port_deed fed g here inst child) ∷ []) in
      let one = done tests rest made new e in
      let passes = tested_ok (standing_tests enter g here at inst place child made) made one.mid one.before in
      after_tests new (subst (λ (x : Made). rest x ≡ Ok new) (sym passes.1) one.after)
      (within_most Instances at most_modules (made.modules + 1) passes.0.1.1.0)

-- ---- an instance

pub module_there : (g : Given) (name : Name) (place : ℕ) (m : Module) → module_named g name ≡ Some (place, m) → slice_get g.modules place ≡ Some m
module_there g name place m found =
    option_and_then_some (λ (k : ℕ). option_map (λ (x : Module). (k, x)) (slice_get g.modules k)) (place_among (module_names g) name) (place, m) found (λ k at is.
    (let one = mapped (λ (x : Module). (k, x)) (slice_get g.modules k) (place, m) is in
    let number : k ≡ place = ap (λ (e : ℕ × Module). e.0) one.2 in
    let same : one.0 ≡ m = ap (λ (e : ℕ × Module). e.1) one.2 in
    ap (slice_get g.modules) (sym number) ∙ one.1 ∙ ap (λ (x : Module). Some x) same))

cell_there : (g : Given) (name : Name) (c : Cell) → cell_named g name ≡ Some c → (k : ℕ) × (slice_get g.cells k ≡ Some c)
cell_there g name c found = option_and_then_some (λ (k : ℕ). slice_get g.cells k) (place_among (names_of g.cells) name) c found (λ k at is. (k, is))

module _ (g : Given) (cells : Every IsGoodCell g.cells) (modules : Every AreTwofold g.modules) where
  cell_step_keeps : (here : Inside) (at : ℕ) (inst : Inst) (found : Option Cell) → ((c : Cell) → found ≡ Some c → IsGoodCell c) → Keeps here (cell_step g here at inst found)
  cell_step_keeps here at inst None good made new is there e = absurd (let clash : Err (UnknownModule at) ≡ Ok new = e in cc)
  cell_step_keeps here at inst (Some c) good made new is there e = cell_keeps g here at inst c made new (good c refl) is there e

  either_keeps : (enter : Option Enter) → EntersWell enter → (here : Inside) (at : ℕ) (inst : Inst) (name : Name) (found : Option (ℕ × Module)) → module_named g name ≡ found → Keeps here (module_or_cell_step enter g here at inst name found)
  either_keeps enter well here at inst name (Some (place, m)) found made new is there e =
      module_keeps enter well g here at inst place m (every_at AreTwofold g.modules place m modules (module_there g name place m found)) made is there new e
  either_keeps enter well here at inst name None found made new is there e =
      cell_step_keeps here at inst (cell_named g name) (λ c named. (let place = cell_there g name c named in every_at IsGoodCell g.cells place.0 c cells place.1)) made new is there e

  instance_keeps : (enter : Option Enter) → EntersWell enter → (here : Inside) (token : ℕ) (inst : Inst) → Keeps here (instance_step enter g here token inst)
  unfolding instance_step
  instance_keeps enter well here token inst made new is there e =
      either_keeps enter well here (start_in g token) inst (name_in g token) (module_named g (name_in g token)) refl made new is there e

  -- ---- items

  item_keeps : (enter : Option Enter) → EntersWell enter → (here : Inside) (i : Item) → HaveTwo i → Keeps here (item_step enter g here i)
  item_keeps enter well here (item.Ports at dir range names) two made new is there e = stays_good made new is (let same : made ≡ new = cc in same)
  item_keeps enter well here (item.Nets at range nets) two made new is there e =
      turns_keep here (λ net. performed (start_in g at) (net_deed g here net)) nets (every_one _ nets (λ net. net_keeps g here (start_in g at) net)) made new is there e
  item_keeps enter well here (item.Supply at one range names) two made new is there e =
      turns_keep here (λ name. performed (start_in g at) (supply_deed g here one name)) names (every_one _ names (λ name. supply_keeps g here (start_in g at) one name)) made new is there e
  item_keeps enter well here (item.Assign at pairs) two made new is there e =
      turns_keep here (λ pair. performed (start_in g at) (pair_deed g here pair)) pairs (every_one _ pairs (λ pair. pair_keeps g here (start_in g at) pair)) made new is there e
  item_keeps enter well here (item.Gates at prims) two made new is there e =
      turns_keep here _ prims (every_more HasTwo _ prims (λ prim many. prim_keeps g here (start_in g at) (op_at g.tokens at) prim (token_word g.tokens at) many) two) made new is there e
  item_keeps enter well here (item.Instances at insts) two made new is there e =
      turns_keep here (instance_step enter g here at) insts (every_one _ insts (λ inst. instance_keeps enter well here at inst)) made new is there e

  all_items : (enter : Option Enter) → EntersWell enter → (here : Inside) → AreTwofold here.module_of → Keeps here (items_step enter g here)
  all_items enter well here two = turns_keep here (item_step enter g here) here.module_of.items (every_more HaveTwo _ here.module_of.items (λ i many. item_keeps enter well here i many) two)

  -- the items of an instance with so many levels below
  pub expanded_keeps : (room : ℕ) (here : Inside) → AreTwofold here.module_of → Keeps here (expanded room g here)
  unfolding expanded
  expanded_keeps zero here two = all_items None tt here two
  expanded_keeps (suc room) here two = all_items (Some (expanded room g)) (λ child many. expanded_keeps room child many) here two
