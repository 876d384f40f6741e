-- The piece of a cell is good after what was made.
use Rattle.std.proofs.Common.{◌≡◌, ◌+◌, ◌<◌, ◌≤◌, ℕ, List, [], ◌∷◌, ◌++◌, Some, None, Ok, arith, length, length-append, refl, slice_get, subst}
use Rattle.std.specs.Prelude.{flat_map}
use Rattle.std.proofs.lemmas.List.{length-map}
use Rattle.verilog_tree.specs.declared.source.Inst.{Inst}
use Rattle.cell_table.specs.declared.cell.Cell.{Cell}
use Rattle.cell_table.specs.declared.cell.CellKind.{CellKind}
use Rattle.cell_table.specs.declared.cell.CellKind.TheVariants as cell
use Rattle.cell_table.specs.Sound.{IsSoundKind, IsTableOver}
use Rattle.cell_parts.specs.CellElements.{cell_elements, cell_memories, inner_count}
use Rattle.cell_parts.specs.CellGates.{table_gate}
use Rattle.cell_parts.specs.CellStates.{feed_gates}
use Rattle.cell_parts.specs.Pins.{pins_of}
use Rattle.cell_parts.specs.Wires.{TiedPin, inner_names, new_count, new_names, pin_at, wires_of}
use Rattle.design_core.specs.declared.element.Element.{Element}
use Rattle.design_core.specs.declared.element.Memory.{Memory as DesignMemory}
use Rattle.module_nets.specs.declared.nets.Net.{Net}
use Rattle.module_nets.specs.Declarations.{width_of}
use Rattle.flattening.specs.declared.made.Made.{Made}
use Rattle.flattening.specs.Cells.{cell_deed, cell_piece_with, pin_sockets, tied_pins}
use Rattle.flattening.specs.Links.{connection_tests}
use Rattle.flattening.specs.Pieces.{performed}
use Rattle.flattening.specs.Places.{Given, Inside}
use Rattle.flattening.proofs.Everywhere.{Every, every_map, every_one}
use Rattle.flattening.proofs.GoodCells.{AreWires, clock_simple, comb_simple, flop_simple, latch_simple, names_long, names_stand, wires_below}
use Rattle.flattening.proofs.GoodMemories.{all_every, memory_is_good}
use Rattle.flattening.proofs.GoodPieces.{IsGoodElement, IsGoodMemory, Takes}
use Rattle.flattening.proofs.GoodTies.{AreTied, ties_are, ties_below}
use Rattle.flattening.proofs.Growing.{Grows, IsHere, IsMade, IsNext, IsSimple, deed_keeps, simple_good, takes_none}
use Rattle.flattening.proofs.Passing.{Passes}
use Rattle.flattening.proofs.SoundCells.{DrivesSome, HasOwnPins, IsGoodCell}

-- the elements and memories of a cell are good, they take the next memories, and there is an element
record AreOfCell (n memory : ℕ) (elements : List Element) (memories : List DesignMemory) : Type 0 where
  good : Every (IsGoodElement n) elements
  takes : Takes memory elements (memory + length memories)
  stored : Every (IsGoodMemory n) memories
  some : 1 ≤ length elements

of_simple : (n memory : ℕ) (elements : List Element) → Every (IsSimple n) elements → 1 ≤ length elements → AreOfCell n memory elements []
of_simple n memory elements all some = record {
  good = simple_good n elements all;
  takes = subst (λ k. Takes memory elements k) (let e : memory ≡ memory + 0 = omega arith in e) (takes_none n memory elements all);
  stored = tt;
  some = some;
}

long_back : (xs : List Element) (y : Element) (ys : List Element) → 1 ≤ length (xs ++ y ∷ ys)
long_back xs y ys = let long = length-append xs (y ∷ ys) in omega (arith, long)

module _ (n next memory : ℕ) (tied : List TiedPin) (two : 2 ≤ n) (wires : AreWires n (wires_of next tied)) where
  some_nets : 0 < n
  some_nets = omega (arith, two)

  of_cell : (c : Cell) (inner : ℕ) → IsGoodCell c → AreTied (pins_of c.kind) tied → inner + inner_count c.kind ≤ n → AreOfCell n memory (cell_elements (wires_of next tied) inner memory c.kind) (cell_memories (wires_of next tied) c.kind)
  unfolding cell_elements cell_memories
  of_cell c inner is are few = go c.kind is.sound is.drives is.pins are few
    where
      go : (kind : CellKind) → IsSoundKind kind → DrivesSome kind → HasOwnPins kind → AreTied (pins_of kind) tied → inner + inner_count kind ≤ n → AreOfCell n memory (cell_elements (wires_of next tied) inner memory kind) (cell_memories (wires_of next tied) kind)
      go (cell.Comb inputs outputs) sound drives pins are few =
          of_simple n memory _ (comb_simple n (wires_of next tied) some_nets wires inputs outputs (all_every (λ out. IsTableOver (length inputs) out.table) outputs sound))
          (let long = length-map outputs (λ out. table_gate (wires_of next tied) inputs out.table (pin_at (wires_of next tied) out.pin)) in omega (arith, long, drives))
      go (cell.Flop clock f clear preset q qn) sound drives pins are few =
          of_simple n memory _ (flop_simple n (wires_of next tied) some_nets wires inner clock f clear preset q qn few sound) (long_back (feed_gates (wires_of next tied) inner f) _ _)
      go (cell.Latch gate f clear preset q qn) sound drives pins are few =
          of_simple n memory _ (latch_simple n (wires_of next tied) some_nets wires inner gate f clear preset q qn few sound) (long_back (feed_gates (wires_of next tied) inner f) _ _)
      go (cell.GateClock clock enable None output) sound drives pins are few =
          of_simple n memory _ (clock_simple n (wires_of next tied) some_nets wires inner clock enable None output few) (omega arith)
      go (cell.GateClock clock enable (Some test) output) sound drives pins are few =
          of_simple n memory _ (clock_simple n (wires_of next tied) some_nets wires inner clock enable (Some test) output few) (omega arith)
      go (cell.Memory address_bits width writes reads) sound drives pins are few = record {
        good = (record { fits = refl; few = refl; reads = tt; drives = tt }, tt);
        takes = (refl, (let e : memory + 1 ≡ memory + 1 = refl in e));
        stored = (memory_is_good address_bits width writes reads next tied are pins sound n two wires, tt);
        some = omega arith;
      }

module _ (g : Given) (here : Inside) (inst : Inst) (c : Cell) (good : IsGoodCell c) (made : Made) (is : IsMade made) (at : IsHere here made) where
  -- the nets that there are with it
  nets : ℕ
  nets = length made.net_names + length (flat_map (new_names (length made.scopes)) (tied_pins g here inst c.kind) ++ inner_names (length made.scopes) (inner_count c.kind))

  cell_next : Every Passes (connection_tests g here (pin_sockets (pins_of c.kind)) inst) → IsNext made (cell_piece_with g here inst c.kind (tied_pins g here inst c.kind) made)
  unfolding nets
  cell_next tests =
      let tied = tied_pins g here inst c.kind in
      let next = length made.net_names in
      let long = names_long (length made.scopes) tied (inner_count c.kind) in
      let two : 2 ≤ nets = (let some = is.constants in omega (arith, some)) in
      let fit : (k : ℕ) (net : Net) → slice_get here.nets.rows k ≡ Some net → here.base + (net.first + width_of net.range) ≤ nets = λ k net there. (let ends = at.nets k net there in omega (arith, ends)) in
      let wires = wires_below nets next tied (omega (arith, long)) (ties_below nets g here inst.links (pins_of c.kind) two fit) in
      let of = of_cell nets next (length made.memories) tied two wires c (next + new_count tied) good (ties_are g here inst (pins_of c.kind) tests) (omega (arith, long)) in
      record {
        good = record {
          names = names_stand (length made.scopes + 1) (length made.scopes) tied (inner_count c.kind) (omega arith);
          parents = (at.scope, tt);
          elements = of.good;
          paths = every_map (λ (s : ℕ). s < length made.scopes + 1) (λ (e : Element). length made.scopes) _ (every_one _ _ (λ e. omega arith));
          one_path = length-map _ _;
          memories = of.stored;
          takes = of.takes;
        };
        modules = (let few = is.modules in omega (arith, few));
        scopes = (let some = of.some in omega (arith, some));
      }

pub cell_keeps : (g : Given) (here : Inside) (token : ℕ) (inst : Inst) (c : Cell) (made new : Made) → IsGoodCell c → IsMade made → IsHere here made → performed token (cell_deed g here inst c made) made ≡ Ok new → Grows made new
unfolding cell_deed
cell_keeps g here token inst c made new good is at e = deed_keeps token (cell_deed g here inst c made) made new is e (cell_next g here inst c good made is at)
