-- The pieces of cells are good.
use Rattle.std.proofs.Common.{◌≡◌, ◌==◌, ◌+◌, ◌^◌, ◌<◌, ◌≤◌, ◌∙◌, ℕ, Bool, true, false, List, [], ◌∷◌, ◌++◌, Option, Some, None, arith, get_or, length, length-append, map, option_map, refl, slice_get, subst, sym}
use Rattle.std.specs.Prelude.{IfSome, nat_lt, flat_map, if◌then◌else◌, option_and_then, unwrap_or}
use Rattle.std.specs.List.{range_with_len}
use Rattle.std.proofs.lemmas.Bool.{lt-ltb}
use Rattle.std.proofs.lemmas.List.{length-map}
use Rattle.std.proofs.lemmas.List.FromFn.{length-range_with_len}
use Rattle.std.proofs.lemmas.List.Sums.{sum_by-cons}
use Rattle.facts.proofs.Tests.{number_same}
use Rattle.id_arena.specs.declared.keys.NetId.{NetId}
use Rattle.id_arena.specs.Names.{place_among}
use Rattle.cell_table.specs.declared.cell.CombOut.{CombOut}
use Rattle.cell_table.specs.declared.cell.EdgePin.{EdgePin}
use Rattle.cell_table.specs.declared.cell.FeedPin.{FeedPin}
use Rattle.cell_table.specs.declared.cell.FeedPin.TheVariants as feed
use Rattle.cell_table.specs.declared.cell.LevelPin.{LevelPin}
use Rattle.cell_table.specs.Sound.{IsSoundFeed, IsTableOver}
use Rattle.cell_parts.specs.CellGates.{clock_elements, clock_inner, comb_elements, table_gate}
use Rattle.cell_parts.specs.CellStates.{feed_gates, feed_inner, feed_net, flop_elements, inverse_gates, latch_elements, level_at}
use Rattle.cell_parts.specs.Wires.{TiedPin, Wires, inner_names, net_numbered, nets_at, nets_from, nets_in_order, new_count, new_indices, new_names, new_width, pin_at, wires_of}
use Rattle.design_core.specs.declared.element.Element.TheVariants as element
use Rattle.design_core.specs.declared.operation.Op.TheVariants.{And, Not, Or, Table}
use Rattle.design_core.specs.declared.parts.NetName.{NetName}
use Rattle.design_core.specs.Design.{reset_nets}
use Rattle.flattening.proofs.Everywhere.{Every, every_append, every_at, every_flat, every_map, every_one}
use Rattle.flattening.proofs.GoodBits.{range_below}
use Rattle.flattening.proofs.GoodPieces.{AreBelow}
use Rattle.flattening.proofs.Growing.{IsSimple}
use Rattle.flattening.proofs.GoodGates.{gate_simple}

-- ---- the wires of a cell

-- what is connected to a pin is there
abbrev pub IsTiedBelow : ℕ → TiedPin → Type 0
IsTiedBelow n tied = IfSome tied.tie (AreBelow n)

from_below : (n next : ℕ) (tied : TiedPin) → next + new_width tied ≤ n → IsTiedBelow n tied → AreBelow n (nets_from next tied)
from_below n next tied few is = go tied.tie refl is
  where
    go : (tie : Option (List NetId)) → tied.tie ≡ tie → IfSome tie (AreBelow n) → AreBelow n (elim tie [ Some nets ↦ nets | None ↦ map net_numbered (range_with_len next (new_width tied)) ])
    go None e is = range_below n next (new_width tied) few
    go (Some nets) e is = is

count_cons : (tied : TiedPin) (rest : List TiedPin) → new_count (tied ∷ rest) ≡ new_width tied + new_count rest
count_cons tied rest = sum_by-cons new_width tied rest

order_below : (n next : ℕ) (pins : List TiedPin) → next + new_count pins ≤ n → Every (IsTiedBelow n) pins → Every (AreBelow n) (nets_in_order next pins)
order_below n next [] few all = tt
order_below n next (tied ∷ rest) few all =
    let sum = count_cons tied rest in
    (from_below n next tied (omega (arith, few, sum)) all.0, order_below n (next + new_width tied) rest (omega (arith, few, sum)) all.1)

-- the nets of the wires are there
abbrev pub AreWires : ℕ → Wires → Type 0
AreWires n w = Every (AreBelow n) w.nets

pub wires_below : (n next : ℕ) (pins : List TiedPin) → next + new_count pins ≤ n → Every (IsTiedBelow n) pins → AreWires n (wires_of next pins)
wires_below n next pins few all = order_below n next pins few all

module _ (n : ℕ) (w : Wires) (some : 0 < n) (wires : AreWires n w) where
  pub at_below : (name : List ℕ) → AreBelow n (nets_at w name)
  at_below name = go (place_among w.names name)
    where
      nets : (found : Option (List NetId)) → ((ns : List NetId) → found ≡ Some ns → AreBelow n ns) → AreBelow n (unwrap_or found [])
      nets None each = tt
      nets (Some ns) each = each ns refl

      go : (place : Option ℕ) → AreBelow n (unwrap_or (option_and_then (λ k. slice_get w.nets k) place) [])
      go None = tt
      go (Some k) = nets (slice_get w.nets k) (λ ns at. every_at (AreBelow n) w.nets k ns wires at)

  pub pin_below : (name : List ℕ) → (pin_at w name).place < n
  pin_below name = go (nets_at w name) (at_below name)
    where
      go : (ns : List NetId) → AreBelow n ns → (get_or ns 0 (net_numbered 0)).place < n
      go [] all = some
      go (net ∷ ns) all = all.0

  -- ---- gates and states

  table_simple : (pins : List (List ℕ)) (table : ℕ) (output : NetId) → IsTableOver (length pins) table → output.place < n → IsSimple n (table_gate w pins table output)
  table_simple pins table output is drives =
      let long : length (map (pin_at w) pins) ≡ length pins = length-map pins (pin_at w) in
      let fits : nat_lt table (2 ^ (2 ^ length (map (pin_at w) pins))) ≡ true = subst (λ k. nat_lt table (2 ^ (2 ^ k)) ≡ true) (sym long) (lt-ltb table (2 ^ (2 ^ length pins)) is.fits) in
      gate_simple n (Table table) (map (pin_at w) pins) output fits (let few = is.few in omega (arith, long, few)) (every_map (λ (m : NetId). m.place < n) (pin_at w) pins (every_one (λ pin. (pin_at w pin).place < n) pins pin_below)) drives

  pub comb_simple : (inputs : List (List ℕ)) (outputs : List CombOut) → Every (λ out. IsTableOver (length inputs) out.table) outputs → Every (IsSimple n) (comb_elements w inputs outputs)
  comb_simple inputs [] all = tt
  comb_simple inputs (out ∷ outputs) all = (table_simple inputs out.table (pin_at w out.pin) all.0 (pin_below out.pin), comb_simple inputs outputs all.1)

  feed_below : (inner : ℕ) (f : FeedPin) → inner + feed_inner f ≤ n → (feed_net w inner f).place < n
  feed_below inner (feed.Pin pin) few = pin_below pin
  feed_below inner (feed.Table pins table) few = omega (arith, few)

  feed_simple : (inner : ℕ) (f : FeedPin) → inner + feed_inner f ≤ n → IsSoundFeed f → Every (IsSimple n) (feed_gates w inner f)
  feed_simple inner (feed.Pin pin) few sound = tt
  feed_simple inner (feed.Table pins table) few sound = (table_simple pins table (net_numbered inner) sound (omega (arith, few)), tt)

  inverse_simple : (q : List ℕ) (qn : Option (List ℕ)) → Every (IsSimple n) (inverse_gates w q qn)
  inverse_simple q None = tt
  inverse_simple q (Some qn) = go (nets_at w qn) (at_below qn)
    where
      go : (ns : List NetId) → AreBelow n ns → Every (IsSimple n) (map (element.Gate Not (pin_at w q ∷ [])) ns)
      go [] all = tt
      go (net ∷ ns) all = (gate_simple n Not (pin_at w q ∷ []) net refl (omega arith) (pin_below q, tt) all.0, go ns all.1)

  resets_below : (clear preset : Option LevelPin) → AreBelow n (reset_nets (option_map (level_at w) clear) (option_map (level_at w) preset))
  resets_below None None = tt
  resets_below None (Some p) = (pin_below p.pin, tt)
  resets_below (Some c) None = (pin_below c.pin, tt)
  resets_below (Some c) (Some p) = (pin_below c.pin, (pin_below p.pin, tt))

  pub flop_simple : (inner : ℕ) (clock : EdgePin) (f : FeedPin) (clear preset : Option LevelPin) (q : List ℕ) (qn : Option (List ℕ)) → inner + feed_inner f ≤ n → IsSoundFeed f → Every (IsSimple n) (flop_elements w inner clock f clear preset q qn)
  flop_simple inner clock f clear preset q qn few sound =
      every_append (IsSimple n) (feed_gates w inner f) _ (feed_simple inner f few sound) (
        record {
          good = record {
            fits = refl;
            few = refl;
            reads = (pin_below clock.pin, (feed_below inner f few, resets_below clear preset));
            drives = (pin_below q, tt);
          };
          apart = tt;
        },
        inverse_simple q qn,
      )

  pub latch_simple : (inner : ℕ) (gate : LevelPin) (f : FeedPin) (clear preset : Option LevelPin) (q : List ℕ) (qn : Option (List ℕ)) → inner + feed_inner f ≤ n → IsSoundFeed f → Every (IsSimple n) (latch_elements w inner gate f clear preset q qn)
  latch_simple inner gate f clear preset q qn few sound =
      every_append (IsSimple n) (feed_gates w inner f) _ (feed_simple inner f few sound) (
        record {
          good = record {
            fits = refl;
            few = refl;
            reads = (pin_below gate.pin, (feed_below inner f few, resets_below clear preset));
            drives = (pin_below q, tt);
          };
          apart = tt;
        },
        inverse_simple q qn,
      )

  -- a latch that is open while the clock is 0, and an `and` with the clock
  gated_simple : (clock output : List ℕ) (value q : NetId) → value.place < n → q.place < n → Every (IsSimple n) (element.Latch (record { gate = record { net = pin_at w clock; high = false }; feed = value; clear = None; preset = None; q = q }) ∷ element.Gate And (q ∷ pin_at w clock ∷ []) (pin_at w output) ∷ [])
  gated_simple clock output value q from to = (
    record {
      good = record {
        fits = refl;
        few = refl;
        reads = (pin_below clock, (from, tt));
        drives = (to, tt);
      };
      apart = tt;
    },
    (gate_simple n And (q ∷ pin_at w clock ∷ []) (pin_at w output) refl (omega arith) (to, (pin_below clock, tt)) (pin_below output), tt),
  )

  pub clock_simple : (inner : ℕ) (clock enable : List ℕ) (test : Option (List ℕ)) (output : List ℕ) → inner + clock_inner test ≤ n → Every (IsSimple n) (clock_elements w inner clock enable test output)
  clock_simple inner clock enable None output few = gated_simple clock output (pin_at w enable) (net_numbered inner) (pin_below enable) (omega (arith, few))
  clock_simple inner clock enable (Some test) output few = (
    gate_simple n Or (pin_at w enable ∷ pin_at w test ∷ []) (net_numbered inner) refl (omega arith) (pin_below enable, (pin_below test, tt)) (omega (arith, few)),
    gated_simple clock output (net_numbered inner) (net_numbered (inner + 1)) (omega (arith, few)) (omega (arith, few)),
  )

-- ---- names of new nets

abbrev pub StandsIn : ℕ → NetName → Type 0
StandsIn scopes name = name.scope < scopes

indices_long : (width : ℕ) → length (new_indices width) ≡ width
indices_long width = go (width == 1) refl
  where
    go : (one : Bool) → (width == 1) ≡ one → length (if one then None ∷ [] else map Some (range_with_len 0 width)) ≡ width
    go true e = sym (number_same width 1 e)
    go false e = length-map (range_with_len 0 width) Some ∙ length-range_with_len 0 width

new_long : (scope : ℕ) (pins : List TiedPin) → length (flat_map (new_names scope) pins) ≡ new_count pins
new_long scope [] = refl
new_long scope (tied ∷ pins) =
    let split = length-append (new_names scope tied) (flat_map (new_names scope) pins) in
    let one : length (new_names scope tied) ≡ new_width tied = length-map (new_indices (new_width tied)) (λ (index : Option ℕ). record { scope = scope; name = tied.pin.name; index = index }) ∙ indices_long (new_width tied) in
    let rest = new_long scope pins in
    let sum = count_cons tied pins in
    omega (arith, split, one, rest, sum)

pub names_long : (scope : ℕ) (pins : List TiedPin) (inner : ℕ) → length (flat_map (new_names scope) pins ++ inner_names scope inner) ≡ new_count pins + inner
names_long scope pins inner =
    let split = length-append (flat_map (new_names scope) pins) (inner_names scope inner) in
    let one = new_long scope pins in
    let two : length (inner_names scope inner) ≡ inner = length-map (range_with_len 0 inner) _ ∙ length-range_with_len 0 inner in
    omega (arith, split, one, two)

pub names_stand : (scopes scope : ℕ) (pins : List TiedPin) (inner : ℕ) → scope < scopes → Every (StandsIn scopes) (flat_map (new_names scope) pins ++ inner_names scope inner)
names_stand scopes scope pins inner there =
    every_append (StandsIn scopes) (flat_map (new_names scope) pins) (inner_names scope inner)
    (every_flat (StandsIn scopes) (new_names scope) pins (every_one _ pins (λ tied. every_map (StandsIn scopes) _ (new_indices (new_width tied)) (every_one _ (new_indices (new_width tied)) (λ index. there)))))
    (every_map (StandsIn scopes) _ (range_with_len 0 inner) (every_one _ (range_with_len 0 inner) (λ k. there)))
