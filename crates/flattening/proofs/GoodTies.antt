-- What is connected to the pins of a cell is there, and where the tests of connections pass it is as wide as the pin.
use Rattle.std.proofs.Common.{◌≡◌, ◌≤◌, ◌∙◌, ℕ, zero, suc, Bool, true, false, cond, List, [], ◌∷◌, Option, Some, None, ap, arith, length, option_map, refl, slice_get, subst, sym}
use Rattle.std.specs.Prelude.{IfSome, bytes_eq, option_and_then}
use Rattle.std.specs.List.{enumerate_from, zip}
use Rattle.std.proofs.lemmas.List.{length-map}
use Rattle.std.proofs.lemmas.List.FromFn.{length-enumerate_from}
use Rattle.std.proofs.lemmas.Option.{none-some, option_and_then_some, same_Some, slice_get-map}
use Rattle.std.proofs.lemmas.Slice.Eq.{bytes_eq-Decides}
use Rattle.facts.proofs.Counting.{find_at}
use Rattle.facts.proofs.Lists.{numbered}
use Rattle.facts.proofs.Places.{at_map, at_zip, zip_at}
use Rattle.facts.proofs.Tests.{no}
use Rattle.id_arena.specs.declared.keys.NetId.{NetId}
use Rattle.verilog_tree.specs.declared.source.Expr.{Expr}
use Rattle.verilog_tree.specs.declared.source.Inst.{Inst}
use Rattle.verilog_tree.specs.declared.source.Links.{Links}
use Rattle.verilog_tree.specs.declared.source.Links.TheVariants.{Empty, Ordered, Named}
use Rattle.verilog_tree.specs.declared.source.NamedLink.{NamedLink}
use Rattle.cell_parts.specs.declared.pins.Pin.{Pin}
use Rattle.cell_parts.specs.Wires.{TiedPin, tied_by}
use Rattle.module_nets.specs.Names.{Name}
use Rattle.flattening.specs.Cells.{pin_sockets}
use Rattle.flattening.specs.Faults.{bits_here, expression_test}
use Rattle.flattening.specs.Links.{Socket, connected, connection_tests, link_named, place_tests, socket_named, target_tests, ties, value_tests, width_named}
use Rattle.flattening.specs.Places.{Given, Inside, context_of, name_in}
use Rattle.flattening.proofs.Everywhere.{Every, at_every, every_at}
use Rattle.flattening.proofs.GoodPieces.{AreBelow}
use Rattle.flattening.proofs.GoodBits.{bits_below, sized}
use Rattle.flattening.proofs.GoodCells.{IsTiedBelow}
use Rattle.flattening.proofs.Growing.{AreFit}
use Rattle.flattening.proofs.Passing.{Passes, every_parts, of_flat}

-- what a pin at a place is tied to
record IsTie (g : Given) (here : Inside) (links : Links) (pins : List Pin) (k : ℕ) (tied : TiedPin) : Type 0 where
  at : slice_get pins k ≡ Some tied.pin
  is : tied.tie ≡ option_map (bits_here g here) (connected g links k tied.pin.name)

socket_of : Pin → Socket
socket_of pin = record { name = pin.name; width = Some pin.width }

tie_at : (g : Given) (here : Inside) (links : Links) (pins : List Pin) (k : ℕ) (tied : TiedPin) → slice_get (tied_by pins (ties g here links (pin_sockets pins))) k ≡ Some tied → IsTie g here links pins k tied
unfolding socket_of
tie_at g here links pins k tied at =
    let both = at_map (λ (e : Pin × Option (List NetId)). record { pin = e.0; tie = e.1 }) (zip pins (ties g here links (pin_sockets pins))) k tied at in
    let two = at_zip pins (ties g here links (pin_sockets pins)) k both.0 both.1 in
    let tie = at_map (λ (e : ℕ × Socket). option_map (bits_here g here) (connected g links e.0 e.1.name)) (enumerate_from 0 (pin_sockets pins)) k both.0.1 two.1 in
    let socket = numbered (pin_sockets pins) 0 k tie.0 tie.1 in
    let place : tie.0.0 ≡ k = (let number = socket.number in omega (arith, number)) in
    let pin : tied.pin ≡ both.0.0 = ap (λ (t : TiedPin). t.pin) both.2 in
    let same : socket_of both.0.0 ≡ tie.0.1 = same_Some (socket_of both.0.0) tie.0.1 (sym (slice_get-map socket_of pins k ∙ ap (option_map socket_of) two.0) ∙ socket.at) in
    record {
      at = two.0 ∙ ap (λ (p : Pin). Some p) (sym pin);
      is =
          ap (λ (t : TiedPin). t.tie) both.2 ∙ tie.2
          ∙ ap (λ i. option_map (bits_here g here) (connected g links i tie.0.1.name)) place
          ∙ ap (λ (s : Socket). option_map (bits_here g here) (connected g links k s.name)) (sym same)
          ∙ ap (λ (p : Pin). option_map (bits_here g here) (connected g links k p.name)) (sym pin);
    }

-- ---- it is there

tied_below : (n : ℕ) (g : Given) (here : Inside) (found : Option Expr) (tied : TiedPin) → 2 ≤ n → AreFit n here.base here.nets.rows → tied.tie ≡ option_map (bits_here g here) found → IsTiedBelow n tied
tied_below n g here None tied two fit is = subst (λ (t : Option (List NetId)). IfSome t (AreBelow n)) (sym is) tt
tied_below n g here (Some e) tied two fit is = subst (λ (t : Option (List NetId)). IfSome t (AreBelow n)) (sym is) (bits_below n (context_of g here) two fit e)

pub ties_below : (n : ℕ) (g : Given) (here : Inside) (links : Links) (pins : List Pin) → 2 ≤ n → AreFit n here.base here.nets.rows → Every (IsTiedBelow n) (tied_by pins (ties g here links (pin_sockets pins)))
ties_below n g here links pins two fit =
    at_every (IsTiedBelow n) (tied_by pins (ties g here links (pin_sockets pins))) (λ k tied at.
    (let tie = tie_at g here links pins k tied at in
    tied_below n g here (connected g links k tied.pin.name) tied two fit tie.is))

-- ---- it is as wide

-- a pin of this name has this width, and needs its nets
abbrev pub IsWide : Name → ℕ → Pin → Type 0
IsWide name width pin = pin.name ≡ name → (pin.width ≡ width) × (pin.needed ≡ true)

same_name : (a b : Name) → bytes_eq a b ≡ true → a ≡ b
same_name a b e = (bytes_eq-Decides a b).0 e

name_same : (a b : Name) → a ≡ b → bytes_eq a b ≡ true
name_same a b e = (bytes_eq-Decides a b).1 e

width_found : (name : Name) (width : ℕ) (pins : List Pin) (k : ℕ) (pin : Pin) → Every (IsWide name width) pins → slice_get pins k ≡ Some pin → pin.name ≡ name → width_named (pin_sockets pins) name ≡ Some width
unfolding socket_of
width_found name width [] k pin wide at called = absurd (none-some pin at)
width_found name width (p ∷ pins) k pin wide at called = go (bytes_eq name p.name) refl k at (λ j there. width_found name width pins j pin wide.1 there called)
  where
    go : (b : Bool) → bytes_eq name p.name ≡ b → (j : ℕ) → slice_get (p ∷ pins) j ≡ Some pin → ((j : ℕ) → slice_get pins j ≡ Some pin → width_named (pin_sockets pins) name ≡ Some width) → option_and_then (λ (s : Socket). s.width) (cond b (Some (socket_of p)) (socket_named (pin_sockets pins) name)) ≡ Some width
    go true e j at deep = ap (λ w. Some w) (wide.0 (sym (same_name name p.name e))).0
    go false e zero at deep =
        let same : p ≡ pin = same_Some p pin at in
        let yes : bytes_eq name p.name ≡ true = name_same name p.name (sym (ap (λ (q : Pin). q.name) same ∙ called)) in
        no (sym e ∙ yes)
    go false e (suc j) at deep = deep j at

module _ (g : Given) (here : Inside) (name : Name) (width : ℕ) (pins : List Pin) (wide : Every (IsWide name width) pins) (k : ℕ) (pin : Pin) (at : slice_get pins k ≡ Some pin) (called : pin.name ≡ name) where
  -- an expression whose test asks this width
  long_by : (asked : Option ℕ) (e : Expr) → asked ≡ Some width → Passes (expression_test g here asked e) → length (bits_here g here e) ≡ width
  long_by asked e is passes = sized g here width e (subst (λ (a : Option ℕ). Passes (expression_test g here a e)) is passes)

  ordered_long : (places : List (Option Expr)) (e : Expr) → Every Passes (value_tests g here (pin_sockets pins) (Ordered places)) → option_and_then (λ (place : Option Expr). place) (slice_get places k) ≡ Some e → length (bits_here g here e) ≡ width
  unfolding socket_of
  ordered_long places e tests found =
      option_and_then_some (λ (place : Option Expr). place) (slice_get places k) e found (λ place there is.
      (let socket : slice_get (pin_sockets pins) k ≡ Some (socket_of pin) = slice_get-map socket_of pins k ∙ ap (option_map socket_of) at in
      let both = zip_at (pin_sockets pins) places k (socket_of pin) place socket there in
      let all = of_flat Passes (λ (p : Socket × Option Expr). place_tests g here p.0.width p.1) (zip (pin_sockets pins) places) tests in
      let one = every_at _ (zip (pin_sockets pins) places) k (socket_of pin, place) all both in
      let here_it : Every Passes (place_tests g here (Some pin.width) (Some e)) = subst (λ (p : Option Expr). Every Passes (place_tests g here (Some pin.width) p)) is one in
      long_by (Some pin.width) e (ap (λ w. Some w) (every_at (IsWide name width) pins k pin wide at called).0) here_it.0))

  named_long : (links : List NamedLink) (e : Expr) → Every Passes (value_tests g here (pin_sockets pins) (Named links)) → option_and_then (λ (link : NamedLink). link.expr) (link_named g links pin.name) ≡ Some e → length (bits_here g here e) ≡ width
  named_long links e tests found =
      option_and_then_some (λ (link : NamedLink). link.expr) (link_named g links pin.name) e found (λ link there is.
      (let place = find_at (λ (l : NamedLink). bytes_eq pin.name (name_in g l.port)) links link there in
      let port : name_in g link.port ≡ name = sym (same_name pin.name (name_in g link.port) place.2) ∙ called in
      let all = of_flat Passes (λ (l : NamedLink). place_tests g here (width_named (pin_sockets pins) (name_in g l.port)) l.expr) links tests in
      let one = every_at _ links place.0 link all place.1 in
      let here_it : Every Passes (place_tests g here (width_named (pin_sockets pins) (name_in g link.port)) (Some e)) = subst (λ (p : Option Expr). Every Passes (place_tests g here (width_named (pin_sockets pins) (name_in g link.port)) p)) is one in
      long_by (width_named (pin_sockets pins) (name_in g link.port)) e (ap (width_named (pin_sockets pins)) port ∙ width_found name width pins k pin wide at called) here_it.0))

  links_long : (links : Links) (e : Expr) → Every Passes (value_tests g here (pin_sockets pins) links) → connected g links k pin.name ≡ Some e → length (bits_here g here e) ≡ width
  links_long Empty e tests found = absurd (none-some e found)
  links_long (Ordered places) e tests found = ordered_long places e tests found
  links_long (Named links) e tests found = named_long links e tests found

-- what is connected to a pin of this name has this width
abbrev pub IsTiedWide : Name → ℕ → TiedPin → Type 0
IsTiedWide name width tied = tied.pin.name ≡ name → IfSome tied.tie (λ nets. length nets ≡ width)

tied_wide : (g : Given) (here : Inside) (found : Option Expr) (tied : TiedPin) (width : ℕ) → tied.tie ≡ option_map (bits_here g here) found → ((e : Expr) → found ≡ Some e → length (bits_here g here e) ≡ width) → IfSome tied.tie (λ nets. length nets ≡ width)
tied_wide g here None tied width is long = subst (λ (t : Option (List NetId)). IfSome t (λ nets. length nets ≡ width)) (sym is) tt
tied_wide g here (Some e) tied width is long = subst (λ (t : Option (List NetId)). IfSome t (λ nets. length nets ≡ width)) (sym is) (long e refl)

pub ties_wide : (g : Given) (here : Inside) (inst : Inst) (name : Name) (width : ℕ) (pins : List Pin) → Every Passes (connection_tests g here (pin_sockets pins) inst) → Every (IsWide name width) pins → Every (IsTiedWide name width) (tied_by pins (ties g here inst.links (pin_sockets pins)))
ties_wide g here inst name width pins tests wide =
    let values = (every_parts Passes (target_tests g (pin_sockets pins) inst) (value_tests g here (pin_sockets pins) inst.links) tests).1 in
    at_every (IsTiedWide name width) (tied_by pins (ties g here inst.links (pin_sockets pins))) (λ k tied at called.
    (let tie = tie_at g here inst.links pins k tied at in
    tied_wide g here (connected g inst.links k tied.pin.name) tied width tie.is
    (λ e found. links_long g here name width pins wide k tied.pin tie.at called inst.links e values found)))

-- ---- pins and ties stand place by place

ties_long : (g : Given) (here : Inside) (links : Links) (pins : List Pin) → length (ties g here links (pin_sockets pins)) ≡ length pins
ties_long g here links pins = length-map (enumerate_from 0 (pin_sockets pins)) _ ∙ length-enumerate_from 0 (pin_sockets pins) ∙ length-map pins _

tied_there : (pins : List Pin) (tied : List (Option (List NetId))) (k : ℕ) (pin : Pin) → length tied ≡ length pins → slice_get pins k ≡ Some pin → (t : TiedPin) × (slice_get (tied_by pins tied) k ≡ Some t) × (t.pin ≡ pin)
tied_there [] tied k pin long at = absurd (none-some pin at)
tied_there (p ∷ pins) [] k pin long at = absurd (omega (arith, long))
tied_there (p ∷ pins) (tie ∷ tied) zero pin long at = (record { pin = p; tie = tie }, refl, same_Some p pin at)
tied_there (p ∷ pins) (tie ∷ tied) (suc k) pin long at = tied_there pins tied k pin (omega (arith, long)) at

-- pins with what is connected to them, place by place, which is as wide as it must be
pub record AreTied (pins : List Pin) (tied : List TiedPin) : Type 0 where
  pub there : (k : ℕ) (pin : Pin) → slice_get pins k ≡ Some pin → (t : TiedPin) × (slice_get tied k ≡ Some t) × (t.pin ≡ pin)
  pub back : (k : ℕ) (t : TiedPin) → slice_get tied k ≡ Some t → slice_get pins k ≡ Some t.pin
  pub wide : (name : Name) (width : ℕ) → Every (IsWide name width) pins → Every (IsTiedWide name width) tied

pub ties_are : (g : Given) (here : Inside) (inst : Inst) (pins : List Pin) → Every Passes (connection_tests g here (pin_sockets pins) inst) → AreTied pins (tied_by pins (ties g here inst.links (pin_sockets pins)))
ties_are g here inst pins tests = record {
  there = λ k pin at. tied_there pins (ties g here inst.links (pin_sockets pins)) k pin (ties_long g here inst.links pins) at;
  back = λ k t at. (tie_at g here inst.links pins k t at).at;
  wide = λ name width wide. ties_wide g here inst name width pins tests wide;
}
