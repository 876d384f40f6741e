-- The faults of expressions that are left, and what is tied by order.
use Rattle.std.proofs.Common.{◌≡◌, ◌+◌, ◌<◌, ◌≤◌, ℕ, Option, Some, None, List, [], ◌∷◌, ◌++◌, ap, sym, ◌∙◌, refl, arith, suc, drop, get_or, length, map, slice_get, add-one, add-zero}
use Rattle.std.specs.Prelude.{flat_map, option_and_then, option_map}
use Rattle.std.specs.List.{enumerate_from, zip}
use Rattle.std.specs.Option.{option_or}
use Rattle.std.proofs.Math.Seq.{drop-cons}
use Rattle.std.proofs.lemmas.List.{drop_all}
use Rattle.std.proofs.lemmas.Option.{slice_get-get_or}
use Rattle.verilog_tree.specs.declared.source.Expr.{Expr}
use Rattle.verilog_tree.specs.declared.source.Links.TheVariants.{Ordered}
use Rattle.verilog_tree.specs.declared.source.NamedLink.{NamedLink}
use Rattle.flattening.specs.declared.fault.ElabFault.{ElabFault}
use Rattle.flattening.specs.Faults.{bits_here}
use Rattle.flattening.specs.Links.{Socket, place_tests, ties, width_named}
use Rattle.flattening.specs.Places.{Given, Inside, name_in}
use Rattle.flattening.specs.Steps.{Test, first_fault}
use Rattle.elaborator.specs.Sockets.{width_at}
use Rattle.elaborator.specs.Ties.{named_from, ordered_from}

-- the fault of tests after others
pub fault_append : (a b : List Test) → first_fault (a ++ b) ≡ option_or (first_fault a) (first_fault b)
fault_append [] b = refl
fault_append (None ∷ a) b = fault_append a b
fault_append (Some f ∷ a) b = refl

-- a fault that is found is that of all that is left, and what follows it is nothing
pub fault_found : (test rest all : Test) (fault : ElabFault) → all ≡ option_or test rest → test ≡ Some fault → all ≡ Some fault
fault_found test rest all fault e f = e ∙ ap (λ t. option_or t rest) f

pub fault_passed : (test rest all : Test) → all ≡ option_or test rest → test ≡ None → rest ≡ all
fault_passed test rest all e f = sym (e ∙ ap (λ t. option_or t rest) f)

-- a place that a list has, and those behind it
from_place : {X : Type 0} (xs : List X) (i : ℕ) (d : X) → i < length xs → drop i xs ≡ get_or xs i d ∷ drop (i + 1) xs
from_place xs i d within = drop-cons xs i d within ∙ ap (λ k. get_or xs i d ∷ drop k xs) (sym (add-one i))

module _ (g : Given) (here : Inside) (sockets : List Socket) where
  abbrev place_fault : Option ℕ → Option Expr → Test
  place_fault asked place = first_fault (place_tests g here asked place)

  module _ (places : List (Option Expr)) (same : length places ≡ length sockets) where
    pub ordered_step : (i : ℕ) (p : Option Expr) (asked : Option ℕ) → i < length places → asked ≡ width_at sockets i → ordered_from g here sockets places i ≡ option_or (place_fault asked (get_or places i p)) (ordered_from g here sockets places (i + 1))
    ordered_step i p asked within is =
        let s : Socket = record { name = []; width = None } in
        let low : i < length sockets = omega (arith, within, same) in
        let width : (get_or sockets i s).width ≡ asked = sym (is ∙ ap (λ o. option_and_then (λ socket. socket.width) o) (slice_get-get_or sockets i s low)) in
        (λ j. first_fault (flat_map (λ (socket, place). place_tests g here socket.width place) (zip (from_place sockets i s low j) (from_place places i p within j))))
        ∙ fault_append (place_tests g here (get_or sockets i s).width (get_or places i p)) _
        ∙ ap (λ w. option_or (place_fault w (get_or places i p)) (ordered_from g here sockets places (i + 1))) width

    pub ordered_end : (i : ℕ) → length places ≤ i → ordered_from g here sockets places i ≡ None
    ordered_end i past =
        λ j. first_fault (flat_map (λ (socket, place). place_tests g here socket.width place) (zip (drop_all i sockets (omega (arith, past, same)) j) (drop_all i places past j)))

    pub ordered_ties : map (option_map (bits_here g here)) places ≡ ties g here (Ordered places) sockets
    ordered_ties = sym (go places 0 sockets same (λ k. ap (λ i. slice_get places i) (zero_add k)))
      where
        zero_add : (k : ℕ) → 0 + k ≡ k
        zero_add k = omega arith

        go : (rest : List (Option Expr)) (n : ℕ) (ss : List Socket) → length rest ≡ length ss → ((k : ℕ) → slice_get places (n + k) ≡ slice_get rest k) → map (λ (k, socket). option_map (bits_here g here) (option_and_then (λ place. place) (slice_get places k))) (enumerate_from n ss) ≡ map (option_map (bits_here g here)) rest
        go [] n [] e at = refl
        go [] n (s ∷ ss) e at = absurd (omega (arith, e))
        go (p ∷ rest) n [] e at = absurd (omega (arith, e))
        go (p ∷ rest) n (s ∷ ss) e at =
            let first : slice_get places n ≡ Some p = ap (λ i. slice_get places i) (sym (add-zero n)) ∙ at 0 in
            let later : (k : ℕ) → slice_get places ((n + 1) + k) ≡ slice_get rest k = λ k. let i : (n + 1) + k ≡ n + suc k = omega arith in ap (λ i. slice_get places i) i ∙ at (suc k) in
            λ j. option_map (bits_here g here) (option_and_then (λ place. place) (first j)) ∷ go rest (n + 1) ss (omega (arith, e)) later j

  module _ (links : List NamedLink) where
    pub named_step : (i : ℕ) (d : NamedLink) (asked : Option ℕ) → i < length links → asked ≡ width_named sockets (name_in g (get_or links i d).port) → named_from g here sockets links i ≡ option_or (place_fault asked (get_or links i d).expr) (named_from g here sockets links (i + 1))
    named_step i d asked within is =
        ap (λ l. first_fault (flat_map (λ link. place_tests g here (width_named sockets (name_in g link.port)) link.expr) l)) (from_place links i d within)
        ∙ fault_append (place_tests g here (width_named sockets (name_in g (get_or links i d).port)) (get_or links i d).expr) _
        ∙ ap (λ w. option_or (place_fault w (get_or links i d).expr) (named_from g here sockets links (i + 1))) (sym is)

    pub named_end : (i : ℕ) → length links ≤ i → named_from g here sockets links i ≡ None
    named_end i past = ap (λ l. first_fault (flat_map (λ link. place_tests g here (width_named sockets (name_in g link.port)) link.expr) l)) (drop_all i links past)
