-- Offered to the crates above: there is a history, and no other.
use Rattle.std.proofs.Common.{◌≡◌, ℕ, ◌<◌, Bool, List, [], ◌∷◌, refl, sym, ◌∙◌}
use Rattle.design_core.specs.declared.node.NodeId.TheVariants.{Net}
use Rattle.design_core.specs.declared.parts.Parts.{Parts}
use Rattle.design_core.specs.declared.values.PortBit.{PortBit}
use Rattle.design_core.specs.Design.{IsDesign, net_count, write_reads}
use Rattle.design_core.specs.Valuation.{Valuation, SameValues}
use Rattle.design_core.specs.Settled.{Opening, IsOpened}
use Rattle.design_core.specs.Event.{IsAfter, Follow, IsHistory, SameHistory}
use Rattle.design_core.specs.Dependency.{dependencies, IsRanked}
use Rattle.history_law.proofs.Ranges.{InRange, within_each, write_within, each_in, dependencies_range}
use Rattle.history_law.proofs.Equations.{Start, IsLocal, Equations, fixed_from, equations_from, solutions_agree}
use Rattle.history_law.proofs.Afterwards.{after_start, after_inputs, after_local, after_equations, equations_after, written_same}
use Rattle.one_history.specs.Histories.{OneHistory}
use Rattle.one_history.proofs.Rounds.{solved, solved_fixed}
use Rattle.one_history.proofs.Opened.{open_start, open_local, open_equations, equations_open}
use Rattle.one_history.proofs.Carried.{after_carries}

module _ (p : Parts) (d : IsDesign p) (r : IsRanked p) where
  -- ## Two solutions have the same nets

  module _ (s : Start) (local : IsLocal p s) (i : ℕ → Bool) where
    nets_agree : (u w : Valuation) → Equations p s i u → Equations p s i w → (n : ℕ) → n < net_count p → u.net n ≡ w.net n
    nets_agree u w first second n small =
        let rank = r (Net (record { place = n })) small in
        solutions_agree p s local i i u w (fixed_from p s i u first) (fixed_from p s i w second)
        (InRange p) (λ a b good has. each_in (InRange p) (dependencies p a) b (dependencies_range p d a) has)
        (λ m h. h) (λ m h driven. refl)
        (Net (record { place = n })) rank.0 rank.1 small

    solved_equations : Equations p s i (solved p r s local i)
    solved_equations = equations_from p s i (solved p r s local i) d (solved_fixed p r s local i)

  -- ## The opened valuation

  module _ (o : Opening) where
    abbrev opened : Valuation
    opened = solved p r (open_start o) (open_local p o) o.inputs

    opened_is : IsOpened p o opened
    opened_is = equations_open p o opened d (solved_equations (open_start o) (open_local p o) o.inputs) (λ m a. refl)

    opened_alone : (v u : Valuation) → IsOpened p o v → IsOpened p o u → SameValues p v u
    opened_alone v u h g =
        record {
          nets = nets_agree (open_start o) (open_local p o) o.inputs v u (open_equations p o v d h) (open_equations p o u d g);
          words = λ m a address. h.words m a address ∙ sym (g.words m a address);
        }

  -- ## The valuation after an event

  module _ (v : Valuation) (event : List PortBit) where
    abbrev next : Valuation
    next = solved p r (after_start p v) (after_local p v) (after_inputs v event)

    next_is : IsAfter p v event next
    next_is = equations_after p v event next d (solved_equations (after_start p v) (after_local p v) (after_inputs v event)) (λ m a memory at. refl)

    next_alone : (u w : Valuation) → IsAfter p v event u → IsAfter p v event w → SameValues p u w
    next_alone u w h g =
        let nets : (n : ℕ) → n < net_count p → u.net n ≡ w.net n =
        nets_agree (after_start p v) (after_local p v) (after_inputs v event) u w (after_equations p v event u d h) (after_equations p v event w d g) in
        record {
          nets = nets;
          words = λ m a address.
              h.words m a address.0 address.1 address
              ∙ written_same v u w address.0.writes a (v.word m a)
              (λ j port in_port.
              let clock : port.clock.place < net_count p =
              (within_each p (write_reads port) (write_within p d m j address.0 port address.1 in_port)).0 in
              nets port.clock.place clock)
              ∙ sym (g.words m a address.0 address.1 address);
        }

  -- ## Histories

  record HasFollowers (v : Valuation) (events : List (List PortBit)) : Type 0 where
    after : List Valuation
    follow : Follow p v events after

  followers : (v : Valuation) (events : List (List PortBit)) → HasFollowers v events
  followers v [] = record { after = []; follow = tt }
  followers v (e ∷ es) =
      let rest : HasFollowers (next v e) es = followers (next v e) es in
      record { after = next v e ∷ rest.after; follow = (next_is v e, rest.follow) }

  followers_alone : (events : List (List PortBit)) (v u : Valuation) (vs us : List Valuation) → SameValues p v u → Follow p v events vs → Follow p u events us → SameHistory p vs us
  followers_alone [] v u [] [] same h g = tt
  followers_alone [] v u [] (y ∷ us) same h g = absurd g
  followers_alone [] v u (x ∷ vs) us same h g = absurd h
  followers_alone (e ∷ es) v u [] us same h g = absurd h
  followers_alone (e ∷ es) v u (x ∷ vs) [] same h g = absurd g
  followers_alone (e ∷ es) v u (x ∷ vs) (y ∷ us) same h g =
      let after : SameValues p x y = next_alone v e x y h.0 (after_carries p v u same y d e g.0) in
      (after, followers_alone es x y vs us after h.1 g.1)

  alone : (o : Opening) (events : List (List PortBit)) (v : Valuation) (vs others : List Valuation) → IsHistory p o events (v ∷ vs) → IsHistory p o events others → SameHistory p (v ∷ vs) others
  alone o events v vs [] h g = absurd g
  alone o events v vs (u ∷ us) h g =
      let same : SameValues p v u = opened_alone o v u h.0 g.0 in
      (same, followers_alone events v u vs us same h.1 g.1)

pub one_history : OneHistory
one_history p o events d r fits =
    let rest : HasFollowers p d r (opened p d r o) events = followers p d r (opened p d r o) events in
    let is_one : IsHistory p o events (opened p d r o ∷ rest.after) = (opened_is p d r o, rest.follow) in
    record {
      history = opened p d r o ∷ rest.after;
      is_one = is_one;
      only = λ others h. alone p d r o events (opened p d r o) rest.after others is_one h;
    }
