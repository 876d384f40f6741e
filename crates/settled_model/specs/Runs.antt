-- What an opening and a list of events give, call by call, is the one history.
-- The rule is told in docs/RULES.md, "History".
use Rattle.std.specs.Prelude.{List, [], ◌∷◌, ◌++◌}
use Rattle.design_core.specs.declared.parts.Parts.{Parts}
use Rattle.design_core.specs.declared.values.PortBit.{PortBit}
use Rattle.design_core.specs.Design.{IsDesign}
use Rattle.design_core.specs.Dependency.{IsRanked}
use Rattle.design_core.specs.Valuation.{Valuation}
use Rattle.design_core.specs.Settled as settled
use Rattle.design_core.specs.Settled.{OpeningFits, IsOpened}
use Rattle.design_core.specs.Event.{IsAfter, Follow, HasOneHistory, SameHistory}
use Rattle.settled_model.specs.declared.opening.Opening.{Opening}
use Rattle.settled_model.specs.Opening.{Opens, stands_for}

-- an opened valuation, and then one after each event, are the one history of the opening and the events
abbrev pub RunsGiveTheHistory : Type 0
RunsGiveTheHistory =
    (p : Parts) (o : settled.Opening) (events : List (List PortBit)) (v : Valuation) (vs : List Valuation)
    → IsDesign p
    → IsRanked p
    → OpeningFits p o
    → IsOpened p o v
    → Follow p v events vs
    → (h : HasOneHistory p o events) × SameHistory p h.history (v ∷ vs)

-- the last of some things that follow a first one; the first one where nothing follows
abbrev pub last_of : {A : Type 0} → A → List A → A
last_of x [] = x
last_of x (y ∷ ys) = last_of y ys

-- a run grows by one event and the valuation after it
abbrev pub RunsGrow : Type 0
RunsGrow =
    (p : Parts) (v : Valuation) (events : List (List PortBit)) (vs : List Valuation) (e : List PortBit) (w : Valuation)
    → Follow p v events vs
    → IsAfter p (last_of v vs) e w
    → Follow p v (events ++ e ∷ []) (vs ++ w ∷ [])

-- the words of an opening of a design fit its memories
abbrev pub OpeningsFit : Type 0
OpeningsFit = (p : Parts) (o : Opening) → Opens p o → OpeningFits p (stands_for o)
