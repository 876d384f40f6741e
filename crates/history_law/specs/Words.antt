-- What holds of the words of every history.
-- The rules are told in docs/RULES.md, "Values", "Opened" and "After an event".
use Rattle.std.specs.Prelude.{◌≡◌, ℕ, Some, List, slice_get}
use Rattle.design_core.specs.declared.parts.Parts.{Parts}
use Rattle.design_core.specs.declared.values.PortBit.{PortBit}
use Rattle.design_core.specs.Design.{IsDesign}
use Rattle.design_core.specs.Valuation.{Valuation, WordsFit}
use Rattle.design_core.specs.Settled.{Opening, OpeningFits, IsOpened}
use Rattle.design_core.specs.Event.{IsAfter, IsHistory}

-- where the words of an opening are below 2 to the width, those of the opened valuation are
abbrev pub OpenedWordsFit : Type 0
OpenedWordsFit = (p : Parts) (o : Opening) (v : Valuation) → OpeningFits p o → IsOpened p o v → WordsFit p v.word

-- an event leaves words below 2 to the width where they were
abbrev pub EventsKeepWordsFit : Type 0
EventsKeepWordsFit =
    (p : Parts) (v : Valuation) (e : List PortBit) (w : Valuation)
    → IsDesign p
    → WordsFit p v.word
    → IsAfter p v e w
    → WordsFit p w.word

-- so each valuation of a history has words below 2 to the width
abbrev pub HistoryWordsFit : Type 0
HistoryWordsFit =
    (p : Parts) (o : Opening) (events : List (List PortBit)) (vs : List Valuation)
    → IsDesign p
    → OpeningFits p o
    → IsHistory p o events vs
    → (k : ℕ) (v : Valuation)
    → slice_get vs k ≡ Some v
    → WordsFit p v.word
