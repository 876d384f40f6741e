-- What holds of every event of every design.
-- The rule is told in docs/RULES.md, "After an event".
use Rattle.std.specs.Prelude.{List}
use Rattle.design_core.specs.declared.parts.Parts.{Parts}
use Rattle.design_core.specs.declared.values.PortBit.{PortBit}
use Rattle.design_core.specs.Design.{IsDesign}
use Rattle.design_core.specs.Valuation.{Valuation}
use Rattle.design_core.specs.Settled.{IsSettled}
use Rattle.design_core.specs.Event.{IsAfter}

-- after an event a settled valuation is settled again
abbrev pub EventsKeepSettled : Type 0
EventsKeepSettled =
    (p : Parts) (v : Valuation) (e : List PortBit) (w : Valuation)
    → IsDesign p
    → IsSettled p v
    → IsAfter p v e w
    → IsSettled p w
