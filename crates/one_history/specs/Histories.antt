-- That each ranked design has exactly one history.
-- The rule is told in docs/RULES.md, "History".
use Rattle.std.specs.Prelude.{List}
use Rattle.design_core.specs.declared.parts.Parts.{Parts}
use Rattle.design_core.specs.declared.values.PortBit.{PortBit}
use Rattle.design_core.specs.Design.{IsDesign}
use Rattle.design_core.specs.Settled.{Opening, OpeningFits}
use Rattle.design_core.specs.Event.{HasOneHistory}
use Rattle.design_core.specs.Dependency.{IsRanked}

-- for each opening that fits and each list of events there is exactly one history
abbrev pub OneHistory : Type 0
OneHistory =
    (p : Parts) (o : Opening) (events : List (List PortBit))
    → IsDesign p
    → IsRanked p
    → OpeningFits p o
    → HasOneHistory p o events
