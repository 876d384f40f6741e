-- Offered to the crates above: an event leaves what is settled settled.
use Rattle.std.proofs.Common.{◌≡◌, Bool}
use Rattle.std.specs.Prelude.{Option, Some, None, IfSome, unwrap_or}
use Rattle.design_core.specs.declared.element.Element.{Element}
use Rattle.design_core.specs.declared.element.Element.TheVariants as element
use Rattle.design_core.specs.Valuation.{Valuation, forced, passed}
use Rattle.design_core.specs.Settled.{ElementHolds}
use Rattle.design_core.specs.Event.{ElementFollows}
use Rattle.history_law.specs.Events.{EventsKeepSettled}

pub shown : (o : Option Bool) (x d : Bool) → x ≡ unwrap_or o d → IfSome o (λ b. x ≡ b)
shown None x d e = tt
shown (Some b) x d e = e

holds : (v w : Valuation) (e : Element) → ElementFollows v w e → ElementHolds w e
holds v w (element.Gate op inputs output) h = h
holds v w (element.Flop f) h = shown (forced f.clear f.preset w) _ _ h
holds v w (element.Latch l) h = shown (passed l w) _ _ h
holds v w (element.Memory m) h = tt

pub events_keep_settled : EventsKeepSettled
events_keep_settled p v e w d s h =
    record { constants = h.constants; elements = λ k x at. holds v w x (h.elements k x at); reads = h.reads }
