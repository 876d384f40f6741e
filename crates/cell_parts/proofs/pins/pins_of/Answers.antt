use Rattle.std.proofs.Common.{◌≡◌, ◌+◌, ◌∷◌, ap, drop, map}
use Rattle.cell_parts.specs.Named.{pin_seen}
use Rattle.cell_parts.specs.Pins.{once}
use Rattle.cell_parts.proofs.Gathering.{added_next}
use Rattle.cell_parts.proofs.Pairs.{left_at}
use Rattle.cell_parts.proofs.pins.pins_of.Goals as goal

pub named-preserved : goal.named-preserved
named-preserved c =
    let named = c.as_slice-pin-items.result.now in
    let rest = map pin_seen (drop (c.named.pin-index + 1) named) in
    let here : map pin_seen (drop c.named.pin-index named) ≡ pin_seen c.pin-item.result ∷ rest = ap (map pin_seen) (left_at named c.named.pin-index c.pin-item.result c.named-test.true c.pin-item.is) in (
      c.in_ok-push_once.ensures.names,
      added_next c.named.pins c.push_once.new.pins (map pin_seen (drop c.named.pin-index named)) rest (once (map pin_seen named)) (pin_seen c.pin-item.result)
          c.in_ok-push_once.ensures.pins here c.named.invariant.1,
    )
