use Rattle.std.proofs.Common.{◌∙◌, map, sym}
use Rattle.std.specs.Int.{bit_at}
use Rattle.std.specs.List.{range_with_len}
use Rattle.std.proofs.lemmas.List.FromFn.{length-map-range_with_len}
use Rattle.module_bits.specs.Bits.{net_at}
use Rattle.module_bits.proofs.Adding.{same_count, full_noted, room_noted}
use Rattle.module_bits.proofs.reading.Reading.add_value.Goals as goal

pub returns-in_ok-push_value : goal.returns-in_ok-push_value
returns-in_ok-push_value c =
    let more = map (λ i. net_at (bit_at c.args.value i)) (range_with_len 0 c.args.size) in
    room_noted c.args.self.now c.makes_room.new.self more c.push_value.new.out _ (same_count c.args.self.now more c.from.result (length-map-range_with_len (λ i. net_at (bit_at c.args.value i)) 0 c.args.size ∙ sym c.from.ensures)) c.makes_room.ensures.noted (sym c.makes_room.ensures.is ∙ c.if-makes_room.true) c.in_ok-push_value.ensures

pub returns-else-makes_room : goal.returns-else-makes_room
returns-else-makes_room c =
    let more = map (λ i. net_at (bit_at c.args.value i)) (range_with_len 0 c.args.size) in
    full_noted c.args.self.now c.makes_room.new.self more _ (same_count c.args.self.now more c.from.result (length-map-range_with_len (λ i. net_at (bit_at c.args.value i)) 0 c.args.size ∙ sym c.from.ensures)) c.makes_room.ensures.noted (sym c.makes_room.ensures.is ∙ c.if-makes_room.false)
