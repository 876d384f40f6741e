use Rattle.std.proofs.Common.{◌∙◌, map, sym}
use Rattle.std.specs.List.{range_with_len}
use Rattle.std.proofs.lemmas.List.FromFn.{length-map-range_with_len}
use Rattle.module_bits.specs.Bits.{net_at}
use Rattle.module_bits.proofs.Adding.{same_count, full_noted, room_noted}
use Rattle.module_bits.proofs.reading.Reading.add_nets.Goals as goal

pub returns-in_ok-push_nets : goal.returns-in_ok-push_nets
returns-in_ok-push_nets c =
    let more = map net_at (range_with_len c.args.low c.args.count) in
    room_noted c.args.self.now c.makes_room.new.self more c.push_nets.new.out _ (same_count c.args.self.now more c.args.count (length-map-range_with_len net_at c.args.low c.args.count)) c.makes_room.ensures.noted (sym c.makes_room.ensures.is ∙ c.if-makes_room.true) c.in_ok-push_nets.ensures

pub returns-else-makes_room : goal.returns-else-makes_room
returns-else-makes_room c =
    let more = map net_at (range_with_len c.args.low c.args.count) in
    full_noted c.args.self.now c.makes_room.new.self more _ (same_count c.args.self.now more c.args.count (length-map-range_with_len net_at c.args.low c.args.count)) c.makes_room.ensures.noted (sym c.makes_room.ensures.is ∙ c.if-makes_room.false)
