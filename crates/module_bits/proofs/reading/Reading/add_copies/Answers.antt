use Rattle.std.proofs.Common.{◌++◌, ◌-◌, ◌∙◌, ap, drop, sym}
use Rattle.module_bits.specs.declared.reading.Reading.{Reading}
use Rattle.module_bits.specs.Bits.{times}
use Rattle.module_bits.proofs.Adding.{same_count_times, full_noted, room_noted}
use Rattle.module_bits.proofs.reading.Reading.add_copies.Goals as goal

pub returns-in_ok-push_copies : goal.returns-in_ok-push_copies
returns-in_ok-push_copies c =
    let old = c.args.self.now in
    room_noted old c.makes_room.new.self (times c.args.more (drop c.args.start old.bits)) c.push_copies.new.out _
    (same_count_times old c.args.start (c.len.result - c.args.start) c.args.more c.saturating_mul.result (ap (λ n. n - c.args.start) c.len.ensures) c.saturating_mul.ensures)
    c.makes_room.ensures.noted (sym c.makes_room.ensures.is ∙ c.if-makes_room.true)
    (c.in_ok-push_copies.ensures ∙ ap {A = Reading} (λ r. c.makes_room.new.self.bits ++ times c.args.more (drop c.args.start r.bits)) c.makes_room.ensures.noted)

pub returns-else-makes_room : goal.returns-else-makes_room
returns-else-makes_room c =
    let old = c.args.self.now in
    full_noted old c.makes_room.new.self (times c.args.more (drop c.args.start old.bits)) _
    (same_count_times old c.args.start (c.len.result - c.args.start) c.args.more c.saturating_mul.result (ap (λ n. n - c.args.start) c.len.ensures) c.saturating_mul.ensures)
    c.makes_room.ensures.noted (sym c.makes_room.ensures.is ∙ c.if-makes_room.false)
