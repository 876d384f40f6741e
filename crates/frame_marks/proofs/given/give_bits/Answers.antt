use Rattle.std.proofs.lemmas.Option.{slice_get-get_or}
use Rattle.frame_marks.proofs.Giving.{bits_more, bits_free}
use Rattle.frame_marks.proofs.given.give_bits.Goals as goal

pub bits-preserved : goal.bits-preserved
bits-preserved c =
    record {
      given = bits_more c.args.chip c.args.bits.now c.bits.net-index _ c.args.marks (slice_get-get_or c.args.bits.now c.bits.net-index _ c.bits-test.true)
          c.args.given.now.items c.bits.given.items c.give_net.new.given.items c.bits.invariant.given c.in_ok-give_net.ensures;
      free = λ r free before.
          bits_free r c.args.chip c.args.bits.now c.bits.net-index _ c.args.marks c.bits-test.true free c.bits.given.items (c.bits.invariant.free r free before)
          c.give_net.new.given.items c.in_ok-give_net.ensures;
    }
