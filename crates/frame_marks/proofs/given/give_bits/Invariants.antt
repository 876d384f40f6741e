-- The first bits have their marks.
use Rattle.std.proofs.Common.{take}
use Rattle.std.specs.Prelude.{All}
use Rattle.emu_machine.specs.Results.{Results}
use Rattle.frame_marks.specs.Takes.{AreFree, HasMore, IsFree, bits_take}
use Rattle.frame_marks.proofs.given.give_bits.Given as goal

abbrev pub invariant-bits : goal.invariant-bits
invariant-bits l = record {
  given : HasMore (bits_take l.chip.place (take l.net-index l.bits) l.marks) l.initial.given.items l.given.items;
  free : (r : Results) → All (λ n. IsFree r l.chip.place n.place) l.bits → AreFree r l.initial.given.items → AreFree r l.given.items;
}
