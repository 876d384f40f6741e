-- The numbers of parts are small.
use Rattle.std.proofs.Common.{arith}
use Rattle.use_check.proofs.Numbering.{memory_low, memory_there, register_low}
use Rattle.use_check.proofs.judged.Judged.part_number.Goals as goal

pub overflow_add-result : goal.overflow_add-result
overflow_add-result c =
    omega (
      arith,
      c.start.ensures,
      c.from.ensures,
      register_low c.args.self.now.results.now.net c.requires.judged.netlist c.requires.judged.can.chips c.args.part c.in-Register.chip c.in-Register.register c.requires.part c.in-Register.is,
    )

pub start-requires-in-Memory-clause-chip : goal.start-requires-in-Memory-clause-chip
start-requires-in-Memory-clause-chip c =
    memory_there c.args.self.now.results.now.net c.args.part c.in-Memory.chip c.in-Memory.mem c.requires.part c.in-Memory.is

pub registers-requires-clause-chip : goal.registers-requires-clause-chip
registers-requires-clause-chip c =
    memory_there c.args.self.now.results.now.net c.args.part c.in-Memory.chip c.in-Memory.mem c.requires.part c.in-Memory.is

pub overflow_add-result-in-Memory : goal.overflow_add-result-in-Memory
overflow_add-result-in-Memory c =
    omega (
      arith,
      c.start-in-Memory.ensures,
      c.registers.ensures,
      memory_low c.args.self.now.results.now.net c.requires.judged.netlist c.requires.judged.can.chips c.args.part c.in-Memory.chip c.in-Memory.mem c.requires.part c.in-Memory.is,
    )

pub overflow_add-result-in-Memory-2 : goal.overflow_add-result-in-Memory-2
overflow_add-result-in-Memory-2 c =
    omega (
      arith,
      c.start-in-Memory.ensures,
      c.registers.ensures,
      c.from-in-Memory.ensures,
      memory_low c.args.self.now.results.now.net c.requires.judged.netlist c.requires.judged.can.chips c.args.part c.in-Memory.chip c.in-Memory.mem c.requires.part c.in-Memory.is,
    )
