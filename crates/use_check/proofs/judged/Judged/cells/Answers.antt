-- Behind the starts of the chips stands the number of all their parts.
use Rattle.std.proofs.Common.{◌≡◌, ◌*◌, ℕ, length, ap, arith}
use Rattle.use_check.specs.Uses.{start_of}
use Rattle.use_check.proofs.Numbering.{all_read, start_low}
use Rattle.use_check.proofs.judged.Judged.cells.Goals as goal

pub overflow_mul-result : goal.overflow_mul-result
overflow_mul-result c =
    let all : c.get.result.now ≡ start_of c.args.self.now.results.now.net (length c.args.self.now.results.now.net) =
    all_read c.args.self.now.results.now.net c.chips.result.now c.args.self.now.starts c.requires.numbers c.chips.ensures c.get.result.now c.get.ensures
    in
    omega (arith, all, start_low c.args.self.now.results.now.net c.requires.netlist c.requires.can.chips (length c.args.self.now.results.now.net) (omega arith))

pub returns : goal.returns
returns c =
    ap (λ (n : ℕ). 8 * n)
    (all_read c.args.self.now.results.now.net c.chips.result.now c.args.self.now.starts c.requires.numbers c.chips.ensures c.get.result.now c.get.ensures)
