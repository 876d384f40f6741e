use Rattle.std.proofs.Common.{rules}
use Rattle.module_bits.proofs.Adding.{adds_past}
use Rattle.module_bits.proofs.reading.Reading.add_constant.Goals as goal

pub returns-then-token-len : goal.returns-then-token-len
returns-then-token-len c = adds_past c.args.self.now c.args.tokens.now c.args.token (search rules)
