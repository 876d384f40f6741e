use Rattle.token_law.proofs.FirstTokens.{tokens_say_digits}
use Rattle.token_law.proofs.numbers.tokens_say_digits.Goals as goal

pub returns : goal.returns
returns c = tokens_say_digits
