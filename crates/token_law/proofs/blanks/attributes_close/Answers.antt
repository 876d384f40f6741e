use Rattle.token_law.proofs.Attributes.{attributes_close}
use Rattle.token_law.proofs.blanks.attributes_close.Goals as goal

pub returns : goal.returns
returns c = attributes_close
