use Rattle.token_law.proofs.Comments.{block_comments_close}
use Rattle.token_law.proofs.blanks.block_comments_close.Goals as goal

pub returns : goal.returns
returns c = block_comments_close
