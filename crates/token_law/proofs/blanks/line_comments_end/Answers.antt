use Rattle.token_law.proofs.Comments.{line_comments_end}
use Rattle.token_law.proofs.blanks.line_comments_end.Goals as goal

pub returns : goal.returns
returns c = line_comments_end
