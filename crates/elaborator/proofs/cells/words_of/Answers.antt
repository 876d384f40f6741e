use Rattle.std.proofs.Common.{◌∙◌, sym}
use Rattle.elaborator.proofs.CellMemories.{words_of_memory}
use Rattle.elaborator.proofs.cells.words_of.Goals as goal

pub returns-in-Memory : goal.returns-in-Memory
returns-in-Memory c wires = c.word_count.ensures.is ∙ sym (words_of_memory wires c.in-Memory.is)
