use Rattle.std.proofs.Common.{refl}
use Rattle.verilog_lex.specs.Words.{reserved_words}
use Rattle.verilog_lex.specs.Keyword.{KeywordsAreNamed}
use Rattle.verilog_lex.proofs.keyword.keywords_are_named.Goals as goal

all_named : KeywordsAreNamed
unfolding reserved_words
all_named = record { and_named = refl; assign_named = refl; buf_named = refl; endmodule_named = refl; input_named = refl; module_named = refl; nand_named = refl; nor_named = refl; not_named = refl; or_named = refl; output_named = refl; supply0_named = refl; supply1_named = refl; wire_named = refl; xnor_named = refl; xor_named = refl }

pub returns : goal.returns
returns c = all_named
