use Rattle.std.proofs.Common.{◌<◌, length, map, subst, arith}
use Rattle.std.proofs.lemmas.List.{length-map}
use Rattle.verilog_tree.specs.Source.{IsFirstDeep}
use Rattle.verilog_tree.specs.Terminal.{terminal_at}
use Rattle.verilog_tree.proofs.parser.reader_up_to.Goals as goal

pub overflow_add-place : goal.overflow_add-place
overflow_add-place c =
    let ts = map terminal_at c.args.tokens.now in
    let w : c.in-Some.place < length ts = (subst (λ d. IsFirstDeep ts d) c.in-Some.is c.requires).0 in
    let same = length-map c.args.tokens.now terminal_at in
    omega (arith, same, w, c.len-end.ensures, c.len-end.type_inv)
