use Rattle.std.proofs.Common.{◌≡◌, ◌+◌, [], ◌∷◌, map, take, sym, ◌∙◌, ap, subst}
use Rattle.verilog_tree.specs.declared.reader.Stop.TheVariants.{Stuck}
use Rattle.verilog_tree.specs.Grammar.{IsSource}
use Rattle.verilog_tree.specs.Parsing.{FaultIs, readable}
use Rattle.verilog_tree.specs.Predict.{Fails, source}
use Rattle.verilog_tree.specs.Terminal.{terminal_at}
use Rattle.verilog_tree.proofs.Parsing.{read_deep, explained}
use Rattle.verilog_tree.proofs.parser.parse.Goals as goal

pub returns-in-Some : goal.returns-in-Some
returns-in-Some c =
    let ts = map terminal_at c.args.tokens.now in
    let seen : c.reader_up_to-reader.result ≡ take (c.in-Some.token + 1) ts = c.reader_up_to-reader.ensures ∙ ap (readable ts) c.in-Some.is in
    read_deep ts c.in-Some.token c.in-Ok.source c.in-Some.ensures (subst (λ us. IsSource us c.in-Ok.source) seen c.in-Ok.ensures.0)

pub returns-in-Err-Stuck : goal.returns-in-Err-Stuck
returns-in-Err-Stuck c =
    let ts = map terminal_at c.args.tokens.now in
    let deep = c.first_deep-deep.result in
    explained ts deep c.in-Err-Stuck.token c.fault_at.result c.first_deep-deep.ensures
    (subst (λ us. Fails us (source ∷ []) 0 (Stuck c.in-Err-Stuck.token)) c.reader_up_to-reader.ensures
    (subst (λ stop. Fails c.reader_up_to-reader.result (source ∷ []) 0 stop) c.in-Err-Stuck.field-0-is c.in-Err-Stuck.ensures))
    (subst (λ us. FaultIs us c.in-Err-Stuck.token deep c.fault_at.result) c.reader_up_to-reader.ensures c.fault_at.ensures)
