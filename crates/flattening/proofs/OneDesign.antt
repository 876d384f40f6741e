-- Design bytes and cell bytes stand for one design.
use Rattle.std.proofs.Common.{◌≡◌, ◌≢◌, ◌∙◌, ℕ, true, List, Ok, Err, map, sym, ap, subst}
use Rattle.verilog_lex.specs.declared.token.Token.{Token}
use Rattle.verilog_lex.specs.Reads as reading
use Rattle.verilog_tree.specs.declared.source.Source.{Source}
use Rattle.verilog_tree.specs.Laws.{HasOneTree}
use Rattle.verilog_tree.specs.Source.{Explains}
use Rattle.verilog_tree.specs.Terminal.{terminal_at}
use Rattle.cell_table.specs.declared.cell.Cell.{Cell}
use Rattle.cell_table.specs.declared.fault.CellFault.TheVariants as cell
use Rattle.cell_table.specs.Table as tables
use Rattle.design_core.specs.declared.parts.Parts.{Parts}
use Rattle.flattening.specs.declared.fault.ElabFault.TheVariants as fault
use Rattle.flattening.specs.Laws.{EachTextHasOneDesign}
use Rattle.flattening.specs.Stands.{Answers, given_by}
use Rattle.flattening.proofs.OneAnswer.{one_answer}

one_list : reading.EachTextHasOneAnswer → (text : List ℕ) (a b : List Token) → reading.Reads text true 0 (Ok a) → reading.Reads text true 0 (Ok b) → a ≡ b
one_list law text a b reads-a reads-b =
    let same : Ok a ≡ Ok b = (law text).2 (Ok a) reads-a ∙ sym ((law text).2 (Ok b) reads-b) in
    let is : a ≡ b = cc in
    is

one_tree : HasOneTree → (ts us : List Token) (a b : Source) → ts ≡ us → Explains (map terminal_at ts) (Ok a) → Explains (map terminal_at us) (Ok b) → a ≡ b
one_tree law ts us a b same says-a says-b =
    law (map terminal_at ts) a b says-a.0 (subst (λ t. Explains (map terminal_at t) (Ok b)) (sym same) says-b).0

one_table : tables.EachTextHasOneAnswer → (bytes : List ℕ) (a b : List Cell) → tables.Stands bytes (Ok a) → tables.Stands bytes (Ok b) → a ≡ b
one_table law bytes a b says-a says-b =
    let free : (c : List Cell) → Ok c ≢ Err cell.NoMemory = λ c clash. cc in
    let same : Ok a ≡ Ok b = law bytes (Ok a) (Ok b) (free a) (free b) says-a says-b in
    let is : a ≡ b = cc in
    is

pub one_design : reading.EachTextHasOneAnswer → HasOneTree → tables.EachTextHasOneAnswer → EachTextHasOneDesign
one_design reads trees cells design table top d e says-d says-e =
    let tokens : says-d.tokens ≡ says-e.tokens = one_list reads design says-d.tokens says-e.tokens says-d.tokens_are says-e.tokens_are in
    let tree : says-d.tree ≡ says-e.tree = one_tree trees says-d.tokens says-e.tokens says-d.tree says-e.tree tokens says-d.tree_is says-e.tree_is in
    let list : says-d.cells ≡ says-e.cells = one_table cells table says-d.cells says-e.cells says-d.cells_are says-e.cells_are in
    let given : given_by design says-d.tokens says-d.tree says-d.cells ≡ given_by design says-e.tokens says-e.tree says-e.cells =
    ap (λ t. given_by design t says-d.tree says-d.cells) tokens ∙ ap (λ t. given_by design says-e.tokens t says-d.cells) tree ∙ ap (given_by design says-e.tokens says-e.tree) list in
    let free : (p : Parts) → Ok p ≢ Err fault.NoMemory = λ p clash. cc in
    let both : Ok d ≡ Ok e = one_answer (given_by design says-e.tokens says-e.tree says-e.cells) top (Ok d) (Ok e) (free d) (free e) (subst (λ g. Answers g top (Ok d)) given says-d.describes) says-e.describes in
    let is : d ≡ e = cc in
    is
