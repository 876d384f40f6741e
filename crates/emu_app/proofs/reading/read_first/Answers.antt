use Rattle.std.proofs.Common.{rules, ◌≡◌, Ok, Err, subst, sym}
use Rattle.cell_table.specs.Table.{Stands}
use Rattle.flattening.specs.Stands.{given_by}
use Rattle.case_texts.specs.declared.what.What.TheVariants.{Design, Cells}
use Rattle.emu_app.specs.Fetching.{texts_of}
use Rattle.case_texts.specs.Forms.{HasTree, IsTreeOf, SaysDesign}
use Rattle.case_texts.specs.Reading.{CellsMean, TreeMeans}
use Rattle.emu_app.specs.Reading.{AllMean, DesignMeans}
use Rattle.emu_app.proofs.FirstUnread.{refused_cells, refused_design, refused_tree, says_design}
use Rattle.emu_app.proofs.reading.read_first.Goals as goal

pub returns-in_err-parsed : goal.returns-in_err-parsed
returns-in_err-parsed c =
    let same : c.from_residual.result ≡ Err c.in_err-parsed.field-0.0 = search rules in
    let texts : _ = texts_of c.args.command c.args.texts.now in
    let means : TreeMeans (texts Design) (Err c.in_err-parsed.field-0.0) =
    subst (λ bytes. TreeMeans bytes (Err c.in_err-parsed.field-0.0)) c.text_at-text.ensures c.in_err-parsed.ensures in
    subst (AllMean c.args.command c.args.top.now texts (SaysDesign c.args.top.now texts)) (sym same)
    (refused_tree (SaysDesign c.args.top.now texts) c.args.command c.args.top.now texts c.in_err-parsed.field-0.0 means)

pub returns-in_err-cells : goal.returns-in_err-cells
returns-in_err-cells c =
    let same : c.from_residual-in_err-cells.result ≡ Err c.in_err-cells.field-0.0 = search rules in
    let texts : _ = texts_of c.args.command c.args.texts.now in
    let is_tree : IsTreeOf (texts Design) c.in_ok-parsed.parsed.tokens c.in_ok-parsed.parsed.tree =
    subst (λ bytes. IsTreeOf bytes c.in_ok-parsed.parsed.tokens c.in_ok-parsed.parsed.tree) c.text_at-text.ensures c.in_ok-parsed.ensures in
    let tree : HasTree (texts Design) = record { tokens = c.in_ok-parsed.parsed.tokens; tree = c.in_ok-parsed.parsed.tree; is_tree = is_tree } in
    let means : CellsMean (texts Cells) (Err c.in_err-cells.field-0.0) =
    subst (λ bytes. CellsMean bytes (Err c.in_err-cells.field-0.0)) c.text_at.ensures c.in_err-cells.ensures in
    subst (AllMean c.args.command c.args.top.now texts (SaysDesign c.args.top.now texts)) (sym same)
    (refused_cells (SaysDesign c.args.top.now texts) c.args.command c.args.top.now texts c.in_err-cells.field-0.0 tree means)

pub returns-in_err-design : goal.returns-in_err-design
returns-in_err-design c =
    let same : c.from_residual-in_err-design.result ≡ Err c.in_err-design.field-0.0 = search rules in
    let texts : _ = texts_of c.args.command c.args.texts.now in
    let is_tree : IsTreeOf (texts Design) c.in_ok-parsed.parsed.tokens c.in_ok-parsed.parsed.tree =
    subst (λ bytes. IsTreeOf bytes c.in_ok-parsed.parsed.tokens c.in_ok-parsed.parsed.tree) c.text_at-text.ensures c.in_ok-parsed.ensures in
    let table : Stands (texts Cells) (Ok c.in_ok-cells.cells) = subst (λ bytes. CellsMean bytes (Ok c.in_ok-cells.cells)) c.text_at.ensures c.in_ok-cells.ensures in
    let means : DesignMeans (given_by (texts Design) c.in_ok-parsed.parsed.tokens c.in_ok-parsed.parsed.tree c.in_ok-cells.cells) c.args.top.now (Err c.in_err-design.field-0.0) =
    subst (λ bytes. DesignMeans (given_by bytes c.in_ok-parsed.parsed.tokens c.in_ok-parsed.parsed.tree c.in_ok-cells.cells) c.args.top.now (Err c.in_err-design.field-0.0)) c.text_at-text.ensures c.in_err-design.ensures in
    subst (AllMean c.args.command c.args.top.now texts (SaysDesign c.args.top.now texts)) (sym same)
    (refused_design (SaysDesign c.args.top.now texts) c.args.command c.args.top.now texts c.in_ok-parsed.parsed.tokens c.in_ok-parsed.parsed.tree c.in_ok-cells.cells c.in_err-design.field-0.0 is_tree table means)

pub returns : goal.returns
returns c =
    let texts : _ = texts_of c.args.command c.args.texts.now in
    let is_tree : IsTreeOf (texts Design) c.in_ok-parsed.parsed.tokens c.in_ok-parsed.parsed.tree =
    subst (λ bytes. IsTreeOf bytes c.in_ok-parsed.parsed.tokens c.in_ok-parsed.parsed.tree) c.text_at-text.ensures c.in_ok-parsed.ensures in
    let table : Stands (texts Cells) (Ok c.in_ok-cells.cells) = subst (λ bytes. CellsMean bytes (Ok c.in_ok-cells.cells)) c.text_at.ensures c.in_ok-cells.ensures in
    let means : DesignMeans (given_by (texts Design) c.in_ok-parsed.parsed.tokens c.in_ok-parsed.parsed.tree c.in_ok-cells.cells) c.args.top.now (Ok c.in_ok-design.design) =
    subst (λ bytes. DesignMeans (given_by bytes c.in_ok-parsed.parsed.tokens c.in_ok-parsed.parsed.tree c.in_ok-cells.cells) c.args.top.now (Ok c.in_ok-design.design)) c.text_at-text.ensures c.in_ok-design.ensures in
    says_design c.args.top.now texts c.in_ok-parsed.parsed.tokens c.in_ok-parsed.parsed.tree c.in_ok-cells.cells c.in_ok-design.design is_tree table means
