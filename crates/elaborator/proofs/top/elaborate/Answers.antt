use Rattle.std.proofs.Common.{◌≡◌, ◌≢◌, List, Err, subst}
use Rattle.verilog_tree.specs.declared.source.Module.{Module}
use Rattle.flattening.specs.declared.fault.ElabFault.TheVariants.{NoMemory}
use Rattle.flattening.specs.Flattening.{flattened}
use Rattle.flattening.specs.Stands.{given_by}
use Rattle.elaborator.proofs.Whole.{refused_on}
use Rattle.elaborator.proofs.top.elaborate.Goals as goal

pub returns-in_err-parts : goal.returns-in_err-parts
returns-in_err-parts c =
    let f = c.in_err-parts.field-0.0 in
    refused_on (given_by c.args.source.now c.args.tokens.now c.args.tree.now c.args.cells.now) c.args.top.now f c.from_residual.result c.from_residual.ensures
    (subst (λ (ms : List Module). f ≢ NoMemory → flattened (record { source = c.args.source.now; tokens = c.args.tokens.now; modules = ms; cells = c.args.cells.now }) c.args.top.now ≡ Err f)
    c.as_slice.ensures c.in_err-parts.ensures)
