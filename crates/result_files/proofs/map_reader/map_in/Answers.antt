use Rattle.std.proofs.Common.{rules}
use Rattle.result_files.proofs.map_reader.map_in.Goals as goal
use Rattle.result_files.proofs.MapLemmas.{no_chips, entries_refused, other_count, no_outputs, as_many}

pub returns-in_default : goal.returns-in_default
returns-in_default c = no_chips _ _ _ c.in_default.ensures.trees

pub returns-in_err-entries : goal.returns-in_err-entries
returns-in_err-entries c =
    entries_refused c.args.version c.args.chips.now _ _ _ _ c.from_residual.ensures c.in-Some.ensures.trees c.in_err-entries.ensures

pub returns-then-trees-chips : goal.returns-then-trees-chips
returns-then-trees-chips c =
    other_count c.args.version c.args.chips.now _ _ _ c.in-Some.ensures.trees c.in_ok-entries.ensures (as_many c.in-Some.trees.now _ (search rules))

pub returns-in-Err-NotYet : goal.returns-in-Err-NotYet
returns-in-Err-NotYet c =
    no_outputs c.args.version c.args.chips.now _ _ _ _ c.in-Some.ensures.trees c.in_ok-entries.ensures c.in-Err-NotYet.field-0-is c.in-Err-NotYet.ensures
