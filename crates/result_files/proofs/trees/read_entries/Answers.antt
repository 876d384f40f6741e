use Rattle.serde_json.specs.View.{view}
use Rattle.result_files.proofs.Inside.{entries_found}
use Rattle.result_files.proofs.trees.read_entries.Goals as goal

pub returns-clause-entries : goal.returns-clause-entries
returns-clause-entries c = entries_found (view c.args.tree.now) c.array_of.result c.array_of.ensures.value
