use Rattle.std.proofs.lemmas.Bool.Decides.{Decides-eqb}
use Rattle.std.proofs.lemmas.Slice.Eq.{strip_prefix_is}
use Rattle.std.specs.Prelude.{decimal}
use Rattle.netlist_reader.proofs.Names.{behind_stem}
use Rattle.netlist_reader.proofs.numbered.number_after.Goals as goal

pub returns-in-Some : goal.returns-in-Some
returns-in-Some c =
    behind_stem _ _ _ _
    (rw c.in-Some.is at (strip_prefix_is Decides-eqb c.args.name.now c.args.stem.now c.strip_prefix.result c.strip_prefix.ensures.cases))
    c.number_of.ensures

pub returns-in-None : goal.returns-in-None
returns-in-None c = λ n small.
    (rw c.in-None.is at (strip_prefix_is Decides-eqb c.args.name.now c.args.stem.now c.strip_prefix.result c.strip_prefix.ensures.cases))
    (decimal n)
