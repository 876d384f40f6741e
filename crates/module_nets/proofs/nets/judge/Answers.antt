use Rattle.module_nets.specs.Names.{text_of}
use Rattle.module_nets.proofs.Numbering.{all_named}
use Rattle.module_nets.proofs.nets.judge.Goals as goal

pub check-requires : goal.check-requires
check-requires c = record {
  names = all_named (text_of c.args.source.now c.args.tokens.now) c.args.mentions.now c.args.names.now c.requires;
  heads = c.in_ok-heads.ensures;
  directed = c.in_ok-directed.ensures;
}
