use Rattle.verilog_tree.specs.Grammar as grammar
use Rattle.verilog_tree.proofs.header.PortNamePart.read.Goals as goal

pub returns : goal.returns
returns c = record {
  stands = grammar.plain_port _ _ c.in_ok-next.ensures.is;
  goes = c.in_ok-next.ensures.goes;
  forward = c.in_ok-next.ensures.forward;
  inside = c.in_ok-next.ensures.inside;
}
