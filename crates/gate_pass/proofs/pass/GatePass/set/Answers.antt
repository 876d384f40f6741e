use Rattle.gate_pass.proofs.Taken.{taken_others}
use Rattle.gate_pass.proofs.pass.GatePass.set.Goals as goal

pub returns-clause-others : goal.returns-clause-others
returns-clause-others g c gives hold =
    taken_others g.T.NetValue.none gives c.args.net c.args.value c.args.self.now c.put.new.self c.requires.free c.put.ensures hold
