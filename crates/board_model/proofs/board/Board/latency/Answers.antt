use Rattle.board_model.proofs.Latencies.{latency_at}
use Rattle.board_model.proofs.board.Board.latency.Goals as goal

pub returns-clause-some : goal.returns-clause-some
returns-clause-some c = (latency_at c.self.inside.wires c.args.wire.place c.get.result.now c.self.invariant.limits.latencies cc).0

pub returns-clause-few : goal.returns-clause-few
returns-clause-few c = (latency_at c.self.inside.wires c.args.wire.place c.get.result.now c.self.invariant.limits.latencies cc).1
