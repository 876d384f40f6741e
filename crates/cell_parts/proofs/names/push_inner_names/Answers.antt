use Rattle.std.proofs.Common.{◌+◌, None, arith}
use Rattle.std.specs.Prelude.{codes}
use Rattle.std.proofs.lemmas.List.FromFn.{map-range_with_len_more}
use Rattle.cell_parts.specs.Wires.{inner_names}
use Rattle.cell_parts.proofs.Pairs.{put_more}
use Rattle.cell_parts.proofs.names.push_inner_names.Goals as goal

pub nets-preserved : goal.nets-preserved
nets-preserved c =
    put_more c.args.out.now (inner_names c.args.scope c.nets.counter) (inner_names c.args.scope (c.nets.counter + 1)) c.nets.out c.push_name.new.out (record { scope = c.args.scope; name = codes "$"; index = None })
    c.nets.invariant c.in_ok-push_name.ensures (map-range_with_len_more (λ k. record { scope = c.args.scope; name = codes "$"; index = None }) 0 c.nets.counter c.nets.counter (omega arith))
