use Rattle.gate_pass.proofs.pass.GatePass.settle.Given as goal

abbrev pub ghosts-settle_blank : goal.ghosts-settle_blank
ghosts-settle_blank g a = record { name = a.blank.name; parts = a.blank.parts }
