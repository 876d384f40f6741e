use Rattle.std.specs.Prelude.{◌≡◌, ◌++◌, codes, drop, flat_map}
use Rattle.case_texts.proofs.printed.cycle_text.Given as goal

abbrev pub invariant-names : goal.invariant-names
invariant-names l =
    l.text.items ++ flat_map (λ name. codes " " ++ name) (drop l.name-index l.names)
    ≡ codes "refused rank Cycle" ++ flat_map (λ name. codes " " ++ name) l.names
