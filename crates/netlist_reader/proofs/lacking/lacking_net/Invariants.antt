use Rattle.std.proofs.Common.{◌≡◌, ◌↔◌, IsTrue, take}
use Rattle.token_words.specs.Words.{words_of}
use Rattle.netlist_reader.specs.Faults.{HasWire, NamesDeclared}
use Rattle.netlist_reader.proofs.lacking.lacking_net.Given as goal

-- so far no net is lacking, and it is known whether the module has declared one
abbrev pub invariant-tokens : goal.invariant-tokens
invariant-tokens l =
    NamesDeclared (take l.place (words_of l.source l.tokens)) × (IsTrue l.declared ↔ HasWire (take l.place (words_of l.source l.tokens)))
