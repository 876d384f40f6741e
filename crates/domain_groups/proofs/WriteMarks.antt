-- Whether one of the write nodes of a memory passes a test.
use Rattle.std.proofs.Common.{◌≡◌, ℕ, ◌+◌, ◌<◌, ◌≤◌, arith, Bool, true, false, List, [], ◌∷◌, get_or, length, map, refl, subst, sym, ap, ◌∙◌}
use Rattle.std.specs.Prelude.{Option, Some, slice_get, option_map}
use Rattle.std.specs.List.{list_any, enumerate_from}
use Rattle.std.proofs.lemmas.Option.{slice_get-map, slice_get-get_or, slice_get_within, same_Some}
use Rattle.facts.proofs.Tests.{no}
use Rattle.facts.proofs.Lists.{any_at, enumerated, numbered}
use Rattle.facts.proofs.Places.{any_found, at_map}
use Rattle.id_arena.specs.declared.keys.MemId.{MemId}
use Rattle.design_core.specs.declared.element.Memory.{Memory}
use Rattle.design_core.specs.declared.element.WritePort.{WritePort}
use Rattle.design_core.specs.declared.node.NodeId.{NodeId}
use Rattle.design_core.specs.declared.node.NodeId.TheVariants.{Write}
use Rattle.design_core.specs.Dependency.{write_nodes}

-- a list has an element at each place below its length
some_at : {X : Type 0} (xs : List X) (k : ℕ) → k < length xs → (x : X) × (slice_get xs k ≡ Some x)
some_at [] k less = absurd (omega arith)
some_at (y ∷ ys) k less = (get_or (y ∷ ys) k y, slice_get-get_or (y ∷ ys) k y less)

module _ (test : NodeId → Bool) (m : MemId) (memories : List Memory) (memory other : Memory) (here : slice_get memories m.place ≡ Some memory) where
  pub one_passes : (k : ℕ) → k < length memory.writes → test (Write m k) ≡ true → slice_get memories m.place ≡ Some other → true ≡ list_any test (write_nodes m other)
  one_passes k within e at =
      let same : memory ≡ other = same_Some memory other (sym here ∙ at) in
      subst (λ (x : Memory). true ≡ list_any test (write_nodes m x)) same (sym (any_at test (write_nodes m memory) k (Write m k) node e))
    where
      node : slice_get (write_nodes m memory) k ≡ Some (Write m k)
      node =
          let port = some_at memory.writes k within in
          let from : k ≡ 0 + k = omega arith in
          slice_get-map (λ (k, port). Write m k) (enumerate_from 0 memory.writes) k
          ∙ ap (option_map (λ (k, port). Write m k)) (enumerated memory.writes 0 k k port.0 port.1 from)

  pub none_passes : ((k : ℕ) → k < length memory.writes → test (Write m k) ≡ false) → slice_get memories m.place ≡ Some other → false ≡ list_any test (write_nodes m other)
  none_passes none at =
      let same : memory ≡ other = same_Some memory other (sym here ∙ at) in
      subst (λ (x : Memory). false ≡ list_any test (write_nodes m x)) same (go (list_any test (write_nodes m memory)) refl)
    where
      go : (b : Bool) → list_any test (write_nodes m memory) ≡ b → false ≡ list_any test (write_nodes m memory)
      go false e = sym e
      go true e =
          let f = any_found test (write_nodes m memory) e in
          let w = at_map (λ (k, port). Write m k) (enumerate_from 0 memory.writes) f.0 f.1 f.2 in
          let number = numbered memory.writes 0 f.0 w.0 w.1 in
          let within = slice_get_within memory.writes f.0 w.0.1 number.at in
          let first : w.0.0 ≡ 0 + f.0 = number.number in
          let low : w.0.0 < length memory.writes = omega arith in
          no (sym (none w.0.0 low) ∙ ap test (sym w.2) ∙ f.3)
