-- The nets of a module have numbers below those of all bits.
use Rattle.std.proofs.Common.{◌≡◌, ◌+◌, ◌<◌, ◌≤◌, ℕ, List, [], ◌∷◌, Some, ap, ◌∙◌, suc, arith, drop, drop-cons, get_or, length, slice_get, take}
use Rattle.std.specs.List.{sum_by}
use Rattle.std.proofs.lemmas.List.Sums.{sum_by-cons, sum_by-take-drop}
use Rattle.std.proofs.lemmas.Option.{get_or_from_slice_get, slice_get-get_or, slice_get_within}
use Rattle.module_nets.specs.declared.nets.Net.{Net}
use Rattle.module_nets.specs.Declarations.{width_of}
use Rattle.module_bits.specs.Laws.{NetsAreNumbered}

-- the bits of the nets before one, and its own, are not more than all
summed : (rows : List Net) (k : ℕ) (net : Net) → slice_get rows k ≡ Some net → sum_by (λ n. width_of n.range) (take k rows) + width_of net.range ≤ sum_by (λ n. width_of n.range) rows
summed rows k net at =
    let f : Net → ℕ = λ n. width_of n.range in
    let within = slice_get_within rows k net at in
    let rest : drop k rows ≡ net ∷ drop (suc k) rows = drop-cons rows k net within ∙ ap (λ n. n ∷ drop (suc k) rows) (get_or_from_slice_get rows k net net at) in
    let split : sum_by f (drop k rows) ≡ f net + sum_by f (drop (suc k) rows) = ap (λ l. sum_by f l) rest ∙ sum_by-cons f net (drop (suc k) rows) in
    let all = sum_by-take-drop f rows k in
    omega (arith, split, all)

pub nets_numbered : NetsAreNumbered
nets_numbered source tokens m nets base given room = record {
  sized = given.1.sized;
  within = λ k net at.
      (let there : k < length nets.names = omega (arith, slice_get_within nets.rows k net at, given.1.sized) in
      let is = given.1.each k (get_or nets.names k []) net (slice_get-get_or nets.names k [] there) at in
      let few = summed nets.rows k net at in
      omega (arith, is.first, few, room));
}
