-- The ports of the top are nets that are there, and no more than its nets: no name stands twice in its header.
use Rattle.std.proofs.Common.{◌≡◌, ◌+◌, ◌-◌, ◌<◌, ◌≤◌, ◌∙◌, ℕ, zero, suc, Bool, true, false, cond, List, [], ◌∷◌, ◌++◌, Option, Some, None, ap, arith, length, length-append, map, option_map, refl, slice_get, subst, sym, take}
use Rattle.std.specs.Prelude.{◌&&◌, bytes_eq, filter, flat_map, if◌then◌else◌, nat_lt, not, option_and_then}
use Rattle.std.specs.List.{enumerate_from, range_with_len}
use Rattle.std.proofs.lemmas.Bool.{lt-ltb}
use Rattle.std.proofs.lemmas.List.{length-map}
use Rattle.std.proofs.lemmas.List.Elements.{filter-append}
use Rattle.std.proofs.lemmas.List.FromFn.{length-range_with_len}
use Rattle.std.proofs.lemmas.Option.{none-some, same_Some, slice_get-map}
use Rattle.std.proofs.lemmas.Slice.Eq.{bytes_eq-Decides}
use Rattle.facts.proofs.Lists.{any_at, enumerated}
use Rattle.facts.proofs.Tests.{no}
use Rattle.id_arena.specs.declared.keys.NetId.{NetId}
use Rattle.id_arena.specs.Names.{place_among}
use Rattle.id_arena.proofs.FirstPlaces.{place_among-Some}
use Rattle.verilog_tree.specs.declared.source.Dir.{Dir}
use Rattle.verilog_tree.specs.declared.source.IndexRange.{IndexRange}
use Rattle.verilog_tree.specs.declared.source.Module.{Module}
use Rattle.verilog_tree.specs.declared.source.PortName.{PortName}
use Rattle.design_core.specs.declared.parts.Port.{Port}
use Rattle.design_core.specs.Design.{port_bits}
use Rattle.design_core.specs.Faults.{are_there, is_there, ports_there}
use Rattle.module_nets.specs.declared.fault.Cause.{Cause}
use Rattle.module_nets.specs.declared.fault.Cause.TheVariants.{NotDeclared, NameTwice, Width}
use Rattle.module_nets.specs.declared.mention.Mention.{Mention}
use Rattle.module_nets.specs.declared.nets.Net.{Net}
use Rattle.module_nets.specs.Declarations.{agrees, cause_at, cause_of, counts, is_taken, is_unknown, is_wide, width_of}
use Rattle.module_nets.specs.Mentions.{head_mention, head_role, item_mentions, mentions}
use Rattle.module_nets.specs.Names.{Name, is_implicit}
use Rattle.module_nets.specs.Nets.{Nets, counted_in}
use Rattle.module_bits.specs.Bits.{net_at}
use Rattle.module_bits.specs.Names.{net_named}
use Rattle.flattening.specs.declared.fault.ElabFault.{ElabFault}
use Rattle.flattening.specs.Faults.{declaration_tests, fault_of, mention_test}
use Rattle.flattening.specs.Flattening.{port_of, ports_with}
use Rattle.flattening.specs.Instances.{has_dir}
use Rattle.flattening.specs.Places.{Given, Inside, name_in, named_bits, net_numbers, start_in}
use Rattle.flattening.proofs.Entered.{bit_total}
use Rattle.flattening.proofs.Everywhere.{Every, at_every, every_at, every_kept, every_map, every_one, every_passes}
use Rattle.flattening.proofs.GoodBits.{named_below}
use Rattle.flattening.proofs.GoodPieces.{AreBelow}
use Rattle.flattening.proofs.Growing.{AreFit}
use Rattle.flattening.proofs.Passing.{Passes, of_map}

-- ---- the names of a header are different

-- no name comes again after it
Differ : List Name → Type 0
Differ [] = Unit {0}
Differ (name ∷ later) = Every (λ (other : Name). bytes_eq other name ≡ false) later × Differ later

differ_kept : (p : Name → Bool) (names : List Name) → Differ names → Differ (filter p names)
unfolding Differ
differ_kept p [] all = tt
differ_kept p (name ∷ names) all = go (p name) (differ_kept p names all.1)
  where
    go : (b : Bool) → Differ (filter p names) → Differ (cond b (name ∷ filter p names) (filter p names))
    go true rest = (every_kept (λ (other : Name). bytes_eq other name ≡ false) p names all.0, rest)
    go false rest = rest

front_at : {X : Type 0} (xs ys : List X) (k : ℕ) (x : X) → slice_get xs k ≡ Some x → slice_get (xs ++ ys) k ≡ Some x
front_at [] ys k x at = absurd (none-some x at)
front_at (y ∷ xs) ys zero x at = at
front_at (y ∷ xs) ys (suc k) x at = front_at xs ys k x at

module _ (text : ℕ → Name) where
  -- each name of a header, and an earlier one
  Pairwise : List PortName → Type 0
  Pairwise ports = (j k : ℕ) (p q : PortName) → j < k → slice_get ports j ≡ Some p → slice_get ports k ≡ Some q → bytes_eq (text q.name) (text p.name) ≡ false

  differ : (ports : List PortName) → Pairwise ports → Differ (map (λ p. text p.name) ports)
  unfolding Differ Pairwise
  differ [] each = tt
  differ (port ∷ ports) each = (
    every_map (λ (other : Name). bytes_eq other (text port.name) ≡ false) (λ (p : PortName). text p.name) ports
        (at_every (λ (p : PortName). bytes_eq (text p.name) (text port.name) ≡ false) ports (λ k p at. each 0 (suc k) port p (omega arith) refl at)),
    differ ports (λ j k p q less at there. each (suc j) (suc k) p q (omega (arith, less)) at there),
  )

  -- ports of a header have no name in common
  heads_clash : (p q : PortName) → agrees (head_mention p).role (head_mention q).role ≡ false
  heads_clash p q = go p.dir q.dir
    where
      go : (a b : Option Dir) → agrees (head_role a p.range) (head_role b q.range) ≡ false
      go None None = refl
      go None (Some b) = refl
      go (Some a) None = refl
      go (Some a) (Some b) = refl

  -- they count
  heads_count : (implicit : ℕ → Bool) (all : List Mention) (ports : List PortName) → filter (counts text implicit all) (map head_mention ports) ≡ map head_mention ports
  heads_count implicit all [] = refl
  heads_count implicit all (port ∷ ports) = go port.dir (heads_count implicit all ports)
    where
      go : (dir : Option Dir) → filter (counts text implicit all) (map head_mention ports) ≡ map head_mention ports → cond (counts text implicit all (record { token = port.name; role = head_role dir port.range })) (record { token = port.name; role = head_role dir port.range } ∷ filter (counts text implicit all) (map head_mention ports)) (filter (counts text implicit all) (map head_mention ports)) ≡ record { token = port.name; role = head_role dir port.range } ∷ map head_mention ports
      go None rest = ap (λ (ms : List Mention). record { token = port.name; role = head_role None port.range } ∷ ms) rest
      go (Some d) rest = ap (λ (ms : List Mention). record { token = port.name; role = head_role (Some d) port.range } ∷ ms) rest

  -- a mention without a fault has no name that an earlier one has
  not_taken : (unknown taken wide : Bool) → (if unknown then Some NotDeclared else if taken then Some NameTwice else if wide then Some Width else None) ≡ None → taken ≡ false
  not_taken true taken wide none = absurd (none-some NotDeclared (sym none))
  not_taken false true wide none = absurd (none-some NameTwice (sym none))
  not_taken false false wide none = refl

  earlier_there : (ms : List Mention) (j k : ℕ) (m : Mention) → j < k → slice_get ms j ≡ Some m → slice_get (take k ms) j ≡ Some m
  earlier_there [] j k m less at = absurd (none-some m at)
  earlier_there (x ∷ ms) j zero m less at = absurd (omega (arith, less))
  earlier_there (x ∷ ms) zero (suc k) m less at = at
  earlier_there (x ∷ ms) (suc j) (suc k) m less at = earlier_there ms j k m (omega (arith, less)) at

  untaken : (ms : List Mention) (k : ℕ) (m : Mention) → slice_get ms k ≡ Some m → cause_at text ms k ≡ None → is_taken text (take k ms) m ≡ false
  untaken ms k m at none =
      let told : cause_at text ms k ≡ cause_of text ms (take k ms) m = ap (λ (o : Option Mention). elim o [ None ↦ None | Some x ↦ cause_of text ms (take k ms) x ]) at in
      not_taken (is_unknown text ms m) (is_taken text (take k ms) m) (is_wide m.role) (sym told ∙ none)

  -- so the names of a header are different where no mention has a fault
  pairwise : (ports : List PortName) (rest : List Mention) → ((k : ℕ) (m : Mention) → slice_get (map head_mention ports ++ rest) k ≡ Some m → cause_at text (map head_mention ports ++ rest) k ≡ None) → Pairwise ports
  unfolding Pairwise
  pairwise ports rest clean j k p q less at there =
      let ms = map head_mention ports ++ rest in
      let late : slice_get ms k ≡ Some (head_mention q) = front_at (map head_mention ports) rest k (head_mention q) (slice_get-map head_mention ports k ∙ ap (option_map head_mention) there) in
      let early : slice_get ms j ≡ Some (head_mention p) = front_at (map head_mention ports) rest j (head_mention p) (slice_get-map head_mention ports j ∙ ap (option_map head_mention) at) in
      let none = untaken ms k (head_mention q) late (clean k (head_mention q) late) in
      go (bytes_eq (text q.name) (text p.name)) refl none (earlier_there ms j k (head_mention p) less early)
    where
      go : (b : Bool) → bytes_eq (text q.name) (text p.name) ≡ b → is_taken text (take k (map head_mention ports ++ rest)) (head_mention q) ≡ false → slice_get (take k (map head_mention ports ++ rest)) j ≡ Some (head_mention p) → bytes_eq (text q.name) (text p.name) ≡ false
      go false e none early = e
      go true e none early =
          let clash : (bytes_eq (text q.name) (text p.name) && not (agrees (head_mention p).role (head_mention q).role)) ≡ true = (λ i. e i && not (heads_clash p q i)) in
          no (sym none ∙ any_at (λ (x : Mention). bytes_eq (text q.name) (text x.token) && not (agrees x.role (head_mention q).role)) (take k (map head_mention ports ++ rest)) j (head_mention p) early clash)

-- ---- the tests of declarations

no_cause : (o : Option Cause) (f : Cause → ElabFault) → Passes (option_map f o) → o ≡ None
no_cause None f none = refl
no_cause (Some c) f none = absurd (none-some (f c) (sym none))

clean_at : (g : Given) (ms : List Mention) (k : ℕ) (m : Mention) → Every Passes (map (λ (k, mention). mention_test g ms k mention) (enumerate_from 0 ms)) → slice_get ms k ≡ Some m → cause_at (name_in g) ms k ≡ None
clean_at g ms k m tests at =
    let all = of_map Passes (λ (e : ℕ × Mention). mention_test g ms e.0 e.1) (enumerate_from 0 ms) tests in
    no_cause (cause_at (name_in g) ms k) (λ c. fault_of c (start_in g m.token)) (every_at _ (enumerate_from 0 ms) k (k, m) all (enumerated ms 0 k k m at (omega arith)))

header_differs : (g : Given) (m : Module) → Every Passes (declaration_tests g m) → Differ (map (λ p. name_in g p.name) m.ports)
header_differs g m tests =
    let all = mentions m in
    let keep = counts (name_in g) (is_implicit g.tokens) all in
    let rest = filter keep (flat_map item_mentions m.items) in
    let split : counted_in g.source g.tokens m ≡ map head_mention m.ports ++ rest =
    filter-append keep (map head_mention m.ports) (flat_map item_mentions m.items) ∙ ap (λ (ms : List Mention). ms ++ rest) (heads_count (name_in g) (is_implicit g.tokens) all m.ports) in
    differ (name_in g) m.ports (pairwise (name_in g) m.ports rest (subst (λ (ms : List Mention). (k : ℕ) (x : Mention) → slice_get ms k ≡ Some x → cause_at (name_in g) ms k ≡ None) split (λ k x at. clean_at g (counted_in g.source g.tokens m) k x tests at)))

-- ---- the bits of different names

-- the bits of the nets of this name
same_bits : List Name → List Net → Name → ℕ
same_bits [] rows name = 0
same_bits (n ∷ names) [] name = 0
same_bits (n ∷ names) (row ∷ rows) name = cond (bytes_eq name n) (width_of row.range) 0 + same_bits names rows name

all_bits : List Name → List Net → List Name → ℕ
all_bits names rows [] = 0
all_bits names rows (name ∷ more) = same_bits names rows name + all_bits names rows more

one_bits : (names : List Name) (rows : List Net) (k : ℕ) (name : Name) (net : Net) → slice_get names k ≡ Some name → slice_get rows k ≡ Some net → width_of net.range ≤ same_bits names rows name
unfolding same_bits
one_bits [] rows k name net at there = absurd (none-some name at)
one_bits (n ∷ names) [] k name net at there = absurd (none-some net there)
one_bits (n ∷ names) (row ∷ rows) zero name net at there =
    let same : bytes_eq name n ≡ true = (bytes_eq-Decides name n).1 (sym (same_Some n name at)) in
    let wide : width_of row.range ≡ width_of net.range = ap (λ (x : Net). width_of x.range) (same_Some row net there) in
    let first : cond (bytes_eq name n) (width_of row.range) 0 ≡ width_of row.range = ap (λ b. cond b (width_of row.range) 0) same in
    omega (arith, wide, first)
one_bits (n ∷ names) (row ∷ rows) (suc k) name net at there = let rest = one_bits names rows k name net at there in omega (arith, rest)

-- as often as these names are this, so many bits
once_bits : Name → ℕ → List Name → ℕ
once_bits n width [] = 0
once_bits n width (name ∷ some) = cond (bytes_eq name n) width 0 + once_bits n width some

-- of different names at most one is this
none_of : (n : Name) (width : ℕ) (some : List Name) → Every (λ (other : Name). bytes_eq other n ≡ false) some → once_bits n width some ≡ 0
unfolding once_bits
none_of n width [] all = refl
none_of n width (name ∷ some) all =
    let first : cond (bytes_eq name n) width 0 ≡ 0 = ap (λ b. cond b width 0) all.0 in
    let rest = none_of n width some all.1 in
    omega (arith, first, rest)

once : (n : Name) (width : ℕ) (some : List Name) → Differ some → once_bits n width some ≤ width
unfolding Differ once_bits
once n width [] apart = omega arith
once n width (name ∷ some) apart = go (bytes_eq name n) refl (once n width some apart.1)
  where
    go : (b : Bool) → bytes_eq name n ≡ b → once_bits n width some ≤ width → cond b width 0 + once_bits n width some ≤ width
    go true e rest =
        let same : name ≡ n = (bytes_eq-Decides name n).0 e in
        let none = none_of n width some (subst (λ (x : Name). Every (λ (other : Name). bytes_eq other x ≡ false) some) same apart.0) in
        omega (arith, none)
    go false e rest = omega (arith, rest)

split_bits : (n : Name) (row : Net) (names : List Name) (rows : List Net) (some : List Name) → all_bits (n ∷ names) (row ∷ rows) some ≡ once_bits n (width_of row.range) some + all_bits names rows some
unfolding all_bits same_bits once_bits
split_bits n row names rows [] = refl
split_bits n row names rows (name ∷ some) = let rest = split_bits n row names rows some in omega (arith, rest)

none_bits : (rows : List Net) (some : List Name) → all_bits [] rows some ≡ 0
unfolding all_bits same_bits
none_bits rows [] = refl
none_bits rows (name ∷ some) = let rest = none_bits rows some in omega (arith, rest)

no_rows : (names : List Name) (some : List Name) → all_bits names [] some ≡ 0
unfolding all_bits same_bits
no_rows [] some = none_bits [] some
no_rows (n ∷ names) [] = refl
no_rows (n ∷ names) (name ∷ some) = let rest = no_rows (n ∷ names) some in omega (arith, rest)

bits_few : (names : List Name) (rows : List Net) (some : List Name) → Differ some → all_bits names rows some ≤ bit_total rows
bits_few [] rows some apart = let none = none_bits rows some in omega (arith, none)
bits_few (n ∷ names) [] some apart = let none = no_rows (n ∷ names) some in omega (arith, none)
bits_few (n ∷ names) (row ∷ rows) some apart =
    let split = split_bits n row names rows some in
    let one = once n (width_of row.range) some apart in
    let rest = bits_few names rows some apart in
    omega (arith, split, one, rest)

-- ---- the ports

-- the nets of a name
nets_found : Inside → Option Net → List NetId
nets_found here None = []
nets_found here (Some net) = net_numbers here net

numbers_long : (here : Inside) (net : Net) → length (net_numbers here net) ≡ width_of net.range
numbers_long here net = length-map (range_with_len (here.base + net.first) (width_of net.range)) net_at ∙ length-range_with_len (here.base + net.first) (width_of net.range)

record IsNamedRow (nets : Nets) (name : Name) (net : Net) : Type 0 where
  place : ℕ
  named : slice_get nets.names place ≡ Some name
  row : slice_get nets.rows place ≡ Some net

named_row : (nets : Nets) (name : Name) (net : Net) → net_named nets name ≡ Some net → IsNamedRow nets name net
named_row nets name net found = go (place_among nets.names name) refl found
  where
    go : (place : Option ℕ) → place_among nets.names name ≡ place → (elim place [ None ↦ None | Some k ↦ slice_get nets.rows k ]) ≡ Some net → IsNamedRow nets name net
    go None is e = absurd (none-some net e)
    go (Some k) is e = record { place = k; named = place_among-Some nets.names name k is; row = e }

found_few : (here : Inside) (name : Name) (found : Option Net) → net_named here.nets name ≡ found → length (nets_found here found) ≤ same_bits here.nets.names here.nets.rows name
unfolding nets_found
found_few here name None is = omega arith
found_few here name (Some net) is =
    let row = named_row here.nets name net is in
    let few = one_bits here.nets.names here.nets.rows row.place name net row.named row.row in
    let long = numbers_long here net in
    omega (arith, few, long)

named_few : (here : Inside) (name : Name) → length (named_bits here name) ≤ same_bits here.nets.names here.nets.rows name
unfolding nets_found
named_few here name = found_few here name (net_named here.nets name) refl

-- the bits of the ports of these names
ports_few : (here : Inside) (names : List Name) → length (port_bits (map (port_of here) names)) ≤ all_bits here.nets.names here.nets.rows names
unfolding all_bits
ports_few here [] = omega arith
ports_few here (name ∷ names) =
    let split = length-append (named_bits here name) (port_bits (map (port_of here) names)) in
    let one = named_few here name in
    let rest = ports_few here names in
    omega (arith, split, one, rest)

-- a port with a direction has a bit
wide_by : (b : Bool) (l r : ℕ) → 1 ≤ cond b (r - l + 1) (l - r + 1)
wide_by true l r = omega arith
wide_by false l r = omega arith

wide : (range : Option IndexRange) → 1 ≤ width_of range
wide None = omega arith
wide (Some r) = wide_by (nat_lt r.left r.right) r.left r.right

directed_some : (test : Dir → Bool) (here : Inside) (name : Name) → has_dir test here name ≡ true → 1 ≤ length (named_bits here name)
unfolding nets_found
directed_some test here name directed = go (net_named here.nets name) directed
  where
    go : (found : Option Net) → (elim (option_and_then (λ (net : Net). net.dir) found) [ None ↦ false | Some dir ↦ test dir ]) ≡ true → 1 ≤ length (nets_found here found)
    go None e = no e
    go (Some net) e = let long = numbers_long here net in let some = wide net.range in omega (arith, long, some)

directed_count : (test : Dir → Bool) (here : Inside) (names : List Name) → length (map (port_of here) (filter (has_dir test here) names)) ≤ length (port_bits (map (port_of here) (filter (has_dir test here) names)))
directed_count test here [] = omega arith
directed_count test here (name ∷ names) = go (has_dir test here name) refl (directed_count test here names)
  where
    go : (b : Bool) → has_dir test here name ≡ b → length (map (port_of here) (filter (has_dir test here) names)) ≤ length (port_bits (map (port_of here) (filter (has_dir test here) names)))
        → length (map (port_of here) (cond b (name ∷ filter (has_dir test here) names) (filter (has_dir test here) names))) ≤ length (port_bits (map (port_of here) (cond b (name ∷ filter (has_dir test here) names) (filter (has_dir test here) names))))
    go true e rest =
        let split = length-append (named_bits here name) (port_bits (map (port_of here) (filter (has_dir test here) names))) in
        let some = directed_some test here name e in
        omega (arith, split, some, rest)
    go false e rest = rest

-- what is asked of the ports of a direction, where the top has so many bits
pub record ArePorts (nets bits : ℕ) (ports : List Port) : Type 0 where
  pub there : ports_there nets ports ≡ true
  pub count : length ports ≤ bits
  pub few : length (port_bits ports) ≤ bits

pub ports_are : (test : Dir → Bool) (nets : ℕ) (g : Given) (here : Inside) → AreFit nets here.base here.nets.rows → Every Passes (declaration_tests g here.module_of) → ArePorts nets (bit_total here.nets.rows) (ports_with test g here)
ports_are test nets g here fit tests =
    let header : List Name = map (λ p. name_in g p.name) here.module_of.ports in
    let chosen : List Name = filter (has_dir test here) header in
    let all = bits_few here.nets.names here.nets.rows chosen (differ_kept (has_dir test here) header (header_differs g here.module_of tests)) in
    let few = ports_few here chosen in
    let count = directed_count test here header in
    record {
      there = every_passes (λ (port : Port). AreBelow nets port.nets) (λ (port : Port). are_there nets port.nets) (map (port_of here) chosen)
          (λ port below. every_passes (λ (m : NetId). m.place < nets) (is_there nets) port.nets (λ m less. lt-ltb m.place nets less) below)
          (every_map (λ (port : Port). AreBelow nets port.nets) (port_of here) chosen (every_one _ chosen (λ name. named_below nets here name fit)));
      count = omega (arith, all, few, count);
      few = omega (arith, all, few);
    }
