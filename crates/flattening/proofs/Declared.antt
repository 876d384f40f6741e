-- What reading the declarations of a module answers is what flattening asks.
use Prim.Native.Nat.{zero, suc}
use Rattle.std.proofs.Common.{◌≡◌, ◌∙◌, ◌+◌, ◌<◌, ℕ, List, [], ◌∷◌, Option, Some, None, Ok, Err, length, map, take, slice_get, refl, sym, ap, subst, arith}
use Rattle.std.specs.Prelude.{sum_by}
use Rattle.std.specs.List.{enumerate_from}
use Rattle.std.proofs.lemmas.List.Sums.{sum_by-cons}
use Rattle.std.proofs.lemmas.Option.{same_Some}
use Rattle.verilog_tree.specs.declared.source.Dir.{Dir}
use Rattle.verilog_tree.specs.declared.source.IndexRange.{IndexRange}
use Rattle.module_nets.specs.declared.fault.Cause.{Cause}
use Rattle.module_nets.specs.declared.fault.NetFault.TheVariants.{Refused, NoMemory}
use Rattle.module_nets.specs.declared.mention.Mention.{Mention}
use Rattle.module_nets.specs.declared.nets.Net.{Net}
use Rattle.module_nets.specs.Declarations.{cause_at, dir_in, first_given, net_names, range_of, width_of}
use Rattle.module_nets.specs.Names.{Name}
use Rattle.module_nets.specs.Nets.{AreNets, Nets, counted_in}
use Rattle.flattening.specs.declared.fault.ElabFault.{ElabFault}
use Rattle.flattening.specs.Faults.{fault_of, mention_test}
use Rattle.flattening.specs.Laws.{DeclarationsAreTold}
use Rattle.flattening.specs.Places.{Given, name_in, nets_with, rows_from, start_in}
use Rattle.flattening.specs.Steps.{first_fault}

-- the tests of some mentions, of which the first has this place
tests_from : Given → List Mention → ℕ → List Mention → List (Option ElabFault)
tests_from g all k ms = map (λ (j, m). mention_test g all j m) (enumerate_from k ms)

no_fault : (g : Given) (all : List Mention) (k : ℕ) (ms : List Mention) → ((j : ℕ) → cause_at (name_in g) all j ≡ None) → first_fault (tests_from g all k ms) ≡ None
unfolding tests_from
no_fault g all k [] none = refl
no_fault g all k (m ∷ ms) none = rw (none k) (no_fault g all (k + 1) ms none)

the_fault : (g : Given) (all : List Mention) (k d : ℕ) (ms : List Mention) (faulty : Mention) (cause : Cause) → slice_get ms d ≡ Some faulty → cause_at (name_in g) all (k + d) ≡ Some cause → ((j : ℕ) → j < d → cause_at (name_in g) all (k + j) ≡ None) → first_fault (tests_from g all k ms) ≡ Some (fault_of cause (start_in g faulty.token))
unfolding tests_from
the_fault g all k d [] faulty cause here why first = absurd (cc)
the_fault g all k zero (m ∷ ms) faulty cause here why first =
    let why-2 : cause_at (name_in g) all k ≡ Some cause = subst (λ i. cause_at (name_in g) all i ≡ Some cause) (omega arith) why in
    let is : m ≡ faulty = same_Some m faulty here in
    rw why-2 (ap (λ (x : Mention). Some (fault_of cause (start_in g x.token))) is)
the_fault g all k (suc d) (m ∷ ms) faulty cause here why first =
    let zero-is : k + 0 ≡ k = omega arith in
    let none : cause_at (name_in g) all k ≡ None = subst (λ i. cause_at (name_in g) all i ≡ None) zero-is (first 0 (omega arith)) in
    let next : k + suc d ≡ (k + 1) + d = omega arith in
    let why-2 : cause_at (name_in g) all ((k + 1) + d) ≡ Some cause = subst (λ i. cause_at (name_in g) all i ≡ Some cause) next why in
    let first-2 : (j : ℕ) → j < d → cause_at (name_in g) all ((k + 1) + j) ≡ None =
    λ j less. (let more : k + (j + 1) ≡ (k + 1) + j = omega arith in
    subst (λ i. cause_at (name_in g) all i ≡ None) more (first (j + 1) (omega (arith, less)))) in
    rw none (the_fault g all (k + 1) d ms faulty cause here why-2 first-2)

-- a net, of its direction, its range and its first number
net_of : Option Dir → Option IndexRange → ℕ → Net
net_of dir range first = record { dir = dir; range = range; first = first }

same_row : (net : Net) (dir : Option Dir) (range : Option IndexRange) (first : ℕ) → net.dir ≡ dir → net.range ≡ range → net.first ≡ first → net ≡ record { dir = dir; range = range; first = first }
unfolding net_of
same_row net dir range first a b c =
    ap (λ d. net_of d net.range net.first) a ∙ ap (λ r. net_of dir r net.first) b ∙ ap (net_of dir range) c

rows_are : (text : ℕ → Name) (ms : List Mention) (names : List Name) (rest : List Net) (first : ℕ) → length rest ≡ length names → ((k : ℕ) (name : Name) (net : Net) → slice_get names k ≡ Some name → slice_get rest k ≡ Some net → (net.dir ≡ first_given text dir_in ms name) × (net.range ≡ range_of text ms name) × (net.first ≡ first + sum_by (λ n. width_of n.range) (take k rest))) → rest ≡ rows_from text ms first names
rows_are text ms [] [] first sized each = refl
rows_are text ms [] (net ∷ rest) first sized each = absurd (omega (arith, sized))
rows_are text ms (name ∷ names) [] first sized each = absurd (omega (arith, sized))
rows_are text ms (name ∷ names) (net ∷ rest) first sized each =
    let here = each 0 name net refl refl in
    let first-is : net.first ≡ first = here.2 ∙ omega arith in
    let row : net ≡ record { dir = first_given text dir_in ms name; range = range_of text ms name; first = first } = same_row net (first_given text dir_in ms name) (range_of text ms name) first here.0 here.1 first-is in
    let wide : width_of net.range ≡ width_of (range_of text ms name) = ap width_of here.1 in
    let rest-is : rest ≡ rows_from text ms (first + width_of (range_of text ms name)) names =
    rows_are text ms names rest (first + width_of (range_of text ms name)) (omega (arith, sized))
    (λ k other found named there. (let one = each (suc k) other found named there in
    let split : sum_by (λ n. width_of n.range) (take (suc k) (net ∷ rest)) ≡ width_of net.range + sum_by (λ n. width_of n.range) (take k rest) = sum_by-cons (λ n. width_of n.range) net (take k rest) in
    (one.0, one.1, omega (arith, one.2, split, wide)))) in
    ap (λ x. x ∷ rest) row ∙ ap (λ xs. record { dir = first_given text dir_in ms name; range = range_of text ms name; first = first } ∷ xs) rest-is

-- the nets of a module, of their names and rows
nets_from : List Name → List Net → Nets
nets_from names rows = record { names = names; rows = rows }

nets_are : (text : ℕ → Name) (ms : List Mention) (nets : Nets) → AreNets text ms nets → nets ≡ nets_with text ms
unfolding nets_from
nets_are text ms nets are =
    let sized : length nets.rows ≡ length (net_names text ms) = are.sized ∙ ap length are.names in
    let rows : nets.rows ≡ rows_from text ms 0 (net_names text ms) =
    rows_are text ms (net_names text ms) nets.rows 0 sized
    (λ k name net named there. (let one = are.each k name net (subst (λ ns. slice_get ns k ≡ Some name) (sym are.names) named) there in
    (one.dir, one.range, one.first ∙ omega arith))) in
    ap (λ names. nets_from names nets.rows) are.names ∙ ap (nets_from (net_names text ms)) rows

pub declarations_are_told : DeclarationsAreTold
unfolding tests_from
declarations_are_told g m (Ok nets) says =
    (nets_are (name_in g) (counted_in g.source g.tokens m) nets says.1, no_fault g (counted_in g.source g.tokens m) 0 (counted_in g.source g.tokens m) says.0)
declarations_are_told g m (Err (Refused cause at)) says =
    let place : says.place ≡ 0 + says.place = omega arith in
    let why : cause_at (name_in g) (counted_in g.source g.tokens m) (0 + says.place) ≡ Some cause = subst (λ i. cause_at (name_in g) (counted_in g.source g.tokens m) i ≡ Some cause) place says.why in
    let first : (j : ℕ) → j < says.place → cause_at (name_in g) (counted_in g.source g.tokens m) (0 + j) ≡ None =
    λ j less. (let same : j ≡ 0 + j = omega arith in
    subst (λ i. cause_at (name_in g) (counted_in g.source g.tokens m) i ≡ None) same (says.first j less)) in
    the_fault g (counted_in g.source g.tokens m) 0 says.place (counted_in g.source g.tokens m) says.faulty cause says.here why first
    ∙ ap (λ byte. Some (fault_of cause byte)) (sym says.byte)
declarations_are_told g m (Err NoMemory) says = tt
