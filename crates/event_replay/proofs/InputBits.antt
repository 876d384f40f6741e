-- Values that settings of different ports give are values of input bits, each given once.
use Rattle.std.proofs.Common.{◌≡◌, ℕ, zero, suc, ◌+◌, ◌*◌, ◌<◌, ◌≤◌, ◌==◌, ltb, Bool, true, cond, Some, option_map, slice_get, List, [], ◌∷◌, map, get_or, count_by, sum_by, Contains, inl, inr, refl, sym, ap, ◌∙◌, arith}
use Rattle.std.specs.List.{enumerate_from, list_any, AllByRecursion}
use Rattle.std.proofs.Math.Nat.{suc-mul, mul-le-mul_right}
use Rattle.std.proofs.lemmas.Bool.{cases_lt, cases_Bool, eq-eqb, ne_eqb, cond-true, cond-false, lt-ltb, or_left, or_right}
use Rattle.std.proofs.lemmas.Bool.Decides.{nat_tests}
use Rattle.std.proofs.lemmas.List.Sums.{sum_by-cons, sum_by-append, get_or-le-sum_by}
use Rattle.id_arena.specs.declared.keys.NetId.{NetId}
use Rattle.design_core.specs.declared.element.Driver.TheVariants.{Input}
use Rattle.design_core.specs.declared.parts.Parts.{Parts}
use Rattle.design_core.specs.declared.parts.Port.{Port}
use Rattle.design_core.specs.declared.values.PortBit.{PortBit}
use Rattle.design_core.specs.Design.{IsDesign, driver, driver_count, includes, is_net, net_count, port_bits}
use Rattle.design_core.specs.Operation.{bit_of}
use Rattle.domain_groups.specs.Settings.{Setting, bits_set}
use Rattle.event_replay.specs.Settings.{IsOfPort, AreSet, AreInputBits}
use Rattle.event_replay.specs.Values.{shown_bits}

-- how often a net is given a value
abbrev given_count : ℕ → List PortBit → ℕ
given_count n bits = count_by (λ b. b.net.place == n) bits

-- the bits of a port give each net as often as the port has it
count_shown : (n number k : ℕ) (nets : List NetId) → given_count n (map (λ (k, net). record { net = net; value = bit_of number k }) (enumerate_from k nets)) ≡ count_by (is_net n) nets
count_shown n number k [] = refl
count_shown n number k (net ∷ nets) =
    sum_by-cons (λ (b : PortBit). cond (b.net.place == n) 1 0) (record { net = net; value = bit_of number k }) (map (λ (k, net). record { net = net; value = bit_of number k }) (enumerate_from (k + 1) nets))
    ∙ ap (λ c. cond (net.place == n) 1 0 + c) (count_shown n number (k + 1) nets)
    ∙ sym (sum_by-cons (λ m. cond (is_net n m) 1 0) net nets)

count_set : (n : ℕ) (settings : List Setting) → given_count n (bits_set settings) ≡ sum_by (λ s. count_by (is_net n) s.nets) settings
count_set n [] = refl
count_set n (s ∷ ss) =
    sum_by-append (λ (b : PortBit). cond (b.net.place == n) 1 0) (shown_bits s.nets s.number) (bits_set ss)
    ∙ ap (λ c. c + given_count n (bits_set ss)) (count_shown n s.number 0 s.nets)
    ∙ ap (λ c. count_by (is_net n) s.nets + c) (count_set n ss)
    ∙ sym (sum_by-cons (λ (s : Setting). count_by (is_net n) s.nets) s ss)

-- how often the port at a place has a net
at_port : ℕ → List Port → ℕ → ℕ
at_port n [] p = 0
at_port n (port ∷ ports) zero = count_by (is_net n) port.nets
at_port n (port ∷ ports) (suc p) = at_port n ports p

own_count : (n : ℕ) (ports : List Port) (p : ℕ) (nets : List NetId) → option_map (λ port. port.nets) (slice_get ports p) ≡ Some nets → count_by (is_net n) nets ≡ at_port n ports p
unfolding at_port
own_count n [] p nets here = absurd (cc)
own_count n (port ∷ ports) zero nets here = (let same : port.nets ≡ nets = cc in ap (count_by (is_net n)) (sym same))
own_count n (port ∷ ports) (suc p) nets here = own_count n ports p nets here

sum_own : (n : ℕ) (ports : List Port) (settings : List Setting) → AllByRecursion (IsOfPort ports) settings → sum_by (λ s. count_by (is_net n) s.nets) settings ≡ sum_by (at_port n ports) (map (λ s. s.port) settings)
sum_own n ports [] all = refl
sum_own n ports (s ∷ ss) all =
    sum_by-cons (λ (s : Setting). count_by (is_net n) s.nets) s ss
    ∙ ap (λ c. c + sum_by (λ s. count_by (is_net n) s.nets) ss) (own_count n ports s.port s.nets all.0)
    ∙ ap (λ c. at_port n ports s.port + c) (sum_own n ports ss all.1)
    ∙ sym (sum_by-cons (at_port n ports) s.port (map (λ s. s.port) ss))

-- how often a number stands among some
abbrev times : ℕ → List ℕ → ℕ
times p ps = count_by (λ x. x == p) ps

-- the numbers other than 0, each less by 1
less_one : List ℕ → List ℕ
less_one [] = []
less_one (zero ∷ ps) = less_one ps
less_one (suc p ∷ ps) = p ∷ less_one ps

times_less : (p : ℕ) (ps : List ℕ) → times p (less_one ps) ≡ times (suc p) ps
unfolding less_one
times_less p [] = refl
times_less p (zero ∷ ps) =
    let step = sum_by-cons (λ x. cond {A = ℕ} (x == suc p) 1 0) zero ps in
    let other : cond {A = ℕ} (0 == suc p) 1 0 ≡ 0 = cond-false (0 == suc p) 1 0 (ne_eqb 0 (suc p) (λ e. omega arith)) in
    omega (arith, times_less p ps, step, other)
times_less p (suc q ∷ ps) =
    let same : (suc q == suc p) ≡ (q == p) = grind (arith, nat_tests) in
    let both = ap (λ b. cond {A = ℕ} b 1 0) same in
    let before = sum_by-cons (λ x. cond {A = ℕ} (x == suc p) 1 0) (suc q) ps in
    let after = sum_by-cons (λ x. cond {A = ℕ} (x == p) 1 0) q (less_one ps) in
    omega (arith, times_less p ps, both, before, after)

split_first : (n : ℕ) (port : Port) (ports : List Port) (ps : List ℕ) → sum_by (at_port n (port ∷ ports)) ps ≡ times 0 ps * count_by (is_net n) port.nets + sum_by (at_port n ports) (less_one ps)
unfolding at_port less_one
split_first n port ports [] = omega arith
split_first n port ports (zero ∷ ps) =
    let first = sum_by-cons (at_port n (port ∷ ports)) zero ps in
    let count = sum_by-cons (λ x. cond (x == 0) 1 0) zero ps in
    let product : times 0 (zero ∷ ps) * count_by (is_net n) port.nets ≡ suc (times 0 ps) * count_by (is_net n) port.nets = ap (λ t. t * count_by (is_net n) port.nets) (omega (arith, count)) in
    omega (arith, first, product, suc-mul (times 0 ps) (count_by (is_net n) port.nets), split_first n port ports ps)
split_first n port ports (suc p ∷ ps) =
    let first = sum_by-cons (at_port n (port ∷ ports)) (suc p) ps in
    let rest = sum_by-cons (at_port n ports) p (less_one ps) in
    let count = sum_by-cons (λ x. cond {A = ℕ} (x == 0) 1 0) (suc p) ps in
    let other : cond {A = ℕ} (suc p == 0) 1 0 ≡ 0 = cond-false (suc p == 0) 1 0 (ne_eqb (suc p) 0 (λ e. omega arith)) in
    let product : times 0 (suc p ∷ ps) * count_by (is_net n) port.nets ≡ times 0 ps * count_by (is_net n) port.nets = ap (λ t. t * count_by (is_net n) port.nets) (omega (arith, count, other)) in
    omega (arith, first, rest, product, split_first n port ports ps)

no_port : (n : ℕ) (ps : List ℕ) → sum_by (at_port n []) ps ≡ 0
unfolding at_port
no_port n [] = refl
no_port n (p ∷ ps) =
    let none : at_port n [] p ≡ 0 = refl in
    omega (arith, sum_by-cons (at_port n []) p ps, no_port n ps, none)

-- different ports together have a net no more often than all ports
few : (n : ℕ) (ports : List Port) (ps : List ℕ) → ((p : ℕ) → times p ps ≤ 1) → sum_by (at_port n ports) ps ≤ count_by (is_net n) (port_bits ports)
few n [] ps once = omega (arith, no_port n ps)
few n (port ∷ ports) ps once =
    let all = sum_by-append (λ m. cond (is_net n m) 1 0) port.nets (port_bits ports) in
    let rest = few n ports (less_one ps) (λ p. omega (arith, times_less p ps, once (suc p))) in
    let first = mul-le-mul_right {m = times 0 ps} {n = 1} (count_by (is_net n) port.nets) (once 0) in
    omega (arith, all, rest, first, split_first n port ports ps)

count_places : (p : ℕ) (settings : List Setting) → times p (map (λ s. s.port) settings) ≡ count_by (λ s. s.port == p) settings
count_places p [] = refl
count_places p (s ∷ ss) =
    sum_by-cons (λ x. cond (x == p) 1 0) s.port (map (λ s. s.port) ss)
    ∙ ap (λ c. cond (s.port == p) 1 0 + c) (count_places p ss)
    ∙ sym (sum_by-cons (λ (s : Setting). cond (s.port == p) 1 0) s ss)

given_few : (n : ℕ) (ports : List Port) (values : List PortBit) → AreSet ports values → given_count n values ≤ count_by (is_net n) (port_bits ports)
given_few n ports values set =
    let places = few n ports (map (λ s. s.port) set.settings) (λ p. omega (arith, count_places p set.settings, set.once p)) in
    let count = ap (given_count n) set.bits ∙ count_set n set.settings ∙ sum_own n ports set.settings set.of_ports in
    omega (arith, places, count)

-- a net of a design has at most one driver, whether it is there or not
one_driver : (p : Parts) (n : ℕ) → IsDesign p → driver_count p n ≤ 1
one_driver p n design =
    elim (cases_lt n (net_count p)) [
      | inl there ↦ design.one_driver n there
      | inr beyond ↦ (elim (cases_lt 0 (driver_count p n)) [ inl some ↦ absurd (let there = design.in_range n some in omega arith) | inr none ↦ omega arith ])
    ]

any_of_some : {X : Type 0} (test : X → Bool) (xs : List X) → 0 < count_by test xs → list_any test xs ≡ true
any_of_some test [] some = absurd (omega arith)
any_of_some test (x ∷ xs) some =
    elim (cases_Bool (test x)) [
      | inl e ↦ or_left (test x) (list_any test xs) e
      | inr e ↦ or_right (test x) (list_any test xs) (any_of_some test xs (let count = sum_by-cons (λ y. cond {A = ℕ} (test y) 1 0) x xs in let none : cond {A = ℕ} (test x) 1 0 ≡ 0 = cond-false (test x) 1 0 e in omega arith))
    ]

count_contained : (values : List PortBit) (b : PortBit) → Contains values b → 0 < given_count b.net.place values
count_contained values b here =
    let least = get_or-le-sum_by (λ (x : PortBit). cond (x.net.place == b.net.place) 1 0) values here.0 b here.1 in
    let one : cond {A = ℕ} ((get_or values here.0 b).net.place == b.net.place) 1 0 ≡ 1 = cond-true _ 1 0 (eq-eqb _ _ (ap (λ x. x.net.place) here.2)) in
    omega arith

input_driver : (p : Parts) (n : ℕ) → IsDesign p → 0 < count_by (is_net n) (port_bits p.inputs) → driver p n ≡ Input
input_driver p n design some =
    elim (cases_lt n 2) [
      | inl low ↦ absurd (let one = one_driver p n design in let constant : cond {A = ℕ} (ltb n 2) 1 0 ≡ 1 = cond-true (ltb n 2) 1 0 (lt-ltb n 2 low) in omega arith)
      | inr high ↦
          cond-false (n == 0) _ _ (ne_eqb n 0 (λ e. omega arith))
          ∙ cond-false (n == 1) _ _ (ne_eqb n 1 (λ e. omega arith))
          ∙ cond-true (includes (port_bits p.inputs) n) _ _ (any_of_some (is_net n) (port_bits p.inputs) some)
    ]

pub input_bits : (p : Parts) (values : List PortBit) → IsDesign p → AreSet p.inputs values → AreInputBits p values
input_bits p values design set = record {
  inputs = λ b here. input_driver p b.net.place design (let some = count_contained values b here in let most = given_few b.net.place p.inputs values set in omega arith);
  once = λ n. (let one = one_driver p n design in let most = given_few n p.inputs values set in omega arith);
}
