-- The drives of a net are counted as the net's drivers are, and the first of them is its driver.
use Rattle.std.proofs.Common.{◌≡◌, ◌∙◌, ◌+◌, ℕ, zero, suc, Bool, true, false, cond, List, [], ◌∷◌, ◌++◌, Option, None, Some, inl, inr, ap, sym, refl, map, arith}
use Rattle.std.specs.Prelude.{◌==◌, nat_lt, if◌then◌else◌, count_by, find, flat_map, option_map, position, unwrap_or}
use Rattle.std.specs.List.{enumerate_from, list_any, position_from}
use Rattle.std.specs.Option.{option_or}
use Rattle.std.proofs.lemmas.Bool.{cases_Bool, ne_eqb, le-ltb}
use Rattle.std.proofs.lemmas.List.Folds.{find-append}
use Rattle.std.proofs.lemmas.List.Sums.{sum_by-append, sum_by-cons}
use Rattle.std.proofs.lemmas.Iterator.Adapters.{position_from-zero}
use Rattle.id_arena.specs.declared.keys.NetId.{NetId}
use Rattle.design_core.specs.declared.element.Element.{Element}
use Rattle.design_core.specs.declared.element.Element.TheVariants as element
use Rattle.design_core.specs.declared.element.Memory.{Memory}
use Rattle.design_core.specs.declared.element.ReadPort.{ReadPort}
use Rattle.design_core.specs.declared.element.Driver.{Driver}
use Rattle.design_core.specs.declared.element.Driver.TheVariants.{Constant, Input, Read}
use Rattle.design_core.specs.declared.parts.Parts.{Parts}
use Rattle.design_core.specs.declared.parts.Port.{Port}
use Rattle.design_core.specs.Design.{ReadBit, driver, driver_count, drives, element_driver, includes, inner_driver, is_net, memory_read_bits, port_bits, port_read_bits, read_bits, read_driver}
use Rattle.design_core.specs.Drives.{Drive, constant_drives, drive_of, drives_of, element_drives, elements_drives, input_drives, memories_drives, memory_drives, port_drives}

-- whether a drive is of this net
abbrev pub is_of : ℕ → Drive → Bool
is_of n d = d.net == n

abbrev pub count_of : ℕ → List Drive → ℕ
count_of n ds = count_by (is_of n) ds

-- the driver of the first drive of this net
abbrev pub first_of : ℕ → List Drive → Option Driver
first_of n ds = option_map (λ (d : Drive). d.driver) (find (is_of n) ds)

count-append : {X : Type 0} (p : X → Bool) (xs ys : List X) → count_by p (xs ++ ys) ≡ count_by p xs + count_by p ys
count-append p xs ys = sum_by-append (λ x. cond (p x) 1 0) xs ys

pub count-cons : {X : Type 0} (p : X → Bool) (x : X) (xs : List X) → count_by p (x ∷ xs) ≡ cond (p x) 1 0 + count_by p xs
count-cons p x xs = sum_by-cons (λ y. cond (p y) 1 0) x xs

count_map : {X Y : Type 0} (p : Y → Bool) (f : X → Y) (xs : List X) → count_by p (map f xs) ≡ count_by (λ x. p (f x)) xs
count_map p f [] = refl
count_map p f (x ∷ xs) = count-cons p (f x) (map f xs) ∙ ap (λ k. cond (p (f x)) 1 0 + k) (count_map p f xs) ∙ sym (count-cons (λ y. p (f y)) x xs)

count_flat : {X A B : Type 0} (F : X → List A) (p : A → Bool) (G : X → List B) (q : B → Bool) (xs : List X) → ((x : X) → count_by p (F x) ≡ count_by q (G x)) → count_by p (flat_map F xs) ≡ count_by q (flat_map G xs)
count_flat F p G q [] same = refl
count_flat F p G q (x ∷ xs) same =
    let here : count_by p (F x) ≡ count_by q (G x) = same x in
    let rest = count_flat F p G q xs same in
    let left = count-append p (F x) (flat_map F xs) in
    let right = count-append q (G x) (flat_map G xs) in
    omega (arith, here, rest, left, right)

inputs_counted : (n : ℕ) (ports : List Port) → count_of n (input_drives ports) ≡ count_by (is_net n) (port_bits ports)
inputs_counted n ports =
    count_flat (λ (port : Port). map (drive_of Input) port.nets) (is_of n) (λ (port : Port). port.nets) (is_net n) ports (λ port. count_map (is_of n) (drive_of Input) port.nets)

element_counted : (n k : ℕ) (e : Element) → count_of n (element_drives k e) ≡ cond (drives n e) 1 0
element_counted n k (element.Gate op inputs output) = let h = count-cons (is_of n) (drive_of (element_driver k) output) [] in omega (arith, h)
element_counted n k (element.Flop f) = let h = count-cons (is_of n) (drive_of (element_driver k) f.q) [] in omega (arith, h)
element_counted n k (element.Latch l) = let h = count-cons (is_of n) (drive_of (element_driver k) l.q) [] in omega (arith, h)
element_counted n k (element.Memory m) = refl

elements_counted : (n k : ℕ) (es : List Element) → count_of n (elements_drives k es) ≡ count_by (drives n) es
elements_counted n k [] = refl
elements_counted n k (e ∷ es) =
    let here = element_counted n k e in
    let rest = elements_counted n (k + 1) es in
    let left = count-append (is_of n) (element_drives k e) (elements_drives (k + 1) es) in
    let right = count-cons (drives n) e es in
    omega (arith, here, rest, left, right)

port_counted : (n m r : ℕ) (port : ReadPort) → count_of n (port_drives m r port.bits) ≡ count_by (λ (b : ReadBit). b.net == n) (port_read_bits m r port)
port_counted n m r port =
    count_map (is_of n) (λ (x : ℕ × NetId). drive_of (Read (record { place = m }) r x.0) x.1) (enumerate_from 0 port.bits)
    ∙ sym (count_map (λ (b : ReadBit). b.net == n) (λ (x : ℕ × NetId). record { net = x.1.place; mem = m; port = r; bit = x.0 }) (enumerate_from 0 port.bits))

memory_counted : (n m : ℕ) (memory : Memory) → count_of n (memory_drives m memory) ≡ count_by (λ (b : ReadBit). b.net == n) (memory_read_bits m memory)
memory_counted n m memory =
    count_flat (λ (x : ℕ × ReadPort). port_drives m x.0 x.1.bits) (is_of n) (λ (x : ℕ × ReadPort). port_read_bits m x.0 x.1) (λ (b : ReadBit). b.net == n) (enumerate_from 0 memory.reads) (λ x. port_counted n m x.0 x.1)

memories_counted : (n : ℕ) (p : Parts) → count_of n (memories_drives p.memories) ≡ count_by (λ (b : ReadBit). b.net == n) (read_bits p)
memories_counted n p =
    count_flat (λ (x : ℕ × Memory). memory_drives x.0 x.1) (is_of n) (λ (x : ℕ × Memory). memory_read_bits x.0 x.1) (λ (b : ReadBit). b.net == n) (enumerate_from 0 p.memories) (λ x. memory_counted n x.0 x.1)

constants_counted : (n : ℕ) → count_of n constant_drives ≡ (if nat_lt n 2 then 1 else 0)
constants_counted zero = refl
constants_counted (suc zero) = refl
constants_counted (suc (suc k)) = rw (ne_eqb 0 (suc (suc k)) (λ e. omega (arith, e)), ne_eqb 1 (suc (suc k)) (λ e. omega (arith, e)), le-ltb (suc (suc k)) 2 (omega arith)) refl

-- a net has as many drives as drivers
pub counted : (p : Parts) (n : ℕ) → count_of n (drives_of p) ≡ driver_count p n
counted p n =
    let zero-part = constants_counted n in
    let one-part = inputs_counted n p.inputs in
    let two-part = elements_counted n 0 p.elements in
    let three-part = memories_counted n p in
    let a = count-append (is_of n) constant_drives (input_drives p.inputs ++ (elements_drives 0 p.elements ++ memories_drives p.memories)) in
    let b = count-append (is_of n) (input_drives p.inputs) (elements_drives 0 p.elements ++ memories_drives p.memories) in
    let c = count-append (is_of n) (elements_drives 0 p.elements) (memories_drives p.memories) in
    omega (arith, zero-part, one-part, two-part, three-part, a, b, c)

or_map : {X Y : Type 0} (f : X → Y) (a b : Option X) → option_map f (option_or a b) ≡ option_or (option_map f a) (option_map f b)
or_map f None b = refl
or_map f (Some x) b = refl

found_append : {X Y : Type 0} (f : X → Y) (p : X → Bool) (xs ys : List X) → option_map f (find p (xs ++ ys)) ≡ option_or (option_map f (find p xs)) (option_map f (find p ys))
found_append f p xs ys = ap (option_map f) (find-append p xs ys) ∙ or_map f (find p xs) (find p ys)

found_cond : {X Y : Type 0} (f : X → Y) (b : Bool) (x : X) (o : Option X) → option_map f (cond b (Some x) o) ≡ cond b (Some (f x)) (option_map f o)
found_cond f true x o = refl
found_cond f false x o = refl

found_map : {X Y Z : Type 0} (f : Y → Z) (p : Y → Bool) (h : X → Y) (xs : List X) → option_map f (find p (map h xs)) ≡ option_map (λ x. f (h x)) (find (λ x. p (h x)) xs)
found_map f p h [] = refl
found_map f p h (x ∷ xs) =
    found_cond f (p (h x)) (h x) (find p (map h xs))
    ∙ ap (cond (p (h x)) (Some (f (h x)))) (found_map f p h xs)
    ∙ sym (found_cond (λ y. f (h y)) (p (h x)) x (find (λ y. p (h y)) xs))

found_flat : {X A B C : Type 0} (F : X → List A) (p : A → Bool) (f : A → C) (G : X → List B) (q : B → Bool) (g : B → C) (xs : List X) → ((x : X) → option_map f (find p (F x)) ≡ option_map g (find q (G x))) → option_map f (find p (flat_map F xs)) ≡ option_map g (find q (flat_map G xs))
found_flat F p f G q g [] same = refl
found_flat F p f G q g (x ∷ xs) same =
    found_append f p (F x) (flat_map F xs)
    ∙ ap (λ o. option_or o (option_map f (find p (flat_map F xs)))) (same x)
    ∙ ap (option_or (option_map g (find q (G x)))) (found_flat F p f G q g xs same)
    ∙ sym (found_append g q (G x) (flat_map G xs))

found_any : (q : NetId → Bool) (xs : List NetId) → option_map (λ (n : NetId). Input) (find q xs) ≡ (if list_any q xs then Some Input else None)
found_any q [] = refl
found_any q (x ∷ xs) = elim (cases_Bool (q x)) [
  | inl same ↦ rw same refl
  | inr other ↦ rw other (found_any q xs)
]

inputs_found : (n : ℕ) (ports : List Port) → first_of n (input_drives ports) ≡ (if includes (port_bits ports) n then Some Input else None)
inputs_found n ports =
    found_flat (λ (port : Port). map (drive_of Input) port.nets) (is_of n) (λ (d : Drive). d.driver) (λ (port : Port). port.nets) (is_net n) (λ (m : NetId). Input) ports (λ port. found_map (λ (d : Drive). d.driver) (is_of n) (drive_of Input) port.nets)
    ∙ found_any (is_net n) (port_bits ports)

element_found : (n k : ℕ) (e : Element) → first_of n (element_drives k e) ≡ cond (drives n e) (Some (element_driver k)) None
element_found n k (element.Gate op inputs output) = found_cond (λ (d : Drive). d.driver) (is_net n output) (drive_of (element_driver k) output) None
element_found n k (element.Flop f) = found_cond (λ (d : Drive). d.driver) (is_net n f.q) (drive_of (element_driver k) f.q) None
element_found n k (element.Latch l) = found_cond (λ (d : Drive). d.driver) (is_net n l.q) (drive_of (element_driver k) l.q) None
element_found n k (element.Memory m) = refl

or_cond : {X : Type 0} (b : Bool) (x : X) (o : Option X) → option_or (cond b (Some x) None) o ≡ cond b (Some x) o
or_cond true x o = refl
or_cond false x o = refl

elements_found_from : (n k : ℕ) (es : List Element) → first_of n (elements_drives k es) ≡ option_map element_driver (position_from (drives n) k es)
elements_found_from n k [] = refl
elements_found_from n k (e ∷ es) =
    found_append (λ (d : Drive). d.driver) (is_of n) (element_drives k e) (elements_drives (k + 1) es)
    ∙ ap (λ o. option_or o (first_of n (elements_drives (k + 1) es))) (element_found n k e)
    ∙ or_cond (drives n e) (element_driver k) (first_of n (elements_drives (k + 1) es))
    ∙ ap (cond (drives n e) (Some (element_driver k))) (elements_found_from n (k + 1) es)
    ∙ sym (found_cond element_driver (drives n e) k (position_from (drives n) (k + 1) es))

elements_found : (n : ℕ) (es : List Element) → first_of n (elements_drives 0 es) ≡ option_map element_driver (position (drives n) es)
elements_found n es = elements_found_from n 0 es ∙ ap (option_map element_driver) (sym (position_from-zero (drives n) es))

port_found : (n m r : ℕ) (port : ReadPort) → first_of n (port_drives m r port.bits) ≡ option_map read_driver (find (λ (b : ReadBit). b.net == n) (port_read_bits m r port))
port_found n m r port =
    found_map (λ (d : Drive). d.driver) (is_of n) (λ (x : ℕ × NetId). drive_of (Read (record { place = m }) r x.0) x.1) (enumerate_from 0 port.bits)
    ∙ sym (found_map read_driver (λ (b : ReadBit). b.net == n) (λ (x : ℕ × NetId). record { net = x.1.place; mem = m; port = r; bit = x.0 }) (enumerate_from 0 port.bits))

memory_found : (n m : ℕ) (memory : Memory) → first_of n (memory_drives m memory) ≡ option_map read_driver (find (λ (b : ReadBit). b.net == n) (memory_read_bits m memory))
memory_found n m memory =
    found_flat (λ (x : ℕ × ReadPort). port_drives m x.0 x.1.bits) (is_of n) (λ (d : Drive). d.driver) (λ (x : ℕ × ReadPort). port_read_bits m x.0 x.1) (λ (b : ReadBit). b.net == n) read_driver (enumerate_from 0 memory.reads) (λ x. port_found n m x.0 x.1)

memories_found : (n : ℕ) (p : Parts) → first_of n (memories_drives p.memories) ≡ option_map read_driver (find (λ (b : ReadBit). b.net == n) (read_bits p))
memories_found n p =
    found_flat (λ (x : ℕ × Memory). memory_drives x.0 x.1) (is_of n) (λ (d : Drive). d.driver) (λ (x : ℕ × Memory). memory_read_bits x.0 x.1) (λ (b : ReadBit). b.net == n) read_driver (enumerate_from 0 p.memories) (λ x. memory_found n x.0 x.1)

-- what comes after the constants
after_constants : (p : Parts) (n : ℕ) → first_of n (input_drives p.inputs ++ (elements_drives 0 p.elements ++ memories_drives p.memories)) ≡ option_or (if includes (port_bits p.inputs) n then Some Input else None) (inner_driver p n)
after_constants p n =
    found_append (λ (d : Drive). d.driver) (is_of n) (input_drives p.inputs) (elements_drives 0 p.elements ++ memories_drives p.memories)
    ∙ ap (λ o. option_or o (first_of n (elements_drives 0 p.elements ++ memories_drives p.memories))) (inputs_found n p.inputs)
    ∙ ap (option_or (if includes (port_bits p.inputs) n then Some Input else None))
    (found_append (λ (d : Drive). d.driver) (is_of n) (elements_drives 0 p.elements) (memories_drives p.memories)
    ∙ ap (λ o. option_or o (first_of n (memories_drives p.memories))) (elements_found n p.elements)
    ∙ ap (option_or (option_map element_driver (position (drives n) p.elements))) (memories_found n p))

or_unwrap : {X : Type 0} (b : Bool) (x d : X) (o : Option X) → unwrap_or (option_or (if b then Some x else None) o) d ≡ (if b then x else unwrap_or o d)
or_unwrap true x d o = refl
or_unwrap false x d o = refl

-- a net's driver is that of its first drive, and the constant 0 where it has none
pub first_is : (p : Parts) (n : ℕ) → unwrap_or (first_of n (drives_of p)) (Constant false) ≡ driver p n
first_is p zero = refl
first_is p (suc zero) = refl
first_is p (suc (suc k)) =
    let n = suc (suc k) in
    rw (ne_eqb 0 (suc (suc k)) (λ e. omega (arith, e)), ne_eqb 1 (suc (suc k)) (λ e. omega (arith, e)), ne_eqb (suc (suc k)) 0 (λ e. omega (arith, e)), ne_eqb (suc (suc k)) 1 (λ e. omega (arith, e)))
    (ap (λ o. unwrap_or o (Constant false)) (after_constants p n) ∙ or_unwrap (includes (port_bits p.inputs) n) Input (Constant false) (inner_driver p n))
