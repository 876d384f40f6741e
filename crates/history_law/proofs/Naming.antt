-- Offered to the crates above: what drives a net is what names it as its output, since nothing else does.
use Rattle.std.proofs.Common.{◌≡◌, ℕ, ◌+◌, ◌<◌, ◌≤◌, arith, Bool, true, false, refl, sym, ap, ◌∙◌, if◌then◌else◌}
use Rattle.std.specs.Prelude.{◌==◌, nat_lt, Option, Some, None, slice_get, count_by, position, find, unwrap_or, option_map}
use Rattle.std.specs.Option.{option_or}
use Rattle.std.specs.List.{enumerate_from}
use Rattle.std.proofs.lemmas.Bool.Decides.{nat_tests}
use Rattle.std.proofs.lemmas.Option.{slice_get-map}
use Rattle.id_arena.specs.declared.keys.NetId.{NetId}
use Rattle.id_arena.specs.declared.keys.ElemId.{ElemId}
use Rattle.id_arena.specs.declared.keys.MemId.{MemId}
use Rattle.design_core.specs.declared.element.Memory.{Memory}
use Rattle.design_core.specs.declared.element.ReadPort.{ReadPort}
use Rattle.design_core.specs.declared.element.Driver.{Driver}
use Rattle.design_core.specs.declared.element.Driver.TheVariants.{Constant, Input, Elem, Read}
use Rattle.design_core.specs.declared.parts.Parts.{Parts}
use Rattle.design_core.specs.Design.{IsDesign, net_count, driver_count, drives, includes, is_net, port_bits, inner_driver, element_driver, read_driver, read_bits, ReadBit, memory_read_bits, port_read_bits}
use Rattle.history_law.specs.Drivers.{ElementIsDriver, DriverIsElement, ReadBitIsDriver, DriverIsReadBit, InputBitIsInput, InputIsInputBit}
use Rattle.facts.proofs.Counting.{counted, found, positioned, unplaced, first, find_at}
use Rattle.facts.proofs.Tests.{mapped}
use Rattle.facts.proofs.Lists.{any_counted, none_any, Has, Under, has_under, under_has, enumerated, Numbered, numbered}
-- crates above import these from here too
pub use Rattle.facts.proofs.Tests.{same_number, number_same}

abbrev pick : Bool → Bool → Bool → Option Driver → Driver
pick low high input inner =
    if low then Constant false
    else if high then Constant true
    else if input then Input
    else unwrap_or inner (Constant false)

pick_inner : (low high input : Bool) (inner : Option Driver) (d : Driver) → low ≡ false → high ≡ false → input ≡ false → inner ≡ Some d → pick low high input inner ≡ d
pick_inner low high input inner d el eh ei ed =
    ap (λ b. pick b high input inner) el ∙ ap (λ b. pick false b input inner) eh ∙ ap (λ b. pick false false b inner) ei ∙ ap (pick false false false) ed

pick_input : (low high input : Bool) (inner : Option Driver) → low ≡ false → high ≡ false → input ≡ true → pick low high input inner ≡ Input
pick_input low high input inner el eh ei =
    ap (λ b. pick b high input inner) el ∙ ap (λ b. pick false b input inner) eh ∙ ap (λ b. pick false false b inner) ei

picked_element : (low high input : Bool) (inner : Option Driver) (k : ElemId) → pick low high input inner ≡ Elem k → inner ≡ Some (Elem k)
picked_element true high input inner k e = cc
picked_element false true input inner k e = cc
picked_element false false true inner k e = cc
picked_element false false false None k e = cc
picked_element false false false (Some d) k e = ap Some e

picked_read : (low high input : Bool) (inner : Option Driver) (m : MemId) (r b : ℕ) → pick low high input inner ≡ Read m r b → inner ≡ Some (Read m r b)
picked_read true high input inner m r b e = cc
picked_read false true input inner m r b e = cc
picked_read false false true inner m r b e = cc
picked_read false false false None m r b e = cc
picked_read false false false (Some d) m r b e = ap Some e

picked_input : (low high input : Bool) (o : Option ℕ) (b : Option ReadBit) → pick low high input (option_or (option_map element_driver o) (option_map read_driver b)) ≡ Input → input ≡ true
picked_input true high input o b e = cc
picked_input false true input o b e = cc
picked_input false false true o b e = refl
picked_input false false false (Some k) b e = cc
picked_input false false false None (Some b) e = cc
picked_input false false false None None e = cc

inner_element : (o : Option ℕ) (b : Option ReadBit) (k : ElemId) → option_or (option_map element_driver o) (option_map read_driver b) ≡ Some (Elem k) → o ≡ Some k.place
inner_element (Some j) b k e =
    let same : ◌≡◌ {A = ElemId} (record { place = j }) k = cc in
    ap (λ (x : ElemId). Some x.place) same
inner_element None (Some b) k e = cc
inner_element None None k e = cc

-- a read bit, and the places that its driver names
record Named (b : Option ReadBit) (m : MemId) (r i : ℕ) : Type 0 where
  read : ReadBit
  is : b ≡ Some read
  mem : read.mem ≡ m.place
  port : read.port ≡ r
  bit : read.bit ≡ i

inner_read : (o : Option ℕ) (b : Option ReadBit) (m : MemId) (r i : ℕ) → option_or (option_map element_driver o) (option_map read_driver b) ≡ Some (Read m r i) → Named b m r i
inner_read (Some j) b m r i e = cc
inner_read None None m r i e = cc
inner_read None (Some b) m r i e =
    let same : ◌≡◌ {A = MemId} (record { place = b.mem }) m = cc in
    record { read = b; is = refl; mem = ap (λ (x : MemId). x.place) same; port = cc; bit = cc }

not_zero : (n : ℕ) → nat_lt n 2 ≡ false → (n == 0) ≡ false
not_zero n h = grind (arith, nat_tests)

not_one : (n : ℕ) → nat_lt n 2 ≡ false → (n == 1) ≡ false
not_one n h = grind (arith, nat_tests)

not_small : (small : Bool) (a : ℕ) → (if small then 1 else 0) + a ≤ 1 → 0 < a → small ≡ false
not_small true a h p = absurd (omega arith)
not_small false a h p = refl

-- the counts of drivers of a net, by kind
module _ (p : Parts) (n : ℕ) where
  abbrev inputs : ℕ
  inputs = count_by (is_net n) (port_bits p.inputs)

  abbrev elements : ℕ
  elements = count_by (drives n) p.elements

  abbrev reads : ℕ
  reads = count_by (λ (b : ReadBit). b.net == n) (read_bits p)

  some_driver : 0 < inputs + elements + reads → 0 < driver_count p n
  some_driver h = omega arith

  -- a net with a driver other than a constant has no other driver
  record OneDriver : Type 0 where
    range : n < net_count p
    small : nat_lt n 2 ≡ false
    one : inputs + elements + reads ≤ 1

  one_driver : IsDesign p → 0 < inputs + elements + reads → OneDriver
  one_driver d h =
      let range : n < net_count p = d.in_range n (some_driver h) in
      let all : driver_count p n ≤ 1 = d.one_driver n range in
      let sum : (if nat_lt n 2 then 1 else 0) + (inputs + elements + reads) ≤ 1 = omega arith in
      let one : inputs + elements + reads ≤ 1 = omega arith in
      record { range = range; small = not_small (nat_lt n 2) (inputs + elements + reads) sum h; one = one }

pub element_is_driver : ElementIsDriver
element_is_driver p k n e d at out =
    let some : 0 < elements p n = counted (drives n) p.elements k e at out in
    let one : OneDriver p n = one_driver p n d (omega arith) in
    let sum : inputs p n + elements p n + reads p n ≤ 1 = one.one in
    let no_input : inputs p n ≡ 0 = omega arith in
    let only : elements p n ≤ 1 = omega arith in
    let named : position (drives n) p.elements ≡ Some k = found (drives n) p.elements k e at out only in (
      one.range,
      pick_inner (n == 0) (n == 1) (includes (port_bits p.inputs) n) (inner_driver p n) (element_driver k)
          (not_zero n one.small) (not_one n one.small) (none_any (is_net n) (port_bits p.inputs) no_input)
          (ap (λ (o : Option ℕ). option_or (option_map element_driver o) (option_map read_driver (find (λ (b : ReadBit). b.net == n) (read_bits p)))) named),
    )

pub driver_is_element : DriverIsElement
driver_is_element p n k e =
    positioned (drives n) p.elements k.place
    (inner_element (position (drives n) p.elements) (find (λ (b : ReadBit). b.net == n) (read_bits p)) k
    (picked_element (n == 0) (n == 1) (includes (port_bits p.inputs) n) (inner_driver p n) k e))

pub input_is_input_bit : InputIsInputBit
input_is_input_bit p n e =
    picked_input (n == 0) (n == 1) (includes (port_bits p.inputs) n) (position (drives n) p.elements) (find (λ (b : ReadBit). b.net == n) (read_bits p)) e

pub input_bit_is_input : InputBitIsInput
input_bit_is_input p n d h =
    let some : 0 < inputs p n = any_counted (is_net n) (port_bits p.inputs) h in
    let one : OneDriver p n = one_driver p n d (omega arith) in
    (one.range, pick_input (n == 0) (n == 1) (includes (port_bits p.inputs) n) (inner_driver p n) (not_zero n one.small) (not_one n one.small) h)

-- ## Read bits

-- a read bit by its net, memory, port and number
abbrev pub read_bit : ℕ → ℕ → ℕ → ℕ → ReadBit
read_bit n m r b = record { net = n; mem = m; port = r; bit = b }

has_bit : (port : ReadPort) (n : NetId) (m r b : ℕ) → slice_get port.bits b ≡ Some n → Has (port_read_bits m r port) (read_bit n.place m r b)
has_bit port n m r b at =
    let entry : slice_get (enumerate_from 0 port.bits) b ≡ Some (b, n) = enumerated port.bits 0 b b n at (omega arith) in
    record {
      place = b;
      at = slice_get-map (λ (e : ℕ × NetId). read_bit e.1.place m r e.0) (enumerate_from 0 port.bits) b ∙ ap (option_map (λ (e : ℕ × NetId). read_bit e.1.place m r e.0)) entry;
    }

has_port_bit : (memory : Memory) (m r : ℕ) (port : ReadPort) (x : ReadBit) → slice_get memory.reads r ≡ Some port → Has (port_read_bits m r port) x → Has (memory_read_bits m memory) x
has_port_bit memory m r port x at h =
    has_under (λ (e : ℕ × ReadPort). port_read_bits m e.0 e.1) (enumerate_from 0 memory.reads) x
    (record { place = r; item = (r, port); at = enumerated memory.reads 0 r r port at (omega arith); has = h })

has_read_bit : (p : Parts) (m : ℕ) (memory : Memory) (x : ReadBit) → slice_get p.memories m ≡ Some memory → Has (memory_read_bits m memory) x → Has (read_bits p) x
has_read_bit p m memory x at h =
    has_under (λ (e : ℕ × Memory). memory_read_bits e.0 e.1) (enumerate_from 0 p.memories) x
    (record { place = m; item = (m, memory); at = enumerated p.memories 0 m m memory at (omega arith); has = h })

pub read_bit_is_driver : ReadBitIsDriver
read_bit_is_driver p m r b memory port n d in_memory in_port in_bit =
    let has : Has (read_bits p) (read_bit n.place m r b) = has_read_bit p m memory _ in_memory (has_port_bit memory m r port _ in_port (has_bit port n m r b in_bit)) in
    let same : (n.place == n.place) ≡ true = same_number n.place n.place refl in
    let some : 0 < reads p n.place = counted (λ (c : ReadBit). c.net == n.place) (read_bits p) has.place (read_bit n.place m r b) has.at same in
    let one : OneDriver p n.place = one_driver p n.place d (omega arith) in
    let sum : inputs p n.place + elements p n.place + reads p n.place ≤ 1 = one.one in
    let no_input : inputs p n.place ≡ 0 = omega arith in
    let no_element : elements p n.place ≡ 0 = omega arith in
    let only : reads p n.place ≤ 1 = omega arith in
    let named : find (λ (c : ReadBit). c.net == n.place) (read_bits p) ≡ Some (read_bit n.place m r b) = first (λ (c : ReadBit). c.net == n.place) (read_bits p) has.place (read_bit n.place m r b) has.at same only in (
      one.range,
      pick_inner (n.place == 0) (n.place == 1) (includes (port_bits p.inputs) n.place) (inner_driver p n.place) (Read (record { place = m }) r b)
          (not_zero n.place one.small) (not_one n.place one.small) (none_any (is_net n.place) (port_bits p.inputs) no_input)
          (ap (λ (o : Option ℕ). option_or (option_map element_driver o) (option_map read_driver (find (λ (c : ReadBit). c.net == n.place) (read_bits p)))) (unplaced (drives n.place) p.elements no_element)
          ∙ ap (option_map read_driver) named),
    )

-- where a read bit stands
record BitAt (p : Parts) (x : ReadBit) : Type 0 where
  memory : Memory
  port : ReadPort
  net : NetId
  in_memory : slice_get p.memories x.mem ≡ Some memory
  in_port : slice_get memory.reads x.port ≡ Some port
  in_bit : slice_get port.bits x.bit ≡ Some net
  is : net.place ≡ x.net

-- a read bit of a port, whose net it names
record PortBitAt (m r : ℕ) (port : ReadPort) (x : ReadBit) : Type 0 where
  net : NetId
  in_bit : slice_get port.bits x.bit ≡ Some net
  is : net.place ≡ x.net
  mem : x.mem ≡ m
  port_is : x.port ≡ r

port_bit_at : (m r : ℕ) (port : ReadPort) (x : ReadBit) → Has (port_read_bits m r port) x → PortBitAt m r port x
port_bit_at m r port x h =
    let found_bit = mapped (λ (e : ℕ × NetId). read_bit e.1.place m r e.0) (slice_get (enumerate_from 0 port.bits) h.place) x
    (sym (slice_get-map (λ (e : ℕ × NetId). read_bit e.1.place m r e.0) (enumerate_from 0 port.bits) h.place) ∙ h.at) in
    let number : Numbered port.bits 0 h.place found_bit.0.0 found_bit.0.1 = numbered port.bits 0 h.place found_bit.0 found_bit.1 in
    let count : found_bit.0.0 ≡ 0 + h.place = number.number in
    let same : read_bit found_bit.0.1.place m r found_bit.0.0 ≡ x = found_bit.2 in
    let bit : x.bit ≡ found_bit.0.0 = ap (λ (y : ReadBit). y.bit) (sym same) in
    let place : x.bit ≡ h.place = omega arith in
    record {
      net = found_bit.0.1;
      in_bit = ap (slice_get port.bits) place ∙ number.at;
      is = ap (λ (y : ReadBit). y.net) same;
      mem = ap (λ (y : ReadBit). y.mem) (sym same);
      port_is = ap (λ (y : ReadBit). y.port) (sym same);
    }

bit_at : (p : Parts) (x : ReadBit) → Has (read_bits p) x → BitAt p x
bit_at p x h =
    let u : Under (λ (e : ℕ × Memory). memory_read_bits e.0 e.1) (enumerate_from 0 p.memories) x =
    under_has (λ (e : ℕ × Memory). memory_read_bits e.0 e.1) (enumerate_from 0 p.memories) x h in
    let memory : Numbered p.memories 0 u.place u.item.0 u.item.1 = numbered p.memories 0 u.place u.item u.at in
    let v : Under (λ (e : ℕ × ReadPort). port_read_bits u.item.0 e.0 e.1) (enumerate_from 0 u.item.1.reads) x =
    under_has (λ (e : ℕ × ReadPort). port_read_bits u.item.0 e.0 e.1) (enumerate_from 0 u.item.1.reads) x u.has in
    let port : Numbered u.item.1.reads 0 v.place v.item.0 v.item.1 = numbered u.item.1.reads 0 v.place v.item v.at in
    let bit : PortBitAt u.item.0 v.item.0 v.item.1 x = port_bit_at u.item.0 v.item.0 v.item.1 x v.has in
    let m : u.item.0 ≡ 0 + u.place = memory.number in
    let r : v.item.0 ≡ 0 + v.place = port.number in
    let mem : x.mem ≡ u.item.0 = bit.mem in
    let port_is : x.port ≡ v.item.0 = bit.port_is in
    let in_m : x.mem ≡ u.place = omega arith in
    let in_r : x.port ≡ v.place = omega arith in
    record {
      memory = u.item.1;
      port = v.item.1;
      net = bit.net;
      in_memory = ap (slice_get p.memories) in_m ∙ memory.at;
      in_port = ap (slice_get u.item.1.reads) in_r ∙ port.at;
      in_bit = bit.in_bit;
      is = bit.is;
    }

pub driver_is_read_bit : DriverIsReadBit
driver_is_read_bit p n m r b e =
    let named : Named (find (λ (c : ReadBit). c.net == n) (read_bits p)) m r b =
    inner_read (position (drives n) p.elements) (find (λ (c : ReadBit). c.net == n) (read_bits p)) m r b
    (picked_read (n == 0) (n == 1) (includes (port_bits p.inputs) n) (inner_driver p n) m r b e) in
    let at = find_at (λ (c : ReadBit). c.net == n) (read_bits p) named.read named.is in
    let here : BitAt p named.read = bit_at p named.read (record { place = at.0; at = at.1 }) in
    let net : here.net.place ≡ n = here.is ∙ number_same named.read.net n at.2 in (
      here.memory,
      here.port,
      here.net,
      (ap (slice_get p.memories) (sym named.mem) ∙ here.in_memory),
      (ap (slice_get here.memory.reads) (sym named.port) ∙ here.in_port),
      (ap (slice_get here.port.bits) (sym named.bit) ∙ here.in_bit),
      net,
    )
