-- The memory of a cell has the shape that its dimensions say, and its nets are there.
use Rattle.std.proofs.Common.{◌≡◌, ◌==◌, ◌+◌, ◌<◌, ◌≤◌, ◌∙◌, ℕ, zero, suc, Bool, true, false, cond, List, [], ◌∷◌, Option, Some, None, ap, arith, length, map, option_map, refl, slice_get, subst, sym}
use Rattle.std.specs.Prelude.{◌&&◌, IfSome, bytes_eq, filter, not, option_and_then, unwrap_or}
use Rattle.std.specs.List.{All, list_any, range_with_len}
use Rattle.std.proofs.lemmas.Bool.{le-leb, lt-ltb}
use Rattle.std.proofs.lemmas.List.{length-map}
use Rattle.std.proofs.lemmas.List.FromFn.{length-range_with_len}
use Rattle.std.proofs.lemmas.Option.{get_or_from_slice_get, none-some, same_Some, slice_get_within, slice_get-map}
use Rattle.std.proofs.lemmas.Slice.Eq.{bytes_eq-Decides}
use Rattle.facts.proofs.Lists.{Has}
use Rattle.facts.proofs.Places.{at_map}
use Rattle.facts.proofs.Tests.{no, number_same, same_number}
use Rattle.id_arena.specs.declared.keys.NetId.{NetId}
use Rattle.id_arena.specs.Names.{place_among}
use Rattle.id_arena.proofs.FirstPlaces.{list_any-position, place_among-Some}
use Rattle.cell_table.specs.declared.cell.CellKind.TheVariants.{Memory}
use Rattle.cell_table.specs.declared.cell.CellRead.{CellRead}
use Rattle.cell_table.specs.declared.cell.CellWrite.{CellWrite}
use Rattle.cell_table.specs.declared.cell.EdgePin.{EdgePin}
use Rattle.cell_table.specs.declared.cell.LevelPin.{LevelPin}
use Rattle.cell_table.specs.Pins.{clock_pins}
use Rattle.cell_table.specs.Sound.{HasAddress, IsSoundMemory}
use Rattle.cell_parts.specs.declared.pins.Pin.{Pin}
use Rattle.cell_parts.specs.CellStates.{address_at, edge_at, enable_at, memory_at, read_port, write_port}
use Rattle.cell_parts.specs.Pins.{named_pins, once, pins_of, wide_pin}
use Rattle.cell_parts.specs.Wires.{TiedPin, Wires, net_numbered, nets_at, nets_from, nets_in_order, new_width, wires_of}
use Rattle.design_core.specs.declared.element.ReadPort.{ReadPort}
use Rattle.design_core.specs.declared.element.WritePort.{WritePort}
use Rattle.design_core.specs.Design.{clock_nets, memory_fits}
use Rattle.flattening.proofs.Everywhere.{Every, at_every, every_append, every_at, every_map, every_one, every_passes}
use Rattle.flattening.proofs.GoodCells.{AreWires, at_below, pin_below}
use Rattle.flattening.proofs.GoodPieces.{AreBelow, IsGoodMemory, IsReadBelow, IsWriteBelow}
use Rattle.flattening.proofs.GoodTies.{AreTied, IsTiedWide, IsWide}
use Rattle.flattening.proofs.OwnPins.{bits_of, feed_of, own_pins, read_address_of, read_has, read_named, wide_everywhere, write_address_of, write_has, write_named}
use Rattle.flattening.proofs.SoundCells.{AreApart, any_named, port_names}

-- ---- how many nets a pin has

-- a pin of this name has so many nets, wherever its new nets begin
abbrev HasBits : List ℕ → ℕ → TiedPin → Type 0
HasBits name width tied = tied.pin.name ≡ name → (next : ℕ) → length (nets_from next tied) ≡ width

from_long : (next width : ℕ) (tied : TiedPin) (tie : Option (List NetId)) → tied.tie ≡ tie → tied.pin.width ≡ width → tied.pin.needed ≡ true → IfSome tie (λ nets. length nets ≡ width) → length (nets_from next tied) ≡ width
from_long next width tied None is wide needed long =
    let new : new_width tied ≡ width = ap (λ (t : Option (List NetId)). elim t [ Some nets ↦ 0 | None ↦ cond tied.pin.needed tied.pin.width 0 ]) is ∙ ap (λ b. cond b tied.pin.width 0) needed ∙ wide in
    ap (λ (t : Option (List NetId)). length {A = NetId} (elim t [ Some nets ↦ nets | None ↦ map net_numbered (range_with_len next (new_width tied)) ])) is
    ∙ length-map (range_with_len next (new_width tied)) net_numbered ∙ length-range_with_len next (new_width tied) ∙ new
from_long next width tied (Some nets) is wide needed long =
    ap (λ (t : Option (List NetId)). length {A = NetId} (elim t [ Some nets ↦ nets | None ↦ map net_numbered (range_with_len next (new_width tied)) ])) is ∙ long

order_at : (next : ℕ) (pins : List TiedPin) (k : ℕ) (tied : TiedPin) → slice_get pins k ≡ Some tied → (m : ℕ) × (slice_get (nets_in_order next pins) k ≡ Some (nets_from m tied))
order_at next [] k tied at = absurd (none-some tied at)
order_at next (t ∷ pins) zero tied at = (next, ap (λ (x : TiedPin). Some (nets_from next x)) (same_Some t tied at))
order_at next (t ∷ pins) (suc k) tied at = order_at (next + new_width t) pins k tied at

pin_name : TiedPin → List ℕ
pin_name tied = tied.pin.name

module _ (next width : ℕ) (name : List ℕ) (pins : List TiedPin) (wide : Every (HasBits name width) pins) (k : ℕ) (tied : TiedPin) (at : slice_get pins k ≡ Some tied) (called : tied.pin.name ≡ name) where
  -- so it has at its first place among the pins
  at_long : length (nets_at (wires_of next pins) name) ≡ width
  unfolding pin_name
  at_long = go (place_among (map pin_name pins) name) refl
    where
      go : (place : Option ℕ) → place_among (map pin_name pins) name ≡ place → length (unwrap_or (option_and_then (λ j. slice_get (nets_in_order next pins) j) place) []) ≡ width
      go None e =
          let none : list_any (bytes_eq name) (map pin_name pins) ≡ false = list_any-position (bytes_eq name) (map pin_name pins) e in
          let here : slice_get (map pin_name pins) k ≡ Some name = slice_get-map pin_name pins k ∙ ap (option_map pin_name) at ∙ ap (λ n. Some n) called in
          no (sym none ∙ any_named (map pin_name pins) name (record { place = k; at = here }))
      go (Some j) e =
          let there = at_map pin_name pins j name (place_among-Some (map pin_name pins) name j e) in
          let nets = order_at next pins j there.0 there.1 in
          ap (λ (o : Option (List NetId)). length (unwrap_or o [])) nets.1 ∙ every_at (HasBits name width) pins j there.0 wide there.1 (sym there.2) nets.0

-- ---- each name of a pin stays where each comes once

filter_has : {X : Type 0} (p : X → Bool) (xs : List X) (x : X) → p x ≡ true → Has xs x → Has (filter p xs) x
filter_has p [] x passes has = absurd (none-some x has.at)
filter_has p (y ∷ xs) x passes has = go (p y) refl has.place has.at (filter_has p xs x passes)
  where
    go : (b : Bool) → p y ≡ b → (k : ℕ) → slice_get (y ∷ xs) k ≡ Some x → (Has xs x → Has (filter p xs) x) → Has (cond b (y ∷ filter p xs) (filter p xs)) x
    go true e zero at deep = record { place = 0; at = at }
    go true e (suc k) at deep = let h = deep (record { place = k; at = at }) in record { place = suc h.place; at = h.at }
    go false e zero at deep = no (sym e ∙ ap p (same_Some y x at) ∙ passes)
    go false e (suc k) at deep = deep (record { place = k; at = at })

record StaysOnce (pins : List Pin) (name : List ℕ) : Type 0 where
  pin : Pin
  has : Has (once pins) pin
  called : pin.name ≡ name

once_has : (pins : List Pin) (k : ℕ) (pin : Pin) → slice_get pins k ≡ Some pin → StaysOnce pins pin.name
once_has [] k pin at = absurd (none-some pin at)
once_has (first ∷ pins) zero pin at = record { pin = first; has = record { place = 0; at = refl }; called = ap (λ (p : Pin). p.name) (same_Some first pin at) }
once_has (first ∷ pins) (suc k) pin at = go (once_has pins k pin at)
  where
    go : StaysOnce pins pin.name → StaysOnce (first ∷ pins) pin.name
    go deep = by (bytes_eq first.name deep.pin.name) refl
      where
        by : (b : Bool) → bytes_eq first.name deep.pin.name ≡ b → StaysOnce (first ∷ pins) pin.name
        by true e = record { pin = first; has = record { place = 0; at = refl }; called = (bytes_eq-Decides first.name deep.pin.name).0 e ∙ deep.called }
        by false e =
            let kept = filter_has (λ (other : Pin). not (bytes_eq first.name other.name)) (once pins) deep.pin (ap not e) deep.has in
            record { pin = deep.pin; has = record { place = suc kept.place; at = kept.at }; called = deep.called }

-- ---- the ports of a memory

pub all_every : {X : Type 0} (P : X → Type 0) (xs : List X) → All P xs → Every P xs
all_every P xs all = at_every P xs (λ k x at. subst P (get_or_from_slice_get xs k x x at) (all k x (slice_get_within xs k x at)))

address_long : (w : Wires) (address_bits : ℕ) (address : Option (List ℕ)) → HasAddress address_bits address → ((name : List ℕ) → address ≡ Some name → length (nets_at w name) ≡ address_bits) → length (address_at w address) ≡ address_bits
address_long w address_bits None has long = sym (number_same address_bits 0 (sym has))
address_long w address_bits (Some name) has long = long name refl

module _ (n : ℕ) (w : Wires) (two : 2 ≤ n) (wires : AreWires n w) where
  some_nets : 0 < n
  some_nets = omega (arith, two)

  enable_below : (enable : Option LevelPin) → (enable_at w enable).net.place < n
  enable_below None = omega (arith, two)
  enable_below (Some level) = pin_below n w some_nets wires level.pin

  address_below : (address : Option (List ℕ)) → AreBelow n (address_at w address)
  address_below None = tt
  address_below (Some name) = at_below n w some_nets wires name

  clock_below : (clock : Option EdgePin) → AreBelow n (clock_nets (option_map (edge_at w) clock))
  clock_below None = tt
  clock_below (Some edge) = (pin_below n w some_nets wires edge.pin, tt)

  write_below : (write : CellWrite) → IsWriteBelow n (write_port w write)
  write_below write = (
    pin_below n w some_nets wires write.clock.pin,
    (
      enable_below write.enable,
      every_append (λ (m : NetId). m.place < n) (address_at w write.address) (nets_at w write.feed) (address_below write.address) (at_below n w some_nets wires write.feed),
    ),
  )

  read_below : (read : CellRead) → IsReadBelow n (read_port w read)
  read_below read = (
    every_append (λ (m : NetId). m.place < n) (clock_nets (option_map (edge_at w) read.clock)) (address_at w read.address) (clock_below read.clock) (address_below read.address),
    at_below n w some_nets wires read.bits,
  )

two_same : (a b x y : ℕ) → (a ≡ x) × (b ≡ y) → ((a == x) && (b == y)) ≡ true
two_same a b x y are =
    let first = same_number a x are.0 in
    let next = same_number b y are.1 in
    λ i. first i && next i

-- a write port and a read port of these dimensions
abbrev IsWriteLong : ℕ → ℕ → WritePort → Type 0
IsWriteLong address_bits width port = (length port.address ≡ address_bits) × (length port.feed ≡ width)

abbrev IsReadLong : ℕ → ℕ → ReadPort → Type 0
IsReadLong address_bits width port = (length port.address ≡ address_bits) × (length port.bits ≡ width)

module _ (address_bits width : ℕ) (writes : List CellWrite) (reads : List CellRead) (next : ℕ) (tied : List TiedPin) (are : AreTied (pins_of (Memory address_bits width writes reads)) tied) (apart : AreApart (port_names writes reads) (clock_pins writes reads)) where
  pin_long : (pin : Pin) → pin.needed ≡ true → Has (own_pins address_bits width writes reads) pin → Has (named_pins (Memory address_bits width writes reads)) pin → length (nets_at (wires_of next tied) pin.name) ≡ pin.width
  unfolding pins_of
  pin_long pin needed own named =
      let wide = wide_everywhere address_bits width writes reads apart pin needed own in
      let ties = are.wide pin.name pin.width wide in
      let bits : Every (HasBits pin.name pin.width) tied = at_every (HasBits pin.name pin.width) tied (λ k t at called m.
      (let w = every_at (IsWide pin.name pin.width) (pins_of (Memory address_bits width writes reads)) k t.pin wide (are.back k t at) called in
      from_long m pin.width t t.tie refl w.0 w.1 (every_at (IsTiedWide pin.name pin.width) tied k t ties at called))) in
      let kept = once_has (named_pins (Memory address_bits width writes reads)) named.place pin named.at in
      let t = are.there kept.has.place kept.pin kept.has.at in
      at_long next pin.width pin.name tied bits kept.has.place t.0 t.1 (ap (λ (p : Pin). p.name) t.2 ∙ kept.called)

  write_feed : (k : ℕ) (write : CellWrite) → slice_get writes k ≡ Some write → length (nets_at (wires_of next tied) write.feed) ≡ width
  write_feed k write at =
      let has = feed_of address_bits width write in
      pin_long (wide_pin width write.feed) refl (write_has address_bits width writes reads k write (wide_pin width write.feed) at has) (write_named address_bits width writes reads k write (wide_pin width write.feed) at has)

  write_address : (k : ℕ) (write : CellWrite) (name : List ℕ) → slice_get writes k ≡ Some write → write.address ≡ Some name → length (nets_at (wires_of next tied) name) ≡ address_bits
  write_address k write name at is =
      let has = write_address_of address_bits width write name is in
      pin_long (wide_pin address_bits name) refl (write_has address_bits width writes reads k write (wide_pin address_bits name) at has) (write_named address_bits width writes reads k write (wide_pin address_bits name) at has)

  read_bits : (k : ℕ) (read : CellRead) → slice_get reads k ≡ Some read → length (nets_at (wires_of next tied) read.bits) ≡ width
  read_bits k read at =
      let has = bits_of address_bits width read in
      pin_long (wide_pin width read.bits) refl (read_has address_bits width writes reads k read (wide_pin width read.bits) at has) (read_named address_bits width writes reads k read (wide_pin width read.bits) at has)

  read_address : (k : ℕ) (read : CellRead) (name : List ℕ) → slice_get reads k ≡ Some read → read.address ≡ Some name → length (nets_at (wires_of next tied) name) ≡ address_bits
  read_address k read name at is =
      let has = read_address_of address_bits width read name is in
      pin_long (wide_pin address_bits name) refl (read_has address_bits width writes reads k read (wide_pin address_bits name) at has) (read_named address_bits width writes reads k read (wide_pin address_bits name) at has)

  module _ (sound : IsSoundMemory address_bits width writes reads) where
    writes_long : Every (λ write. IsWriteLong address_bits width (write_port (wires_of next tied) write)) writes
    writes_long = at_every _ writes (λ k write at. (
      address_long (wires_of next tied) address_bits write.address (every_at (λ (x : CellWrite). HasAddress address_bits x.address) writes k write (all_every (λ (x : CellWrite). HasAddress address_bits x.address) writes sound.written_at) at) (λ name is. write_address k write name at is),
      write_feed k write at,
    ))

    reads_long : Every (λ read. IsReadLong address_bits width (read_port (wires_of next tied) read)) reads
    reads_long = at_every _ reads (λ k read at. (
      address_long (wires_of next tied) address_bits read.address (every_at (λ (x : CellRead). HasAddress address_bits x.address) reads k read (all_every (λ (x : CellRead). HasAddress address_bits x.address) reads sound.read_at) at) (λ name is. read_address k read name at is),
      read_bits k read at,
    ))

    shape : memory_fits (memory_at (wires_of next tied) address_bits width writes reads) ≡ true
    shape =
        let w = wires_of next tied in
        let a = le-leb address_bits 16 sound.few_address_bits in
        let b = lt-ltb 0 width (let some = sound.some_width in omega (arith, some)) in
        let c = le-leb width 128 sound.small_width in
        let d = le-leb (length (map (write_port w) writes) + length (map (read_port w) reads)) 16 (let x = length-map writes (write_port w) in let y = length-map reads (read_port w) in let few = sound.few_ports in omega (arith, x, y, few)) in
        let e = every_passes (IsWriteLong address_bits width) (λ (port : WritePort). (length port.address == address_bits) && (length port.feed == width)) (map (write_port w) writes) (λ port long. two_same _ _ _ _ long) (every_map (IsWriteLong address_bits width) (write_port w) writes writes_long) in
        let f = every_passes (IsReadLong address_bits width) (λ (port : ReadPort). (length port.address == address_bits) && (length port.bits == width)) (map (read_port w) reads) (λ port long. two_same _ _ _ _ long) (every_map (IsReadLong address_bits width) (read_port w) reads reads_long) in
        λ i. a i && b i && c i && d i && e i && f i

    pub memory_is_good : (n : ℕ) → 2 ≤ n → AreWires n (wires_of next tied) → IsGoodMemory n (memory_at (wires_of next tied) address_bits width writes reads)
    memory_is_good n two wires = record {
      fits = shape;
      writes = every_map (IsWriteBelow n) (write_port (wires_of next tied)) writes (every_one _ writes (write_below n (wires_of next tied) two wires));
      reads = every_map (IsReadBelow n) (read_port (wires_of next tied)) reads (every_one _ reads (read_below n (wires_of next tied) two wires));
    }
