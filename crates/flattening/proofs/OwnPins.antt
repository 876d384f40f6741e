-- The pins of a memory's ports: each of them that is no clock has a name of its own.
use Rattle.std.proofs.Common.{◌≡◌, ◌∙◌, ℕ, zero, suc, true, false, List, [], ◌∷◌, ◌++◌, Option, Some, None, ap, inl, inr, map, not, refl, subst, sym}
use Rattle.std.specs.Prelude.{◌⊎◌, bytes_eq, flat_map, slice_get}
use Rattle.std.specs.List.{list_any}
use Rattle.std.proofs.lemmas.List.{map-append}
use Rattle.std.proofs.lemmas.Option.{none-some, same_Some, slice_get-map}
use Rattle.std.proofs.lemmas.Slice.Eq.{bytes_eq-Decides}
use Rattle.facts.proofs.Lists.{Has, any_at, has_left, has_right, has_under}
use Rattle.facts.proofs.Tests.{no}
use Rattle.cell_table.specs.declared.cell.CellKind.TheVariants.{Memory}
use Rattle.cell_table.specs.declared.cell.CellRead.{CellRead}
use Rattle.cell_table.specs.declared.cell.CellWrite.{CellWrite}
use Rattle.cell_table.specs.declared.cell.EdgePin.{EdgePin}
use Rattle.cell_table.specs.declared.cell.LevelPin.{LevelPin}
use Rattle.cell_table.specs.Pins as table
use Rattle.cell_table.specs.Pins.{clock_pins, edge_pins, has_twice, level_pins, name_pins}
use Rattle.cell_parts.specs.declared.pins.Pin.{Pin}
use Rattle.cell_parts.specs.Pins.{bit_pin, named_pins, once, pins_of, read_pins, wide_pin, write_pins}
use Rattle.flattening.proofs.Everywhere.{Every, at_every, every_append, every_flat, every_kept, every_more}
use Rattle.flattening.proofs.GoodTies.{IsWide}
use Rattle.flattening.proofs.SoundCells.{AreApart, or_none, port_names}

name_of : Pin → List ℕ
name_of pin = pin.name

-- ---- pins with different names

named_once : (first pin : Pin) (pins : List Pin) (k : ℕ) → slice_get pins k ≡ Some pin → first.name ≡ pin.name → list_any (bytes_eq first.name) (map name_of pins) ≡ true
unfolding name_of
named_once first pin pins k at same =
    any_at (bytes_eq first.name) (map name_of pins) k pin.name (slice_get-map name_of pins k ∙ ap (λ (o : Option Pin). elim o [ None ↦ None | Some p ↦ Some p.name ]) at) ((bytes_eq-Decides first.name pin.name).1 same)

one_pin : (pins : List Pin) (i j : ℕ) (p q : Pin) → has_twice (map name_of pins) ≡ false → slice_get pins i ≡ Some p → slice_get pins j ≡ Some q → p.name ≡ q.name → p ≡ q
unfolding name_of
one_pin [] i j p q once at there same = absurd (none-some p at)
one_pin (first ∷ pins) zero zero p q once at there same = sym (same_Some first p at) ∙ same_Some first q there
one_pin (first ∷ pins) zero (suc j) p q once at there same =
    let parts = or_none (list_any (bytes_eq first.name) (map name_of pins)) (has_twice (map name_of pins)) once in
    absurd (no (sym parts.0 ∙ named_once first q pins j there (ap (λ (x : Pin). x.name) (same_Some first p at) ∙ same)))
one_pin (first ∷ pins) (suc i) zero p q once at there same =
    let parts = or_none (list_any (bytes_eq first.name) (map name_of pins)) (has_twice (map name_of pins)) once in
    absurd (no (sym parts.0 ∙ named_once first p pins i at (ap (λ (x : Pin). x.name) (same_Some first q there) ∙ sym same)))
one_pin (first ∷ pins) (suc i) (suc j) p q once at there same =
    let parts = or_none (list_any (bytes_eq first.name) (map name_of pins)) (has_twice (map name_of pins)) once in
    one_pin pins i j p q parts.1 at there same

names_flat : {X : Type 0} (f : X → List Pin) (h : X → List (List ℕ)) (xs : List X) → ((x : X) → map name_of (f x) ≡ h x) → map name_of (flat_map f xs) ≡ flat_map h xs
unfolding name_of
names_flat f h [] each = refl
names_flat f h (x ∷ xs) each =
    map-append name_of (f x) (flat_map f xs) ∙ (λ i. each x i ++ names_flat f h xs each i)

-- ---- the pins of ports but for clocks

module _ (address_bits width : ℕ) where
  pub own_writes : CellWrite → List Pin
  own_writes write = map bit_pin (level_pins write.enable) ++ map (wide_pin address_bits) (name_pins write.address) ++ wide_pin width write.feed ∷ []

  pub own_reads : CellRead → List Pin
  own_reads read = map (wide_pin address_bits) (name_pins read.address) ++ wide_pin width read.bits ∷ []

  written_names : (write : CellWrite) → map name_of (own_writes write) ≡ table.write_pins write
  unfolding name_of own_writes table.write_pins
  written_names write = go write.enable write.address
    where
      go : (enable : Option LevelPin) (address : Option (List ℕ)) → map name_of (map bit_pin (level_pins enable) ++ map (wide_pin address_bits) (name_pins address) ++ wide_pin width write.feed ∷ []) ≡ level_pins enable ++ name_pins address ++ write.feed ∷ []
      go None None = refl
      go None (Some address) = refl
      go (Some enable) None = refl
      go (Some enable) (Some address) = refl

  -- each port has its pins among them
  pub feed_of : (write : CellWrite) → Has (own_writes write) (wide_pin width write.feed)
  unfolding own_writes
  feed_of write = has_right (map bit_pin (level_pins write.enable) ++ map (wide_pin address_bits) (name_pins write.address)) (wide_pin width write.feed ∷ []) (wide_pin width write.feed) (record { place = 0; at = refl })

  pub write_address_of : (write : CellWrite) (name : List ℕ) → write.address ≡ Some name → Has (own_writes write) (wide_pin address_bits name)
  unfolding own_writes
  write_address_of write name is =
      has_left (map bit_pin (level_pins write.enable) ++ map (wide_pin address_bits) (name_pins write.address)) (wide_pin width write.feed ∷ []) (wide_pin address_bits name)
      (has_right (map bit_pin (level_pins write.enable)) (map (wide_pin address_bits) (name_pins write.address)) (wide_pin address_bits name)
      (record { place = 0; at = ap (λ (a : Option (List ℕ)). slice_get (map (wide_pin address_bits) (name_pins a)) 0) is }))

  pub bits_of : (read : CellRead) → Has (own_reads read) (wide_pin width read.bits)
  unfolding own_reads
  bits_of read = has_right (map (wide_pin address_bits) (name_pins read.address)) (wide_pin width read.bits ∷ []) (wide_pin width read.bits) (record { place = 0; at = refl })

  pub read_address_of : (read : CellRead) (name : List ℕ) → read.address ≡ Some name → Has (own_reads read) (wide_pin address_bits name)
  unfolding own_reads
  read_address_of read name is =
      has_left (map (wide_pin address_bits) (name_pins read.address)) (wide_pin width read.bits ∷ []) (wide_pin address_bits name)
      (record { place = 0; at = ap (λ (a : Option (List ℕ)). slice_get (map (wide_pin address_bits) (name_pins a)) 0) is })

  read_names : (read : CellRead) → map name_of (own_reads read) ≡ table.read_pins read
  unfolding name_of own_reads table.read_pins
  read_names read = go read.address
    where
      go : (address : Option (List ℕ)) → map name_of (map (wide_pin address_bits) (name_pins address) ++ wide_pin width read.bits ∷ []) ≡ name_pins address ++ read.bits ∷ []
      go None = refl
      go (Some address) = refl

  module _ (writes : List CellWrite) (reads : List CellRead) where
    pub own_pins : List Pin
    own_pins = flat_map own_writes writes ++ flat_map own_reads reads

    own_names : map name_of own_pins ≡ port_names writes reads
    unfolding own_pins
    own_names =
        map-append name_of (flat_map own_writes writes) (flat_map own_reads reads)
        ∙ (λ i. names_flat own_writes table.write_pins writes written_names i ++ names_flat own_reads table.read_pins reads read_names i)

    -- a pin of a port is one of these, or a clock
    abbrev IsSorted : Pin → Type 0
    IsSorted pin = Has own_pins pin ⊎ Has (clock_pins writes reads) pin.name

    pub write_has : (k : ℕ) (write : CellWrite) (pin : Pin) → slice_get writes k ≡ Some write → Has (own_writes write) pin → Has own_pins pin
    unfolding own_pins
    write_has k write pin at has =
        has_left (flat_map own_writes writes) (flat_map own_reads reads) pin (has_under own_writes writes pin (record { place = k; item = write; at = at; has = has }))

    pub read_has : (k : ℕ) (read : CellRead) (pin : Pin) → slice_get reads k ≡ Some read → Has (own_reads read) pin → Has own_pins pin
    unfolding own_pins
    read_has k read pin at has =
        has_right (flat_map own_writes writes) (flat_map own_reads reads) pin (has_under own_reads reads pin (record { place = k; item = read; at = at; has = has }))

    -- and so has the memory
    pub write_named : (k : ℕ) (write : CellWrite) (pin : Pin) → slice_get writes k ≡ Some write → Has (own_writes write) pin → Has (named_pins (Memory address_bits width writes reads)) pin
    unfolding own_writes
    write_named k write pin at has =
        has_left (flat_map (write_pins address_bits width) writes) (flat_map (read_pins address_bits width) reads) pin
        (has_under (write_pins address_bits width) writes pin (record { place = k; item = write; at = at; has = record { place = suc has.place; at = has.at } }))

    pub read_named : (k : ℕ) (read : CellRead) (pin : Pin) → slice_get reads k ≡ Some read → Has (own_reads read) pin → Has (named_pins (Memory address_bits width writes reads)) pin
    unfolding own_reads
    read_named k read pin at has =
        has_right (flat_map (write_pins address_bits width) writes) (flat_map (read_pins address_bits width) reads) pin
        (has_under (read_pins address_bits width) reads pin (record { place = k; item = read; at = at; has = go read.clock refl }))
      where
        go : (clock : Option EdgePin) → read.clock ≡ clock → Has (map bit_pin (edge_pins clock) ++ map (wide_pin address_bits) (name_pins read.address) ++ wide_pin width read.bits ∷ []) pin
        go None e = record { place = has.place; at = has.at }
        go (Some edge) e = record { place = suc has.place; at = has.at }

    write_sorted : (k : ℕ) (write : CellWrite) → slice_get writes k ≡ Some write → Every IsSorted (write_pins address_bits width write)
    unfolding own_writes
    write_sorted k write at = (
      inr (has_left (map (λ (w : CellWrite). w.clock.pin) writes) (flat_map (λ (r : CellRead). edge_pins r.clock) reads) write.clock.pin (record { place = k; at = slice_get-map (λ (w : CellWrite). w.clock.pin) writes k ∙ ap (λ (o : Option CellWrite). elim o [ None ↦ None | Some w ↦ Some w.clock.pin ]) at })),
      at_every IsSorted (own_writes write) (λ j pin there. inl (write_has k write pin at (record { place = j; at = there }))),
    )

    read_sorted : (k : ℕ) (read : CellRead) → slice_get reads k ≡ Some read → Every IsSorted (read_pins address_bits width read)
    unfolding own_reads
    read_sorted k read at = go read.clock refl
      where
        rest : Every IsSorted (own_reads read)
        rest = at_every IsSorted (own_reads read) (λ j pin there. inl (read_has k read pin at (record { place = j; at = there })))

        go : (clock : Option EdgePin) → read.clock ≡ clock → Every IsSorted (map bit_pin (edge_pins clock) ++ map (wide_pin address_bits) (name_pins read.address) ++ wide_pin width read.bits ∷ [])
        go None e = rest
        go (Some edge) e = (
          inr (has_right (map (λ (w : CellWrite). w.clock.pin) writes) (flat_map (λ (r : CellRead). edge_pins r.clock) reads) edge.pin
              (has_under (λ (r : CellRead). edge_pins r.clock) reads edge.pin (record { place = k; item = read; at = at; has = record { place = 0; at = ap (λ (c : Option EdgePin). slice_get (edge_pins c) 0) e } }))),
          rest,
        )

    all_sorted : Every IsSorted (named_pins (Memory address_bits width writes reads))
    all_sorted =
        every_append IsSorted (flat_map (write_pins address_bits width) writes) (flat_map (read_pins address_bits width) reads)
        (every_flat IsSorted (write_pins address_bits width) writes (at_every _ writes write_sorted))
        (every_flat IsSorted (read_pins address_bits width) reads (at_every _ reads read_sorted))

    module _ (apart : AreApart (port_names writes reads) (clock_pins writes reads)) where
      own_once : has_twice (map name_of own_pins) ≡ false
      own_once = ap has_twice own_names ∙ apart.once

      own_named : (pin : Pin) → Has own_pins pin → Has (port_names writes reads) pin.name
      unfolding name_of
      own_named pin has =
          subst (λ (names : List (List ℕ)). Has names pin.name) own_names
          (record { place = has.place; at = slice_get-map name_of own_pins has.place ∙ ap (λ (o : Option Pin). elim o [ None ↦ None | Some p ↦ Some p.name ]) has.at })

      one_width : (pin other : Pin) → pin.needed ≡ true → Has own_pins pin → IsSorted other → IsWide pin.name pin.width other
      one_width pin other needed has (inl own) same =
          let is : other ≡ pin = one_pin own_pins own.place has.place other pin own_once own.at has.at same in
          (ap (λ (p : Pin). p.width) is, ap (λ (p : Pin). p.needed) is ∙ needed)
      one_width pin other needed has (inr clock) same =
          absurd (apart.apart pin.name (own_named pin has) (subst (λ (name : List ℕ). Has (clock_pins writes reads) name) same clock))

      every_once : (P : Pin → Type 0) (pins : List Pin) → Every P pins → Every P (once pins)
      every_once P [] all = tt
      every_once P (pin ∷ pins) all = (all.0, every_kept P (λ other. not (bytes_eq pin.name other.name)) (once pins) (every_once P pins all.1))

      -- each pin with the name of one of these has its width, and needs its nets
      pub wide_everywhere : (pin : Pin) → pin.needed ≡ true → Has own_pins pin → Every (IsWide pin.name pin.width) (pins_of (Memory address_bits width writes reads))
      unfolding pins_of
      wide_everywhere pin needed has =
          every_once (IsWide pin.name pin.width) (named_pins (Memory address_bits width writes reads))
          (every_more IsSorted (IsWide pin.name pin.width) (named_pins (Memory address_bits width writes reads)) (λ other sorted. one_width pin other needed has sorted) all_sorted)
