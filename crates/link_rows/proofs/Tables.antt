-- The rows of words, as the table of bits that contracts see.
use Rattle.std.proofs.Common.{◌≡◌, ℕ, zero, suc, ◌-◌, ◌*◌, ◌/◌, ◌%◌, ◌<◌, ◌≤◌, max, Bool, false, if◌then◌else◌, eqb, List, [], ◌∷◌, ◌++◌, Option, Some, None, map, replicate, take, drop, length, get_or, set, refl, sym, ap, ◌∙◌, subst, inl, inr, arith, length-append}
use Rattle.std.specs.Int.{bit_at}
use Rattle.std.specs.List.{range_with_len}
use Rattle.std.proofs.Math.ListN.{get_or-append}
use Rattle.std.proofs.lemmas.Bool.{cases_eq, cases_lt, eq-eqb, ne_eqb}
use Rattle.std.proofs.lemmas.List.{get_or-set_same, get_or-set_other, get_or-map, get_or_default, get_or_past, get_or-replicate, length-map, length-set, length-replicate, map-set, take-append-le, take_all, same_lists}
use Rattle.std.proofs.Math.Seq.{get_or-append_right}
use Rattle.std.proofs.lemmas.List.FromFn.{length-map-range_with_len, get_or-map-range_with_len}
use Rattle.std.proofs.lemmas.Nat.Bits.{bit_at-zero}
use Rattle.link_rows.specs.BitRows.{BitTable, bits_at, is_set, clear_table, widened, with_bit, IsFirstClear, IsRectangular}
use Rattle.link_rows.specs.Words.{bit_in, bits_of, words_at, table_of, HasRoom, SameBits, IsFirstClearBelow}
use Rattle.link_rows.proofs.Grown.{get_or-replicate_same}

-- a bit of a row below the width
bit-below : (width : ℕ) (words : List ℕ) (at : ℕ) (d : Bool) → at < width → get_or (bits_of width words) at d ≡ bit_in words at
bit-below width words at d within = get_or-map-range_with_len (bit_in words) 0 width at at d within (omega arith)

length-bits_of : (width : ℕ) (words : List ℕ) → length (bits_of width words) ≡ width
length-bits_of width words = length-map-range_with_len (bit_in words) 0 width

module _ (width : ℕ) (rows : List (List ℕ)) where
  rows-count : length (table_of width rows).rows ≡ length rows
  rows-count = length-map rows (bits_of width)

  bits-row : (row : ℕ) → row < length rows → bits_at (table_of width rows) row ≡ bits_of width (words_at rows row)
  bits-row row within = get_or-map (bits_of width) rows row [] [] within

  pub rectangular-table : IsRectangular (table_of width rows)
  rectangular-table row within = ap length (bits-row row (omega (arith, rows-count))) ∙ length-bits_of width (words_at rows row)

  pub is_set-table : (row at : ℕ) → row < length rows → at < width → is_set (bits_at (table_of width rows) row) at ≡ bit_in (words_at rows row) at
  is_set-table row at in_rows within = ap (λ bits. is_set bits at) (bits-row row in_rows) ∙ bit-below width (words_at rows row) at false within

  -- the first clear bit of the words is that of the row
  pub first_clear-table : (row from : ℕ) (found : Option ℕ) → row < length rows → IsFirstClearBelow (words_at rows row) width from found → IsFirstClear (bits_at (table_of width rows) row) from found
  first_clear-table row from None in_rows set =
      λ k low high. (let within : k < width = omega (arith, ap length (bits-row row in_rows), length-bits_of width (words_at rows row)) in is_set-table row k in_rows within ∙ set k low within)
  first_clear-table row from (Some at) in_rows found =
      let count : length (bits_at (table_of width rows) row) ≡ width = ap length (bits-row row in_rows) ∙ length-bits_of width (words_at rows row) in
      (found.0, subst (λ n. at < n) (sym count) found.1, is_set-table row at in_rows found.1 ∙ found.2, λ k low high. is_set-table row k in_rows (omega (arith, found.1)) ∙ found.3 k low high)

  -- one bit is written
  module _ (row at : ℕ) (value : Bool) (words : List ℕ) (room : HasRoom width rows) (in_rows : row < length rows) (within : at < width) (same_length : length words ≡ length (words_at rows row))
      (written : (k : ℕ) → bit_in words k ≡ (if eqb k at then value else bit_in (words_at rows row) k)) where
    bits-written : bits_of width words ≡ set (bits_at (table_of width rows) row) at value
    bits-written =
        let own = bits_at (table_of width rows) row in
        let count : length own ≡ width = ap length (bits-row row in_rows) ∙ length-bits_of width (words_at rows row) in
        same_lists (bits_of width words) (set own at value) (length-bits_of width words ∙ sym count ∙ sym (length-set own at value)) (λ k d inside.
        let below : k < width = omega (arith, length-bits_of width words) in
        bit-below width words k d below ∙ written k ∙ go k d below)
      where
        go : (k : ℕ) (d : Bool) → k < width → (if eqb k at then value else bit_in (words_at rows row) k) ≡ get_or (set (bits_at (table_of width rows) row) at value) k d
        go k d below =
            elim (cases_eq k at) [
              | inl same ↦
                  let own = bits_at (table_of width rows) row in
                  let count : at < length own = subst (λ n. at < n) (sym (ap length (bits-row row in_rows) ∙ length-bits_of width (words_at rows row))) within in
                  ap (λ b. if b then value else bit_in (words_at rows row) k) (eq-eqb k at same)
                  ∙ sym (ap (λ n. get_or (set own at value) n d) same ∙ get_or-set_same own at value d count)
              | inr other ↦
                  let own = bits_at (table_of width rows) row in
                  ap (λ b. if b then value else bit_in (words_at rows row) k) (ne_eqb k at other)
                  ∙ sym (get_or-set_other own at k value d other ∙ ap (λ bits. get_or bits k d) (bits-row row in_rows) ∙ bit-below width (words_at rows row) k d below)
            ]

    pub table-written : table_of width (set rows row words) ≡ with_bit (table_of width rows) row at value
    table-written =
        let same = map-set (bits_of width) rows row words ∙ ap (set (map (bits_of width) rows) row) bits-written in
        λ j. record { rows = same j; width = width }

    pub room-written : HasRoom width (set rows row words)
    room-written = record {
      room = λ r inside. elim (cases_eq r row) [
        | inl same ↦
            let own = room.room row in_rows in
            subst (λ n. width ≤ 64 * length (words_at (set rows row words) n)) (sym same) (omega (arith, ap length (get_or-set_same rows row words [] in_rows), same_length, own))
        | inr other ↦
            let own = room.room r (omega (arith, length-set rows row words)) in
            omega (arith, ap length (get_or-set_other rows row r words [] other), own)
      ];
      clear = λ r k beyond. elim (cases_eq r row) [
        | inl same ↦
            subst (λ n. bit_in (words_at (set rows row words) n) k ≡ false) (sym same)
            (ap (λ ws. bit_in ws k) (get_or-set_same rows row words [] in_rows)
            ∙ written k
            ∙ ap (λ b. if b then value else bit_in (words_at rows row) k) (ne_eqb k at (λ here. absurd (omega arith)))
            ∙ room.clear row k beyond)
        | inr other ↦ ap (λ ws. bit_in ws k) (get_or-set_other rows row r words [] other) ∙ room.clear r k beyond
      ];
    }

-- rows with the same bits make the same table
pub table-same : (width : ℕ) (old new : List (List ℕ)) → SameBits old new → table_of width new ≡ table_of width old
table-same width old new same =
    let rows : map (bits_of width) new ≡ map (bits_of width) old =
    same_lists (map (bits_of width) new) (map (bits_of width) old) (length-map new (bits_of width) ∙ same.count ∙ sym (length-map old (bits_of width))) (λ r d within.
    let in_new : r < length new = omega (arith, length-map new (bits_of width)) in
    let in_old : r < length old = omega (arith, same.count) in
    get_or-map (bits_of width) new r [] d in_new
    ∙ (λ j. map (λ k. same.bits r k j) (range_with_len 0 width))
    ∙ sym (get_or-map (bits_of width) old r [] d in_old)) in
    λ j. record { rows = rows j; width = width }

-- more bits of words that are clear from the width on
module _ (width wide : ℕ) (old new : List ℕ) (same : (k : ℕ) → bit_in new k ≡ bit_in old k) (clear : (k : ℕ) → width ≤ k → bit_in old k ≡ false) where
  pub bits-wider : bits_of (max wide width) new ≡ bits_of width old ++ replicate (wide - width) false
  bits-wider =
      let all = max wide width in
      let more = wide - width in
      let count : length (bits_of width old ++ replicate more false) ≡ all =
      omega (arith, length-append (bits_of width old) (replicate more false), length-bits_of width old, length-replicate more false) in
      same_lists (bits_of all new) (bits_of width old ++ replicate more false) (length-bits_of all new ∙ sym count) (λ k d inside.
      let below : k < all = omega (arith, length-bits_of all new) in
      bit-below all new k d below ∙ same k ∙ sym (go k d below))
    where
      go : (k : ℕ) (d : Bool) → k < max wide width → get_or (bits_of width old ++ replicate (wide - width) false) k d ≡ bit_in old k
      go k d below =
          let first = bits_of width old in
          let more = replicate (wide - width) false in
          elim (cases_lt k width) [
            | inl early ↦
                get_or-append first more d k (subst (λ n. k < n) (sym (length-bits_of width old)) early) ∙ bit-below width old k d early
            | inr late ↦
                let past : length first ≤ k = omega (arith, length-bits_of width old) in
                let place : k - length first < length more = omega (arith, length-bits_of width old, length-replicate (wide - width) false) in
                get_or-append_right first more k d past
                ∙ get_or_default more (k - length first) d false place
                ∙ get_or-replicate_same (wide - width) (k - length first) false
                ∙ sym (clear k late)
          ]

pub table-wider : (width wide : ℕ) (old new : List (List ℕ)) → HasRoom width old → SameBits old new → table_of (max wide width) new ≡ widened (table_of width old) wide
table-wider width wide old new room same =
    let grow = λ (bits : List Bool). bits ++ replicate (wide - width) false in
    let all = max wide width in
    let rows : map (bits_of all) new ≡ map grow (map (bits_of width) old) =
    same_lists (map (bits_of all) new) (map grow (map (bits_of width) old)) (length-map new (bits_of all) ∙ same.count ∙ sym (length-map old (bits_of width)) ∙ sym (length-map (map (bits_of width) old) grow)) (λ r d within.
    let in_new : r < length new = omega (arith, length-map new (bits_of all)) in
    let in_old : r < length old = omega (arith, same.count) in
    let in_map : r < length (map (bits_of width) old) = omega (arith, length-map old (bits_of width)) in
    get_or-map (bits_of all) new r [] d in_new
    ∙ bits-wider width wide (words_at old r) (words_at new r) (same.bits r) (room.clear r)
    ∙ ap grow (sym (get_or-map (bits_of width) old r [] [] in_old))
    ∙ sym (get_or-map grow (map (bits_of width) old) r [] d in_map)) in
    λ j. record { rows = rows j; width = all }

-- clear words
pub map-replicate : {A B : Type 0} (f : A → B) (n : ℕ) (x : A) → map f (replicate n x) ≡ replicate n (f x)
map-replicate f zero x = refl
map-replicate {A} {B} f (suc n) x = ap {B = List B} (λ ys. f x ∷ ys) (map-replicate f n x)

bit_in-clear : (count at : ℕ) → bit_in (replicate count 0) at ≡ false
bit_in-clear count at =
    ap (λ w. eqb (bit_at w (at % 64)) 1) (get_or-replicate_same count (at / 64) 0) ∙ ap (λ b. eqb b 1) (bit_at-zero (at % 64))

bits-clear : (width count : ℕ) → bits_of width (replicate count 0) ≡ replicate width false
bits-clear width count =
    same_lists (bits_of width (replicate count 0)) (replicate width false) (length-bits_of width (replicate count 0) ∙ sym (length-replicate width false)) (λ k d inside.
    let below : k < width = omega (arith, length-bits_of width (replicate count 0)) in
    bit-below width (replicate count 0) k d below
    ∙ bit_in-clear count k
    ∙ sym (get_or_default (replicate width false) k d false (subst (λ n. k < n) (sym (length-replicate width false)) below) ∙ get_or-replicate_same width k false))

pub table-clear : (rows width count : ℕ) → table_of width (replicate rows (replicate count 0)) ≡ clear_table rows width
table-clear rows width count =
    let all = map-replicate (bits_of width) rows (replicate count 0) ∙ ap (replicate rows) (bits-clear width count) in
    λ j. record { rows = all j; width = width }

words-clear : (rows count row : ℕ) → row < rows → words_at (replicate rows (replicate count 0)) row ≡ replicate count 0
words-clear rows count row within = get_or-replicate rows row (replicate count 0) [] within

pub room-clear : (rows width count : ℕ) → width ≤ 64 * count → HasRoom width (replicate rows (replicate count 0))
room-clear rows width count enough = record {
  room = λ r within.
      (let inside : r < rows = omega (arith, length-replicate rows (replicate {A = ℕ} count 0)) in
      omega (arith, ap length (words-clear rows count r inside), length-replicate {A = ℕ} count 0));
  clear = λ r k beyond. elim (cases_lt r rows) [
    | inl within ↦ ap (λ ws. bit_in ws k) (words-clear rows count r within) ∙ bit_in-clear count k
    | inr past ↦
        let none : words_at (replicate rows (replicate count 0)) r ≡ [] = get_or_past (replicate rows (replicate count 0)) r [] (omega (arith, length-replicate rows (replicate {A = ℕ} count 0))) in
        ap (λ ws. bit_in ws k) none ∙ ap (λ b. eqb b 1) (bit_at-zero (k % 64))
  ];
}

-- one row, as the code reads it and writes it
module _ {V : Type 0} (items : V → List ℕ) (width : ℕ) (rows : List V) (table : BitTable) (view_is : table_of width (map items rows) ≡ table) (room : HasRoom width (map items rows))
    (row : ℕ) (own : V) (words : List ℕ) (in_table : row < length table.rows) (read : own ≡ get_or rows row own) (is : words ≡ items own) where
  in_rows : row < length (map items rows)
  in_rows = omega (arith, rows-count width (map items rows), ap (λ t. length t.rows) view_is)

  in_code : row < length rows
  in_code = omega (arith, in_rows, length-map rows items)

  read-words : words_at (map items rows) row ≡ words
  read-words = get_or-map items rows row own [] in_code ∙ sym (ap items read) ∙ sym is

  -- there is a word for each bit
  pub read-room : width ≤ 64 * length words
  read-room = omega (arith, room.room row in_rows, ap length read-words)

  pub read-within : (at : ℕ) → at < table.width → at < 64 * length words
  read-within at within = omega (arith, read-room, ap (λ t. t.width) view_is)

  pub read-bit : (at : ℕ) → at < table.width → bit_in words at ≡ is_set (bits_at table row) at
  read-bit at within =
      let below : at < width = omega (arith, ap (λ t. t.width) view_is) in
      ap (λ ws. bit_in ws at) (sym read-words)
      ∙ sym (is_set-table width (map items rows) row at in_rows below)
      ∙ ap (λ t. is_set (bits_at t row) at) view_is

  pub read-first_clear : (from : ℕ) (found : Option ℕ) → IsFirstClearBelow words width from found → IsFirstClear (bits_at table row) from found
  read-first_clear from found first =
      let there = subst (λ ws. IsFirstClearBelow ws width from found) (sym read-words) first in
      subst (λ t. IsFirstClear (bits_at t row) from found) view_is (first_clear-table width (map items rows) row from found in_rows there)

  module _ (at : ℕ) (value : Bool) (new : V) (within : at < table.width) (same_length : length (items new) ≡ length words) (written : (k : ℕ) → bit_in (items new) k ≡ (if eqb k at then value else bit_in words k)) where
    below_width : at < width
    below_width = omega (arith, within, ap (λ t. t.width) view_is)

    long : length (items new) ≡ length (words_at (map items rows) row)
    long = same_length ∙ ap length (sym read-words)

    bits : (k : ℕ) → bit_in (items new) k ≡ (if eqb k at then value else bit_in (words_at (map items rows) row) k)
    bits k = written k ∙ ap (λ ws. if eqb k at then value else bit_in ws k) (sym read-words)

    pub write-room : HasRoom width (map items (set rows row new))
    write-room = subst (HasRoom width) (sym (map-set items rows row new)) (room-written width (map items rows) row at value (items new) room in_rows below_width long bits)

    pub write-table : table_of width (map items (set rows row new)) ≡ with_bit table row at value
    write-table =
        ap (table_of width) (map-set items rows row new)
        ∙ table-written width (map items rows) row at value (items new) room in_rows below_width long bits
        ∙ ap (λ t. with_bit t row at value) view_is

-- words written through a slice of the whole are the words
pub refilled : (n : ℕ) (old new : List ℕ) → length old ≡ n → length new ≡ length old → take n (new ++ drop (length new) old) ≡ new
refilled n old new whole same = take-append-le n new (drop (length new) old) (omega arith) ∙ take_all n new (omega arith)
