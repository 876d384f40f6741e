-- What a table of bits says after one bit is set, and after those of some nets are.
use Rattle.std.proofs.Common.{◌≡◌, ℕ, zero, suc, ◌+◌, ◌<◌, arith, Bool, true, false, ◌&&◌, ◌||◌, List, [], ◌∷◌, ◌++◌, get_or, set, take, length, replicate, refl, subst, sym, ap, ◌∙◌}
use Rattle.std.specs.Prelude.{◌==◌}
use Rattle.std.specs.List.{list_any}
use Rattle.std.proofs.lemmas.List.{get_or-set_same, get_or-set_other, length-set, take_more}
use Rattle.std.proofs.lemmas.Option.{slice_get-get_or}
use Rattle.facts.proofs.Places.{contains_at}
use Rattle.facts.proofs.Tests.{no, number_same, same_number}
use Rattle.id_arena.specs.declared.keys.NetId.{NetId}
use Rattle.design_core.specs.Design.{includes, is_net}
use Rattle.link_rows.specs.BitRows.{BitTable, bits_at, is_set, with_bit, clear_table, IsRectangular}
use Rattle.domain_groups.specs.Members.{AreBelow, SetsNets}

pub or_true : (b : Bool) → (b || true) ≡ true
or_true true = refl
or_true false = refl

pub or_false : (b : Bool) → (b || false) ≡ b
or_false true = refl
or_false false = refl

pub and_false : (b : Bool) → (b && false) ≡ false
and_false true = refl
and_false false = refl

regroup : (a b c d : Bool) → ((a || (b && c)) || (b && d)) ≡ (a || (b && (c || d)))
regroup true b c d = refl
regroup false true c d = refl
regroup false false c d = refl

-- an element of a list of bits is set
pub set_one : (bits : List Bool) (at : ℕ) → at < length bits → (n : ℕ) → get_or (set bits at true) n false ≡ (get_or bits n false || (at == n))
set_one bits at room n = go (at == n) refl
  where
    go : (b : Bool) → (at == n) ≡ b → get_or (set bits at true) n false ≡ (get_or bits n false || b)
    go true e =
        ap (λ (m : ℕ). get_or (set bits at true) m false) (sym (number_same at n e))
        ∙ get_or-set_same bits at true false room
        ∙ sym (or_true (get_or bits n false))
    go false e =
        get_or-set_other bits at n true false (λ s. no (sym e ∙ same_number at n (sym s)))
        ∙ sym (or_false (get_or bits n false))

-- one bit of a table is set
module _ (t : BitTable) (row at : ℕ) (there : row < length t.rows) (room : at < length (bits_at t row)) where
  same_row : (n : ℕ) → get_or (set (bits_at t row) at true) n false ≡ (get_or (bits_at t row) n false || (at == n))
  same_row = set_one (bits_at t row) at room

  pub bit_set : (k n : ℕ) → is_set (bits_at (with_bit t row at true) k) n ≡ (is_set (bits_at t k) n || ((k == row) && (at == n)))
  bit_set k n = go (k == row) refl
    where
      go : (b : Bool) → (k == row) ≡ b
          → get_or (get_or (set t.rows row (set (bits_at t row) at true)) k []) n false ≡ (get_or (bits_at t k) n false || (b && (at == n)))
      go true e =
          subst (λ (j : ℕ). get_or (get_or (set t.rows row (set (bits_at t row) at true)) j []) n false ≡ (get_or (bits_at t j) n false || (at == n)))
          (sym (number_same k row e))
          (ap (λ (bits : List Bool). get_or bits n false) (get_or-set_same t.rows row (set (bits_at t row) at true) [] there) ∙ same_row n)
      go false e =
          ap (λ (bits : List Bool). get_or bits n false) (get_or-set_other t.rows row k (set (bits_at t row) at true) [] (λ s. no (sym e ∙ same_number k row s)))
          ∙ sym (or_false (get_or (bits_at t k) n false))

pub any_push : {X : Type 0} (test : X → Bool) (xs : List X) (x : X) → list_any test (xs ++ x ∷ []) ≡ (list_any test xs || test x)
any_push test [] x = or_false (test x)
any_push test (y ∷ ys) x = ap (λ b. test y || b) (any_push test ys x) ∙ regroup_or (test y) (list_any test ys) (test x)
  where
    regroup_or : (a b c : Bool) → (a || (b || c)) ≡ ((a || b) || c)
    regroup_or true b c = refl
    regroup_or false b c = refl

-- no net is set
pub sets_none : (t : BitTable) (row : ℕ) → SetsNets t t row []
sets_none t row = record {
  count = refl;
  width = refl;
  bits = λ k n. sym (ap (λ b. is_set (bits_at t k) n || b) (and_false (k == row)) ∙ or_false (is_set (bits_at t k) n));
}

-- one net more is set
pub sets_more : (old mid new : BitTable) (row : ℕ) (nets : List NetId) (net : NetId)
    → SetsNets old mid row nets → row < length mid.rows → net.place < length (bits_at mid row) → new ≡ with_bit mid row net.place true
    → SetsNets old new row (nets ++ net ∷ [])
sets_more old mid new row nets net s there room is = rw is (record {
  count = length-set mid.rows row (set (bits_at mid row) net.place true) ∙ s.count;
  width = s.width;
  bits = λ k n.
      bit_set mid row net.place there room k n
      ∙ ap (λ b. b || ((k == row) && (net.place == n))) (s.bits k n)
      ∙ regroup (is_set (bits_at old k) n) (k == row) (includes nets n) (net.place == n)
      ∙ ap (λ b. is_set (bits_at old k) n || ((k == row) && b)) (sym (any_push (is_net n) nets net));
})

-- a row was as wide as the table before a bit of it was set
pub room_before : (mid : BitTable) (row at : ℕ) → row < length mid.rows → IsRectangular (with_bit mid row at true) → length (bits_at mid row) ≡ mid.width
room_before mid row at there r =
    let size = length-set mid.rows row (set (bits_at mid row) at true) in
    sym (length-set (bits_at mid row) at true)
    ∙ ap length (sym (get_or-set_same mid.rows row (set (bits_at mid row) at true) [] there))
    ∙ r row (omega arith)

-- one net of a list has a bit
pub low_at : (width : ℕ) (nets : List NetId) (k : ℕ) (d : NetId) (at : ℕ) → k < length nets → at ≡ (get_or nets k d).place → AreBelow width nets → at < width
low_at width nets k d at within is low =
    let h = low (get_or nets k d) (contains_at nets k (get_or nets k d) (slice_get-get_or nets k d within)) in
    omega arith

-- the bits of the first nets are set, and of one more
pub sets_next : (old mid new : BitTable) (row : ℕ) (nets : List NetId) (k : ℕ) (d : NetId) (at : ℕ) → k < length nets → at ≡ (get_or nets k d).place
    → SetsNets old mid row (take k nets) → row < length old.rows → AreBelow old.width nets → new ≡ with_bit mid row at true → IsRectangular new
    → SetsNets old new row (take (k + 1) nets)
sets_next old mid new row nets k d at within is s there low made r =
    let below : at < old.width = low_at old.width nets k d at within is low in
    let row_there : row < length mid.rows = let e = s.count in omega arith in
    let room = room_before mid row at row_there (subst IsRectangular made r) in
    let wide = s.width in
    let longer : take (k + 1) nets ≡ take k nets ++ get_or nets k d ∷ [] = take_more nets k d within in
    subst (SetsNets old new row) (sym longer)
    (sets_more old mid new row (take k nets) (get_or nets k d) s row_there (omega arith) (made ∙ ap (λ (n : ℕ). with_bit mid row n true) is))

-- in a clear table no bit is set
clear_row : (width n : ℕ) → get_or (replicate width false) n false ≡ false
clear_row zero n = refl
clear_row (suc width) zero = refl
clear_row (suc width) (suc n) = clear_row width n

pub clear_bits : (rows width k n : ℕ) → is_set (bits_at (clear_table rows width) k) n ≡ false
clear_bits zero width k n = refl
clear_bits (suc rows) width zero n = clear_row width n
clear_bits (suc rows) width (suc k) n = clear_bits rows width k n

-- a row that another number names is as before
pub other_row : (old new : BitTable) (row : ℕ) (nets : List NetId) (k n : ℕ) → SetsNets old new row nets → (k ≡ row → ⊥)
    → is_set (bits_at new k) n ≡ is_set (bits_at old k) n
other_row old new row nets k n s differ = go (k == row) refl
  where
    go : (b : Bool) → (k == row) ≡ b → is_set (bits_at new k) n ≡ is_set (bits_at old k) n
    go true e = absurd (differ (number_same k row e))
    go false e =
        s.bits k n ∙ ap (λ b. is_set (bits_at old k) n || (b && includes nets n)) e ∙ or_false (is_set (bits_at old k) n)

-- a row that was clear has the bits of the nets
pub this_row : (old new : BitTable) (row : ℕ) (nets : List NetId) (n : ℕ) → SetsNets old new row nets → is_set (bits_at old row) n ≡ false
    → is_set (bits_at new row) n ≡ includes nets n
this_row old new row nets n s clear =
    s.bits row n
    ∙ ap (λ b. b || ((row == row) && includes nets n)) clear
    ∙ ap (λ b. b && includes nets n) (same_number row row refl)
