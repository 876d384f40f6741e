-- Inside: between which gates those that wait stand.
use Rattle.std.specs.Prelude.{◌≡◌, ℕ, ◌<◌, ◌≤◌, true, length}
use Rattle.link_rows.specs.BitRows.{BitTable, bits_at, is_set}

-- one row of so many bits, of which all before the first place and after the last are set
pub record AreBounds (idle : BitTable) (gates first last : ℕ) : Type 0 where
  pub one : length idle.rows ≡ 1
  pub width : idle.width ≡ gates
  pub bits : length (bits_at idle 0) ≡ gates
  pub before : (k : ℕ) → k < first → k < gates → is_set (bits_at idle 0) k ≡ true
  pub after : (k : ℕ) → last < k → k < gates → is_set (bits_at idle 0) k ≡ true
  pub low : first ≤ gates
