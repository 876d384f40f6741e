-- Inside the cut and the gains: on which chips a net has elements.
use Rattle.std.specs.Prelude.{◌≡◌, ◌≤◌, ℕ, Bool, ◌==◌, ◌&&◌, not, List, length, slice_index_or, count_by, sum_by}
use Rattle.std.specs.List.{list_any, range_with_len}
use Rattle.id_arena.specs.declared.keys.ChipId.{ChipId}
use Rattle.design_core.specs.declared.parts.Parts.{Parts}
use Rattle.gain_place.specs.Homes.{chip_at}
use Rattle.gain_place.specs.Cut.{chip_numbers, crossings}
use Rattle.gain_place.specs.Lists.{at}

-- whether one of some elements is on a chip
abbrev pub is_on : List ChipId → List ℕ → ℕ → Bool
is_on chips ks c = list_any (λ k. chip_at chips k == c) ks

-- the number of chips that some elements are on
abbrev pub spans : List ChipId → List ℕ → ℕ
spans chips ks = count_by (is_on chips ks) chip_numbers

-- the stamp at a place, 0 where there is none
abbrev pub stamp_at : List ℕ → ℕ → ℕ
stamp_at seen c = slice_index_or seen c 0

-- the first elements are counted, and the stamp stands at just their chips
pub record IsSpanned (chips : List ChipId) (ks : List ℕ) (stamp long : ℕ) (seen : List ℕ) (count : ℕ) : Type 0 where
  pub number : count ≡ spans chips ks
  pub few : count ≤ length ks
  pub same : length seen ≡ long
  pub marks : (c : ℕ) → (stamp_at seen c == stamp) ≡ is_on chips ks c
  pub stamps : (c : ℕ) → stamp_at seen c ≤ stamp

-- the readers away from home of the first nets
abbrev pub cut_to : Parts → List ChipId → ℕ → ℕ
cut_to p chips n = sum_by (crossings p chips) (range_with_len 0 n)

-- whether an element other than this one is on a chip
abbrev pub other_on : List ChipId → ℕ → ℕ → List ℕ → Bool
other_on chips k c ks = list_any (λ j. not (j == k) && (chip_at chips j == c)) ks

-- whether no other element of a net is on a chip
abbrev pub is_lone : List (List ℕ) → List ChipId → ℕ → ℕ → ℕ → Bool
is_lone table chips k c n = not (other_on chips k c (at table n))
