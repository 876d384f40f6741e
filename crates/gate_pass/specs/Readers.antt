-- Inside: the gates that read each net, and how they are found.
use Rattle.std.specs.Prelude.{◌≡◌, ◌≢◌, ◌⊎◌, ℕ, ◌<◌, ◌↔◌, Option, Some, None, List, length, slice_get, slice_index, slice_index_or, Contains}
use Rattle.graph_rank.specs.Rows.{row}
use Rattle.gate_pass.specs.declared.readers.Pin.{Pin}

-- for each of so many nets the gates that read it
pub record AreReaders (nets : ℕ) (inputs readers : List (List ℕ)) : Type 0 where
  pub count : length readers ≡ nets
  pub each : (n k : ℕ) → n < nets → Contains (row readers n) k ↔ Contains (row inputs k) n

-- the last of so many numbers that is n, by its place
abbrev pub IsLastOf : List ℕ → ℕ → ℕ → Option ℕ → Type 0
IsLastOf nets count n None = (q : ℕ) → q < count → slice_index nets q ≢ n
IsLastOf nets count n (Some p) = (p < count) × (slice_index nets p ≡ n) × ((q : ℕ) → p < q → q < count → slice_index nets q ≢ n)

-- pins that read these nets: for each net the last of them, and for each pin the one before it that reads the same net
pub record AreLinked (nets : List ℕ) (last : List (Option ℕ)) (pins : List Pin) : Type 0 where
  pub size : length pins ≡ length nets
  pub ends : (n : ℕ) → n < length last → IsLastOf nets (length nets) n (slice_index_or last n None)
  pub steps : (p : ℕ) (pin : Pin) → slice_get pins p ≡ Some pin → IsLastOf nets p (slice_index nets p) pin.before

-- a pin of a gate reads a net
abbrev pub PinReads : List ℕ → List Pin → ℕ → ℕ → Type 0
PinReads nets pins k n = (p : ℕ) × (pin : Pin) × (slice_get pins p ≡ Some pin) × (pin.gate ≡ k) × (slice_index nets p ≡ n)

-- pins like some others, and with them those of a gate that reads some nets
pub record HasMore (nets : List ℕ) (pins : List Pin) (gate : ℕ) (added : List ℕ) (last : List (Option ℕ)) (more : List Pin) : Type 0 where
  pub all_nets : List ℕ
  pub linked : AreLinked all_nets last more
  pub pinned : (k n : ℕ) → PinReads all_nets more k n ↔ (PinReads nets pins k n ⊎ ((k ≡ gate) × Contains added n))

-- the linked pins of the gates before a place
pub record AreChains (inputs : List (List ℕ)) (count : ℕ) (last : List (Option ℕ)) (pins : List Pin) : Type 0 where
  pub nets : List ℕ
  pub linked : AreLinked nets last pins
  pub pinned : (k n : ℕ) → PinReads nets pins k n ↔ ((k < count) × Contains (row inputs k) n)

-- the place stands after another, if there is one
abbrev pub IsBehind : Option ℕ → ℕ → Type 0
IsBehind None p = Unit {0}
IsBehind (Some at) p = at < p

-- gates that read the net, those of all its pins after a place among them; a pin of the net stands at that place
pub record AreFound (pins : List Pin) (nets : List ℕ) (n : ℕ) (at : Option ℕ) (gates : List ℕ) : Type 0 where
  pub only : (k : ℕ) → Contains gates k → PinReads nets pins k n
  pub late : (p : ℕ) (pin : Pin) → slice_get pins p ≡ Some pin → slice_index nets p ≡ n → IsBehind at p → Contains gates pin.gate
  pub here : (p : ℕ) → at ≡ Some p → (p < length pins) × (slice_index nets p ≡ n)

-- for the nets before a place the gates that read them
pub record AreFirstReaders (count : ℕ) (inputs readers : List (List ℕ)) : Type 0 where
  pub count_is : length readers ≡ count
  pub each : (n k : ℕ) → n < count → Contains (row readers n) k ↔ Contains (row inputs k) n
