-- Inside the descent: for each net the elements that drive or read it, and for each element its nets that have a
-- home.
use Rattle.std.specs.Prelude.{◌≡◌, ◌<◌, ◌&&◌, ℕ, is_some, if◌then◌else◌, List, [], ◌++◌, length, map, option_to_list}
use Rattle.std.specs.List.{filter, range_with_len}
use Rattle.design_core.specs.declared.parts.Parts.{Parts}
use Rattle.design_core.specs.Design.{net_count}
use Rattle.link_rows.specs.Rows.{has}
use Rattle.gain_place.specs.Lists.{at}
use Rattle.gain_place.specs.Homes.{elements, is_source, nets, pins_at, source, touches}

-- the list of elements that drive or read a net, by number, each once
abbrev pub loads_of : Parts → ℕ → List ℕ
loads_of p n = filter (touches p n) (elements p)

-- the nets that have a home and that an element drives or reads, by number, each once
abbrev pub nets_of : Parts → ℕ → List ℕ
nets_of p k = filter (λ n. is_some (source p n) && touches p n k) (nets p)

-- a list for each net, and a list for each element
pub record NetLoads : Type 0 where
  pub loads : List (List ℕ)
  pub nets : List (List ℕ)

-- the loads are of this design
pub record AreLoads (p : Parts) (l : NetLoads) : Type 0 where
  pub net_number : length l.loads ≡ net_count p
  pub element_number : length l.nets ≡ length p.elements
  pub loads : (n : ℕ) → n < net_count p → at l.loads n ≡ loads_of p n
  pub nets : (k : ℕ) → k < length p.elements → at l.nets k ≡ nets_of p k

-- the nets that an element drives
abbrev pub driven_of : Parts → ℕ → List ℕ
driven_of p k = filter (λ n. is_source (source p n) k) (nets p)

-- the nets at the pins that an element reads, as they come, then those that it drives
abbrev pub touched : Parts → ℕ → List ℕ
touched p k = map (λ n. n.place) (pins_at p k) ++ driven_of p k

-- a table in which each of the first numbers stands in the lists of its heads
pub record Stand (heads : ℕ → List ℕ) (lists done : ℕ) (table : List (List ℕ)) : Type 0 where
  pub count : length table ≡ lists
  pub each : (j : ℕ) → at table j ≡ filter (λ i. has j (heads i)) (range_with_len 0 done)

-- for each element those of the first nets that it drives
abbrev pub AreDriven : Parts → ℕ → List (List ℕ) → Type 0
AreDriven p done table = Stand (λ n. option_to_list (source p n)) (length p.elements) done table

-- for each net those of the first elements that drive or read it
abbrev pub AreNetLoads : Parts → ℕ → List (List ℕ) → Type 0
AreNetLoads p done table = Stand (touched p) (net_count p) done table

-- the elements at a net that has a home
abbrev pub homed_loads : Parts → ℕ → List ℕ
homed_loads p n = if is_some (source p n) then loads_of p n else []

-- for each element those of the first nets that have a home and that it drives or reads
abbrev pub AreNets : Parts → ℕ → List (List ℕ) → Type 0
AreNets p done table = Stand (homed_loads p) (length p.elements) done table
