-- A design that stands, and the tables by which its readers answer.
-- The rule is told in docs/RULES.md, "Values and valuations".
use Rattle.std.specs.Prelude.{◌≡◌, ◌<◌, ℕ, Some, List, length, slice_get}
use Rattle.id_arena.specs.declared.keys.ElemId.{ElemId}
use Rattle.design_core.specs.declared.element.Element.TheVariants as element
use Rattle.design_core.specs.declared.element.Driver.{Driver}
use Rattle.design_core.specs.declared.parts.Parts.{Parts}
use Rattle.design_core.specs.Design.{net_count, driver, IsDesign}
use Rattle.design_core.specs.Limits.{IsWithin, IsCountable}
use Rattle.design_core.specs.Names.{IsNamed}

-- the parts make a design, with names, within the limits
pub record IsSound (p : Parts) : Type 0 where
  pub design : IsDesign p
  pub named : IsNamed p
  pub within : IsWithin p
  pub countable : IsCountable p

-- the table of drivers has the driver of each net
abbrev pub AreDrivers : Parts → List Driver → Type 0
AreDrivers p drivers = (n : ℕ) → n < net_count p → slice_get drivers n ≡ Some (driver p n)

-- the element of this place is the memory of this number
abbrev pub IsMemoryAt : Parts → ℕ → ElemId → Type 0
IsMemoryAt p m e = slice_get p.elements e.place ≡ Some (element.Memory (record { place = m }))

-- the table of memories has an element for each memory, which is that memory
pub record AreOwners (p : Parts) (owners : List ElemId) : Type 0 where
  pub count : length owners ≡ length p.memories
  pub each : (m : ℕ) (e : ElemId) → slice_get owners m ≡ Some e → IsMemoryAt p m e
