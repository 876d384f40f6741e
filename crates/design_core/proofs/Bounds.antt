-- What the shapes of a design's elements and memories say of numbers.
use Rattle.std.proofs.Common.{◌≡◌, ◌<◌, ◌≤◌, ◌*◌, ◌^◌, ℕ, zero, suc, Bool, true, ◌&&◌, List, [], ◌∷◌, Some, length, arith}
use Rattle.std.specs.Prelude.{slice_get, nat_lt, nat_le}
use Rattle.std.specs.List.{list_all}
use Rattle.std.proofs.lemmas.Bool.{and_parts, leb-true, ltb-true}
use Rattle.std.proofs.lemmas.Nat.{mul-le}
use Rattle.std.proofs.Math.Pow.{pow_mono}
use Rattle.id_arena.specs.declared.keys.MemId.{MemId}
use Rattle.design_core.specs.declared.element.Element.{Element}
use Rattle.design_core.specs.declared.element.Element.TheVariants as element
use Rattle.design_core.specs.declared.element.Memory.{Memory}
use Rattle.design_core.specs.declared.parts.Parts.{Parts}
use Rattle.design_core.specs.Design.{element_fits, memory_fits}

-- what holds of all items holds of the one at a place
pub every : {X : Type 0} (test : X → Bool) (xs : List X) (k : ℕ) (x : X) → list_all test xs ≡ true → slice_get xs k ≡ Some x → test x ≡ true
every test [] k x all here = absurd (cc)
every test (y ∷ ys) zero x all here =
    let same : y ≡ x = cc in
    rw (← same) (and_parts (test y) (list_all test ys) all).0
every test (y ∷ ys) (suc k) x all here = every test ys k x (and_parts (test y) (list_all test ys) all).1 here

-- a memory's dimensions
pub record AreSmall (memory : Memory) : Type 0 where
  pub address_bits : memory.address_bits ≤ 16
  pub width : memory.width ≤ 128

narrow : (a b c d e f : Bool) → (a && b && c && d && e && f) ≡ true → (a ≡ true) × (c ≡ true)
narrow a b c d e f all =
    let four = and_parts (a && b && c && d) e (and_parts (a && b && c && d && e) f all).0 in
    let three = and_parts (a && b && c) d four.0 in
    let two = and_parts (a && b) c three.0 in
    ((and_parts a b two.0).0, two.1)

pub small : (memory : Memory) → memory_fits memory ≡ true → AreSmall memory
small memory fits =
    let parts = narrow (nat_le memory.address_bits 16) (nat_lt 0 memory.width) (nat_le memory.width 128) _ _ _ fits in
    record { address_bits = leb-true _ _ parts.0; width = leb-true _ _ parts.1 }

-- the weight of a memory is small
pub light : (a w : ℕ) → a ≤ 16 → w ≤ 128 → 2 ^ a * w ≤ 65536 * 128
light a w few narrow = mul-le (2 ^ a) w 65536 128 (pow_mono few) narrow

pub shift_fits : (memory : Memory) → memory_fits memory ≡ true → (memory.address_bits ≤ 63) × (2 ^ memory.address_bits ≤ 65536)
shift_fits memory fits =
    let sizes = small memory fits in
    (omega arith, pow_mono {i = memory.address_bits} {j = 16} sizes.address_bits)

-- the weight of a memory, as it is computed
pub weight_fits : (memory : Memory) (words w : ℕ) → memory_fits memory ≡ true → words ≡ 2 ^ memory.address_bits → w ≡ memory.width → words * w < 2 ^ 64
weight_fits memory words w fits same same-2 =
    let sizes = small memory fits in
    let whole = light memory.address_bits memory.width sizes.address_bits sizes.width in
    rw (same, same-2) (omega arith)

-- an element that is a memory is one of the design's memories
pub memory_there : (p : Parts) (e : Element) (m : MemId) → element_fits p e ≡ true → e ≡ element.Memory m → m.place < length p.memories
memory_there p e m fits same =
    let fits-2 : element_fits p (element.Memory m) ≡ true = rw same at fits in
    ltb-true m.place (length p.memories) fits-2
