-- What holds of all that is made: each net and scope that it names is there, elements and memories have their shapes, and
-- each memory is the element that comes with it. Everything is said beside the nets and scopes that there are, so that it
-- stays_good where more of them come.
use Rattle.std.proofs.Common.{◌≡◌, ◌+◌, ◌<◌, ◌≤◌, ℕ, Bool, true, List, [], ◌∷◌, ◌++◌, arith, length, length-append, subst, sym}
use Rattle.std.specs.Prelude.{IfSome}
use Rattle.id_arena.specs.declared.keys.NetId.{NetId}
use Rattle.design_core.specs.declared.element.Element.{Element}
use Rattle.design_core.specs.declared.element.Element.TheVariants as element
use Rattle.design_core.specs.declared.element.Memory.{Memory}
use Rattle.design_core.specs.declared.element.ReadPort.{ReadPort}
use Rattle.design_core.specs.declared.element.WritePort.{WritePort}
use Rattle.design_core.specs.declared.parts.NetName.{NetName}
use Rattle.design_core.specs.declared.parts.Scope.{Scope}
use Rattle.design_core.specs.Design.{element_reads, inputs_fit, memory_fits, read_reads, write_reads}
use Rattle.design_core.specs.Faults.{element_outputs}
use Rattle.design_core.specs.Limits.{inputs_within}
use Rattle.flattening.specs.declared.made.Made.{Made}
use Rattle.flattening.specs.Pieces.{joined}
use Rattle.flattening.proofs.Everywhere.{Every, every_append, every_more}

-- each of these nets is there, where there are so many
abbrev pub AreBelow : ℕ → List NetId → Type 0
AreBelow nets = Every (λ n. n.place < nets)

pub below_more : (few many : ℕ) (ns : List NetId) → few ≤ many → AreBelow few ns → AreBelow many ns
below_more few many ns le all = every_more (λ n. n.place < few) (λ n. n.place < many) ns (λ n less. omega (arith, le, less)) all

-- whether a gate has inputs as its word asks for them
abbrev pub shape_fits : Element → Bool
shape_fits (element.Gate op inputs output) = inputs_fit op (length inputs)
shape_fits (element.Flop f) = true
shape_fits (element.Latch l) = true
shape_fits (element.Memory m) = true

-- an element has its shape and is within its limit, and its nets are there
pub record IsGoodElement (nets : ℕ) (e : Element) : Type 0 where
  pub fits : shape_fits e ≡ true
  pub few : inputs_within e ≡ true
  pub reads : AreBelow nets (element_reads e)
  pub drives : AreBelow nets (element_outputs e)

pub element_more : (few many : ℕ) (e : Element) → few ≤ many → IsGoodElement few e → IsGoodElement many e
element_more few many e le is = record {
  fits = is.fits;
  few = is.few;
  reads = below_more few many (element_reads e) le is.reads;
  drives = below_more few many (element_outputs e) le is.drives;
}

-- the nets of a port are there
abbrev pub IsWriteBelow : ℕ → WritePort → Type 0
IsWriteBelow nets port = AreBelow nets (write_reads port)

abbrev pub IsReadBelow : ℕ → ReadPort → Type 0
IsReadBelow nets port = AreBelow nets (read_reads port) × AreBelow nets port.bits

-- a memory has its shape, and its nets are there
pub record IsGoodMemory (nets : ℕ) (memory : Memory) : Type 0 where
  pub fits : memory_fits memory ≡ true
  pub writes : Every (IsWriteBelow nets) memory.writes
  pub reads : Every (IsReadBelow nets) memory.reads

memory_more : (few many : ℕ) (memory : Memory) → few ≤ many → IsGoodMemory few memory → IsGoodMemory many memory
memory_more few many memory le is = record {
  fits = is.fits;
  writes = every_more (IsWriteBelow few) (IsWriteBelow many) memory.writes (λ port all. below_more few many (write_reads port) le all) is.writes;
  reads = every_more (IsReadBelow few) (IsReadBelow many) memory.reads (λ port all. (below_more few many (read_reads port) le all.0, below_more few many port.bits le all.1)) is.reads;
}

-- the memories among some elements have the numbers from one up to another, in order
abbrev pub Takes : ℕ → List Element → ℕ → Type 0
Takes first [] next = first ≡ next
Takes first (element.Gate op inputs output ∷ es) next = Takes first es next
Takes first (element.Flop f ∷ es) next = Takes first es next
Takes first (element.Latch l ∷ es) next = Takes first es next
Takes first (element.Memory m ∷ es) next = (m.place ≡ first) × Takes (first + 1) es next

pub takes_append : (a b c : ℕ) (xs ys : List Element) → Takes a xs b → Takes b ys c → Takes a (xs ++ ys) c
takes_append a b c [] ys p q = subst (λ k. Takes k ys c) (sym p) q
takes_append a b c (element.Gate op inputs output ∷ xs) ys p q = takes_append a b c xs ys p q
takes_append a b c (element.Flop f ∷ xs) ys p q = takes_append a b c xs ys p q
takes_append a b c (element.Latch l ∷ xs) ys p q = takes_append a b c xs ys p q
takes_append a b c (element.Memory m ∷ xs) ys p q = (p.0, takes_append (a + 1) b c xs ys p.1 q)

-- scopes from a number on stand in earlier ones
abbrev pub StandIn : ℕ → List Scope → Type 0
StandIn first [] = Unit {0}
StandIn first (scope ∷ scopes) = IfSome scope.parent (λ parent. parent < first) × StandIn (first + 1) scopes

stand_append : (first next : ℕ) (xs ys : List Scope) → next ≡ first + length xs → StandIn first xs → StandIn next ys → StandIn first (xs ++ ys)
stand_append first next [] ys is some more = let same : next ≡ first = omega (arith, is) in subst (λ k. StandIn k ys) same more
stand_append first next (x ∷ xs) ys is some more = (some.0, stand_append (first + 1) next xs ys (omega (arith, is)) some.1 more)

-- a piece is good, where there are so many nets and scopes, and its memories and scopes have these first numbers
pub record IsGoodPiece (nets scopes memory scope : ℕ) (p : Made) : Type 0 where
  pub names : Every (λ (name : NetName). name.scope < scopes) p.net_names
  pub parents : StandIn scope p.scopes
  pub elements : Every (IsGoodElement nets) p.elements
  pub paths : Every (λ (s : ℕ). s < scopes) p.paths
  pub one_path : length p.paths ≡ length p.elements
  pub memories : Every (IsGoodMemory nets) p.memories
  pub takes : Takes memory p.elements (memory + length p.memories)

pub piece_more : (nets more_nets scopes more_scopes memory scope : ℕ) (p : Made) → nets ≤ more_nets → scopes ≤ more_scopes → IsGoodPiece nets scopes memory scope p → IsGoodPiece more_nets more_scopes memory scope p
piece_more nets more_nets scopes more_scopes memory scope p n s is = record {
  names = every_more (λ (name : NetName). name.scope < scopes) (λ (name : NetName). name.scope < more_scopes) p.net_names (λ name less. omega (arith, s, less)) is.names;
  parents = is.parents;
  elements = every_more (IsGoodElement nets) (IsGoodElement more_nets) p.elements (λ e good. element_more nets more_nets e n good) is.elements;
  paths = every_more (λ (x : ℕ). x < scopes) (λ (x : ℕ). x < more_scopes) p.paths (λ x less. omega (arith, s, less)) is.paths;
  one_path = is.one_path;
  memories = every_more (IsGoodMemory nets) (IsGoodMemory more_nets) p.memories (λ m good. memory_more nets more_nets m n good) is.memories;
  takes = is.takes;
}

-- what was made, and a piece that is good after it
pub joined_good : (nets scopes : ℕ) (made p : Made) → IsGoodPiece nets scopes 0 0 made → IsGoodPiece nets scopes (length made.memories) (length made.scopes) p → IsGoodPiece nets scopes 0 0 (joined made p)
joined_good nets scopes made p a b = record {
  names = every_append _ made.net_names p.net_names a.names b.names;
  parents = stand_append 0 (length made.scopes) made.scopes p.scopes (omega arith) a.parents b.parents;
  elements = every_append (IsGoodElement nets) made.elements p.elements a.elements b.elements;
  paths = every_append _ made.paths p.paths a.paths b.paths;
  one_path = (let x = length-append made.paths p.paths in let y = length-append made.elements p.elements in omega (arith, x, y, a.one_path, b.one_path));
  memories = every_append (IsGoodMemory nets) made.memories p.memories a.memories b.memories;
  takes =
      (let sum : length (made.memories ++ p.memories) ≡ length made.memories + length p.memories = length-append made.memories p.memories in
      let first : Takes 0 made.elements (length made.memories) = subst (λ k. Takes 0 made.elements k) (omega arith) a.takes in
      subst (λ k. Takes 0 (made.elements ++ p.elements) k) (let e : length made.memories + length p.memories ≡ 0 + length (made.memories ++ p.memories) = omega (arith, sum) in e)
      (takes_append 0 (length made.memories) (length made.memories + length p.memories) made.elements p.elements first b.takes));
}
