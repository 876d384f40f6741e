-- What stands of all that is made after each step, and what an instance has of it.
use Rattle.std.proofs.Common.{◌≡◌, ◌<◌, ◌≤◌, ◌+◌, ℕ, List, [], ◌∷◌, ◌++◌, Some, Ok, arith, length, length-append, refl, slice_get, subst}
use Rattle.std.proofs.lemmas.List.{length-map}
use Rattle.std.proofs.lemmas.List.Sums.{sum_by-append}
use Rattle.design_core.specs.declared.element.Element.{Element}
use Rattle.design_core.specs.declared.element.Element.TheVariants as element
use Rattle.design_core.specs.Most.{most_elements, most_nets, most_words}
use Rattle.module_nets.specs.declared.nets.Net.{Net}
use Rattle.module_nets.specs.Declarations.{width_of}
use Rattle.flattening.specs.declared.made.Made.{Made}
use Rattle.flattening.specs.Instances.{most_modules}
use Rattle.flattening.specs.Pieces.{Deed, elements_in, joined, performed, words_in}
use Rattle.flattening.specs.Places.{Inside}
use Rattle.flattening.specs.Steps.{Step, in_turn}
use Rattle.flattening.proofs.Everywhere.{Every, every_map, every_one}
use Rattle.flattening.proofs.GoodPieces.{IsGoodElement, IsGoodPiece, Takes, joined_good, piece_more}
use Rattle.flattening.proofs.Passing.{IsPerformed, Passes, done, performed_ok}

-- all that is made is good, within the limits, and its scopes are few
pub record IsMade (made : Made) : Type 0 where
  pub good : IsGoodPiece (length made.net_names) (length made.scopes) 0 0 made
  pub constants : 2 ≤ length made.net_names
  pub nets : length made.net_names ≤ most_nets
  pub elements : length made.elements ≤ most_elements
  pub words : words_in made.memories ≤ most_words
  pub modules : made.modules ≤ most_modules
  pub scopes : length made.scopes ≤ made.modules + length made.elements

-- more is made, and all of it is so
pub record Grows (made new : Made) : Type 0 where
  pub all : IsMade new
  pub nets : length made.net_names ≤ length new.net_names
  pub scopes : length made.scopes ≤ length new.scopes

pub grows_more : (made mid new : Made) → Grows made mid → Grows mid new → Grows made new
grows_more made mid new a b = record {
  all = b.all;
  nets = omega (arith, a.nets, b.nets);
  scopes = omega (arith, a.scopes, b.scopes);
}

-- the nets of an instance are there, where there are so many
abbrev pub AreFit : ℕ → ℕ → List Net → Type 0
AreFit nets base rows = (k : ℕ) (net : Net) → slice_get rows k ≡ Some net → base + (net.first + width_of net.range) ≤ nets

-- the scope and the nets of an instance are there
pub record IsHere (here : Inside) (made : Made) : Type 0 where
  pub scope : here.scope < length made.scopes
  pub nets : AreFit (length made.net_names) here.base here.nets.rows

pub here_more : (here : Inside) (made new : Made) → Grows made new → IsHere here made → IsHere here new
here_more here made new grows is = record {
  scope = omega (arith, is.scope, grows.scopes);
  nets = λ k net at. (let fits = is.nets k net at in omega (arith, fits, grows.nets));
}

-- a step of an instance, where its scope and nets are there, makes more that is so
abbrev pub Keeps : Inside → Step → Type 0
Keeps here step = (made new : Made) → IsMade made → IsHere here made → step made ≡ Ok new → Grows made new

pub stays_good : (made new : Made) → IsMade made → made ≡ new → Grows made new
stays_good made new is same = subst (λ m. Grows made m) same (record { all = is; nets = omega arith; scopes = omega arith })

pub turns_keep : {X : Type 0} (here : Inside) (step : X → Step) (xs : List X) → Every (λ x. Keeps here (step x)) xs → Keeps here (in_turn step xs)
turns_keep here step [] each made new is at e = stays_good made new is (let same : made ≡ new = cc in same)
turns_keep here step (x ∷ xs) each made new is at e =
    let two = done (step x) (in_turn step xs) made new e in
    let one = each.0 made two.mid is at two.before in
    grows_more made two.mid new one (turns_keep here step xs each.1 two.mid new one.all (here_more here made two.mid one at) two.after)

-- a piece is good after what was made, its scopes are no more than its instances of modules and its elements
pub record IsNext (made p : Made) : Type 0 where
  pub good : IsGoodPiece (length made.net_names + length p.net_names) (length made.scopes + length p.scopes) (length made.memories) (length made.scopes) p
  pub modules : made.modules + p.modules ≤ most_modules
  pub scopes : length p.scopes ≤ p.modules + length p.elements

-- what was made with such a piece; what was made need be good only with it
pub joined_made : (deed : Deed) (made new : Made) → IsPerformed deed made new → IsGoodPiece (length made.net_names + length deed.piece.net_names) (length made.scopes + length deed.piece.scopes) 0 0 made → 2 ≤ length made.net_names → length made.scopes ≤ made.modules + length made.elements → IsNext made deed.piece → Grows made new
joined_made deed made new is good two few next =
    let p = deed.piece in
    let nets : length (made.net_names ++ p.net_names) ≡ length made.net_names + length p.net_names = length-append made.net_names p.net_names in
    let scopes : length (made.scopes ++ p.scopes) ≡ length made.scopes + length p.scopes = length-append made.scopes p.scopes in
    let elements : length (made.elements ++ p.elements) ≡ length made.elements + length p.elements = length-append made.elements p.elements in
    let words : words_in (made.memories ++ p.memories) ≡ words_in made.memories + words_in p.memories = sum_by-append _ made.memories p.memories in
    let whole : IsGoodPiece (length made.net_names + length p.net_names) (length made.scopes + length p.scopes) 0 0 (joined made p) = joined_good (length made.net_names + length p.net_names) (length made.scopes + length p.scopes) made p good next.good in
    subst (λ m. Grows made m) is.is (record {
      all = record {
        good = piece_more (length made.net_names + length p.net_names) (length (made.net_names ++ p.net_names)) (length made.scopes + length p.scopes) (length (made.scopes ++ p.scopes)) 0 0 (joined made p) (omega (arith, nets)) (omega (arith, scopes)) whole;
        constants = omega (arith, nets, two);
        nets = omega (arith, nets, is.nets);
        elements = omega (arith, elements, is.elements);
        words = omega (arith, words, is.words);
        modules = next.modules;
        scopes = omega (arith, scopes, elements, few, next.scopes);
      };
      nets = omega (arith, nets);
      scopes = omega (arith, scopes);
    })

-- a deed whose piece is good wherever its tests pass
pub deed_keeps : (at : ℕ) (deed : Deed) (made new : Made) → IsMade made → performed at deed made ≡ Ok new → (Every Passes deed.tests → IsNext made deed.piece) → Grows made new
deed_keeps at deed made new is e next =
    let done = performed_ok at deed made new e in
    let p = deed.piece in
    joined_made deed made new done
    (piece_more (length made.net_names) (length made.net_names + length p.net_names) (length made.scopes) (length made.scopes + length p.scopes) 0 0 made (omega arith) (omega arith) is.good)
    is.constants is.scopes (next done.tests)

-- ---- pieces of gates

-- no memory
abbrev pub IsNoMemory : Element → Type 0
IsNoMemory (element.Gate op inputs output) = Unit {0}
IsNoMemory (element.Flop f) = Unit {0}
IsNoMemory (element.Latch l) = Unit {0}
IsNoMemory (element.Memory m) = ⊥

-- a good element that is no memory
pub record IsSimple (nets : ℕ) (e : Element) : Type 0 where
  pub good : IsGoodElement nets e
  pub apart : IsNoMemory e

pub takes_none : (nets memory : ℕ) (es : List Element) → Every (IsSimple nets) es → Takes memory es memory
takes_none nets memory [] all = refl
takes_none nets memory (element.Gate op inputs output ∷ es) all = takes_none nets memory es all.1
takes_none nets memory (element.Flop f ∷ es) all = takes_none nets memory es all.1
takes_none nets memory (element.Latch l ∷ es) all = takes_none nets memory es all.1
takes_none nets memory (element.Memory m ∷ es) all = absurd all.0.apart

pub simple_good : (nets : ℕ) (es : List Element) → Every (IsSimple nets) es → Every (IsGoodElement nets) es
simple_good nets [] all = tt
simple_good nets (e ∷ es) all = (all.0.good, simple_good nets es all.1)

-- elements whose paths end in a scope that is there
pub elements_good : (nets scopes memory scope path : ℕ) (es : List Element) → path < scopes → Every (IsSimple nets) es → IsGoodPiece nets scopes memory scope (elements_in path es)
elements_good nets scopes memory scope path es there all = record {
  names = tt;
  parents = tt;
  elements = simple_good nets es all;
  paths = every_map (λ (s : ℕ). s < scopes) (λ (e : Element). path) es (every_one (λ (e : Element). path < scopes) es (λ e. there));
  one_path = length-map es (λ (e : Element). path);
  memories = tt;
  takes = subst (λ k. Takes memory es k) (let e : memory ≡ memory + 0 = omega arith in e) (takes_none nets memory es all);
}

pub elements_next : (made : Made) (path : ℕ) (es : List Element) → IsMade made → path < length made.scopes → Every (IsSimple (length made.net_names)) es → IsNext made (elements_in path es)
elements_next made path es is there all = record {
  good = piece_more (length made.net_names) (length made.net_names + 0) (length made.scopes) (length made.scopes + 0) (length made.memories) (length made.scopes) (elements_in path es) (omega arith) (omega arith) (elements_good (length made.net_names) (length made.scopes) (length made.memories) (length made.scopes) path es there all);
  modules = (let few = is.modules in omega (arith, few));
  scopes = omega arith;
}
