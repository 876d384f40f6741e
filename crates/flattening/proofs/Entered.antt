-- An instance that is entered has its scope and its nets.
use Rattle.std.proofs.Common.{◌≡◌, ◌+◌, ◌<◌, ◌≤◌, ◌∙◌, ℕ, zero, suc, List, [], ◌∷◌, Option, Some, None, Ok, ap, arith, length, length-append, refl, slice_get, subst, sym}
use Rattle.std.specs.Prelude.{IfSome, flat_map}
use Rattle.std.specs.List.{range_with_len, zip}
use Rattle.std.proofs.lemmas.List.{length-map}
use Rattle.std.proofs.lemmas.List.FromFn.{length-range_with_len}
use Rattle.std.proofs.lemmas.Option.{none-some, same_Some}
use Rattle.verilog_tree.specs.declared.source.IndexRange.{IndexRange}
use Rattle.verilog_tree.specs.declared.source.Module.{Module}
use Rattle.design_core.specs.declared.parts.NetName.{NetName}
use Rattle.design_core.specs.Most.{most_nets}
use Rattle.module_nets.specs.declared.mention.Mention.{Mention}
use Rattle.module_nets.specs.declared.nets.Net.{Net}
use Rattle.module_nets.specs.Declarations.{net_names, range_of, width_of}
use Rattle.module_nets.specs.Names.{Name}
use Rattle.module_nets.specs.Nets.{counted_in}
use Rattle.flattening.specs.declared.made.Made.{Made}
use Rattle.flattening.specs.Faults.{declaration_tests}
use Rattle.flattening.specs.Instances.{entering, entry_deed, most_modules}
use Rattle.flattening.specs.Pieces.{joined}
use Rattle.flattening.specs.Places.{Given, Inside, bit_names, index_at, indices, name_in, next_inside, own_names, rows_from, start_in}
use Rattle.flattening.proofs.Everywhere.{Every, every_flat, every_map, every_one}
use Rattle.flattening.proofs.GoodCells.{StandsIn}
use Rattle.flattening.proofs.GoodPieces.{IsGoodPiece}
use Rattle.flattening.proofs.Growing.{AreFit, Grows, IsHere, joined_made}
use Rattle.flattening.proofs.Passing.{Passes, performed_ok}

-- ---- the bits of nets

-- how many bits some nets have
abbrev pub bit_total : List Net → ℕ
bit_total [] = 0
bit_total (net ∷ nets) = width_of net.range + bit_total nets

indices_wide : (range : Option IndexRange) → length (indices range) ≡ width_of range
indices_wide None = refl
indices_wide (Some r) = length-map (range_with_len 0 (width_of (Some r))) (λ bit. Some (index_at r bit)) ∙ length-range_with_len 0 (width_of (Some r))

bits_wide : (scope : ℕ) (name : Name) (range : Option IndexRange) → length (bit_names scope name range) ≡ width_of range
bits_wide scope name range = length-map (indices range) (λ (index : Option ℕ). record { scope = scope; name = name; index = index }) ∙ indices_wide range

-- the names of the bits of nets
names_of_bits : ℕ → List Name → List Net → List NetName
names_of_bits scope names rows = flat_map (λ (name, net). bit_names scope name net.range) (zip names rows)

names_total : (scope : ℕ) (names : List Name) (rows : List Net) → length rows ≡ length names → length (names_of_bits scope names rows) ≡ bit_total rows
unfolding names_of_bits
names_total scope [] [] long = refl
names_total scope [] (row ∷ rows) long = absurd (omega (arith, long))
names_total scope (name ∷ names) [] long = absurd (omega (arith, long))
names_total scope (name ∷ names) (row ∷ rows) long =
    let split = length-append (bit_names scope name row.range) (names_of_bits scope names rows) in
    let one = bits_wide scope name row.range in
    let rest = names_total scope names rows (omega (arith, long)) in
    omega (arith, split, one, rest)

rows_long : (text : ℕ → Name) (ms : List Mention) (first : ℕ) (names : List Name) → length (rows_from text ms first names) ≡ length names
rows_long text ms first [] = refl
rows_long text ms first (name ∷ names) = ap suc (rows_long text ms (first + width_of (range_of text ms name)) names)

rows_end : (text : ℕ → Name) (ms : List Mention) (first : ℕ) (names : List Name) (k : ℕ) (net : Net) → slice_get (rows_from text ms first names) k ≡ Some net → net.first + width_of net.range ≤ first + bit_total (rows_from text ms first names)
rows_end text ms first [] k net at = absurd (none-some net at)
rows_end text ms first (name ∷ names) zero net at =
    let same = same_Some _ net at in
    let low : net.first ≡ first = ap (λ (n : Net). n.first) (sym same) in
    let wide : width_of net.range ≡ width_of (range_of text ms name) = ap (λ (n : Net). width_of n.range) (sym same) in
    omega (arith, low, wide)
rows_end text ms first (name ∷ names) (suc k) net at =
    let rest = rows_end text ms (first + width_of (range_of text ms name)) names k net at in
    omega (arith, rest)

-- ---- an instance that comes next

module _ (g : Given) (around : List ℕ) (place : ℕ) (m : Module) (made : Made) where
  child : Inside
  child = next_inside g around place m made

  own_total : length (own_names child) ≡ bit_total child.nets.rows
  unfolding child names_of_bits
  own_total = names_total child.scope child.nets.names child.nets.rows (rows_long (name_in g) (counted_in g.source g.tokens m) 0 (net_names (name_in g) (counted_in g.source g.tokens m)))

  own_stand : (scopes : ℕ) → child.scope < scopes → Every (StandsIn scopes) (own_names child)
  unfolding child
  own_stand scopes there =
      every_flat (StandsIn scopes) (λ (name, net). bit_names (length made.scopes) name net.range) (zip child.nets.names child.nets.rows)
      (every_one _ (zip child.nets.names child.nets.rows) (λ e. every_map (StandsIn scopes) _ (indices e.1.range) (every_one _ (indices e.1.range) (λ index. there))))

  own_fit : (nets : ℕ) → length made.net_names + length (own_names child) ≤ nets → AreFit nets child.base child.nets.rows
  unfolding child
  own_fit nets room k net at =
      let ends = rows_end (name_in g) (counted_in g.source g.tokens m) 0 (net_names (name_in g) (counted_in g.source g.tokens m)) k net at in
      let total = own_total in
      omega (arith, ends, total, room)

  -- what holds once it is entered
  pub record HasEntered (new : Made) : Type 0 where
    pub grows : Grows made new
    pub here : IsHere (next_inside g around place m made) new
    pub few : bit_total (next_inside g around place m made).nets.rows ≤ most_nets
    pub tests : Every Passes (declaration_tests g m)

  pub has_entered : (parent : Option ℕ) (name : Name) (new : Made) → entering g parent name (next_inside g around place m made) made ≡ Ok new
      → IsGoodPiece (length made.net_names + length (own_names (next_inside g around place m made))) (length made.scopes + 1) 0 0 made → 2 ≤ length made.net_names → length made.scopes ≤ made.modules + length made.elements
      → made.modules + 1 ≤ most_modules → IfSome parent (λ p. p < length made.scopes) → HasEntered new
  unfolding entering child
  has_entered parent name new e good two few most outer =
      let done = performed_ok (start_in g m.name) (entry_deed g parent name child) made new e in
      let total = own_total in
      let nets : length (joined made (entry_deed g parent name child).piece).net_names ≡ length made.net_names + length (own_names child) = length-append made.net_names (own_names child) in
      let scopes : length (joined made (entry_deed g parent name child).piece).scopes ≡ length made.scopes + 1 = length-append made.scopes _ in
      let room = done.nets in
      record {
        grows = joined_made (entry_deed g parent name child) made new done good two few (record {
          good = record {
            names = own_stand (length made.scopes + 1) (omega arith);
            parents = (outer, tt);
            elements = tt;
            paths = tt;
            one_path = refl;
            memories = tt;
            takes = (let e : length made.memories ≡ length made.memories + 0 = omega arith in e);
          };
          modules = most;
          scopes = omega arith;
        });
        here = subst (λ (x : Made). IsHere child x) done.is (record {
          scope = omega (arith, scopes);
          nets = own_fit (length (joined made (entry_deed g parent name child).piece).net_names) (omega (arith, nets));
        });
        few = omega (arith, room, total);
        tests = done.tests;
      }
