-- What an instance of a cell makes, part by part, and the limits on it.
use Rattle.std.proofs.Common.{replicate, subst, ◌≡◌, ◌+◌, ◌≤◌, ◌∙◌, ℕ, Bool, true, false, cond, Option, Some, None, List, [], ◌∷◌, ◌++◌, Ok, Err, ap, append-nil, arith, length, map, min, refl, sym}
use Rattle.std.specs.Prelude.{◌==◌, codes, flat_map, nat_lt, sum_by}
use Rattle.std.specs.List.{range_with_len}
use Rattle.std.specs.Option.{option_or}
use Rattle.std.proofs.lemmas.Bool.Decides.{nat_tests}
use Rattle.std.proofs.lemmas.List.{length-append, length-map}
use Rattle.std.proofs.lemmas.List.Concat.{length-flat_map}
use Rattle.std.proofs.lemmas.List.FromFn.{length-map-range_with_len}
use Rattle.std.proofs.lemmas.Simd.{splat_is_map}
use Rattle.verilog_tree.specs.declared.source.Inst.{Inst}
use Rattle.cell_table.specs.declared.cell.CellKind.{CellKind}
use Rattle.cell_parts.specs.CellElements.{cell_elements, cell_memories, inner_count}
use Rattle.cell_parts.specs.Wires.{TiedPin, Wires, inner_names, new_count, new_indices, new_names, new_width, wires_of}
use Rattle.design_core.specs.declared.element.Element.{Element}
use Rattle.design_core.specs.declared.element.Memory.{Memory}
use Rattle.design_core.specs.declared.fault.LimitKind.TheVariants.{Elements, Nets, Words}
use Rattle.design_core.specs.declared.parts.NetName.{NetName}
use Rattle.design_core.specs.declared.parts.Scope.{Scope}
use Rattle.design_core.specs.Most.{most_elements, most_nets, most_words}
use Rattle.flattening.specs.declared.fault.ElabFault.{ElabFault}
use Rattle.flattening.specs.declared.made.Made.{Made}
use Rattle.flattening.specs.Cells.{cell_piece_with}
use Rattle.flattening.specs.Pieces.{beyond, elements_in, joined, nothing, performed, room_tests, words_in}
use Rattle.flattening.specs.Places.{Given, Inside, name_in}
use Rattle.flattening.specs.Steps.{Test, first_fault, unless}
use Rattle.elaborator.specs.Room.{limits}
use Rattle.elaborator.specs.Walk.{nets_alone}
use Rattle.elaborator.proofs.Joining.{zero_more}
use Rattle.elaborator.proofs.Performing.{full}

-- a pin has as many names as new nets
indices_count : (width : ℕ) → length (new_indices width) ≡ width
indices_count width = go (width == 1) refl
  where
    go : (b : Bool) → (width == 1) ≡ b → length (cond {A = List (Option ℕ)} b (None ∷ []) (map Some (range_with_len 0 width))) ≡ width
    go true e = grind (arith, nat_tests)
    go false e = length-map-range_with_len Some 0 width

one_pin : (scope : ℕ) (tied : TiedPin) → length (new_names scope tied) ≡ new_width tied
one_pin scope tied =
    length-map (new_indices (new_width tied)) (λ (index : Option ℕ). record { scope = scope; name = tied.pin.name; index = index })
    ∙ indices_count (new_width tied)

names_count : (scope : ℕ) (pins : List TiedPin) (inner : ℕ) → length (flat_map (new_names scope) pins ++ inner_names scope inner) ≡ new_count pins + inner
names_count scope pins inner =
    length-append (flat_map (new_names scope) pins) (inner_names scope inner)
    ∙ (λ i. length-flat_map (new_names scope) pins i + length-map-range_with_len {X = NetName} (λ k. record { scope = scope; name = codes "$"; index = None }) 0 inner i)
    ∙ (λ i. sum_by (λ tied. one_pin scope tied i) pins + inner)

-- more than the most are as good as the most that a number tells
clamped : (have more : ℕ) → nat_lt 400000 (have + min more 18446744073709551615) ≡ nat_lt 400000 (have + more)
clamped have more = grind (arith, nat_tests)

-- a test that fails is the first
first_is : (test : Test) (rest : List Test) (fault : ElabFault) → test ≡ Some fault → first_fault (test ∷ rest) ≡ Some fault
first_is test rest fault is = rw is refl

-- the limits after that on nets
abbrev later_tests : ℕ → Made → ℕ → ℕ → List Test
later_tests at made elements words =
    beyond Elements at most_elements (length made.elements + elements) ∷ beyond Words at most_words (words_in made.memories + words) ∷ []

-- the limits are those that stand before, where names of nets were put behind others
limits_after : (at : ℕ) (made : Made) (names : List NetName) (elements words : ℕ) → limits at (joined made (nets_alone names)) 0 elements words ≡ limits at made (length names) elements words
limits_after at made names elements words =
    rw (append-nil made.elements, append-nil made.memories, length-append made.net_names names, zero_more (length made.net_names + length names)) refl

-- names, a scope, elements and memories that are put one after the other are one piece
parts : (made : Made) (names : List NetName) (scopes : List Scope) (scope : ℕ) (elements : List Element) (memories : List Memory) →
    joined (joined (joined (joined made (nets_alone names)) (record nothing { scopes = scopes })) (elements_in scope elements)) (record nothing { memories = memories })
    ≡ joined made (record (elements_in scope elements) { net_names = names; scopes = scopes; memories = memories })
parts made names scopes scope elements memories =
    let paths : List ℕ = map (λ (e : Element). scope) elements in
    rw (
      append-nil (made.net_names ++ names),
      append-nil (made.net_names ++ names),
      append-nil (made.net_names ++ names),
      append-nil made.scopes,
      append-nil (made.scopes ++ scopes),
      append-nil (made.scopes ++ scopes),
      append-nil made.elements,
      append-nil made.elements,
      append-nil (made.elements ++ elements),
      append-nil made.paths,
      append-nil made.paths,
      append-nil (made.paths ++ paths),
      append-nil made.memories,
      append-nil made.memories,
      append-nil made.memories,
      zero_more made.modules,
      zero_more made.modules,
      zero_more made.modules,
      zero_more made.modules,
    ) refl

module _ (g : Given) (here : Inside) (inst : Inst) (kind : CellKind) (pins : List TiedPin) (made : Made) where
  abbrev pub piece : Made
  piece = cell_piece_with g here inst kind pins made

  -- too many nets are the first fault
  pub nets_full : (at new inner more : ℕ) (fault : ElabFault) → new ≡ new_count pins → inner ≡ inner_count kind → more ≡ min (new + inner) 18446744073709551615 → beyond Nets at most_nets (length made.net_names + more) ≡ Some fault → performed at (record { tests = []; piece = piece }) made ≡ Err fault
  nets_full at new inner more fault n i m is =
      let count : length piece.net_names ≡ new + inner = names_count (length made.scopes) pins (inner_count kind) ∙ (λ j. sym n j + sym i j) in
      let same : beyond Nets at most_nets (length made.net_names + length piece.net_names) ≡ beyond Nets at most_nets (length made.net_names + more) =
      rw (count, m, clamped (length made.net_names) (new + inner)) refl
      in
      full at [] piece made (length piece.net_names) (length piece.elements) (words_in piece.memories) fault refl refl refl refl
      (first_is (beyond Nets at most_nets (length made.net_names + length piece.net_names)) (later_tests at made (length piece.elements) (words_in piece.memories)) fault (same ∙ is))

  module _ (scope next inner new : ℕ) (w : Wires) (named : Made) (scope_is : scope ≡ length made.scopes) (next_is : next ≡ length made.net_names) (inner_is : inner ≡ inner_count kind) (new_is : new ≡ new_count pins)
      (wires_are : w ≡ wires_of next pins) (named_is : named ≡ joined made (nets_alone (flat_map (new_names scope) pins ++ inner_names scope inner))) where
    same_names : named ≡ joined made (nets_alone piece.net_names)
    same_names = named_is ∙ (λ j. joined made (nets_alone (flat_map (new_names (scope_is j)) pins ++ inner_names (scope_is j) (inner_is j))))

    same_wires : w ≡ wires_of (length made.net_names) pins
    same_wires = wires_are ∙ ap (λ n. wires_of n pins) next_is

    -- elements and words are as many as those of the piece, and nets are there already
    limits_same : (at elements words : ℕ) → elements ≡ length (cell_elements w (next + new) (length made.memories) kind) → words ≡ words_in (cell_memories w kind) → limits at named 0 elements words ≡ room_tests at made piece
    limits_same at elements words e m =
        let els : elements ≡ length piece.elements = e ∙ (λ j. length (cell_elements (same_wires j) (next_is j + new_is j) (length made.memories) kind)) in
        let mems : words ≡ words_in piece.memories = m ∙ (λ j. words_in (cell_memories (same_wires j) kind)) in
        (λ j. limits at (same_names j) 0 (els j) (mems j)) ∙ limits_after at made piece.net_names (length piece.elements) (words_in piece.memories)

    pub rest_full : (at elements words : ℕ) (fault : ElabFault) → elements ≡ length (cell_elements w (next + new) (length made.memories) kind) → words ≡ words_in (cell_memories w kind) → first_fault (limits at named 0 elements words) ≡ Some fault → performed at (record { tests = []; piece = piece }) made ≡ Err fault
    rest_full at elements words fault e m is =
        ap (λ ts. unless (first_fault ts) (joined made piece)) (sym (limits_same at elements words e m)) ∙ ap (λ t. unless t (joined made piece)) is

    -- scope, elements and memory put behind the names: the piece is there
    pub all_there : (scoped filled last : Made) → scoped ≡ joined named (record nothing { scopes = record { parent = Some here.scope; name = name_in g inst.name } ∷ [] }) → filled ≡ joined scoped (elements_in scope (cell_elements w (next + new) (length scoped.memories) kind)) → last ≡ joined filled (record nothing { memories = cell_memories w kind }) → last ≡ joined made piece
    all_there scoped filled last s f l =
        let own : List Scope = record { parent = Some here.scope; name = name_in g inst.name } ∷ [] in
        let two : scoped ≡ joined (joined made (nets_alone piece.net_names)) (record nothing { scopes = own }) = s ∙ ap (λ (m : Made). joined m (record nothing { scopes = own })) same_names in
        let count : length scoped.memories ≡ length made.memories = ap (λ (m : Made). length m.memories) two ∙ rw (append-nil made.memories, append-nil made.memories) refl in
        let three : filled ≡ joined (joined (joined made (nets_alone piece.net_names)) (record nothing { scopes = own })) (elements_in (length made.scopes) piece.elements)
        = f ∙ (λ j. joined (two j) (elements_in (scope_is j) (cell_elements (same_wires j) (next_is j + new_is j) (count j) kind)))
        in
        l
        ∙ (λ j. joined (three j) (record nothing { memories = cell_memories (same_wires j) kind }))
        ∙ parts made piece.net_names own (length made.scopes) piece.elements piece.memories

    pub rest_fits : (at elements words : ℕ) (last : Made) → elements ≡ length (cell_elements w (next + new) (length made.memories) kind) → words ≡ words_in (cell_memories w kind) → first_fault (limits at named 0 elements words) ≡ None → last ≡ joined made piece → performed at (record { tests = []; piece = piece }) made ≡ Ok last
    rest_fits at elements words last e m is there =
        ap (λ ts. unless (first_fault ts) (joined made piece)) (sym (limits_same at elements words e m)) ∙ ap (λ t. unless t (joined made piece)) is ∙ ap Ok (sym there)

-- the last of three tests passes where all do
third_none : (first second third : Test) → first_fault (first ∷ second ∷ third ∷ []) ≡ None → third ≡ None
third_none None None None is = refl
third_none None None (Some f) is = cc
third_none None (Some s) third is = cc
third_none (Some f) second third is = cc

not_beyond : (b : Bool) (f : ElabFault) → cond {A = Test} b (Some f) None ≡ None → b ≡ false
not_beyond true f is = cc
not_beyond false f is = refl

below_most : (n : ℕ) → nat_lt 4194304 n ≡ false → n ≤ 4194304
below_most n is = grind (arith, nat_tests)

-- where no limit is passed there is room for the words
pub words_left : (at : ℕ) (made : Made) (elements words : ℕ) → first_fault (limits at made 0 elements words) ≡ None → words_in made.memories + words ≤ 4194304
words_left at made elements words is =
    below_most (words_in made.memories + words)
    (not_beyond (nat_lt 4194304 (words_in made.memories + words)) _ (third_none _ _ _ is))

-- and there is room for them when a scope and elements are put behind
pub room_there : (at elements words own : ℕ) (named scoped filled : Made) (scopes : List Scope) (path : ℕ) (es : List Element) → scoped ≡ joined named (record nothing { scopes = scopes }) → filled ≡ joined scoped (elements_in path es) → words ≡ own → first_fault (limits at named 0 elements words) ≡ None → words_in filled.memories + own ≤ 4194304
room_there at elements words own named scoped filled scopes path es s f same is =
    let memories : filled.memories ≡ named.memories = ap (λ (m : Made). m.memories) f ∙ append-nil scoped.memories ∙ ap (λ (m : Made). m.memories) s ∙ append-nil named.memories in
    subst (λ (l : List Memory). words_in l + own ≤ 4194304) (sym memories) (subst (λ (n : ℕ). words_in named.memories + n ≤ 4194304) same (words_left at named elements words is))

-- elements that are put behind others with the scope of each path
pub elements_put : (inside made : Made) (scope count memory : ℕ) (elements : ℕ → List Element) (out : List Element) (ends : List ℕ) → inside ≡ made → memory ≡ length made.memories → out ≡ inside.elements ++ elements memory → count ≡ length (elements memory) → ends ≡ inside.paths ++ replicate count scope →
    record { net_names = inside.net_names; scopes = inside.scopes; elements = out; paths = ends; memories = inside.memories; modules = inside.modules } ≡ joined made (elements_in scope (elements (length made.memories)))
elements_put inside made scope count memory elements out ends same number o n e =
    let paths : replicate count scope ≡ map (λ (x : Element). scope) (elements memory) = splat_is_map (elements memory) count scope (sym n) in
    let here : record { net_names = inside.net_names; scopes = inside.scopes; elements = out; paths = ends; memories = inside.memories; modules = inside.modules } ≡ joined inside (elements_in scope (elements memory))
    = rw (o, e, paths, append-nil inside.net_names, append-nil inside.scopes, append-nil inside.memories, zero_more inside.modules) refl
    in
    here ∙ (λ j. joined (same j) (elements_in scope (elements (number j))))
