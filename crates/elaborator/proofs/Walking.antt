-- The walk: an instance of a module, step by step, and the items by the levels that may stand below.
use Rattle.std.proofs.Common.{◌≡◌, ◌+◌, ◌-◌, ◌<◌, ◌≤◌, ◌∙◌, ℕ, zero, suc, Bool, true, false, cond, Option, Some, None, List, [], ◌∷◌, ◌++◌, Result, Ok, Err, ap, arith, length, refl, subst, sym}
use Rattle.std.specs.Prelude.{nat_lt, option_and_then, option_map, slice_get}
use Rattle.std.proofs.lemmas.Bool.Decides.{nat_tests}
use Rattle.id_arena.specs.Names.{place_among}
use Rattle.verilog_tree.specs.declared.source.AssignPair.{AssignPair}
use Rattle.verilog_tree.specs.declared.source.GatePart.{GatePart}
use Rattle.verilog_tree.specs.declared.source.IndexRange.{IndexRange}
use Rattle.verilog_tree.specs.declared.source.Inst.{Inst}
use Rattle.verilog_tree.specs.declared.source.Item.{Item}
use Rattle.verilog_tree.specs.declared.source.Item.TheVariants as item
use Rattle.verilog_tree.specs.declared.source.NetPart.{NetPart}
use Rattle.verilog_tree.specs.declared.source.Module.{Module}
use Rattle.design_core.specs.declared.fault.LimitKind.TheVariants.{Instances}
use Rattle.module_nets.specs.Names.{Name}
use Rattle.flattening.specs.declared.fault.ElabFault.{ElabFault}
use Rattle.flattening.specs.declared.fault.ElabFault.TheVariants.{Limit}
use Rattle.flattening.specs.declared.made.Made.{Made}
use Rattle.flattening.specs.Flattening.{cell_named, cell_step, expanded, instance_step, item_step, items_step, module_named, module_or_cell_step}
use Rattle.flattening.specs.Instances.{Enter, depth_test, entering, fed, feeding, items_of, module_steps, most_modules, port_deed, recursive_test}
use Rattle.flattening.specs.Items.{net_deed, pair_deed, supply_deed}
use Rattle.flattening.specs.Links.{Socket, connection_tests, port_sockets}
use Rattle.flattening.specs.Pieces.{beyond, performed}
use Rattle.flattening.specs.Places.{Given, Inside, module_names, name_in, start_in}
use Rattle.flattening.specs.Steps.{Outcome, Step, Test, all_steps, first_fault, followed, in_turn, unless}
use Rattle.elaborator.specs.Outcomes.{Does}
use Rattle.elaborator.specs.Primitives.{primitive_step}
use Rattle.elaborator.specs.Walk.{enter_of, instance_at, level_tests, module_step}
use Rattle.elaborator.proofs.Performing.{retold}

-- the items, where so many levels may stand below
pub expanded_is : (room : ℕ) (g : Given) (here : Inside) (made : Made) → expanded room g here made ≡ items_step (enter_of room g) g here made
unfolding expanded
expanded_is zero g here made = refl
expanded_is (suc room) g here made = refl

-- where there is room, the items of an instance are done with one level less
entered_is : (room : ℕ) (g : Given) (child : Inside) (made : Made) → 0 < room → items_of (enter_of room g) child made ≡ items_step (enter_of (room - 1) g) g child made
entered_is zero g child made some = absurd (omega (arith, some))
entered_is (suc room) g child made some = (let one : suc room - 1 ≡ room = omega arith in expanded_is room g child made ∙ ap (λ (n : ℕ). items_step (enter_of n g) g child made) (sym one))

-- the module of a name that stands at a place
pub module_there : (g : Given) (name : Name) (place : ℕ) (m : Module) → place_among (module_names g) name ≡ Some place → slice_get g.modules place ≡ Some m → module_named g name ≡ Some (place, m)
module_there g name place m found there =
    ap (λ (o : Option ℕ). option_and_then (λ place. option_map (λ m. (place, m)) (slice_get g.modules place)) o) found
    ∙ ap (λ (o : Option Module). option_map (λ m. (place, m)) o) there

-- no module has the name
pub no_module : (g : Given) (name : Name) → place_among (module_names g) name ≡ None → module_named g name ≡ None
no_module g name none = ap (λ (o : Option ℕ). option_and_then (λ place. option_map (λ m. (place, m)) (slice_get g.modules place)) o) none

-- what stands at a place of a list
pub some_there : {A : Type 0} (xs : List A) (k : ℕ) → k < length xs → (x : A) × (slice_get xs k ≡ Some x)
some_there [] k below = absurd (omega (arith, below))
some_there (x ∷ xs) zero below = (x, refl)
some_there (x ∷ xs) (suc k) below = some_there xs k (omega (arith, below))

module _ (room : ℕ) (g : Given) (here : Inside) (token : ℕ) (inst : Inst) (made new : Made) (at : ℕ) (name : Name) (starts : at ≡ start_in g token) (named : name ≡ name_in g token) where
  instance_is : instance_step (enter_of room g) g here token inst made ≡ module_or_cell_step (enter_of room g) g here at inst name (module_named g name) made
  unfolding instance_step
  instance_is =
      ap (λ (k : ℕ). module_or_cell_step (enter_of room g) g here k inst (name_in g token) (module_named g (name_in g token)) made) (sym starts)
      ∙ ap (λ (n : Name). module_or_cell_step (enter_of room g) g here at inst n (module_named g n) made) (sym named)

  pub of_module : {X : Type 0} (place : ℕ) (answer : Result X ElabFault) → place_among (module_names g) name ≡ Some place → place < length g.modules →
      ((m : Module) → slice_get g.modules place ≡ Some m → Does (module_step room g here at inst place m) made new answer) → Does (instance_step (enter_of room g) g here token inst) made new answer
  of_module place answer found below does =
      let there = some_there g.modules place below in
      retold (instance_step (enter_of room g) g here token inst) (module_step room g here at inst place there.0) made new answer
      (instance_is ∙ ap (λ (o : Option (ℕ × Module)). module_or_cell_step (enter_of room g) g here at inst name o made) (module_there g name place there.0 found there.1))
      (does there.0 there.1)

  pub of_cell : {X : Type 0} (answer : Result X ElabFault) → place_among (module_names g) name ≡ None →
      Does (cell_step g here at inst (cell_named g name)) made new answer → Does (instance_step (enter_of room g) g here token inst) made new answer
  of_cell answer none does =
      retold (instance_step (enter_of room g) g here token inst) (cell_step g here at inst (cell_named g name)) made new answer
      (instance_is ∙ ap (λ (o : Option (ℕ × Module)). module_or_cell_step (enter_of room g) g here at inst name o made) (no_module g name none))
      does

-- an item, by its kind
module _ (enter : Option Enter) (g : Given) (here : Inside) (i : Item) (at start : ℕ) (starts : start ≡ start_in g at) (made : Made) where
  pub item_nets : (range : Option IndexRange) (nets xs : List NetPart) → i ≡ item.Nets at range nets → xs ≡ nets → item_step enter g here i made ≡ in_turn (λ net. performed start (net_deed g here net)) xs made
  item_nets range nets xs is all = rw (is, starts, all) refl

  pub item_supplies : (one : Bool) (range : Option IndexRange) (names xs : List ℕ) → i ≡ item.Supply at one range names → xs ≡ names →
      item_step enter g here i made ≡ in_turn (λ name. performed start (supply_deed g here one name)) xs made
  item_supplies one range names xs is all = rw (is, starts, all) refl

  pub item_pairs : (pairs xs : List AssignPair) → i ≡ item.Assign at pairs → xs ≡ pairs → item_step enter g here i made ≡ in_turn (λ pair. performed start (pair_deed g here pair)) xs made
  item_pairs pairs xs is all = rw (is, starts, all) refl

  pub item_prims : (prims xs : List GatePart) → i ≡ item.Gates at prims → xs ≡ prims → item_step enter g here i made ≡ in_turn (primitive_step g here start at) xs made
  item_prims prims xs is all = rw (is, starts, all) refl

-- a test among some of which none fails
none_first : (test : Test) (tests : List Test) → first_fault (test ∷ tests) ≡ None → test ≡ None
none_first None tests none = refl
none_first (Some fault) tests none = none

none_later : (test : Test) (tests : List Test) → first_fault (test ∷ tests) ≡ None → first_fault tests ≡ None
none_later None tests none = none
none_later (Some fault) tests none = absurd (let no : ⊥ = cc in no)

-- an instance that may stand has room below the one around it, and is not one too many
pub has_room : (room : ℕ) (g : Given) (here : Inside) (at place : ℕ) (made : Made) (tests : List Test) → first_fault (level_tests room g here at place made ++ tests) ≡ None → 0 < room
has_room zero g here at place made tests none =
    let tests-2 : List Test = beyond Instances at most_modules (made.modules + 1) ∷ tests in
    absurd (let some : depth_test (enter_of zero g) at ≡ None = none_first (depth_test (enter_of zero g) at) tests-2 (none_later (recursive_test here at place) (depth_test (enter_of zero g) at ∷ tests-2) none) in let no : ⊥ = cc in no)
has_room (suc room) g here at place made tests none = omega arith

few_more : (at count : ℕ) → beyond Instances at most_modules (count + 1) ≡ None → count < most_modules
few_more at count none = go (nat_lt most_modules (count + 1)) refl none
  where
    go : (b : Bool) → nat_lt most_modules (count + 1) ≡ b → cond {A = Test} b (Some (Limit Instances at)) None ≡ None → count < most_modules
    go true is none = absurd (let no : ⊥ = cc in no)
    go false is none = grind (arith, nat_tests)

pub not_too_many : (room : ℕ) (g : Given) (here : Inside) (at place : ℕ) (made : Made) (tests : List Test) → first_fault (level_tests room g here at place made ++ tests) ≡ None → made.modules < most_modules
not_too_many room g here at place made tests none =
    let few = beyond Instances at most_modules (made.modules + 1) in
    few_more at made.modules (none_first few tests (none_later (depth_test (enter_of room g) at) (few ∷ tests) (none_later (recursive_test here at place) (depth_test (enter_of room g) at ∷ few ∷ tests) none)))

-- a step among several
pub goes_on : (step : Step) (steps : List Step) (old new : Made) → step old ≡ Ok new → all_steps (step ∷ steps) old ≡ all_steps steps new
goes_on step steps old new done = ap (λ o. followed o (all_steps steps)) done

pub stops : (step : Step) (steps : List Step) (old : Made) (fault : ElabFault) → step old ≡ Err fault → all_steps (step ∷ steps) old ≡ Err fault
stops step steps old fault refused = ap (λ o. followed o (all_steps steps)) refused

-- the last of several
pub last_step : (step : Step) (old : Made) → all_steps (step ∷ []) old ≡ step old
last_step step old = go (step old)
  where
    go : (o : Outcome) → followed o (all_steps []) ≡ o
    go (Ok made) = refl
    go (Err fault) = refl

-- a step that does what another one does after what was made in between
pub continued : {X : Type 0} (step other : Step) (old between new : Made) (answer : Result X ElabFault) → step old ≡ other between → Does other between new answer → Does step old new answer
continued step other old between new (Ok x) same does = same ∙ does
continued step other old between new (Err e) same does = λ free. same ∙ does free

-- the steps of an instance after it is entered
abbrev later : ℕ → Given → Inside → ℕ → Inst → Inside → List Step
later room g here at inst child =
    performed at (port_deed feeding g here inst child) ∷ items_of (enter_of room g) child ∷ performed at (port_deed fed g here inst child) ∷ []

module _ (room : ℕ) (g : Given) (here : Inside) (at : ℕ) (inst : Inst) (place : ℕ) (m : Module) (made : Made) (sockets : List Socket) (are : sockets ≡ port_sockets g m) where
  -- the tests of the instance
  abbrev tests : List Test
  tests = level_tests room g here at place made ++ connection_tests g here sockets inst

  -- the instance
  abbrev child-0 : Inside
  child-0 = instance_at g (place ∷ here.around) m made

  -- the steps after the tests
  abbrev after : Option ℕ → Name → Inside → List Step
  after parent name child = entering g parent name child ∷ later room g here at inst child

  pub stands_not : (fault : ElabFault) → first_fault tests ≡ Some fault → module_step room g here at inst place m made ≡ Err fault
  unfolding module_steps
  stands_not fault some =
      ap (λ (s : List Socket). followed (unless (first_fault (level_tests room g here at place made ++ connection_tests g here s inst)) made) (all_steps (after (Some here.scope) (name_in g inst.name) child-0))) (sym are)
      ∙ ap (λ t. followed (unless t made) (all_steps (after (Some here.scope) (name_in g inst.name) child-0))) some

  module _ (parent : Option ℕ) (name : Name) (around : List ℕ) (within : parent ≡ Some here.scope) (named : name ≡ name_in g inst.name) (outer : around ≡ place ∷ here.around) (none : first_fault tests ≡ None) where
    module _ (child : Inside) (is : child ≡ instance_at g around m made) where
      child_is : child ≡ child-0
      child_is = is ∙ ap (λ (a : List ℕ). instance_at g a m made) outer

      stands : module_step room g here at inst place m made ≡ all_steps (after parent name child) made
      unfolding module_steps
      stands =
          ap (λ (k : Inside). module_steps (enter_of room g) g here at inst place k made) (sym child_is)
          ∙ ap (λ (s : List Socket). followed (unless (first_fault (level_tests room g here at place made ++ connection_tests g here s inst)) made) (all_steps (after (Some here.scope) (name_in g inst.name) child)))
          (ap (λ (k : Inside). port_sockets g k.module_of) child_is ∙ sym are)
          ∙ ap (λ t. followed (unless t made) (all_steps (after (Some here.scope) (name_in g inst.name) child))) none
          ∙ ap (λ (n : Name). all_steps (after (Some here.scope) n child) made) (sym named)
          ∙ ap (λ (p : Option ℕ). all_steps (after p name child) made) (sym within)

      pub not_entered : (fault : ElabFault) → entering g parent name child made ≡ Err fault → module_step room g here at inst place m made ≡ Err fault
      not_entered fault refused = stands ∙ stops (entering g parent name child) (later room g here at inst child) made fault refused

      module _ (made-1 : Made) (entered : entering g parent name (instance_at g around m made) made ≡ Ok made-1) where
        is_in : module_step room g here at inst place m made ≡ all_steps (later room g here at inst child) made-1
        is_in =
            stands ∙ goes_on (entering g parent name child) (later room g here at inst child) made made-1
            (ap (λ (k : Inside). entering g parent name k made) is ∙ entered)

        pub not_fed : (fault : ElabFault) → performed at (port_deed feeding g here inst child) made-1 ≡ Err fault → module_step room g here at inst place m made ≡ Err fault
        not_fed fault refused =
            is_in ∙ stops (performed at (port_deed feeding g here inst child)) (items_of (enter_of room g) child ∷ performed at (port_deed fed g here inst child) ∷ []) made-1 fault refused

        module _ (made-2 : Made) (input : performed at (port_deed feeding g here inst child) made-1 ≡ Ok made-2) where
          abbrev last : List Step
          last = performed at (port_deed fed g here inst child) ∷ []

          is_fed : module_step room g here at inst place m made ≡ all_steps (items_of (enter_of room g) child ∷ last) made-2
          is_fed = is_in ∙ goes_on (performed at (port_deed feeding g here inst child)) (items_of (enter_of room g) child ∷ last) made-1 made-2 input

          items_are : items_of (enter_of room g) child made-2 ≡ items_step (enter_of (room - 1) g) g child made-2
          items_are = entered_is room g child made-2 (has_room room g here at place made (connection_tests g here sockets inst) none)

          pub not_walked : (fault : ElabFault) → items_step (enter_of (room - 1) g) g child made-2 ≡ Err fault → module_step room g here at inst place m made ≡ Err fault
          not_walked fault refused = is_fed ∙ stops (items_of (enter_of room g) child) last made-2 fault (items_are ∙ refused)

          pub walked : (made-3 : Made) → items_step (enter_of (room - 1) g) g child made-2 ≡ Ok made-3 → module_step room g here at inst place m made ≡ performed at (port_deed fed g here inst child) made-3
          walked made-3 done =
              is_fed ∙ goes_on (items_of (enter_of room g) child) last made-2 made-3 (items_are ∙ done)
              ∙ last_step (performed at (port_deed fed g here inst child)) made-3
