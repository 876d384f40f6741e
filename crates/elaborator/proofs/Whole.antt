-- The whole of a text: its top, the steps of the top, and what building its parts answers.
use Rattle.std.proofs.Common.{◌≡◌, ◌≢◌, ◌<◌, ◌+◌, ◌||◌, ◌∙◌, ℕ, Bool, true, false, Option, Some, None, List, [], ◌∷◌, ◌++◌, Result, Ok, Err, ap, arith, codes, drop, get_or, length, map, refl, subst, sym}
use Rattle.std.specs.Prelude.{bytes_eq, slice_get}
use Rattle.std.specs.Result.{IsErr, IsErrAnd}
use Rattle.std.proofs.lemmas.List.{length-map}
use Rattle.facts.proofs.Tests.{no}
use Rattle.id_arena.specs.Names.{place_among}
use Rattle.verilog_tree.specs.declared.source.Module.{Module}
use Rattle.design_core.specs.declared.parts.Parts.{Parts}
use Rattle.module_nets.specs.Names.{Name, is_among}
use Rattle.flattening.specs.declared.fault.ElabFault.{ElabFault}
use Rattle.flattening.specs.declared.fault.ElabFault.TheVariants as fault
use Rattle.flattening.specs.declared.fault.ElabFault.TheVariants.{NoMemory, NoTop}
use Rattle.flattening.specs.declared.made.Made.{Made}
use Rattle.flattening.specs.Faults.{module_tests}
use Rattle.flattening.specs.Flattening.{as_parts, constants_alone, expanded, flattened, items_step, levels_below_top, module_named, parts_of, top_inside, top_parts, top_steps}
use Rattle.flattening.specs.Instances.{entering, most_modules}
use Rattle.flattening.specs.Places.{Given, Inside, module_names, name_in}
use Rattle.flattening.specs.Stands.{Answers}
use Rattle.flattening.specs.Steps.{Outcome, Step, all_steps, first_fault, followed, tested, unless}
use Rattle.elaborator.specs.Walk.{enter_of, instance_at}
use Rattle.elaborator.specs.Top.{Tells, constant_alone, of_drivers}
use Rattle.flattening.specs.Pieces.{joined, nothing}
use Rattle.elaborator.proofs.OfDrivers.{not_of_drivers}
use Rattle.elaborator.proofs.Placing.{place_there}
use Rattle.elaborator.proofs.TwiceNamed.{front}
use Rattle.elaborator.proofs.Walking.{expanded_is, goes_on, last_step, module_there, no_module, some_there, stops}

-- parts, where none is refused
abbrev pub done_as : Parts → Result Parts ElabFault
done_as p = Ok p

pub no_top : (g : Given) (top : Name) → place_among (module_names g) top ≡ None → flattened g top ≡ Err NoTop
unfolding flattened
no_top g top none = ap (top_parts g top) (no_module g top none)

module _ (g : Given) (top : Name) (place : ℕ) (m : Module) (found : place_among (module_names g) top ≡ Some place) (there : slice_get g.modules place ≡ Some m) where
  abbrev here : Inside
  here = top_inside g place m

  of_steps : flattened g top ≡ as_parts g here (top_steps g top here constants_alone)
  unfolding flattened
  of_steps = ap (top_parts g top) (module_there g top place m found there)

  -- the steps after the tests of modules
  abbrev later : List Step
  later = entering g None top here ∷ expanded levels_below_top g here ∷ []

  pub names_twice : (fault : ElabFault) → first_fault (module_tests g) ≡ Some fault → flattened g top ≡ Err fault
  names_twice fault some =
      of_steps ∙ ap (as_parts g here) (stops (tested (module_tests g)) later constants_alone fault (ap (λ t. unless t constants_alone) some))

  module _ (once : first_fault (module_tests g) ≡ None) where
    named_once : flattened g top ≡ as_parts g here (all_steps later constants_alone)
    named_once = of_steps ∙ ap (as_parts g here) (goes_on (tested (module_tests g)) later constants_alone constants_alone (ap (λ t. unless t constants_alone) once))

    pub top_refused : (fault : ElabFault) → entering g None top here constants_alone ≡ Err fault → flattened g top ≡ Err fault
    top_refused fault refused = named_once ∙ ap (as_parts g here) (stops (entering g None top here) (expanded levels_below_top g here ∷ []) constants_alone fault refused)

    module _ (made : Made) (entered : entering g None top here constants_alone ≡ Ok made) where
      top_is_in : flattened g top ≡ as_parts g here (items_step (enter_of levels_below_top g) g here made)
      top_is_in =
          named_once
          ∙ ap (as_parts g here)
          (goes_on (entering g None top here) (expanded levels_below_top g here ∷ []) constants_alone made entered
          ∙ last_step (expanded levels_below_top g here) made
          ∙ expanded_is levels_below_top g here made)

      pub items_refused : (fault : ElabFault) → items_step (enter_of levels_below_top g) g here made ≡ Err fault → flattened g top ≡ Err fault
      items_refused fault refused = top_is_in ∙ ap (as_parts g here) refused

      pub all_done : (new : Made) → items_step (enter_of levels_below_top g) g here made ≡ Ok new → flattened g top ≡ Ok (parts_of g here new)
      all_done new done = top_is_in ∙ ap (as_parts g here) done

      -- the same of a top that stands as the program has it
      module _ (around : List ℕ) (old : Made) (child : Inside) (outer : around ≡ place ∷ []) (only : old ≡ constants_alone) (is : child ≡ instance_at g around m old) where
        child_is : child ≡ here
        child_is = is ∙ ap (λ (a : List ℕ). instance_at g a m old) outer ∙ ap (λ (x : Made). instance_at g (place ∷ []) m x) only

        pub items_not_done : (f : ElabFault) → items_step (enter_of levels_below_top g) g child made ≡ Err f → flattened g top ≡ Err f
        items_not_done f refused = items_refused f (ap (λ (k : Inside). items_step (enter_of levels_below_top g) g k made) (sym child_is) ∙ refused)

        pub whole_done : (new : Made) → items_step (enter_of levels_below_top g) g child made ≡ Ok new → flattened g top ≡ Ok (parts_of g child new)
        whole_done new done =
            all_done new (ap (λ (k : Inside). items_step (enter_of levels_below_top g) g k made) (sym child_is) ∙ done)
            ∙ ap (λ (k : Inside). done_as (parts_of g k new)) (sym child_is)

    -- how the top is entered, as the program has it
    module _ (around : List ℕ) (old : Made) (outer : around ≡ place ∷ []) (only : old ≡ constants_alone) where
      entered_as : entering g None top here constants_alone ≡ entering g None top (instance_at g around m old) old
      entered_as =
          sym (ap (λ (a : List ℕ). entering g None top (instance_at g a m old) old) outer
          ∙ ap (λ (x : Made). entering g None top (instance_at g (place ∷ []) m x) x) only)

      pub top_not_in : (f : ElabFault) → entering g None top (instance_at g around m old) old ≡ Err f → flattened g top ≡ Err f
      top_not_in f refused = top_refused f (entered_as ∙ refused)

      pub top_in : (made : Made) → entering g None top (instance_at g around m old) old ≡ Ok made → entering g None top here constants_alone ≡ Ok made
      top_in made entered = entered_as ∙ entered

-- a name among those of modules is that of a module
pub twice_told : (g : Given) (top : Name) (f : ElabFault) → is_among (module_names g) top ≡ true → first_fault (module_tests g) ≡ Some f → flattened g top ≡ Err f
twice_told g top f among some =
    let at = place_there (module_names g) top among in
    let long : length (module_names g) ≡ length g.modules = length-map g.modules (λ (k : Module). name_in g k.name) in
    let m = some_there g.modules at.0 (omega (arith, at.2, long)) in
    names_twice g top at.0 m.0 at.1 m.1 f some

-- no instance of a module was made before the top
pub none_before : (made : Made) → made ≡ constants_alone → made.modules < most_modules
unfolding constants_alone
none_before made only = (let none : made.modules ≡ 0 = ap (λ (x : Made). x.modules) only in omega (arith, none))

-- the names of the modules from a place on
module _ (g : Given) (top : Name) (i : ℕ) (m : Module) (here : m ≡ get_or g.modules i m) (below : i < length g.modules) (name : Name) (called : name ≡ name_in g m.name) where
  abbrev left : ℕ → Bool
  left k = is_among (map (λ (x : Module). name_in g x.name) (drop k g.modules)) top

  first_or_later : left i ≡ (bytes_eq top name || left (i + 1))
  first_or_later =
      ap (λ (ms : List Module). is_among (map (λ (x : Module). name_in g x.name) ms) top) (front g i m here below)
      ∙ ap (λ (n : Name). bytes_eq top n || left (i + 1)) (sym called)

  pub top_here : bytes_eq top name ≡ true → left i ≡ true
  top_here is = first_or_later ∙ ap (λ (b : Bool). b || left (i + 1)) is

  pub top_later : bytes_eq top name ≡ false → left (i + 1) ≡ left i
  top_later is = sym (first_or_later ∙ ap (λ (b : Bool). b || left (i + 1)) is)

-- an answer that passes on a fault
pub told_on : {X : Type 0} (meant : Result X ElabFault) (f : ElabFault) (answer : Result X ElabFault) → IsErr answer × IsErrAnd answer (λ e. e ≡ f) → (f ≢ NoMemory → meant ≡ Err f) → Tells meant answer
told_on meant f (Ok x) is why = no is.0
told_on meant f (Err e) is why =
    λ free. subst (λ e. meant ≡ Err e) (sym is.1) (why (subst (λ (e : ElabFault). e ≢ NoMemory) is.1 free))

-- what a text is refused for is answered of it
refused_as : (g : Given) (top : Name) (f : ElabFault) → (f ≢ NoMemory → flattened g top ≡ Err f) → Answers g top (Err f)
refused_as g top fault.NoMemory why = tt
refused_as g top (fault.TwoDrivers net name) why =
    absurd (let false_one : true ≡ false = not_of_drivers g top (fault.TwoDrivers net name) (why (λ same. let never : ⊥ = cc in never)) in let never : ⊥ = cc in never)
refused_as g top (fault.Undriven net name) why =
    absurd (let false_one : true ≡ false = not_of_drivers g top (fault.Undriven net name) (why (λ same. let never : ⊥ = cc in never)) in let never : ⊥ = cc in never)
refused_as g top fault.NoTop why = why (λ same. let never : ⊥ = cc in never)
refused_as g top (fault.NameTwice at) why = why (λ same. let never : ⊥ = cc in never)
refused_as g top (fault.UnknownModule at) why = why (λ same. let never : ⊥ = cc in never)
refused_as g top (fault.Recursive at) why = why (λ same. let never : ⊥ = cc in never)
refused_as g top (fault.PortCount at) why = why (λ same. let never : ⊥ = cc in never)
refused_as g top (fault.NoPort at) why = why (λ same. let never : ⊥ = cc in never)
refused_as g top (fault.PortTwice at) why = why (λ same. let never : ⊥ = cc in never)
refused_as g top (fault.WidthDiffers at) why = why (λ same. let never : ⊥ = cc in never)
refused_as g top (fault.BadIndex at) why = why (λ same. let never : ⊥ = cc in never)
refused_as g top (fault.NotDeclared at) why = why (λ same. let never : ⊥ = cc in never)
refused_as g top (fault.Limit which at) why = why (λ same. let never : ⊥ = cc in never)

pub refused_on : (g : Given) (top : Name) (f : ElabFault) (answer : Result Parts ElabFault) → IsErr answer × IsErrAnd answer (λ e. e ≡ f) → (f ≢ NoMemory → flattened g top ≡ Err f) → Answers g top answer
refused_on g top f (Ok x) is why = no is.0
refused_on g top f (Err e) is why = refused_as g top e (λ free. subst (λ e. flattened g top ≡ Err e) (sym is.1) (why (subst (λ (e : ElabFault). e ≢ NoMemory) is.1 free)))

-- nets 0 and 1 are put one after the other
pub both_constants : joined (joined nothing (constant_alone (codes "1'b0"))) (constant_alone (codes "1'b1")) ≡ constants_alone
unfolding constants_alone
both_constants = refl
