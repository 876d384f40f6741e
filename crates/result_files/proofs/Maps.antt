-- What texts of maps say.
use Rattle.std.proofs.Common.{◌≡◌, ◌↔◌, ℕ, zero, suc, Bool, true, false, List, [], ◌∷◌, Some, IsTrue, slice_get, refl, sym, ap, ◌∙◌, subst}
use Rattle.std.specs.Prelude.{codes}
use Rattle.std.proofs.lemmas.Option.{same_Some}
use Rattle.serde_json.specs.Data.{Data, boolean, string}
use Rattle.json_members.specs.JsonText.{IsTextOf}
use Rattle.emu_machine.specs.declared.map.ChipMap.{ChipMap}
use Rattle.emu_machine.specs.declared.map.Spot.{Spot}
use Rattle.emu_machine.specs.declared.map.StateMap.{StateMap}
use Rattle.emu_machine.specs.declared.map.Subject.{Subject}
use Rattle.emu_machine.specs.declared.map.Subject.TheVariants.{Net, Up, Down, Take, Next, TakeWrite, Old, TakeRead}
use Rattle.emu_machine.specs.declared.netlist.Chip.{Chip}
use Rattle.emu_machine.specs.declared.schedule.Schedule.{Schedule}
use Rattle.emu_machine.specs.Results.{ChipEntryFits}
use Rattle.emu_machine.specs.Plain.{IsNetSubject, IsPlainMap}
use Rattle.result_files.specs.Trees.{list, whole}
use Rattle.result_files.specs.Map.{IsKeptTree, IsSpotTree}
use Rattle.result_files.specs.PlainMap.{IsSubjectTree, IsEntryTree, IsOnlyChip, IsMapTree, AreThere, FitsChip, SaysMap, TextsTellMapsApart}
use Rattle.result_files.proofs.Entries.{said}
use Rattle.result_files.proofs.Inside.{same_list, same_tree}
use Rattle.result_files.proofs.Schedules.{one_member, at_place}

is_net : (tree : Data) (what : Subject) → IsSubjectTree tree what → IsNetSubject what
is_net tree (Net n) is = tt
is_net tree (Up n) is = is
is_net tree (Down n) is = is
is_net tree (Take e) is = is
is_net tree (Next e) is = is
is_net tree (TakeWrite m p) is = is
is_net tree (Old m p b) is = is
is_net tree (TakeRead m p) is = is

-- what a tree says is plain
pub map_plain : (tree : Data) (map : StateMap) → IsMapTree tree map → IsPlainMap map
map_plain tree map is = record {
  entry = is.entry;
  one = is.one;
  plain = record {
    subjects = λ what there.
        let nets = is.entry_is.nets.is in
        let k = at_place is.entry.nets what there in
        let found = said IsSubjectTree nets.trees is.entry.nets k.0 what nets.each k.1 in
        is_net found.0 what found.1;
    memories = is.entry_is.none;
  };
}

pub only_entry : (map : StateMap) (entry : ChipMap) → IsPlainMap map → slice_get map.chips 0 ≡ Some entry → map.chips ≡ entry ∷ []
only_entry map entry plain first =
    let here : slice_get (plain.entry ∷ []) 0 ≡ Some entry = subst (λ cs. slice_get cs 0 ≡ Some entry) plain.one first in
    plain.one ∙ ap (λ e. e ∷ []) (same_Some plain.entry entry here)

pub first_plain : (map : StateMap) (entry : ChipMap) → IsPlainMap map → slice_get map.chips 0 ≡ Some entry → entry.memories ≡ []
first_plain map entry plain first =
    let here : slice_get (plain.entry ∷ []) 0 ≡ Some entry = subst (λ cs. slice_get cs 0 ≡ Some entry) plain.one first in
    subst (λ e. e.memories ≡ []) (same_Some plain.entry entry here) plain.plain.memories

fits_at : (chip : Chip) (entry : ChipMap) → ChipEntryFits chip entry → (c : ℕ) (at-chip : Chip) (at-entry : ChipMap) → slice_get (chip ∷ []) c ≡ Some at-chip → slice_get (entry ∷ []) c ≡ Some at-entry → ChipEntryFits at-chip at-entry
fits_at chip entry fits zero at-chip at-entry e f =
    subst (λ x. ChipEntryFits x at-entry) (same_Some chip at-chip e) (subst (λ x. ChipEntryFits chip x) (same_Some entry at-entry f) fits)
fits_at chip entry fits (suc c) at-chip at-entry e f = cc

fits : (chip : Chip) (map : StateMap) (entry : ChipMap) → map.chips ≡ entry ∷ [] → ChipEntryFits chip entry → AreThere chip map.outputs → FitsChip chip map
fits chip map entry one entry-fits there = λ schedule. record {
  count = rw one refl;
  chips = λ c at-chip at-entry e f.
      fits_at chip entry entry-fits c at-chip at-entry e (subst (λ cs. slice_get cs c ≡ Some at-entry) one f);
  outputs = there;
}

no_schedule : Schedule
no_schedule = record { frames = [] }

-- where the entry fits, the outputs decide
pub outputs_decide : (chip : Chip) (map : StateMap) (entry : ChipMap) (outputs : List Spot) (fine : Bool) → IsPlainMap map → slice_get map.chips 0 ≡ Some entry → outputs ≡ map.outputs → ChipEntryFits chip entry → (IsTrue fine ↔ AreThere chip outputs) → IsTrue fine ↔ FitsChip chip map
outputs_decide chip map entry outputs fine plain first same entry-fits there =
    let there-2 = subst (λ os. IsTrue fine ↔ AreThere chip os) same there in (
      λ y. fits chip map entry (only_entry map entry plain first) entry-fits (there-2.0 y),
      λ f. there-2.1 ((f no_schedule).outputs),
    )

-- the entry of a map that fits does
pub entry_of : (chip : Chip) (map : StateMap) (entry : ChipMap) → slice_get map.chips 0 ≡ Some entry → FitsChip chip map → ChipEntryFits chip entry
entry_of chip map entry first f = (f no_schedule).chips 0 chip entry refl first

-- where it does not fit, the map does not
pub entry_decides : (chip : Chip) (map : StateMap) (entry : ChipMap) (fine : Bool) → slice_get map.chips 0 ≡ Some entry → fine ≡ false → (IsTrue fine ↔ ChipEntryFits chip entry) → IsTrue fine ↔ FitsChip chip map
entry_decides chip map entry fine first is entry-fits = (
  λ t. (let wrong : false ≡ true = sym is ∙ t in cc),
  λ f. entry-fits.1 (entry_of chip map entry first f),
)

one_subject : (tree : Data) (v w : Subject) → IsSubjectTree tree v → IsSubjectTree tree w → v ≡ w
one_subject tree (Net n) (Net m) a b =
    let lists = same_list (string (codes "net") ∷ whole n.place ∷ []) (string (codes "net") ∷ whole m.place ∷ []) (sym a.tree_is ∙ b.tree_is) in
    let nets : n.place ≡ m.place = cc in
    λ i. Net (record { place = nets i })
one_subject tree (Net n) (Up m) a b = absurd b
one_subject tree (Net n) (Down m) a b = absurd b
one_subject tree (Net n) (Take e) a b = absurd b
one_subject tree (Net n) (Next e) a b = absurd b
one_subject tree (Net n) (TakeWrite m p) a b = absurd b
one_subject tree (Net n) (Old m p k) a b = absurd b
one_subject tree (Net n) (TakeRead m p) a b = absurd b
one_subject tree (Up n) w a b = absurd a
one_subject tree (Down n) w a b = absurd a
one_subject tree (Take e) w a b = absurd a
one_subject tree (Next e) w a b = absurd a
one_subject tree (TakeWrite m p) w a b = absurd a
one_subject tree (Old m p k) w a b = absurd a
one_subject tree (TakeRead m p) w a b = absurd a

one_kept : (tree : Data) (v w : Bool) → IsKeptTree tree v → IsKeptTree tree w → v ≡ w
one_kept tree v w a b = let same : boolean v ≡ boolean w = sym a ∙ b in cc

one_spot : (tree : Data) (v w : Spot) → IsSpotTree tree v → IsSpotTree tree w → v ≡ w
one_spot tree v w a b =
    let lists = same_list (whole v.chip.place ∷ whole v.net.place ∷ []) (whole w.chip.place ∷ whole w.net.place ∷ []) (sym a.tree_is ∙ b.tree_is) in
    let chips : v.chip.place ≡ w.chip.place = cc in
    let nets : v.net.place ≡ w.net.place = cc in
    λ i. record { chip = record { place = chips i }; net = record { place = nets i } }

one_entry : (tree : Data) (v w : ChipMap) → IsEntryTree tree v → IsEntryTree tree w → v ≡ w
one_entry tree v w a b =
    let nets = one_member _ IsSubjectTree one_subject tree v.nets w.nets a.nets b.nets in
    let kept = one_member _ IsKeptTree one_kept tree v.kept w.kept a.registers b.registers in
    let memories : v.memories ≡ w.memories = a.none ∙ sym b.none in
    λ i. record { nets = nets i; kept = kept i; memories = memories i }

pub same_chip : (tree c d : Data) → IsOnlyChip tree c → IsOnlyChip tree d → c ≡ d
same_chip tree c d a b =
    let lists = same_list (c ∷ []) (d ∷ []) (same_Some (list (c ∷ [])) (list (d ∷ [])) (sym a.chips ∙ b.chips)) in
    cc

-- the entry of the only chip
pub entry_said : (tree chip : Data) → IsOnlyChip tree chip → (map : StateMap) → IsMapTree tree map → (entry : ChipMap) × IsEntryTree chip entry
entry_said tree chip only map is =
    (is.entry, subst (λ d. IsEntryTree d is.entry) (same_chip tree is.chip chip is.only only) is.entry_is)

one_map : (tree : Data) (v w : StateMap) → IsMapTree tree v → IsMapTree tree w → v ≡ w
one_map tree v w a b =
    let there = subst (λ d. IsEntryTree d a.entry) (same_chip tree a.chip b.chip a.only b.only) a.entry_is in
    let entries = one_entry b.chip a.entry b.entry there b.entry_is in
    let chips : v.chips ≡ w.chips = a.one ∙ ap (λ e. e ∷ []) entries ∙ sym b.one in
    let outputs = one_member _ IsSpotTree one_spot tree v.outputs w.outputs a.outputs b.outputs in
    λ i. record { chips = chips i; outputs = outputs i }

form_at : (bytes : List ℕ) (chip : Chip) (tree : Data) → IsTextOf bytes tree → (map : StateMap) → SaysMap bytes chip map → IsMapTree tree map
form_at bytes chip tree text map says =
    subst (λ t. IsMapTree t map) (same_tree bytes says.tree tree says.text text) says.form

-- a text says what its tree says
pub map_said : (bytes : List ℕ) (chip : Chip) (tree : Data) → IsTextOf bytes tree → (map : StateMap) → SaysMap bytes chip map → (m : StateMap) × IsMapTree tree m
map_said bytes chip tree text map says = (map, form_at bytes chip tree text map says)

-- where the map that the tree says does not fit, the text says none
pub none_fits : (bytes : List ℕ) (chip : Chip) (tree : Data) (map : StateMap) (fine : Bool) → IsTextOf bytes tree → IsMapTree tree map → fine ≡ false → (IsTrue fine ↔ FitsChip chip map) → (m : StateMap) → SaysMap bytes chip m → ⊥
none_fits bytes chip tree map fine text is off fits-it m says =
    let wrong : false ≡ true = sym off ∙ fits-it.1 (subst (λ x. FitsChip chip x) (one_map tree m map (form_at bytes chip tree text m says) is) says.fits) in
    cc

-- a text says one map of a chip
pub one_said : TextsTellMapsApart
one_said bytes chip v w a b = one_map b.tree v w (form_at bytes chip b.tree b.text v a) b.form
