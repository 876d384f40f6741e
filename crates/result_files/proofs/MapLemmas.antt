-- What trees of maps say, and when they say none.
use Rattle.std.proofs.Common.{◌≡◌, ◌≢◌, ◌↔◌, ◌<◌, ℕ, zero, suc, Bool, true, false, List, [], ◌∷◌, ◌++◌, ◌+◌, Option, Some, None, IsTrue, length, take, get_or, slice_get, if◌then◌else◌, refl, sym, ap, ◌∙◌, subst, arith}
use Rattle.std.specs.Prelude.{map, codes, min, Result, Ok, Err, IsErr, ◌≤◌}
use Rattle.std.specs.Result.{IsErrAnd}
use Rattle.std.specs.Str.{bytes_eq}
use Rattle.std.specs.List.{zip}
use Rattle.std.proofs.lemmas.List.{take_more}
use Rattle.std.proofs.lemmas.Option.{same_Some, slice_get_within, get_or_from_slice_get, slice_get_read, slice_get-map}
use Rattle.serde_json.specs.Data.{Data, boolean, string}
use Rattle.emu_machine.specs.declared.map.ChipMap.{ChipMap}
use Rattle.emu_machine.specs.declared.map.MemMap.{MemMap}
use Rattle.emu_machine.specs.declared.map.Spot.{Spot}
use Rattle.emu_machine.specs.declared.map.StateMap.{StateMap}
use Rattle.emu_machine.specs.declared.map.Subject.{Subject}
use Rattle.emu_machine.specs.declared.map.Subject.TheVariants.{Net, Up, Down, Take, Next, TakeWrite, Old, TakeRead}
use Rattle.emu_machine.specs.declared.netlist.Chip.{Chip}
use Rattle.result_files.specs.Trees.{list, whole}
use Rattle.result_files.specs.Lists.{SayEach, SaysNone, FirstBad, HasList}
use Rattle.result_files.specs.Rows.{Row, IsRow}
use Rattle.result_files.specs.Map.{subject_row, IsSubjectTree, IsKeptTree, IsSpotTree, IsMemoryTree, IsEntryTree, EntryFits, SaysEntry, HasEntries}
use Rattle.serde_json.specs.View.{view}
use Rattle.serde_json.specs.declared.value.Value.{Value}
use Rattle.json_members.specs.JsonText.{IsTextOf}
use Rattle.result_files.specs.Faults.{Answers}
use Rattle.result_files.specs.Map.{AreThere, IsMapTree, IsOfVersion, IsBadMap, MapAnswers}
use Rattle.result_files.specs.Map.IsBadMap.{at as entry_at, rest as rest_at}
use Rattle.result_files.specs.Readers.{Chips}
use Rattle.result_files.specs.declared.fault.FormFault.{FormFault}
use Rattle.result_files.specs.declared.fault.FormFault.TheVariants.{NotYet}
use Rattle.result_files.specs.declared.result_fault.ResultFault.{ResultFault}
use Rattle.result_files.specs.declared.result_fault.ResultFault.TheVariants.{NetlistLex, NetlistForm, NetlistShape, ScheduleNotJson, ScheduleVersion, ScheduleForm, MapNotJson, MapVersion, MapForm, NoMemory}
use Rattle.std.proofs.lemmas.Slice.Zip.{length-zip}
use Rattle.std.proofs.lemmas.List.{length-map}
use Rattle.result_files.proofs.Entries.{say_more}
use Rattle.result_files.proofs.ScheduleFaults.{none_said}
use Rattle.result_files.proofs.Inside.{same_list}
use Rattle.result_files.proofs.Schedules.{one_member}

same_wholes : (ns ms : List ℕ) → map whole ns ≡ map whole ms → ns ≡ ms
same_wholes [] [] e = refl
same_wholes [] (m ∷ ms) e = cc
same_wholes (n ∷ ns) [] e = cc
same_wholes (n ∷ ns) (m ∷ ms) e =
    let rest : map whole ns ≡ map whole ms = cc in
    let again = same_wholes ns ms rest in
    cc

-- a tree is one row
pub same_row : (tree : Data) (a b : Row) → IsRow tree a → IsRow tree b → a ≡ b
same_row tree a b is also =
    let lists = same_list (string a.0 ∷ map whole a.1) (string b.0 ∷ map whole b.1) (sym is.tree_is ∙ also.tree_is) in
    let names : a.0 ≡ b.0 = cc in
    let wholes : map whole a.1 ≡ map whole b.1 = cc in
    let numbers = same_wholes a.1 b.1 wholes in
    λ i. (names i, numbers i)

one_number : (ℕ → Subject) → List ℕ → Option Subject
one_number make (n ∷ []) = Some (make n)
one_number make other = None

two_numbers : (ℕ → ℕ → Subject) → List ℕ → Option Subject
two_numbers make (n ∷ m ∷ []) = Some (make n m)
two_numbers make other = None

three_numbers : (ℕ → ℕ → ℕ → Subject) → List ℕ → Option Subject
three_numbers make (n ∷ m ∷ k ∷ []) = Some (make n m k)
three_numbers make other = None

-- the subject that a row writes
subject_back : Row → Option Subject
subject_back (name, numbers) =
    if bytes_eq name (codes "net") then one_number (λ n. Net (record { place = n })) numbers
    else if bytes_eq name (codes "up") then one_number (λ n. Up (record { place = n })) numbers
    else if bytes_eq name (codes "down") then one_number (λ n. Down (record { place = n })) numbers
    else if bytes_eq name (codes "take") then one_number (λ n. Take (record { place = n })) numbers
    else if bytes_eq name (codes "next") then one_number (λ n. Next (record { place = n })) numbers
    else if bytes_eq name (codes "takew") then two_numbers (λ m p. TakeWrite (record { place = m }) p) numbers
    else if bytes_eq name (codes "old") then three_numbers (λ m p b. Old (record { place = m }) p b) numbers
    else two_numbers (λ m p. TakeRead (record { place = m }) p) numbers

back_is : (s : Subject) → subject_back (subject_row s) ≡ Some s
unfolding subject_back one_number two_numbers three_numbers
back_is (Net n) = refl
back_is (Up n) = refl
back_is (Down n) = refl
back_is (Take e) = refl
back_is (Next e) = refl
back_is (TakeWrite m p) = refl
back_is (Old m p b) = refl
back_is (TakeRead m p) = refl

pub one_subject : (tree : Data) (v w : Subject) → IsSubjectTree tree v → IsSubjectTree tree w → v ≡ w
one_subject tree v w a b =
    same_Some v w (sym (back_is v) ∙ ap subject_back (same_row tree (subject_row v) (subject_row w) a b) ∙ back_is w)

pub one_kept : (tree : Data) (v w : Bool) → IsKeptTree tree v → IsKeptTree tree w → v ≡ w
one_kept tree v w a b = let same : boolean v ≡ boolean w = sym a ∙ b in cc

pub one_spot : (tree : Data) (v w : Spot) → IsSpotTree tree v → IsSpotTree tree w → v ≡ w
one_spot tree v w a b =
    let lists = same_list (whole v.chip.place ∷ whole v.net.place ∷ []) (whole w.chip.place ∷ whole w.net.place ∷ []) (sym a.tree_is ∙ b.tree_is) in
    let chips : v.chip.place ≡ w.chip.place = cc in
    let nets : v.net.place ≡ w.net.place = cc in
    λ i. record { chip = record { place = chips i }; net = record { place = nets i } }

pub one_memory : (tree : Data) (v w : MemMap) → IsMemoryTree tree v → IsMemoryTree tree w → v ≡ w
one_memory tree v w a b =
    let named = same_Some (whole v.of.place) (whole w.of.place) (sym a.of ∙ b.of) in
    let places : v.of.place ≡ w.of.place = cc in
    let kept = one_member _ IsKeptTree one_kept tree v.kept w.kept a.reads b.reads in
    λ i. record { of = record { place = places i }; kept = kept i }

pub one_entry : (tree : Data) (v w : ChipMap) → IsEntryTree tree v → IsEntryTree tree w → v ≡ w
one_entry tree v w a b =
    let nets = one_member _ IsSubjectTree one_subject tree v.nets w.nets a.nets b.nets in
    let kept = one_member _ IsKeptTree one_kept tree v.kept w.kept a.registers b.registers in
    let memories = one_member _ IsMemoryTree one_memory tree v.memories w.memories a.memories b.memories in
    λ i. record { nets = nets i; kept = kept i; memories = memories i }

-- where the entry that the tree says does not fit, none does
pub entry_refused : (version : ℕ) (chip : Chip) (tree : Data) (entry : ChipMap) (fine : Bool) → IsEntryTree tree entry → fine ≡ false → (IsTrue fine ↔ EntryFits version chip entry) → (other : ChipMap) → SaysEntry version (chip, tree) other → ⊥
entry_refused version chip tree entry fine is off fits other says =
    let wrong : false ≡ true = sym off ∙ fits.1 (subst (λ e. EntryFits version chip e) (one_entry tree other entry says.form is) says.fits) in
    cc

-- a tree has one list of entries
pub same_entries : (tree : Data) (a b : List Data) → HasEntries tree a → HasEntries tree b → a ≡ b
same_entries tree a b is also = same_list a b (same_Some (list a) (list b) (sym is.there ∙ also.there))

-- lists side by side
pub zip_at : {A B : Type 0} (xs : List A) (ys : List B) (k : ℕ) (x : A) (y : B) → slice_get xs k ≡ Some x → slice_get ys k ≡ Some y → slice_get (zip xs ys) k ≡ Some (x, y)
zip_at [] ys k x y a b = cc
zip_at (x ∷ xs) [] k a b at-a at-b = cc
zip_at (x ∷ xs) (y ∷ ys) zero a b at-a at-b =
    let e = same_Some x a at-a in let f = same_Some y b at-b in λ i. Some (e i, f i)
zip_at (x ∷ xs) (y ∷ ys) (suc k) a b at-a at-b = zip_at xs ys k a b at-a at-b

-- one thing more that says a value
pub say_one_more : {X A : Type 0} (Says : X → A → Type 0) (things : List X) (values : List A) (k : ℕ) (thing : X) (value : A) → slice_get things k ≡ Some thing → SayEach Says (take k things) values → Says thing value → SayEach Says (take (k + 1) things) (values ++ value ∷ [])
say_one_more Says things values k thing value at before here =
    let within = slice_get_within things k thing at in
    let item = get_or_from_slice_get things k thing thing at in
    let same : take (k + 1) things ≡ take k things ++ thing ∷ [] = take_more things k thing within ∙ ap (λ x. take k things ++ x ∷ []) item in
    subst (λ ts. SayEach Says ts (values ++ value ∷ [])) (sym same) (say_more Says (take k things) values thing value before here)

-- a chip beside its tree
pub pair_at : (chips : List Chip) (trees : List Value) (k : ℕ) (chip : Chip) (tree : Value) → k < length chips → k < length trees → chip ≡ get_or chips k chip → tree ≡ get_or trees k tree → slice_get (zip chips (map view trees)) k ≡ Some (chip, view tree)
pair_at chips trees k chip tree in-chips in-trees at-chip at-tree =
    let item = slice_get_read trees (length trees) k tree refl in-trees at-tree in
    let seen : slice_get (map view trees) k ≡ Some (view tree) = rw (slice_get-map, item) refl in
    zip_at chips (map view trees) k chip (view tree) (slice_get_read chips (length chips) k chip refl in-chips at-chip) seen

-- the first chip whose tree says no entry for it
pub pair_bad : (version : ℕ) (pairs : List (Chip × Data)) (entries : List ChipMap) (k : ℕ) (pair : Chip × Data) (fault : FormFault) → slice_get pairs k ≡ Some pair → SayEach (SaysEntry version) (take k pairs) entries → fault ≡ NotYet → Answers (SaysEntry version pair) (Err fault) → FirstBad (SaysEntry version) (SaysNone (SaysEntry version)) pairs k
pair_bad version pairs entries k pair fault at before is answer = record {
  values = entries;
  before = before;
  thing = pair;
  there = at;
  bad = none_said (SaysEntry version pair) fault is answer;
}

take_whole : {A : Type 0} (xs : List A) (k : ℕ) → length xs ≤ k → take k xs ≡ xs
take_whole [] zero le = refl
take_whole [] (suc k) le = refl
take_whole (x ∷ xs) zero le = absurd (omega arith)
take_whole (x ∷ xs) (suc k) le = ap (λ ys. x ∷ ys) (take_whole xs k (omega arith))

-- as many chips as have a tree are all pairs
pub all_pairs : (version : ℕ) (chips : List Chip) (trees : List Value) (entries : List ChipMap) (k : ℕ) → min (length chips) (length trees) ≤ k → SayEach (SaysEntry version) (take k (zip chips (map view trees))) entries → SayEach (SaysEntry version) (zip chips (map view trees)) entries
all_pairs version chips trees entries k reached each =
    let size = length-map trees view in
    let pairs = length-zip chips (map view trees) in
    let small : min (length chips) (length (map view trees)) ≡ min (length chips) (length trees) = ap (λ n. min (length chips) n) size in
    subst (λ ps. SayEach (SaysEntry version) ps entries) (take_whole (zip chips (map view trees)) k (omega arith)) each

module _ (version : ℕ) (chips : List Chip) (tree : Data) where
  -- no list of chips
  pub no_chips : ((trees : List Data) → HasEntries tree trees → ⊥) → IsBadMap version chips tree (length chips)
  no_chips none = rest_at (λ trees has. absurd (none trees has)) (λ m is. none is.trees is.entries)

  -- where the entries are fine and there is no map, the rest is bad
  rest_bad : (trees : List Data) (entries : List ChipMap) → HasEntries tree trees → SayEach (SaysEntry version) (zip chips trees) entries → ((m : StateMap) → IsMapTree version chips tree m → ⊥) → IsBadMap version chips tree (length chips)
  rest_bad trees entries has each none =
      rest_at (λ others also. (entries, subst (λ ts. SayEach (SaysEntry version) (zip chips ts) entries) (same_entries tree trees others has also) each)) none

  -- a wrong number of entries
  pub other_count : (trees : List Data) (entries : List ChipMap) → HasEntries tree trees → SayEach (SaysEntry version) (zip chips trees) entries → length trees ≢ length chips → IsBadMap version chips tree (length chips)
  other_count trees entries has each other =
      rest_bad trees entries has each
      (λ m is. other (ap length (same_entries tree trees is.trees has is.entries) ∙ is.count))

  -- no outputs
  pub no_outputs : (trees : List Data) (entries : List ChipMap) (fault : FormFault) → HasEntries tree trees → SayEach (SaysEntry version) (zip chips trees) entries → fault ≡ NotYet → Answers (λ outputs. HasList (codes "outputs") IsSpotTree tree outputs × AreThere chips outputs) (Err fault) → IsBadMap version chips tree (length chips)
  no_outputs trees entries fault has each is answer =
      rest_bad trees entries has each
      (λ m of. none_said (λ outputs. HasList (codes "outputs") IsSpotTree tree outputs × AreThere chips outputs) fault is answer m.outputs (of.outputs, of.exist))

  -- a fault of an entry is one of the map
  carried_on : (trees : List Data) (fault : ResultFault) → HasEntries tree trees → Chips (SayEach (SaysEntry version) (zip chips trees)) (FirstBad (SaysEntry version) (SaysNone (SaysEntry version)) (zip chips trees)) (Err fault) → Chips (IsMapTree version chips tree) (IsBadMap version chips tree) (Err fault)
  carried_on trees (NetlistLex e) has answer = answer
  carried_on trees (NetlistForm t) has answer = answer
  carried_on trees (NetlistShape c n) has answer = answer
  carried_on trees ScheduleNotJson has answer = answer
  carried_on trees ScheduleVersion has answer = answer
  carried_on trees (ScheduleForm f s a) has answer = answer
  carried_on trees MapNotJson has answer = answer
  carried_on trees MapVersion has answer = answer
  carried_on trees (MapForm e) has answer = entry_at trees e has answer
  carried_on trees NoMemory has answer = answer

  pub entries_refused : (trees : List Data) (r : Result StateMap ResultFault) (fault : ResultFault) → IsErr r × IsErrAnd r (λ e. e ≡ fault) → HasEntries tree trees → Chips (SayEach (SaysEntry version) (zip chips trees)) (FirstBad (SaysEntry version) (SaysNone (SaysEntry version)) (zip chips trees)) (Err fault) → Chips (IsMapTree version chips tree) (IsBadMap version chips tree) r
  entries_refused trees (Ok value) fault is has answer = absurd is.1
  entries_refused trees (Err e) fault is has answer =
      subst (λ f. Chips (IsMapTree version chips tree) (IsBadMap version chips tree) (Err f)) (sym is.1) (carried_on trees fault has answer)

-- the text is answered as its tree is
pub map_text_answers : (bytes : List ℕ) (chips : List Chip) (version : ℕ) (tree : Data) (r : Result StateMap ResultFault) → IsTextOf bytes tree → IsOfVersion tree version → Chips (IsMapTree version chips tree) (IsBadMap version chips tree) r → MapAnswers bytes chips r
map_text_answers bytes chips version tree (Ok m) text of answer =
    record { tree = tree; text = text; version = version; version_is = of; form = answer }
map_text_answers bytes chips version tree (Err (NetlistLex e)) text of answer = answer
map_text_answers bytes chips version tree (Err (NetlistForm t)) text of answer = answer
map_text_answers bytes chips version tree (Err (NetlistShape c n)) text of answer = answer
map_text_answers bytes chips version tree (Err ScheduleNotJson) text of answer = answer
map_text_answers bytes chips version tree (Err ScheduleVersion) text of answer = answer
map_text_answers bytes chips version tree (Err (ScheduleForm f s a)) text of answer = answer
map_text_answers bytes chips version tree (Err MapNotJson) text of answer = absurd answer
map_text_answers bytes chips version tree (Err MapVersion) text of answer = absurd answer
map_text_answers bytes chips version tree (Err (MapForm e)) text of answer =
    record { tree = tree; text = text; is = record { version = version; version_is = of; bad = answer } }
map_text_answers bytes chips version tree (Err NoMemory) text of answer = answer

-- where the outputs of the tree are not there, no others are
pub outputs_refused : (tree : Data) (chips : List Chip) (outputs seen : List Spot) (fine : Bool) → seen ≡ outputs → HasList (codes "outputs") IsSpotTree tree outputs → fine ≡ false → (IsTrue fine ↔ AreThere chips seen) → (others : List Spot) → HasList (codes "outputs") IsSpotTree tree others × AreThere chips others → ⊥
outputs_refused tree chips outputs seen fine same has off tells others is =
    let one = one_member _ IsSpotTree one_spot tree others outputs is.0 has in
    let wrong : false ≡ true = sym off ∙ tells.1 (subst (λ os. AreThere chips os) (one ∙ sym same) is.1) in
    cc

pub as_many : (trees : List Value) (n : ℕ) → length trees ≢ n → length (map view trees) ≢ n
as_many trees n other same = other (sym (length-map trees view) ∙ same)
