-- That texts stand for one recording of a design at most.
use Rattle.std.proofs.Common.{ℕ, ◌≡◌, List, [], ◌∷◌, map, ◌∙◌, refl, ap, subst}
use Rattle.id_arena.specs.declared.keys.ElemId.{ElemId}
use Rattle.design_core.specs.declared.values.Event.{Event}
use Rattle.design_core.specs.declared.values.PortBit.{PortBit}
use Rattle.domain_groups.specs.Answers as groups
use Rattle.domain_groups.specs.Events.{EachRecordingHasOneAnswer, SaysEvents}
use Rattle.domain_groups.specs.Openings.{EachOpeningHasOneAnswer}
use Rattle.flattening.specs.Laws.{EachTextHasOneDesign}
use Rattle.event_replay.specs.Opened.{plain, plain_word_of}
use Rattle.settled_model.specs.declared.opening.OpenWord.{OpenWord}
use Rattle.settled_model.specs.declared.opening.Opening as opened
use Rattle.emu_app.specs.declared.recording.Recording.{Recording}
use Rattle.case_texts.specs.declared.what.What.TheVariants.{Design, Cells, Groups, Opening, Events}
use Rattle.emu_app.specs.Reading.{TextsTellRecordingsApart, TextsTellRunsApart}
use Rattle.emu_app.specs.Runs.{RecordingSays}
use Rattle.case_texts.proofs.Readings.{one_events, one_groups, one_plain_opening}

-- ## Openings by plain numbers

-- lists are the same whose images are, where things are the same whose images are
same_images : {X Y : Type 0} (f : X → Y) → ((x z : X) → f x ≡ f z → x ≡ z) → (xs zs : List X) → map f xs ≡ map f zs → xs ≡ zs
same_images f one [] [] same = refl
same_images f one [] (z ∷ zs) same = absurd (let none : [] ≡ f z ∷ map f zs = same in cc)
same_images f one (x ∷ xs) [] same = absurd (let none : f x ∷ map f xs ≡ [] = same in cc)
same_images f one (x ∷ xs) (z ∷ zs) same =
    let both : f x ∷ map f xs ≡ f z ∷ map f zs = same in
    let first : f x ≡ f z = cc in
    let rest : map f xs ≡ map f zs = cc in
    ap (λ y. y ∷ xs) (one x z first) ∙ ap (λ ys. z ∷ ys) (same_images f one xs zs rest)

same_element : (a b : ElemId) → a.place ≡ b.place → a ≡ b
same_element a b same = ap (λ (k : ℕ). record { place = k }) same

same_word : (a b : OpenWord) → plain_word_of a ≡ plain_word_of b → a ≡ b
same_word a b same =
    let mem : a.mem.place ≡ b.mem.place = ap (λ w. w.mem) same in
    let address : a.address ≡ b.address = ap (λ w. w.address) same in
    let value : a.value ≡ b.value = ap (λ w. w.value) same in
    let word : ℕ → ℕ → ℕ → OpenWord = λ m k n. record { mem = record { place = m }; address = k; value = n } in
    ap (λ m. word m a.address a.value) mem ∙ ap (λ k. word b.mem.place k a.value) address ∙ ap (λ n. word b.mem.place b.address n) value

-- an opening is told by its plain numbers
same_opening : (a b : opened.Opening) → plain a ≡ plain b → a ≡ b
same_opening a b same =
    let inputs : a.inputs ≡ b.inputs = ap (λ o. o.inputs) same in
    let ones : a.ones ≡ b.ones = same_images (λ id. id.place) same_element a.ones b.ones (ap (λ o. o.ones) same) in
    let words : a.words ≡ b.words = same_images plain_word_of same_word a.words b.words (ap (λ o. o.words) same) in
    let made : List PortBit → List ElemId → List OpenWord → opened.Opening = λ x y z. record { inputs = x; ones = y; words = z } in
    ap (λ x. made x a.ones a.words) inputs ∙ ap (λ y. made b.inputs y a.words) ones ∙ ap (λ z. made b.inputs b.ones z) words

-- ## One recording

abbrev pub recorded : opened.Opening → List Event → Recording
recorded opening events = record { opening = opening; events = events }

-- texts stand for one recording of a design at most
pub one_recording : groups.EachTextHasOneAnswer → EachOpeningHasOneAnswer → EachRecordingHasOneAnswer → TextsTellRecordingsApart
one_recording grouped openings recordings texts p r other says also =
    let v : also.groups ≡ says.groups = one_groups grouped p (texts Groups) also.groups says.groups also.says_groups says.says_groups in
    let opening : other.opening ≡ r.opening =
    same_opening other.opening r.opening (one_plain_opening openings p (texts Opening) (plain other.opening) (plain r.opening) also.opening says.opening) in
    let events : other.events ≡ r.events =
    one_events recordings says.groups p (texts Events) other.events r.events (subst (λ w. SaysEvents w p.inputs (texts Events) other.events) v also.events) says.events in
    ap (λ x. recorded x other.events) opening ∙ ap (λ x. recorded r.opening x) events

-- texts stand for one design and one recording at most
pub one_run : EachTextHasOneDesign → TextsTellRecordingsApart → TextsTellRunsApart
one_run apart recordings top texts p q r other stand also =
    let same : q ≡ p = apart (texts Design) (texts Cells) top q p also.first.design stand.first.design in
    (same, recordings texts p r other stand.recorded (subst (λ x. RecordingSays texts x other) same also.recorded))
