-- How paths of flip-flops and latches are looked up one by one.
use Rattle.std.proofs.Common.{◌≡◌, ℕ, zero, suc, ◌+◌, ◌<◌, Bor, Option, Some, None, slice_get, List, [], ◌∷◌, ◌++◌, map, take, get_or, length, refl, sym, ap, ◌∙◌, arith, Result, Err}
use Rattle.std.specs.Prelude.{filter_map}
use Rattle.id_arena.specs.declared.keys.ElemId.{ElemId}
use Rattle.domain_groups.specs.declared.openings.OpeningFault.{OpeningFault}
use Rattle.domain_groups.specs.Openings.{state_fault}
use Rattle.event_replay.specs.Checks.{Checks, first_of}
use Rattle.event_replay.proofs.Sifting.{Tells, given_more, sound_more, stops}

abbrev pub texts_at : List (Bor (List ℕ)) → List (List ℕ)
texts_at paths = map (λ path. path.now) paths

text_there : (paths : List (Bor (List ℕ))) (k : ℕ) (d : Bor (List ℕ)) → k < length paths → slice_get (texts_at paths) k ≡ Some (get_or paths k d).now
text_there [] k d low = absurd (omega arith)
text_there (p ∷ ps) zero d low = refl
text_there (p ∷ ps) (suc k) d low = text_there ps k d (omega arith)

module _ (state : List ℕ → Option ℕ) (paths : List (Bor (List ℕ))) (k : ℕ) (d : Bor (List ℕ)) (low : k < length paths) (sound : first_of (filter_map (state_fault state) (take k (texts_at paths))) ≡ None) where
  pub one_stops : {B : Type 0} (Better : B → Type 0) (f : OpeningFault) (r : Result B OpeningFault) → r ≡ Err f → Tells (state_fault state (get_or paths k d).now) f → Checks (first_of (filter_map (state_fault state) (texts_at paths))) Better r
  one_stops Better f r same check = stops (state_fault state) Better (texts_at paths) k (get_or paths k d).now f r (text_there paths k d low) sound same check

  pub one_sound : state_fault state (get_or paths k d).now ≡ None → first_of (filter_map (state_fault state) (take (k + 1) (texts_at paths))) ≡ None
  one_sound none = sound_more (state_fault state) (texts_at paths) k (get_or paths k d).now (text_there paths k d low) sound none

  pub one_gives : (ones new : List ElemId) (one : ElemId) → map (λ id. id.place) ones ≡ filter_map state (take k (texts_at paths)) → state (get_or paths k d).now ≡ Some one.place → new ≡ ones ++ one ∷ [] → map (λ id. id.place) new ≡ filter_map state (take (k + 1) (texts_at paths))
  one_gives ones new one so_far is added = given_more state (λ (id : ElemId). id.place) (texts_at paths) k (get_or paths k d).now one ones new (text_there paths k d low) so_far is added
