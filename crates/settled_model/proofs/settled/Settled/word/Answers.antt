-- The address has its place in the table of words.
use Rattle.std.proofs.Common.{◌≡◌, ◌<◌, ◌+◌, ℕ, List, length, subst, sym, ap, ◌∙◌, arith}
use Rattle.std.specs.Prelude.{slice_index}
use Rattle.design_core.specs.declared.parts.Parts.{Parts}
use Rattle.design_core.specs.Limits.{word_count}
use Rattle.design_core.specs.Valuation.{IsAddress}
use Rattle.settled_model.specs.Held.{Held, AreBases, first_word, word_in}
use Rattle.settled_model.proofs.Sizes.{base_at}
use Rattle.settled_model.proofs.Places.{in_words}
use Rattle.settled_model.proofs.settled.Settled.word.Goals as goal

-- where an address stands, by the tables
place_of : (p : Parts) (bases table : List ℕ) (m a : ℕ) → AreBases p bases → table ≡ bases → IsAddress p m a → slice_index table m + a ≡ first_word p m + a
place_of p bases table m a h same address =
    ap (λ (xs : List ℕ). slice_index xs m + a) same ∙ ap (λ (k : ℕ). k + a) (base_at p bases m address.0 h address.1)

pub word_at-requires-clause-room : goal.word_at-requires-clause-room
word_at-requires-clause-room c =
    let p = c.self.inside.ranked.now.design in
    let address : IsAddress p c.args.mem.place c.args.address = subst (λ (h : Held). IsAddress h.parts c.args.mem.place c.args.address) (sym c.self.view_is) c.requires in
    let place : slice_index c.deref.result.now c.args.mem.place + c.args.address ≡ first_word p c.args.mem.place + c.args.address =
    place_of p c.self.inside.bases.items c.deref.result.now c.args.mem.place c.args.address c.self.invariant.2 c.deref.ensures.value address in
    let low : first_word p c.args.mem.place + c.args.address < word_count p = in_words p c.args.mem.place c.args.address address in
    let size : length c.deref-2.result.now ≡ word_count p = ap length c.deref-2.ensures.value ∙ c.self.invariant.3 in
    omega arith

pub returns : goal.returns
returns c =
    let p = c.self.inside.ranked.now.design in
    let address : IsAddress p c.args.mem.place c.args.address = subst (λ (h : Held). IsAddress h.parts c.args.mem.place c.args.address) (sym c.self.view_is) c.requires in
    let place : slice_index c.deref.result.now c.args.mem.place + c.args.address ≡ first_word p c.args.mem.place + c.args.address =
    place_of p c.self.inside.bases.items c.deref.result.now c.args.mem.place c.args.address c.self.invariant.2 c.deref.ensures.value address in
    c.word_at.ensures
    ∙ ap (slice_index c.deref-2.result.now) place
    ∙ ap (λ (xs : List ℕ). slice_index xs (first_word p c.args.mem.place + c.args.address)) c.deref-2.ensures.value
    ∙ ap (λ (h : Held). word_in h.parts h.words c.args.mem.place c.args.address) c.self.view_is
