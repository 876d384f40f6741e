-- Each word has an address, which has its place in the table.
use Rattle.std.proofs.Common.{◌≡◌, ◌<◌, ◌+◌, ℕ, length, get_or, ap, ◌∙◌, arith}
use Rattle.std.specs.Prelude.{slice_index, slice_set}
use Rattle.std.proofs.lemmas.List.{drop_more, length-set}
use Rattle.design_core.specs.Limits.{word_count}
use Rattle.design_core.specs.Valuation.{IsAddress}
use Rattle.settled_model.specs.declared.opening.OpenWord.{OpenWord}
use Rattle.settled_model.specs.Held.{first_word}
use Rattle.settled_model.proofs.Places.{word_address, memory_within, in_words, one_word}
use Rattle.settled_model.proofs.memory.put_words.Goals as goal

abbrev zero_word : OpenWord
zero_word = record { mem = record { place = 0 }; address = 0; value = 0 }

pub bounds-bases-place : goal.bounds-bases-place
bounds-bases-place c =
    let w = get_or c.args.given.now c.words.word-index zero_word in
    let address : IsAddress c.args.design.now w.mem.place w.address = word_address c.args.design.now c.args.given.now c.words.word-index zero_word c.requires.given c.words-test.true in
    let within : w.mem.place < length c.args.design.now.memories = memory_within c.args.design.now w.mem.place w.address address in
    let place : c.place.result ≡ w.mem.place = c.place.ensures in
    omega (arith, c.requires.bases.size)

pub bounds-words-bases : goal.bounds-words-bases
bounds-words-bases c =
    let w = get_or c.args.given.now c.words.word-index zero_word in
    let address : IsAddress c.args.design.now w.mem.place w.address = word_address c.args.design.now c.args.given.now c.words.word-index zero_word c.requires.given c.words-test.true in
    let within : w.mem.place < length c.args.design.now.memories = memory_within c.args.design.now w.mem.place w.address address in
    let place : c.place.result ≡ w.mem.place = c.place.ensures in
    let base : slice_index c.args.bases.now c.place.result ≡ first_word c.args.design.now w.mem.place =
    ap (slice_index c.args.bases.now) place ∙ c.requires.bases.each w.mem.place (omega arith) in
    let low : first_word c.args.design.now w.mem.place + w.address < word_count c.args.design.now = in_words c.args.design.now w.mem.place w.address address in
    omega (arith, c.words.invariant.size, c.requires.size)

pub words-preserved : goal.words-preserved
words-preserved c =
    let w = get_or c.args.given.now c.words.word-index zero_word in
    let address : IsAddress c.args.design.now w.mem.place w.address = word_address c.args.design.now c.args.given.now c.words.word-index zero_word c.requires.given c.words-test.true in
    let within : w.mem.place < length c.args.design.now.memories = memory_within c.args.design.now w.mem.place w.address address in
    let place : c.place.result ≡ w.mem.place = c.place.ensures in
    let base : slice_index c.args.bases.now c.place.result ≡ first_word c.args.design.now w.mem.place =
    ap (slice_index c.args.bases.now) place ∙ c.requires.bases.each w.mem.place (omega arith) in
    let size : length c.words.words ≡ word_count c.args.design.now = c.words.invariant.size ∙ c.requires.size in
    record {
      rest = λ m a has.
          one_word c.args.design.now c.args.given.now c.words.word-index w (drop_more c.args.given.now c.words.word-index zero_word c.words-test.true) c.words.words _ m a has address size
          (ap (λ (k : ℕ). slice_set c.words.words (k + w.address) w.value) base)
          ∙ c.words.invariant.rest m a has;
      size = length-set c.words.words _ w.value ∙ c.words.invariant.size;
    }
