use Rattle.std.proofs.Common.{◌≡◌, None, map, take}
use Rattle.std.specs.Prelude.{filter_map}
use Rattle.domain_groups.specs.Openings.{led_to, plain_word, word_fault}
use Rattle.event_replay.specs.Checks.{first_of}
use Rattle.event_replay.specs.Opened.{plain_word_of}
use Rattle.event_replay.proofs.opening.judged_words.Given as goal

abbrev pub invariant-given : goal.invariant-given
invariant-given l = record {
  sound : first_of (filter_map (word_fault l.design (led_to l.memories)) (take l.entry-index l.given)) ≡ None;
  gives : map plain_word_of l.words ≡ filter_map (plain_word (led_to l.memories)) (take l.entry-index l.given);
}
