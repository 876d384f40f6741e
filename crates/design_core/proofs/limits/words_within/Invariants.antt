-- The words so far are those of the memories so far, and few.
use Rattle.std.proofs.Common.{◌≡◌, ◌≤◌, ◌^◌, take}
use Rattle.std.specs.List.{sum_by}
use Rattle.design_core.specs.Most.{most_words}
use Rattle.design_core.proofs.limits.words_within.Given as goal

abbrev pub invariant-memories : goal.invariant-memories
invariant-memories l = record {
  sum : l.words ≡ sum_by (λ memory. 2 ^ memory.address_bits) (take l.memory-index l.memories);
  few : l.words ≤ most_words;
}
