use Rattle.std.proofs.Common.{◌+◌, ◌∙◌, ap, arith, length}
use Rattle.guest_words.specs.Words.{head_size}
use Rattle.guest_words.proofs.WordLaws.{numbers_more, numbers_none, place_none, taken_texts, word_fits}
use Rattle.guest_words.proofs.layout.numbers_of.Goals as goal

pub loop-word-init : goal.loop-word-init
loop-word-init c =
    let count = length c.args.words.now in
    record {
      numbers = numbers_none count (c.args.address + head_size count) _ (rw c.new-numbers.ensures.items at c.in_ok-push.ensures.items);
      place = place_none c.args.address count;
    }

pub overflow_cast-place : goal.overflow_cast-place
overflow_cast-place c = omega (arith, word_fits (λ s. s.now) c.args.words.now c.loop-word.word-index c.args.address 4294967296 c.loop-word-test.true c.requires.low)

pub overflow_add-place-in-loop-word : goal.overflow_add-place-in-loop-word
overflow_add-place-in-loop-word c = omega (arith, word_fits (λ s. s.now) c.args.words.now c.loop-word.word-index c.args.address 4294967296 c.loop-word-test.true c.requires.low)

pub overflow_add-place-in-loop-word-2 : goal.overflow_add-place-in-loop-word-2
overflow_add-place-in-loop-word-2 c =
    omega (arith, c.loop-word.invariant.place, word_fits (λ s. s.now) c.args.words.now c.loop-word.word-index c.args.address 4294967296 c.loop-word-test.true c.requires.low)

pub loop-word-preserved : goal.loop-word-preserved
loop-word-preserved c =
    let count = length c.args.words.now in
    record {
      numbers = numbers_more (λ s. s.now) c.args.words.now c.loop-word.word-index count (c.args.address + head_size count) c.loop-word.place c.loop-word.numbers.items _
          c.loop-word-test.true c.loop-word.invariant.numbers c.loop-word.invariant.place c.in_ok-push-2.ensures.items;
      place = omega (arith, c.loop-word.invariant.place, c.loop-word-test.true, taken_texts (λ s. s.now) c.args.words.now c.loop-word.word-index);
    }
