use Rattle.guest_words.proofs.WordLaws.{added, texts_none}
use Rattle.guest_words.proofs.layout.add_texts.Goals as goal

pub loop-word-init : goal.loop-word-init
loop-word-init c = texts_none c.args.bytes.now.items

pub loop-word-preserved : goal.loop-word-preserved
loop-word-preserved c =
    added (λ s. s.now) c.args.words.now c.loop-word.word-index _ _ c.loop-word.bytes.items _ c.args.bytes.now.items c.loop-word-test.true c.loop-word.invariant
    (rw c.as_bytes.ensures.value at c.in_ok-extend_from_slice.ensures.items) c.in_ok-push.ensures.items
