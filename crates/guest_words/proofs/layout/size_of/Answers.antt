use Rattle.std.proofs.Common.{◌∙◌}
use Rattle.guest_words.proofs.ObjectLaws.{size_more, size_none}
use Rattle.guest_words.proofs.layout.size_of.Goals as goal

pub loop-word-init : goal.loop-word-init
loop-word-init c = c.from-size.ensures ∙ size_none

pub loop-word-preserved : goal.loop-word-preserved
loop-word-preserved c =
    size_more (λ s. s.now) c.args.words.now c.loop-word.word-index _ c.loop-word.size c.saturating_add.result c.saturating_add-size.result c.loop-word-test.true
    c.loop-word.invariant c.saturating_add.ensures c.saturating_add-size.ensures
