use Rattle.std.proofs.Common.{ap, length, arith}
use Rattle.rv_asm.specs.SecondPass.{Sections}
use Rattle.rv_asm.proofs.Spelling.{spell_length}
use Rattle.rv_asm.proofs.sections.Sections.count.Goals as goal

pub returns : goal.returns
returns c =
    let full = c.self.inside.words.ok.0 in
    let same = spell_length _ _ c.self.invariant.spell in
    let view = ap (λ (s : Sections). length s.text) c.self.view_is in
    let len = c.len.ensures in
    omega arith
