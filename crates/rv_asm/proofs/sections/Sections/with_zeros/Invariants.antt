use Rattle.std.proofs.Common.{◌≡◌, ◌++◌, replicate}
use Rattle.rv_asm.specs.Words.{AreWords, words_from}
use Rattle.rv_asm.proofs.sections.Sections.with_zeros.Given as goal

abbrev pub invariant-loop : goal.invariant-loop
invariant-loop l = record {
  kept : AreWords l.self-inside.words.items l.self-inside.instructions.items;
  text : words_from l.self-inside.words.items l.self-inside.instructions.items ≡ l.fn.self.text;
  bytes : l.self-inside.bytes.items ≡ l.fn.self.bytes ++ replicate l.counter 0;
}
