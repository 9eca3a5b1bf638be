use Rattle.std.proofs.Common.{◌≡◌, ◌+◌, ◌*◌, length, drop}
use Rattle.rv_asm.specs.Program.{size}
use Rattle.asm_statements.specs.declared.section.Section.TheVariants.{Text}
use Rattle.rv_asm.specs.SecondPass.{put_all, second_pass}
use Rattle.rv_asm.proofs.second_pass.fill_sections.Given as goal

abbrev pub invariant-loop-item : goal.invariant-loop-item
invariant-loop-item l = record {
  same : put_all l.items l.sections (drop l.item-index l.items) ≡ second_pass l.items;
  count : 4 * length l.sections.text + size Text (drop l.item-index l.items) ≡ size Text l.items;
}
