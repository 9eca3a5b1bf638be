use Rattle.std.proofs.Common.{◌-◌, arith, sym}
use Rattle.elf_image.proofs.RisingLaws.{rises, falls_at}
use Rattle.elf_image.proofs.parts.do_rise.Goals as goal

pub returns-then-pages-place : goal.returns-then-pages-place
returns-then-pages-place c = sym (falls_at c.args.pages.now (c.loop-place.place - 1) c.loop-place.place _ _ (omega arith) (omega arith) c.if-pages-place.true)

pub returns : goal.returns
returns c = sym (rises c.args.pages.now (λ k m d e l. c.loop-place.invariant k m d e (omega arith)))
