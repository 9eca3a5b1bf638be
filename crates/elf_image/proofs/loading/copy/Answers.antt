use Rattle.std.proofs.Common.{◌∙◌, ◌*◌, ◌+◌, ◌-◌, ap, arith, ℕ}
use Rattle.page_memory.specs.Pages.{Page}
use Rattle.elf_image.proofs.PageBytes.{copied_between, nothing_copied}
use Rattle.elf_image.proofs.loading.copy.Goals as goal

pub returns-then-start-end-clause-bytes : goal.returns-then-start-end-clause-bytes
returns-then-start-end-clause-bytes c f was =
    let from : ℕ = c.args.segment.now.offset + (c.max-start.result - c.from-address.result) in
    ap (λ (p : Page). p.bytes) c.put_bytes.ensures
    ∙ copied_between c.args.file.now c.args.segment.now f c.args.page.now.bytes (4096 * c.args.number) 4096 c.max-start.result c.min-end.result from (c.max-start.result - 4096 * c.from.result) (from + (c.min-end.result - c.max-start.result) - from) (omega arith) (omega arith) (omega arith) (omega arith) (omega arith) (omega arith) (omega arith) was

pub returns-else-start-end-clause-bytes : goal.returns-else-start-end-clause-bytes
returns-else-start-end-clause-bytes c f was = nothing_copied c.args.file.now c.args.segment.now f c.args.page.now.bytes (4096 * c.args.number) 4096 (omega arith) was
