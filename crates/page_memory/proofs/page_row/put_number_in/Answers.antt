use Rattle.std.proofs.Common.{◌≡◌, ◌+◌, ◌-◌, ◌*◌, ◌/◌, ◌++◌, take, drop, ap, ◌∙◌, arith}
use Rattle.byteorder.specs.Endian.{little_bytes}
use Rattle.page_memory.specs.Words.{bytes_in}
use Rattle.page_memory.specs.Pages.{overwritten}
use Rattle.page_memory.proofs.PageRows.{part_written}
use Rattle.page_memory.proofs.page_row.put_number_in.Goals as goal

pub returns : goal.returns
returns c =
    let size : c.args.first + 4096 - c.args.first ≡ 4096 = omega arith in
    let at : c.args.first ≡ c.args.first / 4096 * 4096 = omega (arith, c.requires.whole) in
    let xs = c.args.bytes.now in
    let word = little_bytes (bytes_in c.args.width) c.args.word in
    part_written c.args.first (c.args.first + 4096 - c.args.first) xs c.put_number_from.new.page _ size
    (c.put_number_from.ensures ∙ ap (λ k. overwritten (take k (drop c.args.first xs)) c.args.offset word) size)
    ∙ ap (λ a. take a xs ++ (overwritten (take 4096 (drop a xs)) c.args.offset word ++ drop (a + 4096) xs)) at
