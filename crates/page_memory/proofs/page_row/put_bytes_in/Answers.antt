use Rattle.std.proofs.Common.{◌≡◌, ◌+◌, ◌-◌, ◌*◌, take, drop, ap, ◌∙◌, arith}
use Rattle.page_memory.specs.Pages.{overwritten}
use Rattle.page_memory.proofs.PageRows.{part_written}
use Rattle.page_memory.proofs.page_row.put_bytes_in.Goals as goal

pub returns : goal.returns
returns c =
    let size : c.args.place * 4096 + 4096 - c.args.place * 4096 ≡ 4096 = omega arith in
    part_written (c.args.place * 4096) (c.args.place * 4096 + 4096 - c.args.place * 4096) c.args.bytes.now c.put_bytes.new.page _ size
    (c.put_bytes.ensures ∙ ap (λ k. overwritten (take k (drop (c.args.place * 4096) c.args.bytes.now)) c.args.offset c.args.from.now) size)
