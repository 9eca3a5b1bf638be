use Rattle.std.proofs.Common.{◌≡◌, ◌++◌, ◌∷◌, [], length, take, arith, sym, ap, ◌∙◌}
use Rattle.std.specs.Vec.{vec_len}
use Rattle.std.proofs.Math.Seq.{take-append_seam}
use Rattle.page_memory.specs.Entries.{place_of}
use Rattle.page_memory.specs.PageRow.{pages_in}
use Rattle.page_memory.proofs.PageRows.{same_place, row_pushed}
use Rattle.page_memory.proofs.page_row.PageRow.push.Goals as goal

pub insert-requires-clause-absent : goal.insert-requires-clause-absent
insert-requires-clause-absent c = sym (same_place c.args.number c.self.inside.rights c.self.inside.bytes.items) ∙ ap (place_of c.args.number) c.self.view_is ∙ c.requires.absent

pub returns-in-Ok-clause-ok : goal.returns-in-Ok-clause-ok
returns-in-Ok-clause-ok c =
    let items : c.extend_from_slice.new.self.items ≡ c.self.inside.bytes.items ++ c.args.bytes.now = c.in_ok-extend_from_slice.ensures.items in
    (λ i. pages_in (c.in-Ok.ensures.ok i) (items i))
    ∙ row_pushed c.self.inside.rights c.self.inside.bytes.items c.args.number c.args.rights c.args.bytes.now c.self.invariant c.requires.whole
    ∙ ap (λ l. l ++ (c.args.number, record { rights = c.args.rights; bytes = c.args.bytes.now }) ∷ []) c.self.view_is

pub returns-in-Err-clause-err : goal.returns-in-Err-clause-err
returns-in-Err-clause-err c =
    let bytes = c.self.inside.bytes.items in
    let long : vec_len c.self.inside.bytes ≡ length bytes = let ok = c.self.inside.bytes.ok in omega (arith, ok) in
    let items : c.truncate.new.self.items ≡ bytes =
    c.truncate.ensures.items ∙ (λ i. take ((c.len-length.ensures ∙ long) i) (c.in_ok-extend_from_slice.ensures.items i)) ∙ take-append_seam bytes c.args.bytes.now in
    (λ i. pages_in (c.in-Err.ensures.err i) (items i)) ∙ c.self.view_is
