use Rattle.std.proofs.Common.{◌≡◌, ◌∙◌, Bool, false, cond, ap, sym}
use Rattle.ticked_policies.specs.Framed.{brought, fresh, in_frames, noted}
use Rattle.ticked_policies.specs.Ticked.{rank_of}
use Rattle.ticked_policies.proofs.FramedLaws.{unnoted}
use Rattle.ticked_policies.proofs.ticked_state.Ticked.serve.Goals as goal

pub bring-requires : goal.bring-requires
bring-requires c =
    let out : in_frames c.args.page_use.page c.args.self.now.pages.entries ≡ false = sym c.if-note_use.ensures.found in
    ap (in_frames c.args.page_use.page) (c.note_use.ensures.used ∙ unnoted c.args.page_use.page c.args.page_use.is_written c.args.self.now.pages.entries out) ∙ out

pub returns-clause-pages : goal.returns-clause-pages
returns-clause-pages c =
    let page = c.args.page_use.page in
    let writes = c.args.page_use.is_written in
    let old = c.args.self.now.pages.entries in
    let rule = c.args.self.now.rule in
    let frames = c.args.self.now.frames in
    let out : in_frames page old ≡ false = sym c.if-note_use.ensures.found in
    c.in_ok-bring.ensures.pages
    ∙ (λ i. brought (rank_of rule) frames page (c.fresh.ensures i) ((c.note_use.ensures.used ∙ unnoted page writes old out) i))
    ∙ ap (λ (b : Bool). cond b (noted page writes old) (brought (rank_of rule) frames page (fresh writes 0) old)) (sym out)
