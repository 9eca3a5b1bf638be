use Rattle.std.proofs.Common.{◌≡◌, ◌+◌, ◌-◌, ◌*◌, ◌<◌, ◌++◌, length, take, refl, ap, subst, ◌∙◌, arith}
use Rattle.std.specs.Vec.{vec_len}
use Rattle.std.proofs.lemmas.List.{take_all}
use Rattle.page_memory.specs.Pages.{zero_page}
use Rattle.page_memory.specs.PageRow.{pages_in}
use Rattle.page_memory.specs.Rights.{read_write}
use Rattle.page_memory.specs.Entries.{with_added, LacksOne}
use Rattle.page_memory.proofs.EntriesLaws.{front_stays, grown_lacks}
use Rattle.page_memory.proofs.PageRows.{zeros, zeroed_row, row_lacks}
use Rattle.page_memory.proofs.page_row.PageRow.add_zeroed.Goals as goal

pub returns-in_err-add_zeroed-clause-missing : goal.returns-in_err-add_zeroed-clause-missing
returns-in_err-add_zeroed-clause-missing c is =
    subst (LacksOne c.args.first c.args.count) c.self.view_is (row_lacks c.self.inside.rights c.self.inside.bytes.items c.self.invariant c.args.first c.args.count (c.in_err-add_zeroed.ensures.missing refl))

pub overflow_mul-len : goal.overflow_mul-len
overflow_mul-len c =
    let grown = zeroed_row c.self.inside.rights c.self.inside.bytes.items c.self.invariant c.args.first c.args.count in
    let n : c.len.result ≡ length c.self.inside.rights + grown.more = c.len.ensures ∙ ap length c.in_ok-add_zeroed.ensures.ok ∙ grown.long in
    let few = grown.few in
    let all = c.self.invariant in
    omega (arith, c.self.inside.bytes.ok.0, n, few, all, c.requires)

pub returns-in-Ok-clause-ok : goal.returns-in-Ok-clause-ok
returns-in-Ok-clause-ok c =
    let es = c.self.inside.rights in
    let bytes = c.self.inside.bytes.items in
    let all : length bytes ≡ length es * 4096 = c.self.invariant in
    let grown = zeroed_row es bytes all c.args.first c.args.count in
    let n : c.len.result ≡ length es + grown.more = c.len.ensures ∙ ap length c.in_ok-add_zeroed.ensures.ok ∙ grown.long in
    let whole : take (c.len.result * 4096) bytes ≡ bytes = take_all (c.len.result * 4096) bytes (omega (arith, n, all)) in
    let rest : c.len.result * 4096 - vec_len c.self.inside.bytes ≡ grown.more * 4096 = omega (arith, n, all, c.self.inside.bytes.ok) in
    let items : c.resize.new.self.items ≡ bytes ++ zeros (grown.more * 4096) = c.in-Ok.ensures.items ∙ (λ i. whole i ++ zeros (rest i)) in
    (λ i. pages_in (c.in_ok-add_zeroed.ensures.ok i) (items i)) ∙ grown.row ∙ ap (with_added c.args.first c.args.count zero_page) c.self.view_is

pub returns-in-Err-clause-err : goal.returns-in-Err-clause-err
returns-in-Err-clause-err c =
    let es = c.self.inside.rights in
    let rights : c.truncate.new.self ≡ es =
    c.truncate.ensures ∙ (λ i. take (c.len-before.ensures i) (c.in_ok-add_zeroed.ensures.ok i)) ∙ front_stays es c.args.first c.args.count read_write in
    (λ i. pages_in (rights i) (c.in-Err.ensures.items i)) ∙ c.self.view_is

pub returns-in-Err-clause-missing : goal.returns-in-Err-clause-missing
returns-in-Err-clause-missing c is =
    let es = c.self.inside.rights in
    let all : length c.self.inside.bytes.items ≡ length es * 4096 = c.self.invariant in
    let n : c.len.result ≡ length (with_added c.args.first c.args.count read_write es) = c.len.ensures ∙ ap length c.in_ok-add_zeroed.ensures.ok in
    let full = c.in-Err.ensures.full in
    let more : length es < length (with_added c.args.first c.args.count read_write es) = omega (arith, n, all, full, c.self.inside.bytes.ok.0) in
    subst (LacksOne c.args.first c.args.count) c.self.view_is (row_lacks es c.self.inside.bytes.items all c.args.first c.args.count (grown_lacks es c.args.first c.args.count read_write more))
