use Rattle.std.proofs.Common.{◌≡◌, ◌-◌, ◌+◌, ◌∷◌, ◌∙◌, List, length, drop, slice_index_or, subst, sym}
use Rattle.std.specs.HashMap.{get}
use Rattle.clock_policy.specs.declared.key.Key.{Key}
use Rattle.page_policies.specs.Optimal.{next_use}
use Rattle.page_policies.specs.Strings.{is_page}
use Rattle.whole_strings.proofs.NextUseLaws.{Known, known_more, use_is, back, uses_back}
use Rattle.whole_strings.proofs.string_uses.next_uses.Goals as goal

pub loop-seen-preserved : goal.loop-seen-preserved
loop-seen-preserved c =
    let string = c.args.string.now in
    let seen = c.loop-seen.seen in
    let rest = drop (length string - seen) string in
    let none : Key = record { process = 0; vpn = 0 } in
    let page = slice_index_or string (length string - 1 - seen) none in
    let all : drop (length string - (seen + 1)) string ≡ page ∷ rest = back none string seen c.loop-seen-test.true in
    let ends = λ (q : Key). get is_page c.loop-seen.ends q in
    let distance : c.next_use.result ≡ next_use page rest = c.next_use.ensures ∙ use_is page rest seen ends c.loop-seen.invariant.ends in
    record {
      uses = uses_back page rest (drop (length string - (seen + 1)) string) c.loop-seen.uses.items c.push.new.self.items c.next_use.result all c.loop-seen.invariant.uses distance c.in_ok-push.ensures.items;
      ends = subst (λ (l : List Key). Known (λ q. get is_page c.note.new.ends q) (seen + 1) l) (sym all) (known_more page rest seen ends (λ q. get is_page c.note.new.ends q) c.loop-seen.invariant.ends c.in_ok-note.ensures);
    }
