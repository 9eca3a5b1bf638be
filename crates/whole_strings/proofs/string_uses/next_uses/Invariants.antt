use Rattle.std.proofs.Common.{◌≡◌, ◌-◌, length, drop, reverse}
use Rattle.std.specs.HashMap.{get}
use Rattle.page_policies.specs.Strings.{is_page}
use Rattle.page_policies.specs.NextUses.{next_uses}
use Rattle.whole_strings.proofs.NextUseLaws.{Known}
use Rattle.whole_strings.proofs.string_uses.next_uses.Given as goal

abbrev pub invariant-loop-seen : goal.invariant-loop-seen
invariant-loop-seen l =
    record {
      uses : l.uses.items ≡ reverse (next_uses (drop (length l.string - l.seen) l.string));
      ends : Known (λ q. get is_page l.ends q) l.seen (drop (length l.string - l.seen) l.string);
    }
