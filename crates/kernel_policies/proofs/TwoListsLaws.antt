-- Pages go from list to list: proofs.
use Rattle.std.specs.Prelude.{◌≡◌, ℕ, suc, ◌+◌, ◌-◌, ◌<◌, Bool, true, false, cond, List, [], length}
use Rattle.std.specs.HashMap.{get}
use Rattle.std.specs.HashSet.{contains}
use Rattle.std.proofs.Common.{arith, sym, ap, ◌∙◌}
use Rattle.clock_policy.specs.declared.key.Key.{Key}
use Rattle.page_policies.specs.Strings.{is_page, misses}
use Rattle.page_policies.specs.NextUses.{known}
use Rattle.kernel_policies.specs.declared.lists.Lists.{Lists}
use Rattle.kernel_policies.specs.declared.two_lists_parts.TwoListsParts.{TwoListsParts}
use Rattle.kernel_policies.specs.TwoLists.{ListsState, balanced, demoted, evicted, in_lists, is_low, lists_of, ratio_of, reclaimed, shadows_cut, two_lists, two_lists_misses}

pub balanced_more : (ratio n i : ℕ) (s t : ListsState) → i < n → true ≡ is_low ratio s → t ≡ demoted s → balanced ratio (n - (i + 1)) t ≡ balanced ratio (n - i) s
balanced_more ratio n i s t h low is =
    let e : n - i ≡ suc (n - (i + 1)) = omega (arith, h) in
    ap (balanced ratio (n - (i + 1))) is
    ∙ ap (λ (b : Bool). cond b (balanced ratio (n - (i + 1)) (demoted s)) s) low
    ∙ ap (λ (k : ℕ). balanced ratio k s) (sym e)

pub balanced_found : (ratio n i : ℕ) (s : ListsState) → i < n → false ≡ is_low ratio s → s ≡ balanced ratio (n - i) s
balanced_found ratio n i s h low =
    let e : n - i ≡ suc (n - (i + 1)) = omega (arith, h) in
    ap (λ (b : Bool). cond b (balanced ratio (n - (i + 1)) (demoted s)) s) low
    ∙ ap (λ (k : ℕ). balanced ratio k s) (sym e)

pub reclaimed_by : (m ratio turns : ℕ) (s t u v : ListsState) → turns ≡ length s.active → t ≡ balanced ratio turns s → u ≡ evicted t → v ≡ shadows_cut m u → v ≡ reclaimed m ratio s
reclaimed_by m ratio turns s t u v turns_are balance leave cut =
    cut
    ∙ ap (shadows_cut m) leave
    ∙ ap (λ (w : ListsState). shadows_cut m (evicted w)) balance
    ∙ ap (λ (n : ℕ). shadows_cut m (evicted (balanced ratio n s))) turns_are

pub two_lists_opens : (s : Lists) (parts : TwoListsParts) (frames ratio m : ℕ) → frames ≡ m → ratio ≡ ratio_of parts.ratio m → s.inactive ≡ [] → s.active ≡ [] → s.shadows ≡ []
    → ((q : Key) → contains is_page s.referenced q ≡ false) → ((q : Key) → known (get is_page s.left_at q) ≡ 0) → s.age ≡ 0
    → (string : List Key) → misses in_lists (two_lists frames ratio parts.arrival) (lists_of s) string ≡ two_lists_misses parts m string
unfolding two_lists_misses
two_lists_opens s parts frames ratio m frames_are ratio_is inactive active shadows none never age string =
    λ i. misses in_lists (two_lists (frames_are i) (ratio_is i) parts.arrival) (record { inactive = inactive i; active = active i; shadows = shadows i; referenced = λ q. none q i; left_at = λ q. never q i; age = age i }) string
