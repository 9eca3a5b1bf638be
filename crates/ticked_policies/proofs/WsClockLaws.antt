-- WSClock's hand goes from page to page: proofs.
use Rattle.std.specs.Prelude.{◌≡◌, ℕ, suc, ◌+◌, ◌-◌, ◌<◌, ◌≤◌, Bool, true, false, cond, List, [], refl}
use Rattle.std.specs.HashMap.{get}
use Rattle.std.proofs.Common.{arith, sym, ap, ◌∙◌}
use Rattle.clock_policy.specs.declared.key.Key.{Key}
use Rattle.page_policies.specs.Strings.{is_page}
use Rattle.page_policies.specs.Ordered.{last_of}
use Rattle.ticked_policies.specs.declared.hand_step.HandStep.{HandStep}
use Rattle.ticked_policies.specs.declared.hand_step.HandStep.TheVariants.{Passes, Writes, Finds}
use Rattle.ticked_policies.specs.declared.page_use.PageUse.{PageUse}
use Rattle.ticked_policies.specs.declared.working_set_time.WorkingSetTime.{WorkingSetTime}
use Rattle.ticked_policies.specs.declared.ws_clock.WsClock.{WsClock}
use Rattle.ticked_policies.specs.Uses.{misses}
use Rattle.ticked_policies.specs.WsClock.{WsClockState, circle_of, ends_as, finds, hand_step, in_ws_clock, is_changed, marked, moved_on, passed, sought, tau_of, turned, turned_by, unmarked, ws_clock, ws_clock_misses}

goes_by : (step : HandStep) (n tau : ℕ) (so_far : HandStep) (s : WsClockState) → finds step ≡ false → turned n tau (ends_as step so_far) (passed tau (last_of s.pages) s) ≡ turned_by step (turned n tau) tau so_far s
goes_by Passes n tau so_far s h = refl
goes_by Writes n tau so_far s h = refl
goes_by Finds n tau so_far s h = cc

pub turned_more : (n i tau : ℕ) (so_far later step : HandStep) (s t : WsClockState) → i < n → step ≡ hand_step tau (last_of s.pages) s → false ≡ finds step → later ≡ ends_as step so_far
    → t ≡ passed tau (last_of s.pages) s → turned (n - (i + 1)) tau later t ≡ turned (n - i) tau so_far s
turned_more n i tau so_far later step s t h is none ends goes =
    let e : n - i ≡ suc (n - (i + 1)) = omega (arith, h) in
    (λ j. turned (n - (i + 1)) tau (ends j) (goes j))
    ∙ goes_by step (n - (i + 1)) tau so_far s (sym none)
    ∙ ap (λ (k : HandStep). turned_by k (turned (n - (i + 1)) tau) tau so_far s) is
    ∙ ap (λ (k : ℕ). turned k tau so_far s) (sym e)

pub sought_more : (n i : ℕ) (s t : WsClockState) → i < n → true ≡ is_changed (last_of s.pages) s → t ≡ moved_on (last_of s.pages) s → sought (n - (i + 1)) t ≡ sought (n - i) s
sought_more n i s t h changed is =
    let e : n - i ≡ suc (n - (i + 1)) = omega (arith, h) in
    ap (sought (n - (i + 1))) is
    ∙ ap (λ (b : Bool). cond b (sought (n - (i + 1)) (moved_on (last_of s.pages) s)) s) changed
    ∙ ap (λ (k : ℕ). sought k s) (sym e)

pub sought_found : (n i : ℕ) (s : WsClockState) → i < n → false ≡ is_changed (last_of s.pages) s → s ≡ sought (n - i) s
sought_found n i s h changed =
    let e : n - i ≡ suc (n - (i + 1)) = omega (arith, h) in
    ap (λ (b : Bool). cond b (sought (n - (i + 1)) (moved_on (last_of s.pages) s)) s) changed
    ∙ ap (λ (k : ℕ). sought k s) (sym e)

pub ws_clock_opens : (s : WsClock) (set : WorkingSetTime) (m : ℕ) → s.frames ≡ m → s.tau ≡ tau_of set.tau m → s.pages ≡ [] → ((q : Key) → marked (get is_page s.marks q) ≡ unmarked) → s.time ≡ 0
    → (string : List PageUse) → misses in_ws_clock (ws_clock s.frames s.tau) (circle_of s) string ≡ ws_clock_misses set m string
unfolding ws_clock_misses
ws_clock_opens s set m frames tau pages none time string = λ i. misses in_ws_clock (ws_clock (frames i) (tau i)) (record { pages = pages i; marks = λ q. none q i; time = time i }) string
