-- Calls that have not returned, the last one last.
use Rattle.std.proofs.Common.{◌≡◌, ℕ, suc, ◌+◌, ◌-◌, ◌<◌, ◌≤◌, Bool, true, false, cond, List, [], ◌∷◌, ◌++◌, length, get_or, take, drop, Option, Some, None, refl, sym, ap, ◌∙◌, add-one, arith}
use Rattle.std.specs.Option.{option_map, option_or}
use Rattle.std.proofs.lemmas.List.{take_more, take_all, take-append-le, drop-append-le, drop_all, length-take}
use Rattle.guest_profile.specs.declared.call_site.CallCount.{CallCount}
use Rattle.guest_profile.specs.declared.call_site.CallSite.{CallSite}
use Rattle.guest_profile.specs.declared.call_stack.PendingCall.{PendingCall}
use Rattle.guest_profile.specs.declared.call_stack.Sought.{Sought}
use Rattle.guest_profile.specs.declared.sums.Sums.{Sums}
use Rattle.guest_profile.specs.Calls.{is_sought, last_sought, ended, ended_call}

-- one more call at the end
sought_push : (sought : Sought) (calls : List PendingCall) (one : PendingCall) → last_sought sought (calls ++ one ∷ []) ≡ cond (is_sought sought one) (Some (length calls)) (last_sought sought calls)
sought_push sought [] one = refl
sought_push sought (first ∷ later) one =
    ap (λ o. option_or (option_map (λ place. place + 1) o) (cond (is_sought sought first) (Some 0) None)) (sought_push sought later one)
    ∙ choose (is_sought sought one)
  where
    choose : (b : Bool) → option_or (option_map (λ place. place + 1) (cond b (Some (length later)) (last_sought sought later))) (cond (is_sought sought first) (Some 0) None)
        ≡ cond b (Some (suc (length later))) (option_or (option_map (λ place. place + 1) (last_sought sought later)) (cond (is_sought sought first) (Some 0) None))
    choose true = ap (λ n. Some n) (add-one (length later))
    choose false = refl

step : (sought : Sought) (calls : List PendingCall) (place : ℕ) (d : PendingCall) → 0 < place → place ≤ length calls
    → last_sought sought (take place calls) ≡ cond (is_sought sought (get_or calls (place - 1) d)) (Some (place - 1)) (last_sought sought (take (place - 1) calls))
step sought calls place d some within =
    let one : PendingCall = get_or calls (place - 1) d in
    let same : place ≡ place - 1 + 1 = omega arith in
    let size : length (take (place - 1) calls) ≡ place - 1 = omega (arith, length-take (place - 1) calls) in
    ap (λ n. last_sought sought (take n calls)) same
    ∙ ap (last_sought sought) (take_more calls (place - 1) d (omega arith))
    ∙ sought_push sought (take (place - 1) calls) one
    ∙ ap (λ n. cond (is_sought sought one) (Some n) (last_sought sought (take (place - 1) calls))) size

-- the search from the end finds this one, or goes on before it
pub sought_found : (sought : Sought) (calls : List PendingCall) (place : ℕ) (d : PendingCall) → 0 < place → place ≤ length calls → is_sought sought (get_or calls (place - 1) d) ≡ true
    → last_sought sought (take place calls) ≡ Some (place - 1)
sought_found sought calls place d some within is = step sought calls place d some within ∙ ap (λ b. cond b (Some (place - 1)) (last_sought sought (take (place - 1) calls))) is

pub sought_passed : (sought : Sought) (calls : List PendingCall) (place : ℕ) (d : PendingCall) → 0 < place → place ≤ length calls → is_sought sought (get_or calls (place - 1) d) ≡ false
    → last_sought sought (take place calls) ≡ last_sought sought (take (place - 1) calls)
sought_passed sought calls place d some within is = step sought calls place d some within ∙ ap (λ b. cond b (Some (place - 1)) (last_sought sought (take (place - 1) calls))) is

pub sought_all : (sought : Sought) (calls : List PendingCall) → last_sought sought calls ≡ last_sought sought (take (length calls) calls)
sought_all sought calls = ap (last_sought sought) (sym (take_all (length calls) calls (omega arith)))

pub sought_none : (sought : Sought) (calls : List PendingCall) (place : ℕ) → place ≤ 0 → last_sought sought (take place calls) ≡ None
sought_none sought calls place none = let zeroth : place ≡ 0 = omega arith in ap (λ n. last_sought sought (take n calls)) zeroth

-- the last of some calls ends first
ended_push : (done : Sums) (calls : List PendingCall) (one : PendingCall) (site : CallSite) (count : Option CallCount) → ended done (calls ++ one ∷ []) site count ≡ ended done calls site (ended_call done one site count)
ended_push done [] one site count = refl
ended_push done (first ∷ later) one site count = ap (ended_call done first site) (ended_push done later one site count)

-- so it does of those from a place on
pub ended_last : (done : Sums) (place : ℕ) (calls rest : List PendingCall) (one : PendingCall) (site : CallSite) (count : Option CallCount) → calls ≡ rest ++ one ∷ [] → place ≤ length rest
    → ended done (drop place calls) site count ≡ ended done (drop place rest) site (ended_call done one site count)
ended_last done place calls rest one site count is within =
    ap (λ l. ended done (drop place l) site count) is
    ∙ ap (λ l. ended done l site count) (drop-append-le place rest (one ∷ []) within)
    ∙ ended_push done (drop place rest) one site count

pub taken_last : (place : ℕ) (calls rest : List PendingCall) (one : PendingCall) → calls ≡ rest ++ one ∷ [] → place ≤ length rest → take place calls ≡ take place rest
taken_last place calls rest one is within = ap (take place) is ∙ take-append-le place rest (one ∷ []) within

-- none is left
pub ended_none : (done : Sums) (place : ℕ) (calls : List PendingCall) (site : CallSite) (count : Option CallCount) → length calls ≤ place → ended done (drop place calls) site count ≡ count
ended_none done place calls site count past = ap (λ l. ended done l site count) (drop_all place calls past)
