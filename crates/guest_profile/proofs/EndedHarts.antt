-- Harts whose calls have all returned, one after the other.
use Rattle.std.proofs.Common.{◌≡◌, ℕ, ◌+◌, ◌<◌, List, [], ◌∷◌, ◌++◌, length, get_or, take, drop, set, map, Option, refl, sym, ap, ◌∙◌, arith}
use Rattle.std.proofs.lemmas.List.{take_more, take_more_set, drop_more, drop-set-lt, length-drop, map-append}
use Rattle.guest_profile.specs.declared.call_site.CallCount.{CallCount}
use Rattle.guest_profile.specs.declared.call_site.CallSite.{CallSite}
use Rattle.guest_profile.specs.Calls.{HartCalls, none_pending, ended, all_ended}

-- two lists with the same rest have the same next element and the same rest behind it
same_next : (harts now : List HartCalls) (place : ℕ) (hart : HartCalls) → place < length now → drop place now ≡ drop place harts → hart ≡ get_or now place hart
    → (place < length harts) × (get_or harts place hart ≡ hart) × (drop (place + 1) now ≡ drop (place + 1) harts)
same_next harts now place hart within rest at =
    let sizes : length (drop place now) ≡ length (drop place harts) = ap length rest in
    let there : place < length harts = omega (arith, length-drop place now, length-drop place harts) in
    let mine : drop place now ≡ get_or now place hart ∷ drop (place + 1) now = drop_more now place hart within in
    let its : drop place harts ≡ get_or harts place hart ∷ drop (place + 1) harts = drop_more harts place hart there in
    let both : get_or now place hart ∷ drop (place + 1) now ≡ get_or harts place hart ∷ drop (place + 1) harts = sym mine ∙ rest ∙ its in
    (there, cc, cc)

-- one more has ended
pub front_more : (harts now : List HartCalls) (place : ℕ) (hart : HartCalls) → place < length now → take place now ≡ map none_pending (take place harts) → drop place now ≡ drop place harts → hart ≡ get_or now place hart
    → take (place + 1) (set now place (none_pending hart)) ≡ map none_pending (take (place + 1) harts)
front_more harts now place hart within front rest at =
    let next = same_next harts now place hart within rest at in
    take_more_set now place (none_pending hart) within
    ∙ ap (λ l. l ++ none_pending hart ∷ []) front
    ∙ ap (λ (h : HartCalls). map none_pending (take place harts) ++ none_pending h ∷ []) (sym next.1)
    ∙ sym (map-append none_pending (take place harts) (get_or harts place hart ∷ []))
    ∙ ap (map none_pending) (sym (take_more harts place hart next.0))

pub rest_more : (harts now : List HartCalls) (place : ℕ) (hart : HartCalls) → place < length now → drop place now ≡ drop place harts → hart ≡ get_or now place hart
    → drop (place + 1) (set now place (none_pending hart)) ≡ drop (place + 1) harts
rest_more harts now place hart within rest at =
    drop-set-lt (place + 1) now place (none_pending hart) (omega arith) ∙ (same_next harts now place hart within rest at).2

ended_push : (harts : List HartCalls) (one : HartCalls) (site : CallSite) (count : Option CallCount) → all_ended (harts ++ one ∷ []) site count ≡ ended one.done one.pending site (all_ended harts site count)
ended_push [] one site count = refl
ended_push (first ∷ others) one site count = ended_push others one site (ended first.done first.pending site count)

pub calls_more : (harts now : List HartCalls) (place : ℕ) (hart : HartCalls) (site : CallSite) (count : Option CallCount) → place < length now → drop place now ≡ drop place harts → hart ≡ get_or now place hart
    → all_ended (take (place + 1) harts) site count ≡ ended hart.done hart.pending site (all_ended (take place harts) site count)
calls_more harts now place hart site count within rest at =
    let next = same_next harts now place hart within rest at in
    ap (λ l. all_ended l site count) (take_more harts place hart next.0 ∙ ap (λ h. take place harts ++ h ∷ []) next.1)
    ∙ ended_push (take place harts) hart site count
