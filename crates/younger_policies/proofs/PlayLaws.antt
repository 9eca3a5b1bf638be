-- What a play does by and by: proofs.
use Rattle.std.specs.Prelude.{◌≡◌, ◌≢◌, ℕ, zero, suc, ◌+◌, ◌-◌, ◌<◌, Bool, true, false, cond, Option, Some, None, Result, Ok, Err, refl}
use Rattle.std.proofs.Common.{arith, sym, ap, ◌∙◌}
use Rattle.clock_policy.specs.declared.key.Key.{Key}
use Rattle.clock_policy.specs.declared.answer.Kind.{Kind}
use Rattle.clock_policy.specs.declared.answer.Kind.TheVariants as kind
use Rattle.clock_policy.specs.declared.entry.EntryKind.{EntryKind}
use Rattle.clock_policy.specs.declared.entry.EntryKind.TheVariants.{Hot, Test, Cold, Shadow}
use Rattle.clock_policy.specs.declared.refusal.Refusal.{Refusal}
use Rattle.clock_policy.specs.declared.refusal.Refusal.TheVariants.{Full, NoMemory}
use Rattle.clock_policy.specs.ClockPro.{ClockState, Answer, admitted, question_of, kind_of, kind_admitted, is_full, appended, grown, sent_to_end}
use Rattle.younger_policies.specs.ClockProPlay.{Play, asked, entered, placed, is_full_refusal}

pub placed_more : (n i : ℕ) (p : Key) (s t : Play) → i < n → is_full_refusal (admitted p s.clock).1 ≡ true → t ≡ asked (question_of s.clock) s → placed (n - (i + 1)) p t ≡ placed (n - i) p s
placed_more n i p s t h full is =
    let e : n - i ≡ suc (n - (i + 1)) = omega (arith, h) in
    ap (placed (n - (i + 1)) p) is
    ∙ sym (ap (λ (b : Bool). cond b (placed (n - (i + 1)) p (asked (question_of s.clock) s)) (entered p s)) full)
    ∙ ap (λ (k : ℕ). placed k p s) (sym e)

-- a list that refuses a page stays as it is
pub refused_stays : (p : Key) (s : ClockState) (e : Refusal) → (admitted p s).1 ≡ Err e → s ≡ (admitted p s).0
unfolding admitted
refused_stays p s e h = by_kind (kind_of p s.entries) h
  where
    by_kind : (o : Option EntryKind) → (kind_admitted o p s).1 ≡ Err e → s ≡ (kind_admitted o p s).0
    by_kind None h = by_room (is_full s) h
      where
        by_room : (b : Bool) → (let r : Answer Kind = cond b (s, Err Full) (appended (record { key = p; kind = Test }) s, Ok kind.Test) in r).1 ≡ Err e → s ≡ (let r : Answer Kind = cond b (s, Err Full) (appended (record { key = p; kind = Test }) s, Ok kind.Test) in r).0
        by_room true h = refl
        by_room false h = cc
    by_kind (Some Hot) h = refl
    by_kind (Some Test) h = refl
    by_kind (Some Cold) h = refl
    by_kind (Some Shadow) h = by_room (is_full s) h
      where
        by_room : (b : Bool) → (let r : Answer Kind = cond b (s, Err Full) (grown (sent_to_end p Hot s), Ok kind.Hot) in r).1 ≡ Err e → s ≡ (let r : Answer Kind = cond b (s, Err Full) (grown (sent_to_end p Hot s), Ok kind.Hot) in r).0
        by_room true h = refl
        by_room false h = cc

abbrev pub refused_by : Refusal → Result Kind Refusal
refused_by e = Err e

pub refused_moved : (p : Key) (s t : ClockState) (e : Refusal) → (refused_by e ≢ refused_by NoMemory → refused_by e ≡ (admitted p s).1) → refused_by e ≢ refused_by NoMemory → t ≡ s → t ≡ (admitted p s).0
refused_moved p s t e exact other same = same ∙ refused_stays p s e (sym (exact other))

pub full_stays : (p : Key) (s : ClockState) → is_full_refusal (admitted p s).1 ≡ true → (admitted p s).0 ≡ s
full_stays p s h = by_result (admitted p s).1 refl h
  where
    by_result : (r : Result Kind Refusal) → (admitted p s).1 ≡ r → is_full_refusal r ≡ true → (admitted p s).0 ≡ s
    by_result (Ok kind) is h = cc
    by_result (Err e) is h = sym (refused_stays p s e is)

-- where there is a frame for the page, it comes in at once
pub placed_at_once : (n : ℕ) (p : Key) (s : Play) → is_full_refusal (admitted p s.clock).1 ≡ false → placed n p s ≡ entered p s
placed_at_once zero p s room = refl
placed_at_once (suc n) p s room = ap (λ (b : Bool). cond b (placed n p (asked (question_of s.clock) s)) (entered p s)) room

-- where there is none and no turn is left, everything stays
pub placed_never : (p : Key) (s : Play) → is_full_refusal (admitted p s.clock).1 ≡ true → placed 0 p s ≡ s
placed_never p s full = ap (λ (k : ClockState). let t : Play = record { clock = k; used = s.used } in t) (full_stays p s.clock full)

-- a page that is refused for want of a frame leaves the list
pub refused_same : (p : Key) (s t : ClockState) (b : Bool) → b ≡ is_full_refusal (admitted p s).1 → b ≡ true → t ≡ (admitted p s).0 → t ≡ s
refused_same p s t b full is moved = moved ∙ full_stays p s (sym full ∙ is)
