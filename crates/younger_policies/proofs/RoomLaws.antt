-- Which answers make room for a page that is refused while each frame has its page.
use Rattle.std.specs.Prelude.{◌≡◌, ℕ, ◌+◌, ◌==◌, ◌&&◌, Bool, true, false, cond, not, Option, Some, None, Result, Ok, Err, refl}
use Rattle.std.proofs.Common.{arith, sym, ap, inl, inr, ◌∙◌}
use Rattle.std.proofs.lemmas.Bool.Decides.{nat_tests}
use Rattle.clock_policy.specs.declared.key.Key.{Key}
use Rattle.clock_policy.specs.declared.entry.EntryKind.{EntryKind}
use Rattle.clock_policy.specs.declared.entry.EntryKind.TheVariants.{Hot, Test, Cold, Shadow}
use Rattle.clock_policy.specs.declared.answer.Kind.{Kind}
use Rattle.clock_policy.specs.declared.answer.Kind.TheVariants as kind
use Rattle.clock_policy.specs.declared.answer.Verdict.{Verdict}
use Rattle.clock_policy.specs.declared.answer.Verdict.TheVariants.{GoOn, Victim}
use Rattle.clock_policy.specs.declared.refusal.Refusal.{Refusal}
use Rattle.clock_policy.specs.declared.refusal.Refusal.TheVariants.{Full}
use Rattle.clock_policy.specs.ClockPro.{ClockState, Answer, kind_of, question_of, answered, admitted, kind_admitted, is_full, appended, grown, sent_to_end}
use Rattle.clock_policy.specs.Lawful.{Lawful}
use Rattle.clock_policy.specs.Residents.{residents, is_key, found_in_frame, has_resident, takes}
use Rattle.clock_policy.proofs.ResidentLaws.{answered_residents}
use Rattle.clock_policy.proofs.AdmitLaws.{admitted_barred, Barred, full_is, key_residents}
use Rattle.clock_policy.proofs.ClockLaws.{answered_lawful}
use Rattle.clock_policy.proofs.KeptLaws.{answered_frames}
use Rattle.younger_policies.specs.ClockProPlay.{bit_of, is_full_refusal, makes_room}
use Rattle.younger_policies.proofs.ClockPlayLaws.{full_has}

-- a page that is in no frame is refused just where each frame has its page
out_refused : (p : Key) (s : ClockState) → has_resident p s ≡ false → is_full_refusal (admitted p s).1 ≡ is_full s
unfolding admitted
out_refused p s out = by_kind (kind_of p s.entries) out
  where
    by_room : (b : Bool) (t : ClockState) (k : Kind) → is_full_refusal (let r : Answer Kind = cond b (s, Err Full) (t, Ok k) in r).1 ≡ b
    by_room true t k = refl
    by_room false t k = refl

    by_kind : (o : Option EntryKind) → found_in_frame o ≡ false → is_full_refusal (kind_admitted o p s).1 ≡ is_full s
    by_kind None out = by_room (is_full s) (appended (record { key = p; kind = Test }) s) kind.Test
    by_kind (Some Hot) out = cc
    by_kind (Some Test) out = cc
    by_kind (Some Cold) out = cc
    by_kind (Some Shadow) out = by_room (is_full s) (grown (sent_to_end p Hot s)) kind.Hot

full_out : (p : Key) (s : ClockState) → is_full_refusal (admitted p s).1 ≡ true → has_resident p s ≡ false
full_out p s full = by_result (admitted p s).1 refl full
  where
    barred : (e : Refusal) → Barred e p s → is_full_refusal (Err e) ≡ true → has_resident p s ≡ false
    barred e (inl why) full = absurd (no (sym (ap (λ (r : Refusal). is_full_refusal (Err r)) why.0) ∙ full))
      where
        no : false ≡ true → ⊥
        no h = cc
    barred e (inr why) full = why.1

    by_result : (r : Result Kind Refusal) → (admitted p s).1 ≡ r → is_full_refusal r ≡ true → has_resident p s ≡ false
    by_result (Ok kind) is full = cc
    by_result (Err e) is full = barred e (admitted_barred p s e is) full

-- a mark is never that of a page that is gone
mark_takes : (mark : Bool) (r : Result Verdict Refusal) → takes (bit_of mark) r ≡ makes_room r
mark_takes true (Ok GoOn) = refl
mark_takes false (Ok GoOn) = refl
mark_takes mark (Ok (Victim k)) = refl
mark_takes mark (Err e) = refl

-- An answer that names no page to leave leaves each frame its page, and one that does makes room.
pub room_made : (p q : Key) (mark : Bool) (s : ClockState) → Lawful s → question_of s ≡ Some q → is_full_refusal (admitted p s).1 ≡ true →
    is_full_refusal (admitted p (answered (bit_of mark) s).0).1 ≡ not (makes_room (answered (bit_of mark) s).1)
room_made p q mark s lawful asks full =
    let t : ClockState = (answered (bit_of mark) s).0 in
    let r : Result Verdict Refusal = (answered (bit_of mark) s).1 in
    let after : Lawful t = answered_lawful (bit_of mark) s lawful in
    let out : has_resident p t ≡ false = gone (has_resident p t) (has_resident p s) (residents t (is_key p)) (residents s (is_key p)) (cond (takes (bit_of mark) r && is_key p q) 1 0)
    (key_residents p t after) (key_residents p s lawful) (full_out p s full) (answered_residents (is_key p) (bit_of mark) s q lawful asks) in
    let counts : residents t (λ _. true) + cond (makes_room r && true) 1 0 ≡ s.frames =
    ap (λ (b : Bool). residents t (λ _. true) + cond (b && true) 1 0) (sym (mark_takes mark r)) ∙ answered_residents (λ _. true) (bit_of mark) s q lawful asks ∙ full_has p s full in
    out_refused p t out ∙ full_is t ∙ ap (λ (n : ℕ). residents t (λ _. true) == n) (answered_frames (bit_of mark) s) ∙ left (makes_room r) (residents t (λ _. true)) s.frames counts
  where
    gone : (b c : Bool) (n m k : ℕ) → n ≡ cond b 1 0 → m ≡ cond c 1 0 → c ≡ false → n + k ≡ m → b ≡ false
    gone true true n m k e f g h = g
    gone true false n m k e f g h = absurd (omega (arith, e, f, h))
    gone false c n m k e f g h = refl

    left : (b : Bool) (n m : ℕ) → n + cond (b && true) 1 0 ≡ m → (n == m) ≡ not b
    left true n m h = grind (arith, nat_tests)
    left false n m h = grind (arith, nat_tests)
