-- How each call changes the number of resident entries that pass a test of their keys.
use Rattle.std.specs.Prelude.{◌≡◌, ℕ, ◌+◌, ◌*◌, Bool, true, false, ◌==◌, ◌&&◌, cond, nat_lt, Some, None, List, [], ◌∷◌, ◌++◌, take, drop, Result, Ok, Err, refl}
use Rattle.std.proofs.Common.{arith, ap}
use Rattle.clock_policy.specs.declared.key.Key.{Key}
use Rattle.clock_policy.specs.declared.entry.Entry.{Entry}
use Rattle.clock_policy.specs.declared.entry.EntryKind.{EntryKind}
use Rattle.clock_policy.specs.declared.entry.EntryKind.TheVariants.{Hot, Test, Cold, Shadow}
use Rattle.clock_policy.specs.declared.answer.Bit.{Bit}
use Rattle.clock_policy.specs.declared.answer.Bit.TheVariants.{Zero, One, Gone}
use Rattle.clock_policy.specs.declared.answer.Verdict.{Verdict}
use Rattle.clock_policy.specs.declared.answer.Verdict.TheVariants.{GoOn, Victim}
use Rattle.clock_policy.specs.declared.refusal.Refusal.{Refusal}
use Rattle.clock_policy.specs.ClockPro.{ClockState, number, place, place_of, found_key, is_shadow, shadow_count, test_ended, tests_ended, trimmed_part, trimmed_list, hot_left, relisted, removed, appended, marked, sent_to_end, grown, fallen, turned_to, cold_hand_on, shadowed, trimmed, trimmed_once, asked_entry, question_of, gone_on, gives_up, heeded, kind_answered, entry_answered, answered}
use Rattle.clock_policy.specs.Residents.{in_frame, is_resident_that, residents, is_gone, takes}
use Rattle.clock_policy.specs.Lawful.{Lawful}
use Rattle.clock_policy.proofs.LookupLaws.{any_shadow}
use Rattle.clock_policy.proofs.CountLaws.{number-append, number-split, number-set, IsIn, place_holds}
use Rattle.clock_policy.proofs.ClockLaws.{removed_number, turned_number, sent_number, asked_in, steady_of}
use Rattle.clock_policy.proofs.SteadyLaws.{Based, Steady}

-- Tests that end leave the resident entries.

test_ended_same : (r : Key → Bool) (e : Entry) → number (is_resident_that r) (test_ended e.kind e) ≡ cond (is_resident_that r e) 1 0
test_ended_same r e =
    elim e.kind as (λ t. e.kind ≡ t → number (is_resident_that r) (test_ended t e) ≡ cond (in_frame t && r e.key) 1 0) [
      | Hot ↦ λ h. rw h (omega arith)
      | Test ↦ λ h. omega arith
      | Cold ↦ λ h. rw h (omega arith)
      | Shadow ↦ λ h. refl
    ] refl

tests_ended_same : (r : Key → Bool) (l : List Entry) → number (is_resident_that r) (tests_ended l) ≡ number (is_resident_that r) l
tests_ended_same r [] = refl
tests_ended_same r (e ∷ es) = omega (arith, number-append (is_resident_that r) (test_ended e.kind e) (tests_ended es), test_ended_same r e, tests_ended_same r es)

no_frame : (t : EntryKind) → is_shadow t ≡ true → in_frame t ≡ false
no_frame Hot h = cc
no_frame Test h = cc
no_frame Cold h = cc
no_frame Shadow h = refl

trimmed_part_same : (r : Key → Bool) (l : List Entry) → number (is_resident_that r) (trimmed_part l) ≡ number (is_resident_that r) l
trimmed_part_same r [] = refl
trimmed_part_same r (e ∷ es) =
    elim (is_shadow e.kind) as (λ t. is_shadow e.kind ≡ t → number (is_resident_that r) (cond t es (test_ended e.kind e ++ trimmed_part es)) ≡ cond (is_resident_that r e) 1 0 + number (is_resident_that r) es) [
      | true ↦ λ h. rw (no_frame e.kind h) (omega arith)
      | false ↦ λ h. omega (arith, number-append (is_resident_that r) (test_ended e.kind e) (trimmed_part es), test_ended_same r e, trimmed_part_same r es)
    ] refl

trimmed_list_same : (r : Key → Bool) (i : ℕ) (l : List Entry) → number (is_resident_that r) (trimmed_list i l) ≡ number (is_resident_that r) l
trimmed_list_same r i l =
    let p : Entry → Bool = is_resident_that r in
    elim (any_shadow (drop i l)) as (λ t. number (is_resident_that r) (cond t (take i l ++ trimmed_part (drop i l)) (trimmed_part (take i l) ++ trimmed_part (drop i l))) ≡ number (is_resident_that r) l) [
      | true ↦ omega (arith, number-append p (take i l) (trimmed_part (drop i l)), trimmed_part_same r (drop i l), number-split p i l)
      | false ↦ omega (arith, number-append p (trimmed_part (take i l)) (trimmed_part (drop i l)), trimmed_part_same r (take i l), trimmed_part_same r (drop i l), number-split p i l)
    ]

trimmed_keeps_residents : (r : Key → Bool) (s : ClockState) → number (is_resident_that r) (trimmed s).entries ≡ number (is_resident_that r) s.entries
unfolding trimmed trimmed_once relisted fallen
trimmed_keeps_residents r s =
    elim (nat_lt s.frames (shadow_count s.entries)) as (λ t. number (is_resident_that r) (cond t (trimmed_once s) s).entries ≡ number (is_resident_that r) s.entries) [
      | true ↦ trimmed_list_same r (place_of s.test_hand s.entries) s.entries
      | false ↦ refl
    ]

-- Answers.

hot_left_number : (r : Key → Bool) (bit : Bit) (x : Entry) → x.kind ≡ Hot → number (is_resident_that r) (hot_left bit x) + cond (is_gone bit && r x.key) 1 0 ≡ cond (r x.key) 1 0
hot_left_number r Zero x h = omega arith
hot_left_number r One x h = rw h (omega arith)
hot_left_number r Gone x h = omega arith

hot_taken : (r : Key → Bool) (bit : Bit) (x : Entry) (s : ClockState) → Based s → IsIn x s.entries → x.kind ≡ Hot → number (is_resident_that r) (turned_to bit x s).entries + cond (is_gone bit && r x.key) 1 0 ≡ number (is_resident_that r) s.entries
hot_taken r bit x s b in_list hot =
    omega (
      arith,
      ap {B = ℕ} (λ (k : EntryKind). cond (in_frame k && r x.key) 1 0) hot,
      turned_number (is_resident_that r) bit x s b in_list,
      tests_ended_same r (take (place x.key s.entries) s.entries),
      hot_left_number r bit x hot,
    )

removed_taken : (r : Key → Bool) (x : Entry) (s : ClockState) → Based s → IsIn x s.entries → in_frame x.kind ≡ true → number (is_resident_that r) (removed x.key s).entries + cond (r x.key) 1 0 ≡ number (is_resident_that r) s.entries
removed_taken r x s b in_list frame = rw frame at (removed_number (is_resident_that r) x s b in_list)

sent_taken : (r : Key → Bool) (x : Entry) (kind : EntryKind) (s : ClockState) → Based s → IsIn x s.entries → in_frame x.kind ≡ true → in_frame kind ≡ true → number (is_resident_that r) (sent_to_end x.key kind s).entries ≡ number (is_resident_that r) s.entries
sent_taken r x kind s b in_list frame stays =
    let sent = rw (frame, stays) at (sent_number (is_resident_that r) x kind s b in_list) in omega (arith, sent)

shadow_taken : (r : Key → Bool) (x : Entry) (s : ClockState) → Based s → IsIn x s.entries → in_frame x.kind ≡ true → number (is_resident_that r) (shadowed x.key s).entries + cond (r x.key) 1 0 ≡ number (is_resident_that r) s.entries
unfolding shadowed marked
shadow_taken r x s b in_list frame =
    let y : Entry = record { key = x.key; kind = Shadow } in
    let l : List Entry = s.entries in
    let set = rw frame at (number-set (is_resident_that r) x y l (place x.key l) (place_holds x l (b.distinct x.key) in_list)) in
    omega (arith, set)

-- the same of the answer to a question, by what is asked and how it is answered
cold_on : (r : Key → Bool) (k : Key) (s : ClockState) → number (is_resident_that r) (removed k (cold_hand_on k s)).entries ≡ number (is_resident_that r) (removed k s).entries
unfolding removed relisted cold_hand_on
cold_on r k s = refl

cold_sent : (r : Key → Bool) (k : Key) (kind : EntryKind) (s : ClockState) → number (is_resident_that r) (sent_to_end k kind (cold_hand_on k s)).entries ≡ number (is_resident_that r) (sent_to_end k kind s).entries
unfolding sent_to_end appended removed relisted cold_hand_on
cold_sent r k kind s = refl

kind_taken : (kind : EntryKind) (r : Key → Bool) (bit : Bit) (x : Entry) (s : ClockState) → x.kind ≡ kind → Steady s → IsIn x s.entries →
    number (is_resident_that r) (kind_answered kind bit x s).0.entries + cond (takes bit (kind_answered kind bit x s).1 && r x.key) 1 0 ≡ number (is_resident_that r) s.entries
unfolding gone_on gives_up grown
kind_taken Hot r bit x s is h in_list = hot_taken r bit x s h.based in_list is
kind_taken Test r Zero x s is h in_list = omega (arith, trimmed_keeps_residents r (shadowed x.key s), shadow_taken r x s h.based in_list (rw is refl))
kind_taken Test r One x s is h in_list = omega (arith, cold_sent r x.key Hot s, sent_taken r x Hot s h.based in_list (rw is refl) refl)
kind_taken Test r Gone x s is h in_list = omega (arith, cold_on r x.key s, removed_taken r x s h.based in_list (rw is refl))
kind_taken Cold r Zero x s is h in_list = omega (arith, trimmed_keeps_residents r (removed x.key (cold_hand_on x.key s)), cold_on r x.key s, removed_taken r x s h.based in_list (rw is refl))
kind_taken Cold r One x s is h in_list = omega (arith, cold_sent r x.key Test s, sent_taken r x Test s h.based in_list (rw is refl) refl)
kind_taken Cold r Gone x s is h in_list = omega (arith, cold_on r x.key s, removed_taken r x s h.based in_list (rw is refl))
kind_taken Shadow r bit x s is h in_list = omega arith

-- a used page that is given up as an unused one is no page that was gone
heeded_takes : (s : ClockState) (bit : Bit) (v : Result Verdict Refusal) → takes (heeded s bit) v ≡ takes bit v
heeded_takes s Zero v = refl
heeded_takes s One (Ok GoOn) = elim (s.asked == 3 * s.frames) as (λ t. is_gone (cond t Zero One) ≡ false) [ true ↦ refl | false ↦ refl ]
heeded_takes s One (Ok (Victim k)) = refl
heeded_takes s One (Err e) = refl
heeded_takes s Gone v = refl

taken_at : (b b' : Bit) (v : Result Verdict Refusal) (k q : Key) → k ≡ q → takes b v ≡ takes b' v → (r : Key → Bool) (new old : ℕ) → new + cond (takes b v && r k) 1 0 ≡ old → new + cond (takes b' v && r q) 1 0 ≡ old
taken_at b b' v k q same heeds r new old h =
    h_at (takes b v) (takes b' v) (r k) (r q) heeds (ap r same) new old h
  where
    h_at : (t t' u u' : Bool) → t ≡ t' → u ≡ u' → (new old : ℕ) → new + cond (t && u) 1 0 ≡ old → new + cond (t' && u') 1 0 ≡ old
    h_at t t' u u' e d new old h = rw (← e, ← d) h

-- An answer takes the page of the question away where it was gone or is the victim, and leaves all others.
pub answered_residents : (r : Key → Bool) (bit : Bit) (s : ClockState) (q : Key) → Lawful s → question_of s ≡ Some q →
    residents (answered bit s).0 r + cond (takes bit (answered bit s).1 && r q) 1 0 ≡ residents s r
unfolding residents answered question_of
answered_residents r bit s q h asks =
    elim (asked_entry s) as (λ found. asked_entry s ≡ found → found_key found ≡ Some q → number (is_resident_that r) (entry_answered found (heeded s bit) s).0.entries + cond (takes bit (entry_answered found (heeded s bit) s).1 && r q) 1 0 ≡ number (is_resident_that r) s.entries) [
      | None ↦ λ is g. cc
      | Some x ↦ λ is g.
          let same : x.key ≡ q = cc in
          taken_at (heeded s bit) bit (kind_answered x.kind (heeded s bit) x s).1 x.key q same (heeded_takes s bit (kind_answered x.kind (heeded s bit) x s).1) r _ _ (kind_taken x.kind r (heeded s bit) x s refl (steady_of s h) (asked_in s x is))
    ] refl asks

kind_victim : (kind : EntryKind) (bit : Bit) (x : Entry) (s : ClockState) (k : Key) → (kind_answered kind bit x s).1 ≡ Ok (Victim k) → x.key ≡ k
unfolding gone_on gives_up
kind_victim Hot bit x s k h = cc
kind_victim Test Zero x s k h = cc
kind_victim Test One x s k h = cc
kind_victim Test Gone x s k h = cc
kind_victim Cold Zero x s k h = cc
kind_victim Cold One x s k h = cc
kind_victim Cold Gone x s k h = cc
kind_victim Shadow bit x s k h = cc

-- the victim is the page of the question
pub victim_asked : (bit : Bit) (s : ClockState) (k : Key) → (answered bit s).1 ≡ Ok (Victim k) → question_of s ≡ Some k
unfolding answered question_of
victim_asked bit s k h =
    elim (asked_entry s) as (λ found. (entry_answered found (heeded s bit) s).1 ≡ Ok (Victim k) → found_key found ≡ Some k) [
      | None ↦ λ g. cc
      | Some x ↦ λ g. ap (λ (q : Key). Some q) (kind_victim x.kind (heeded s bit) x s k g)
    ] h
