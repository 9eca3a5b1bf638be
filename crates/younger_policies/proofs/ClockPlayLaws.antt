-- CLOCK-Pro is a way to serve a string: a proof.
use Rattle.std.specs.Prelude.{◌≡◌, ℕ, zero, suc, ◌+◌, ◌-◌, ◌*◌, ◌<◌, ◌≤◌, ◌==◌, ◌&&◌, Bool, true, false, cond, nat_lt, is_ok, List, [], ◌∷◌, length, Option, Some, None, Result, Ok, Err, refl}
use Rattle.std.proofs.Common.{arith, sym, ap, subst, inl, inr, ◌∙◌}
use Rattle.std.proofs.lemmas.Bool.Decides.{nat_tests}
use Rattle.clock_policy.specs.declared.key.Key.{Key}
use Rattle.clock_policy.specs.declared.entry.Entry.{Entry}
use Rattle.clock_policy.specs.declared.entry.EntryKind.{EntryKind}
use Rattle.clock_policy.specs.declared.entry.EntryKind.TheVariants.{Hot, Test, Cold, Shadow}
use Rattle.clock_policy.specs.declared.answer.Bit.{Bit}
use Rattle.clock_policy.specs.declared.answer.Kind.{Kind}
use Rattle.clock_policy.specs.declared.answer.Verdict.{Verdict}
use Rattle.clock_policy.specs.declared.answer.Verdict.TheVariants.{GoOn, Victim}
use Rattle.clock_policy.specs.declared.refusal.Refusal.{Refusal}
use Rattle.clock_policy.specs.ClockPro.{ClockState, number as entry_number, hot_count, cold_count, kind_of, question_of, answered, admitted, opening_state}
use Rattle.clock_policy.specs.FrameCounts.{least_frames, most_frames}
use Rattle.clock_policy.specs.Lawful.{Lawful}
use Rattle.clock_policy.specs.Bound.{answers_left, NothingResident}
use Rattle.clock_policy.specs.Residents.{in_frame, is_resident_that, residents, is_key, found_in_frame, has_resident, takes}
use Rattle.clock_policy.proofs.ResidentLaws.{answered_residents}
use Rattle.clock_policy.proofs.AdmitLaws.{admitted_residents, admitted_barred, Barred, key_residents, is_key_self, resident_total}
use Rattle.clock_policy.proofs.ClockLaws.{opening_lawful, answered_lawful, admitted_lawful, left_lowers}
use Rattle.clock_policy.proofs.KeptLaws.{answered_frames, admitted_frames}
use Rattle.clock_policy.proofs.QuestionLaws.{no_question, answered_err}
use Rattle.page_policies.specs.Strings.{is_page, holds}
use Rattle.younger_policies.specs.ClockProPlay.{Play, is_resident_kind, in_play, bit_of, asked, is_full_refusal, entered, placed, clock_pro, clock_pro_used, opening_play, clock_pro_misses, clock_pro_used_misses}
use Rattle.page_policies.specs.Demand.{number, MayLeave, IsPlayedWithin}
use Rattle.page_policies.proofs.CountLaws.{none_number, some_number}
use Rattle.page_policies.proofs.PlayedLaws.{stays}
use Rattle.page_policies.proofs.PartLaws.{Serves, served_plays}

-- the pages that are in frames, in the order of the list
abbrev pages_in : List Entry → List Key
pages_in [] = []
pages_in (e ∷ es) = cond (in_frame e.kind) (e.key ∷ pages_in es) (pages_in es)

number_in : (test : Key → Bool) (l : List Entry) → number test (pages_in l) ≡ entry_number (is_resident_that test) l
number_in test [] = refl
number_in test (e ∷ es) =
    let later : number test (pages_in es) ≡ entry_number (is_resident_that test) es = number_in test es in
    elim (in_frame e.kind) as (λ b. number test (cond b (e.key ∷ pages_in es) (pages_in es)) ≡ cond (b && test e.key) 1 0 + entry_number (is_resident_that test) es) [
      | true ↦ omega (arith, later)
      | false ↦ omega (arith, later)
    ]

pages_number : (test : Key → Bool) (s : ClockState) → number test (pages_in s.entries) ≡ residents s test
unfolding residents
pages_number test s = number_in test s.entries

length_number : (l : List Key) → length l ≡ number (λ _. true) l
length_number [] = refl
length_number (q ∷ qs) = let later : length qs ≡ number (λ _. true) qs = length_number qs in omega (arith, later)

pages_few : (s : ClockState) → Lawful s → length (pages_in s.entries) ≤ s.frames
pages_few s lawful =
    let e : length (pages_in s.entries) ≡ hot_count s.entries + cold_count s.entries = length_number (pages_in s.entries) ∙ pages_number (λ _. true) s ∙ resident_total s in
    let few : hot_count s.entries + cold_count s.entries ≤ s.frames = lawful.few.resident in omega (arith, e, few)

-- a page is among them where the list has it as a resident one

same_test : (p q : Key) → is_page p q ≡ is_key p q
same_test p q = ap (λ (b : Bool). b && (p.vpn == q.vpn)) (each p.process q.process) ∙ ap (λ (b : Bool). (q.process == p.process) && b) (each p.vpn q.vpn)
  where
    each : (a b : ℕ) → (a == b) ≡ (b == a)
    each a b = grind (arith, nat_tests)

present : (p : Key) (s : ClockState) → Lawful s → holds p (pages_in s.entries) ≡ has_resident p s
present p s lawful =
    let counted : number (is_page p) (pages_in s.entries) ≡ cond (has_resident p s) 1 0 = pages_number (is_page p) s ∙ ap (residents s) (λ i. λ q. same_test p q i) ∙ key_residents p s lawful in
    decided (holds p (pages_in s.entries)) (has_resident p s) (number (is_page p) (pages_in s.entries)) (none_number p (pages_in s.entries)) (some_number p (pages_in s.entries)) counted
  where
    decided : (b c : Bool) (n : ℕ) → (b ≡ false → n ≡ 0) → (b ≡ true → 1 ≤ n) → n ≡ cond c 1 0 → b ≡ c
    decided true true n none some is = refl
    decided true false n none some is = absurd (let one : 1 ≤ n = some refl in omega (arith, one, is))
    decided false true n none some is = absurd (let zero : n ≡ 0 = none refl in omega (arith, zero, is))
    decided false false n none some is = refl

resident_kind : (o : Option EntryKind) → is_resident_kind o ≡ found_in_frame o
resident_kind None = refl
resident_kind (Some Hot) = refl
resident_kind (Some Test) = refl
resident_kind (Some Cold) = refl
resident_kind (Some Shadow) = refl

played_there : (p : Key) (s : Play) → Lawful s.clock → in_play p s ≡ holds p (pages_in s.clock.entries)
played_there p s lawful = resident_kind (kind_of p s.clock.entries) ∙ sym (present p s.clock lawful)

-- A page came in: it is there, and whatever else is there was there before.
record Comes (p : Key) (s t : ClockState) : Type 0 where
  lawful : Lawful t
  frames : t.frames ≡ s.frames
  there : has_resident p t ≡ true
  from : (test : Key → Bool) → residents t test ≤ residents s test + cond (test p) 1 0

admitted_ok : (p : Key) (s : ClockState) → has_resident p s ≡ false → is_full_refusal (admitted p s).1 ≡ false → is_ok (admitted p s).1 ≡ true
admitted_ok p s out room = by_result (admitted p s).1 refl room
  where
    barred : (e : Refusal) → Barred e p s → is_full_refusal (Err e) ≡ false → is_ok (let r : Result Kind Refusal = Err e in r) ≡ true
    barred e (inl why) room = absurd (no (sym why.1 ∙ out))
      where
        no : true ≡ false → ⊥
        no h = cc
    barred e (inr why) room = absurd (no (sym (ap (λ (r : Refusal). is_full_refusal (Err r)) why.0) ∙ room))
      where
        no : true ≡ false → ⊥
        no h = cc

    by_result : (r : Result Kind Refusal) → (admitted p s).1 ≡ r → is_full_refusal r ≡ false → is_ok r ≡ true
    by_result (Ok kind) is room = refl
    by_result (Err e) is room = barred e (admitted_barred p s e is) room

enters : (p : Key) (s : ClockState) → Lawful s → has_resident p s ≡ false → is_full_refusal (admitted p s).1 ≡ false → Comes p s (admitted p s).0
enters p s lawful out room =
    let ok : is_ok (admitted p s).1 ≡ true = admitted_ok p s out room in
    let more : (test : Key → Bool) → residents (admitted p s).0 test ≡ residents s test + cond (test p) 1 0 = λ test. admitted_residents test p s ∙ ap (λ (b : Bool). residents s test + cond (b && test p) 1 0) ok in
    let after : Lawful (admitted p s).0 = admitted_lawful p s lawful in record {
      lawful = after;
      frames = admitted_frames p s;
      there = one (has_resident p (admitted p s).0) (residents s (is_key p)) (sym (key_residents p (admitted p s).0 after) ∙ more (is_key p) ∙ ap (λ (b : Bool). residents s (is_key p) + cond b 1 0) (is_key_self p));
      from = λ test. let e : residents (admitted p s).0 test ≡ residents s test + cond (test p) 1 0 = more test in omega (arith, e);
    }
  where
    one : (b : Bool) (n : ℕ) → cond b 1 0 ≡ n + 1 → b ≡ true
    one true n h = refl
    one false n h = absurd (omega (arith, h))

-- Where a page is refused for want of a frame, each frame has its page.
pub full_has : (p : Key) (s : ClockState) → is_full_refusal (admitted p s).1 ≡ true → residents s (λ _. true) ≡ s.frames
full_has p s full = by_result (admitted p s).1 refl full
  where
    barred : (e : Refusal) → Barred e p s → is_full_refusal (Err e) ≡ true → residents s (λ _. true) ≡ s.frames
    barred e (inl why) full = absurd (no (sym (ap (λ (r : Refusal). is_full_refusal (Err r)) why.0) ∙ full))
      where
        no : false ≡ true → ⊥
        no h = cc
    barred e (inr why) full = why.2

    by_result : (r : Result Kind Refusal) → (admitted p s).1 ≡ r → is_full_refusal r ≡ true → residents s (λ _. true) ≡ s.frames
    by_result (Ok kind) is full = cc
    by_result (Err e) is full = barred e (admitted_barred p s e is) full

-- five answers a frame are enough, and where each frame has its page some are left

left_few : (s : ClockState) → Lawful s → answers_left s ≤ 5 * s.frames
left_few s lawful = let few : hot_count s.entries + cold_count s.entries ≤ s.frames = lawful.few.resident in
    elim (nat_lt s.asked (3 * s.frames)) as (λ b. cond b (5 * s.frames - s.asked) (2 * hot_count s.entries + cold_count s.entries) ≤ 5 * s.frames) [
      | true ↦ omega arith
      | false ↦ omega (arith, few)
    ]

left_some : (s : ClockState) → Lawful s → residents s (λ _. true) ≡ s.frames → 1 ≤ answers_left s
left_some s lawful full =
    let all : hot_count s.entries + cold_count s.entries ≡ s.frames = sym (resident_total s) ∙ full in
    let least : 4 ≤ s.frames = lawful.least in
    let asked : s.asked ≤ 3 * s.frames = lawful.few_asked in
    elim (nat_lt s.asked (3 * s.frames)) as (λ b. 1 ≤ cond b (5 * s.frames - s.asked) (2 * hot_count s.entries + cold_count s.entries)) [
      | true ↦ omega (arith, least, asked)
      | false ↦ omega (arith, least, all)
    ]

full_some : (s : ClockState) → Lawful s → residents s (λ _. true) ≡ s.frames → NothingResident s → ⊥
full_some s lawful full none =
    let all : hot_count s.entries + cold_count s.entries ≡ s.frames = sym (resident_total s) ∙ full in
    let least : 4 ≤ s.frames = lawful.least in omega (arith, least, all, none)

-- after an answer the list is full no more, or fewer answers are left
record Answers (n : ℕ) (p : Key) (s t : ClockState) : Type 0 where
  lawful : Lawful t
  frames : t.frames ≡ s.frames
  out : has_resident p t ≡ false
  from : (test : Key → Bool) → residents t test ≤ residents s test
  left : is_full_refusal (admitted p t).1 ≡ true → answers_left t ≤ n

answers : (n : ℕ) (p q : Key) (bit : Bit) (s : ClockState) → Lawful s → question_of s ≡ Some q → has_resident p s ≡ false → residents s (λ _. true) ≡ s.frames → answers_left s ≤ suc n → Answers n p s (answered bit s).0
answers n p q bit s lawful asks out full few =
    let after : Lawful (answered bit s).0 = answered_lawful bit s lawful in
    let fewer : (test : Key → Bool) → residents (answered bit s).0 test ≤ residents s test = λ test. less (residents (answered bit s).0 test) (cond (takes bit (answered bit s).1 && test q) 1 0) (residents s test) (answered_residents test bit s q lawful asks) in record {
      lawful = after;
      frames = answered_frames bit s;
      out = gone (has_resident p (answered bit s).0) (has_resident p s) (residents (answered bit s).0 (is_key p)) (residents s (is_key p)) (key_residents p (answered bit s).0 after) (key_residents p s lawful) out (fewer (is_key p));
      from = fewer;
      left = λ still. by_result (answered bit s).1 refl (answered_residents (λ _. true) bit s q lawful asks) (full_has p (answered bit s).0 still);
    }
  where
    less : (a b c : ℕ) → a + b ≡ c → a ≤ c
    less a b c h = omega (arith, h)

    gone : (b c : Bool) (n m : ℕ) → n ≡ cond b 1 0 → m ≡ cond c 1 0 → c ≡ false → n ≤ m → b ≡ false
    gone true true n m e f g h = g
    gone true false n m e f g h = absurd (omega (arith, e, f, h))
    gone false c n m e f g h = refl

    by_result : (r : Result Verdict Refusal) → (answered bit s).1 ≡ r → residents (answered bit s).0 (λ _. true) + cond (takes bit r && true) 1 0 ≡ residents s (λ _. true)
        → residents (answered bit s).0 (λ _. true) ≡ (answered bit s).0.frames → answers_left (answered bit s).0 ≤ n
    by_result (Ok GoOn) is counts still = let lower : answers_left (answered bit s).0 < answers_left s = left_lowers bit s lawful is in omega (arith, lower, few)
    by_result (Ok (Victim k)) is counts still = absurd (let same : (answered bit s).0.frames ≡ s.frames = answered_frames bit s in omega (arith, counts, still, same, full))
    by_result (Err e) is counts still = absurd (full_some s lawful full (answered_err bit s e is))

-- While each frame has its page, questions are answered; then the page comes in.
placed_comes : (n : ℕ) (p : Key) (s : Play) → Lawful s.clock → has_resident p s.clock ≡ false → (is_full_refusal (admitted p s.clock).1 ≡ true → answers_left s.clock ≤ n) → Comes p s.clock (placed n p s).clock
placed_comes zero p s lawful out left = enters p s.clock lawful out (elim (is_full_refusal (admitted p s.clock).1) as (λ b. is_full_refusal (admitted p s.clock).1 ≡ b → b ≡ false) [
  | true ↦ λ full. absurd (let few : answers_left s.clock ≤ 0 = left full in let some : 1 ≤ answers_left s.clock = left_some s.clock lawful (full_has p s.clock full) in omega (arith, few, some))
  | false ↦ λ room. refl
] refl)
placed_comes (suc n) p s lawful out left = elim (is_full_refusal (admitted p s.clock).1) as (λ b. is_full_refusal (admitted p s.clock).1 ≡ b → Comes p s.clock (cond b (placed n p (asked (question_of s.clock) s)) (entered p s)).clock) [
  | true ↦ λ full. asks (question_of s.clock) (placed_comes n p) refl (full_has p s.clock full) (left full)
  | false ↦ λ room. enters p s.clock lawful out room
] refl
  where
    asks : (o : Option Key) → ((t : Play) → Lawful t.clock → has_resident p t.clock ≡ false → (is_full_refusal (admitted p t.clock).1 ≡ true → answers_left t.clock ≤ n) → Comes p t.clock (placed n p t).clock)
        → question_of s.clock ≡ o → residents s.clock (λ _. true) ≡ s.clock.frames → answers_left s.clock ≤ suc n → Comes p s.clock (placed n p (asked o s)).clock
    asks None more is full few = absurd (full_some s.clock lawful full (no_question s.clock is))
    asks (Some q) more is full few =
        let a : Answers n p s.clock (asked (Some q) s).clock = answers n p q (bit_of (s.used q)) s.clock lawful is out full few in
        let c : Comes p (asked (Some q) s).clock (placed n p (asked (Some q) s)).clock = more (asked (Some q) s) a.lawful a.out a.left in record {
          lawful = c.lawful;
          frames = c.frames ∙ a.frames;
          there = c.there;
          from = λ test.
              let x : residents (placed n p (asked (Some q) s)).clock test ≤ residents (asked (Some q) s).clock test + cond (test p) 1 0 = c.from test in
              let y : residents (asked (Some q) s).clock test ≤ residents s.clock test = a.from test in omega (arith, x, y);
        }

-- what a reference leaves
record Leaves (p : Key) (s t : ClockState) : Type 0 where
  lawful : Lawful t
  frames : t.frames ≡ s.frames
  may : MayLeave s.frames p (pages_in s.entries) (pages_in t.entries)

comes_may : (p : Key) (s t : ClockState) → holds p (pages_in s.entries) ≡ false → Comes p s t → Leaves p s t
comes_may p s t out c = record {
  lawful = c.lawful;
  frames = c.frames;
  may = record {
    there = present p t c.lawful ∙ c.there;
    few = let few : length (pages_in t.entries) ≤ t.frames = pages_few t c.lawful in let same : t.frames ≡ s.frames = c.frames in omega (arith, few, same);
    from = λ test. rw out (
        let x : number test (pages_in t.entries) ≡ residents t test = pages_number test t in
        let y : number test (pages_in s.entries) ≡ residents s test = pages_number test s in
        let f : residents t test ≤ residents s test + cond (test p) 1 0 = c.from test in omega (arith, x, y, f));
  };
}

-- what a reference does to the list, whatever becomes of the marks
abbrev referred : ℕ → Key → Play → Play
referred turns p s = cond (in_play p s) s (placed turns p s)

leaves : (m : ℕ) (p : Key) (s : Play) → Lawful s.clock → s.clock.frames ≡ m → Leaves p s.clock (referred (5 * m) p s).clock
leaves m p s lawful size = elim (in_play p s) as (λ b. in_play p s ≡ b → Leaves p s.clock (cond b s (placed (5 * m) p s)).clock) [
  | true ↦ λ is. record { lawful = lawful; frames = refl; may = stays s.clock.frames p (pages_in s.clock.entries) (sym (played_there p s lawful) ∙ is) (pages_few s.clock lawful) }
  | false ↦ λ is.
      let out : holds p (pages_in s.clock.entries) ≡ false = sym (played_there p s lawful) ∙ is in
      let few : answers_left s.clock ≤ 5 * s.clock.frames = left_few s.clock lawful in
      comes_may p s.clock (placed (5 * m) p s).clock out (placed_comes (5 * m) p s lawful (sym (present p s.clock lawful) ∙ out) (λ full. omega (arith, few, size)))
] refl

same_list : (turns : ℕ) (p : Key) (s : Play) → (referred turns p s).clock ≡ (clock_pro turns p s).clock
same_list turns p s = elim (in_play p s) as (λ b. (cond b s (placed turns p s)).clock ≡ (cond b (record { clock = s.clock; used = λ q. cond (is_page p q) true (s.used q) }) (placed turns p s)).clock) [ true ↦ refl | false ↦ refl ]

-- the frames are those of the list, and the list is a lawful one
abbrev At : ℕ → Play → Type 0
At m s = Lawful s.clock × (s.clock.frames ≡ m)

abbrev frames_of : Play → List Key
frames_of s = pages_in s.clock.entries

serves : (m : ℕ) (p : Key) (s t : Play) → At m s → (referred (5 * m) p s).clock ≡ t.clock → Serves m frames_of (At m) in_play p s t
serves m p s t at is =
    let l : Leaves p s.clock t.clock = subst (λ (c : ClockState). Leaves p s.clock c) is (leaves m p s at.0 at.1) in record {
      found = played_there p s at.0;
      leaves = subst (λ (k : ℕ). MayLeave k p (pages_in s.clock.entries) (pages_in t.clock.entries)) at.1 l.may;
      lawful_after = (l.lawful, l.frames ∙ at.1);
    }

pub clock_pro_played : IsPlayedWithin least_frames most_frames clock_pro_misses
unfolding clock_pro_misses opening_state
clock_pro_played frames string least most = served_plays frames frames_of (At frames) in_play (clock_pro (5 * frames)) (λ p s at. serves frames p s (clock_pro (5 * frames) p s) at (same_list (5 * frames) p s))
    (opening_play frames) string (opening_lawful frames least most, refl)

pub clock_pro_used_played : IsPlayedWithin least_frames most_frames clock_pro_used_misses
unfolding clock_pro_used_misses opening_state
clock_pro_used_played frames string least most = served_plays frames frames_of (At frames) in_play (clock_pro_used (5 * frames)) (λ p s at. serves frames p s (clock_pro_used (5 * frames) p s) at refl)
    (opening_play frames) string (opening_lawful frames least most, refl)
