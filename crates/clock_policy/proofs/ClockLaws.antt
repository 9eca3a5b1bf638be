-- The calls keep the state lawful, and answers come to an end.
use Rattle.std.specs.Prelude.{◌≡◌, ◌≢◌, ℕ, ◌+◌, ◌-◌, ◌*◌, ◌≤◌, ◌<◌, ◌==◌, nat_lt, min, cond, Bool, true, false, not, ◌⊎◌, Option, Some, None, find, filter, slice_get, option_map, List, [], ◌∷◌, ◌++◌, take, drop, length, Result, Ok, Err, refl}
use Rattle.std.proofs.Common.{arith, sym, ap, ◌∙◌, inl, inr}
use Rattle.std.proofs.lemmas.Bool.Decides.{nat_tests}
use Rattle.clock_policy.specs.declared.key.Key.{Key}
use Rattle.clock_policy.specs.declared.entry.Entry.{Entry}
use Rattle.clock_policy.specs.declared.entry.EntryKind.{EntryKind}
use Rattle.clock_policy.specs.declared.entry.EntryKind.TheVariants.{Hot, Test, Cold, Shadow}
use Rattle.clock_policy.specs.declared.answer.Bit.{Bit}
use Rattle.clock_policy.specs.declared.answer.Bit.TheVariants.{Zero, One, Gone}
use Rattle.clock_policy.specs.declared.answer.Verdict.{Verdict}
use Rattle.clock_policy.specs.declared.answer.Verdict.TheVariants.{GoOn, Victim}
use Rattle.clock_policy.specs.declared.refusal.Refusal.{Refusal}
use Rattle.clock_policy.specs.declared.answer.Kind.TheVariants as kind
use Rattle.clock_policy.specs.declared.refusal.Refusal.TheVariants.{NoQuestion, Full}
use Rattle.clock_policy.specs.ClockPro.{ClockState, Answer, number, has_key, place, place_of, round, is_hot, is_cold, is_shadow, hot_count, cold_count, shadow_count, tests_ended, hot_left, relisted, removed, appended, marked, sent_to_end, grown, fallen, turned_to, cold_hand_on, shadowed, trimmed, trimmed_once, asks_hot, asked_entry, opening_state, gone_on, gives_up, heeded, kind_answered, entry_answered, answered, is_full, kind_of, kind_admitted, admitted, kind_restored, restored, kind_withdrawn, withdrawn, is_of_process, purged}
use Rattle.clock_policy.specs.FrameCounts.{least_frames, most_frames}
use Rattle.clock_policy.specs.Lawful.{Lawful}
use Rattle.clock_policy.specs.Bound.{answers_left}
use Rattle.clock_policy.proofs.LookupLaws.{length_is}
use Rattle.clock_policy.proofs.ListedLaws.{kind_listed, place_within}
use Rattle.clock_policy.proofs.CountLaws.{number-append, number-without, number-without_le, number-set, number-filter, IsIn, found_in, in_round, in_number, number_any, place_holds, place_has, hot_count-tests_ended, cold_count-tests_ended, shadow_count-tests_ended, hot_count-trimmed_list, cold_count-trimmed_list, shadow_count-trimmed_list}
use Rattle.clock_policy.proofs.SteadyLaws.{Based, Steady, relisted_steady, removed_steady, appended_steady, sent_to_end_steady, marked_steady, grown_steady, turned_to_steady, shadowed_steady, trimmed_steady, cold_hand_on_steady}

pub steady_of : (s : ClockState) → Lawful s → Steady s
steady_of s h = record {
  based = record {
    least = h.least;
    most = h.most;
    share_low = h.share_low;
    share_high = h.share_high;
    few_asked = h.few_asked;
    distinct = h.distinct;
  };
  cold_hand_rests = h.cold_hand_rests;
  test_hand_rests = h.test_hand_rests;
}

lawful_of : (s : ClockState) → Steady s → hot_count s.entries + cold_count s.entries ≤ s.frames → shadow_count s.entries ≤ s.frames → Lawful s
lawful_of s h resident shadows = record {
  least = h.based.least;
  most = h.based.most;
  share_low = h.based.share_low;
  share_high = h.based.share_high;
  few_asked = h.based.few_asked;
  within = omega (arith, length_is s.entries);
  distinct = h.based.distinct;
  few = record { resident = resident; shadows = shadows };
  cold_hand_rests = h.cold_hand_rests;
  test_hand_rests = h.test_hand_rests;
}

pub opening_lawful : (frames : ℕ) → least_frames ≤ frames → frames ≤ most_frames → Lawful (opening_state frames)
unfolding opening_state
opening_lawful frames least most = record {
  least = least;
  most = most;
  share_low = omega arith;
  share_high = omega arith;
  few_asked = omega arith;
  within = omega arith;
  distinct = λ k. omega arith;
  few = record { resident = omega arith; shadows = omega arith };
  cold_hand_rests = refl;
  test_hand_rests = refl;
}

-- What an answer without a victim leaves, before it is counted: it is lighter where the bit is heeded as no use.
record GoesOn (bit : Bit) (old new : ClockState) : Type 0 where
  steady : Steady new
  frames : new.frames ≡ old.frames
  asked : new.asked ≡ old.asked
  resident : hot_count new.entries + cold_count new.entries ≤ hot_count old.entries + cold_count old.entries
  shadows : shadow_count new.entries ≤ shadow_count old.entries
  lighter : bit ≢ One → 2 * hot_count new.entries + cold_count new.entries < 2 * hot_count old.entries + cold_count old.entries

-- what a victim leaves, before the trimming
record GivesUp (old new : ClockState) : Type 0 where
  steady : Steady new
  frames : new.frames ≡ old.frames
  resident : hot_count new.entries + cold_count new.entries ≤ hot_count old.entries + cold_count old.entries
  shadows : shadow_count new.entries ≤ shadow_count old.entries + 1

-- what an answer comes to
abbrev Outcome : Bit → ClockState → Answer Verdict → Type 0
Outcome bit s r =
    ((new : ClockState) × (r ≡ gone_on new) × GoesOn bit s new)
    ⊎ ((k : Key) × (new : ClockState) × (r ≡ gives_up k new) × GivesUp s new)
    ⊎ ((e : Refusal) × (r ≡ (s, Err e)))

-- Each answer.

pub removed_number : (p : Entry → Bool) (x : Entry) (s : ClockState) → Based s → IsIn x s.entries → number p (removed x.key s).entries + cond (p x) 1 0 ≡ number p s.entries
unfolding removed relisted
removed_number p x s b in_list = number-without p x s.entries (place x.key s.entries) (place_holds x s.entries (b.distinct x.key) in_list)

in_listed : (x : Entry) (l : List Entry) → IsIn x l → place x.key l < length l
in_listed x l in_list = place_within x.key l (number_any (has_key x.key) l (in_number x l in_list))

abbrev is_one : Bit → Bool
is_one Zero = false
is_one One = true
is_one Gone = false

abbrev is_zero : Bit → Bool
is_zero Zero = true
is_zero One = false
is_zero Gone = false

-- a cold entry is neither hot nor a shadow
cold_alone : (k : EntryKind) → is_cold k ≡ true → (is_hot k ≡ false) × (is_shadow k ≡ false)
cold_alone Hot h = cc
cold_alone Test h = (refl, refl)
cold_alone Cold h = (refl, refl)
cold_alone Shadow h = cc

pub turned_number : (p : Entry → Bool) (bit : Bit) (x : Entry) (s : ClockState) → Based s → IsIn x s.entries →
    number p (turned_to bit x s).entries + number p (take (place x.key s.entries) s.entries) + cond (p x) 1 0 ≡ number p s.entries + number p (tests_ended (take (place x.key s.entries) s.entries)) + number p (hot_left bit x)
unfolding turned_to relisted fallen
turned_number p bit x s b in_list =
    let l : List Entry = s.entries in
    let i : ℕ = place x.key l in
    omega (
      arith,
      number-append p (drop (i + 1) l ++ tests_ended (take i l)) (hot_left bit x),
      number-append p (drop (i + 1) l) (tests_ended (take i l)),
      number-append p (take i l) (drop (i + 1) l),
      number-without p x l i (place_holds x l (b.distinct x.key) in_list),
    )

-- what the hot entry is after the answer, in numbers
left_hots : (bit : Bit) (x : Entry) → x.kind ≡ Hot → hot_count (hot_left bit x) ≡ cond (is_one bit) 1 0
left_hots Zero x h = refl
left_hots One x h = rw h refl
left_hots Gone x h = refl

left_colds : (bit : Bit) (x : Entry) → x.kind ≡ Hot → cold_count (hot_left bit x) ≡ cond (is_zero bit) 1 0
left_colds Zero x h = refl
left_colds One x h = rw h refl
left_colds Gone x h = refl

left_shades : (bit : Bit) (x : Entry) → x.kind ≡ Hot → shadow_count (hot_left bit x) ≡ 0
left_shades Zero x h = refl
left_shades One x h = rw h refl
left_shades Gone x h = refl

turned_frames : (bit : Bit) (x : Entry) (s : ClockState) → (turned_to bit x s).frames ≡ s.frames
unfolding turned_to relisted fallen
turned_frames bit x s = refl

turned_asked : (bit : Bit) (x : Entry) (s : ClockState) → (turned_to bit x s).asked ≡ s.asked
unfolding turned_to relisted fallen
turned_asked bit x s = refl

hot_goes_on : (bit : Bit) (x : Entry) (s : ClockState) → Steady s → IsIn x s.entries → x.kind ≡ Hot → GoesOn bit s (turned_to bit x s)
hot_goes_on bit x s h in_list hot =
    let passed : List Entry = take (place x.key s.entries) s.entries in
    let hot_total : hot_count (turned_to bit x s).entries + 1 ≡ hot_count s.entries + cond (is_one bit) 1 0 =
    omega (arith, turned_number (λ e. is_hot e.kind) bit x s h.based in_list, ap {B = ℕ} (λ (k : EntryKind). cond (is_hot k) 1 0) hot, hot_count-tests_ended passed, left_hots bit x hot) in
    let cold_total : cold_count (turned_to bit x s).entries ≡ cold_count s.entries + cond (is_zero bit) 1 0 =
    omega (arith, turned_number (λ e. is_cold e.kind) bit x s h.based in_list, ap {B = ℕ} (λ (k : EntryKind). cond (is_cold k) 1 0) hot, cold_count-tests_ended passed, left_colds bit x hot) in
    let shadow_total : shadow_count (turned_to bit x s).entries ≤ shadow_count s.entries =
    omega (arith, turned_number (λ e. is_shadow e.kind) bit x s h.based in_list, ap {B = ℕ} (λ (k : EntryKind). cond (is_shadow k) 1 0) hot, shadow_count-tests_ended passed, left_shades bit x hot) in
    record {
      steady = turned_to_steady bit x s h.based in_list;
      frames = turned_frames bit x s;
      asked = turned_asked bit x s;
      resident = bit_resident bit _ _ _ _ hot_total cold_total;
      shadows = shadow_total;
      lighter = bit_lighter bit _ _ _ _ hot_total cold_total;
    }
  where
    bit_resident : (bit : Bit) (h c h' c' : ℕ) → h' + 1 ≡ h + cond (is_one bit) 1 0 → c' ≡ c + cond (is_zero bit) 1 0 → h' + c' ≤ h + c
    bit_resident Zero h c h' c' p q = omega arith
    bit_resident One h c h' c' p q = omega arith
    bit_resident Gone h c h' c' p q = omega arith

    bit_lighter : (bit : Bit) (h c h' c' : ℕ) → h' + 1 ≡ h + cond (is_one bit) 1 0 → c' ≡ c + cond (is_zero bit) 1 0 → bit ≢ One → 2 * h' + c' < 2 * h + c
    bit_lighter Zero h c h' c' p q unused = omega arith
    bit_lighter One h c h' c' p q unused = absurd (unused refl)
    bit_lighter Gone h c h' c' p q unused = omega arith

-- a cold entry that is taken out, in numbers
removed_cold : (x : Entry) (s : ClockState) → Based s → IsIn x s.entries → is_cold x.kind ≡ true →
    (hot_count (removed x.key s).entries ≡ hot_count s.entries) × (cold_count (removed x.key s).entries + 1 ≡ cold_count s.entries) × (shadow_count (removed x.key s).entries ≡ shadow_count s.entries)
removed_cold x s b in_list cold =
    let alone : (is_hot x.kind ≡ false) × (is_shadow x.kind ≡ false) = cold_alone x.kind cold in (
      omega (arith, rw (alone.0) at (removed_number (λ e. is_hot e.kind) x s b in_list)),
      omega (arith, rw cold at (removed_number (λ e. is_cold e.kind) x s b in_list)),
      omega (arith, rw (alone.1) at (removed_number (λ e. is_shadow e.kind) x s b in_list)),
    )

removed_goes_on : (bit : Bit) (x : Entry) (s : ClockState) → Steady s → IsIn x s.entries → is_cold x.kind ≡ true → GoesOn bit s (removed x.key (cold_hand_on x.key s))
unfolding removed relisted cold_hand_on
removed_goes_on bit x s h in_list cold =
    let numbers : (hot_count (removed x.key s).entries ≡ hot_count s.entries) × (cold_count (removed x.key s).entries + 1 ≡ cold_count s.entries) × (shadow_count (removed x.key s).entries ≡ shadow_count s.entries) = removed_cold x s h.based in_list cold in
    record {
      steady = removed_steady x.key (cold_hand_on x.key s) (cold_hand_on_steady x s h in_list).based;
      frames = refl;
      asked = refl;
      resident = omega (arith, numbers.0, numbers.1);
      shadows = omega (arith, numbers.2);
      lighter = λ unused. omega (arith, numbers.0, numbers.1);
    }

-- a cold entry that is sent to the end as a resident one, in numbers
pub sent_number : (p : Entry → Bool) (x : Entry) (kind : EntryKind) (s : ClockState) → Based s → IsIn x s.entries →
    number p (sent_to_end x.key kind s).entries + cond (p x) 1 0 ≡ number p s.entries + number p (record { key = x.key; kind = kind } ∷ [])
unfolding sent_to_end appended
sent_number p x kind s b in_list =
    omega (arith, number-append p (removed x.key s).entries (record { key = x.key; kind = kind } ∷ []), removed_number p x s b in_list)

test_goes_on : (x : Entry) (s : ClockState) → Steady s → IsIn x s.entries → is_cold x.kind ≡ true → GoesOn One s (grown (sent_to_end x.key Hot (cold_hand_on x.key s)))
unfolding grown sent_to_end appended removed relisted cold_hand_on
test_goes_on x s h in_list cold =
    let alone : (is_hot x.kind ≡ false) × (is_shadow x.kind ≡ false) = cold_alone x.kind cold in
    let set : Steady (cold_hand_on x.key s) = cold_hand_on_steady x s h in_list in
    record {
      steady = grown_steady (sent_to_end x.key Hot (cold_hand_on x.key s)) (sent_to_end_steady x.key Hot (cold_hand_on x.key s) set.based (in_listed x s.entries in_list));
      frames = refl;
      asked = refl;
      resident = omega (arith, rw (alone.0) at (sent_number (λ e. is_hot e.kind) x Hot s h.based in_list), rw cold at (sent_number (λ e. is_cold e.kind) x Hot s h.based in_list));
      shadows = omega (arith, sent_number (λ e. is_shadow e.kind) x Hot s h.based in_list);
      lighter = λ unused. absurd (unused refl);
    }

cold_goes_on : (x : Entry) (s : ClockState) → Steady s → IsIn x s.entries → is_cold x.kind ≡ true → GoesOn One s (sent_to_end x.key Test (cold_hand_on x.key s))
unfolding sent_to_end appended removed relisted cold_hand_on
cold_goes_on x s h in_list cold =
    let alone : (is_hot x.kind ≡ false) × (is_shadow x.kind ≡ false) = cold_alone x.kind cold in
    let set : Steady (cold_hand_on x.key s) = cold_hand_on_steady x s h in_list in
    record {
      steady = sent_to_end_steady x.key Test (cold_hand_on x.key s) set.based (in_listed x s.entries in_list);
      frames = refl;
      asked = refl;
      resident = omega (arith, rw (alone.0) at (sent_number (λ e. is_hot e.kind) x Test s h.based in_list), rw cold at (sent_number (λ e. is_cold e.kind) x Test s h.based in_list));
      shadows = omega (arith, sent_number (λ e. is_shadow e.kind) x Test s h.based in_list);
      lighter = λ unused. absurd (unused refl);
    }

test_gives_up : (x : Entry) (s : ClockState) → Steady s → IsIn x s.entries → is_cold x.kind ≡ true → GivesUp s (shadowed x.key s)
unfolding shadowed marked
test_gives_up x s h in_list cold =
    let alone : (is_hot x.kind ≡ false) × (is_shadow x.kind ≡ false) = cold_alone x.kind cold in
    let y : Entry = record { key = x.key; kind = Shadow } in
    let l : List Entry = s.entries in
    let at : slice_get l (place x.key l) ≡ Some x = place_holds x l (h.based.distinct x.key) in_list in
    record {
      steady = shadowed_steady x.key s h (in_listed x s.entries in_list);
      frames = refl;
      resident = omega (arith, rw (alone.0) at (number-set (λ e. is_hot e.kind) x y l (place x.key l) at), rw cold at (number-set (λ e. is_cold e.kind) x y l (place x.key l) at));
      shadows = omega (arith, rw (alone.1) at (number-set (λ e. is_shadow e.kind) x y l (place x.key l) at));
    }

cold_gives_up : (x : Entry) (s : ClockState) → Steady s → IsIn x s.entries → is_cold x.kind ≡ true → GivesUp s (removed x.key (cold_hand_on x.key s))
cold_gives_up x s h in_list cold =
    let gone : GoesOn Gone s (removed x.key (cold_hand_on x.key s)) = removed_goes_on Gone x s h in_list cold in
    record {
      steady = gone.steady;
      frames = gone.frames;
      resident = gone.resident;
      shadows = omega (arith, gone.shadows);
    }

kind_outcome : (kind : EntryKind) (bit : Bit) (x : Entry) (s : ClockState) → x.kind ≡ kind → Steady s → IsIn x s.entries → Outcome bit s (kind_answered kind bit x s)
kind_outcome Hot bit x s is h in_list = inl (turned_to bit x s, refl, hot_goes_on bit x s h in_list is)
kind_outcome Test Zero x s is h in_list = inr (inl (x.key, shadowed x.key s, refl, test_gives_up x s h in_list (rw is refl)))
kind_outcome Test One x s is h in_list = inl (grown (sent_to_end x.key Hot (cold_hand_on x.key s)), refl, test_goes_on x s h in_list (rw is refl))
kind_outcome Test Gone x s is h in_list = inl (removed x.key (cold_hand_on x.key s), refl, removed_goes_on Gone x s h in_list (rw is refl))
kind_outcome Cold Zero x s is h in_list = inr (inl (x.key, removed x.key (cold_hand_on x.key s), refl, cold_gives_up x s h in_list (rw is refl)))
kind_outcome Cold One x s is h in_list = inl (sent_to_end x.key Test (cold_hand_on x.key s), refl, cold_goes_on x s h in_list (rw is refl))
kind_outcome Cold Gone x s is h in_list = inl (removed x.key (cold_hand_on x.key s), refl, removed_goes_on Gone x s h in_list (rw is refl))
kind_outcome Shadow bit x s is h in_list = inr (inr (NoQuestion, refl))

-- The entry that is asked stands in the list.

pub asked_in : (s : ClockState) (x : Entry) → asked_entry s ≡ Some x → IsIn x s.entries
unfolding asked_entry
asked_in s x h =
    elim (asks_hot s) as (λ t. cond t (find (λ e. is_hot e.kind) s.entries) (find (λ e. is_cold e.kind) (round (place_of s.cold_hand s.entries) s.entries)) ≡ Some x → IsIn x s.entries) [
      | true ↦ λ g. found_in (λ e. is_hot e.kind) s.entries x g
      | false ↦ λ g. in_round x (place_of s.cold_hand s.entries) s.entries (found_in (λ e. is_cold e.kind) (round (place_of s.cold_hand s.entries) s.entries) x g)
    ] h

outcome : (bit : Bit) (s : ClockState) → Steady s → Outcome (heeded s bit) s (answered bit s)
unfolding answered
outcome bit s h =
    elim (asked_entry s) as (λ found. asked_entry s ≡ found → Outcome (heeded s bit) s (entry_answered found (heeded s bit) s)) [
      | None ↦ λ _. inr (inr (NoQuestion, refl))
      | Some x ↦ λ g. kind_outcome x.kind (heeded s bit) x s refl h (asked_in s x g)
    ] refl

-- What is counted or trimmed.

recounted_steady : (n : ℕ) (s : ClockState) → n ≤ 3 * s.frames → Steady s → Steady (record s { asked = n })
recounted_steady n s few h = record {
  based = record {
    least = h.based.least;
    most = h.based.most;
    share_low = h.based.share_low;
    share_high = h.based.share_high;
    few_asked = few;
    distinct = h.based.distinct;
  };
  cold_hand_rests = h.cold_hand_rests;
  test_hand_rests = h.test_hand_rests;
}

gone_on_lawful : (bit : Bit) (old new : ClockState) → Lawful old → GoesOn bit old new → Lawful (gone_on new).0
unfolding gone_on
gone_on_lawful bit old new h g =
    lawful_of (record new { asked = min (new.asked + 1) (3 * new.frames) })
    (recounted_steady (min (new.asked + 1) (3 * new.frames)) new (omega arith) g.steady)
    (omega (arith, h.few, g.resident, g.frames))
    (omega (arith, h.few, g.shadows, g.frames))

trimmed_same : (s : ClockState) → ((trimmed s).frames ≡ s.frames) × (hot_count (trimmed s).entries ≡ hot_count s.entries) × (cold_count (trimmed s).entries ≡ cold_count s.entries)
unfolding trimmed trimmed_once relisted fallen
trimmed_same s =
    elim (nat_lt s.frames (shadow_count s.entries)) as (λ t. ((cond t (trimmed_once s) s).frames ≡ s.frames) × (hot_count (cond t (trimmed_once s) s).entries ≡ hot_count s.entries) × (cold_count (cond t (trimmed_once s) s).entries ≡ cold_count s.entries)) [
      | true ↦ (refl, hot_count-trimmed_list (place_of s.test_hand s.entries) s.entries, cold_count-trimmed_list (place_of s.test_hand s.entries) s.entries)
      | false ↦ (refl, refl, refl)
    ]

trimmed_few : (s : ClockState) → shadow_count s.entries ≤ s.frames + 1 → shadow_count (trimmed s).entries ≤ s.frames
unfolding trimmed trimmed_once relisted fallen
trimmed_few s h =
    elim (nat_lt s.frames (shadow_count s.entries)) as (λ t. nat_lt s.frames (shadow_count s.entries) ≡ t → shadow_count (cond t (trimmed_once s) s).entries ≤ s.frames) [
      | true ↦ λ over. omega (arith, shadow_count-trimmed_list (place_of s.test_hand s.entries) s.entries (too_many s.frames (shadow_count s.entries) over))
      | false ↦ λ over. not_too_many s.frames (shadow_count s.entries) over
    ] refl
  where
    too_many : (m n : ℕ) → nat_lt m n ≡ true → 1 ≤ n
    too_many m n h = grind (arith, nat_tests)

    not_too_many : (m n : ℕ) → nat_lt m n ≡ false → n ≤ m
    not_too_many m n h = grind (arith, nat_tests)

gives_up_lawful : (k : Key) (old new : ClockState) → Lawful old → GivesUp old new → Lawful (gives_up k new).0
unfolding gives_up
gives_up_lawful k old new h g =
    let same : ((trimmed new).frames ≡ new.frames) × (hot_count (trimmed new).entries ≡ hot_count new.entries) × (cold_count (trimmed new).entries ≡ cold_count new.entries) = trimmed_same new in
    lawful_of (record (trimmed new) { asked = 0 })
    (recounted_steady 0 (trimmed new) (omega arith) (trimmed_steady new g.steady))
    (omega (arith, h.few, g.resident, g.frames, same.0, same.1, same.2))
    (omega (arith, trimmed_few new (omega (arith, h.few, g.shadows, g.frames)), same.0))

pub answered_lawful : (bit : Bit) (s : ClockState) → Lawful s → Lawful (answered bit s).0
answered_lawful bit s h =
    elim (outcome bit s (steady_of s h)) [
      | inl g ↦ rw (g.1) (gone_on_lawful (heeded s bit) s g.0 h g.2)
      | inr g ↦ elim g [
        | inl v ↦ rw (v.2) (gives_up_lawful v.0 s v.1 h v.3)
        | inr e ↦ rw (e.1) h
      ]
    ]

-- Admission.

not_full : (s : ClockState) → Lawful s → is_full s ≡ false → hot_count s.entries + cold_count s.entries < s.frames
not_full s h free = below (hot_count s.entries + cold_count s.entries) s.frames h.few.resident free
  where
    below : (m n : ℕ) → m ≤ n → (m == n) ≡ false → m < n
    below m n le differ = grind (arith, nat_tests)

kind_none : (k : Key) (l : List Entry) → kind_of k l ≡ None → number (has_key k) l ≡ 0
kind_none k [] h = refl
kind_none k (e ∷ es) h =
    elim (has_key k e) as (λ t. option_map (λ (x : Entry). x.kind) (cond t (Some e) (find (has_key k) es)) ≡ None → cond t 1 0 + number (has_key k) es ≡ 0) [
      | true ↦ λ g. cc
      | false ↦ λ g. omega (arith, kind_none k es g)
    ] h

appended_lawful : (k : Key) (s : ClockState) → Lawful s → is_full s ≡ false → kind_of k s.entries ≡ None → Lawful (appended (record { key = k; kind = Test }) s)
unfolding appended
appended_lawful k s h free none =
    let e : Entry = record { key = k; kind = Test } in
    lawful_of (appended e s)
    (appended_steady e s (steady_of s h) (kind_none k s.entries none))
    (omega (arith, not_full s h free, number-append (λ e. is_hot e.kind) s.entries (e ∷ []), number-append (λ e. is_cold e.kind) s.entries (e ∷ [])))
    (omega (arith, h.few, number-append (λ e. is_shadow e.kind) s.entries (e ∷ [])))

sent_lawful : (k : Key) (s : ClockState) → Lawful s → is_full s ≡ false → place k s.entries < length s.entries → Lawful (grown (sent_to_end k Hot s))
unfolding grown sent_to_end appended removed relisted
sent_lawful k s h free listed =
    let e : Entry = record { key = k; kind = Hot } in
    let i : ℕ = place k s.entries in
    let kept : List Entry = take i s.entries ++ drop (i + 1) s.entries in
    lawful_of (grown (sent_to_end k Hot s))
    (grown_steady (sent_to_end k Hot s) (sent_to_end_steady k Hot s (steady_of s h).based listed))
    (omega (
      arith,
      not_full s h free,
      number-append (λ e. is_hot e.kind) kept (e ∷ []),
      number-without_le (λ e. is_hot e.kind) s.entries i,
      number-append (λ e. is_cold e.kind) kept (e ∷ []),
      number-without_le (λ e. is_cold e.kind) s.entries i,
    ))
    (omega (arith, h.few, number-append (λ e. is_shadow e.kind) kept (e ∷ []), number-without_le (λ e. is_shadow e.kind) s.entries i))

marked_lawful : (k : Key) (s : ClockState) → Lawful s → is_full s ≡ false → place k s.entries < length s.entries → Lawful (marked k Test s)
unfolding marked
marked_lawful k s h free listed =
    let y : Entry = record { key = k; kind = Test } in
    let i : ℕ = place k s.entries in
    let found : (x : Entry) × (slice_get s.entries i ≡ Some x) × (has_key k x ≡ true) = place_has k s.entries listed in
    lawful_of (marked k Test s)
    (marked_steady k Test s (steady_of s h) listed)
    (omega (arith, not_full s h free, number-set (λ e. is_hot e.kind) found.0 y s.entries i found.1, number-set (λ e. is_cold e.kind) found.0 y s.entries i found.1))
    (omega (arith, h.few, number-set (λ e. is_shadow e.kind) found.0 y s.entries i found.1))

-- a refusal where the list is full, and else the move
cond_lawful : {T : Type 0} (full : Bool) (s new : ClockState) (e : Refusal) (r : Result T Refusal) → Lawful s → (full ≡ false → Lawful new) → Lawful (cond {A = ClockState × Result T Refusal} full (s, Err e) (new, r)).0
cond_lawful true s new e r h g = h
cond_lawful false s new e r h g = g refl

pub admitted_lawful : (k : Key) (s : ClockState) → Lawful s → Lawful (admitted k s).0
unfolding admitted
admitted_lawful k s h = by_kind (kind_of k s.entries) k s refl h
  where
    by_kind : (f : Option EntryKind) (k : Key) (s : ClockState) → kind_of k s.entries ≡ f → Lawful s → Lawful (kind_admitted f k s).0
    by_kind None k s is h = cond_lawful (is_full s) s (appended (record { key = k; kind = Test }) s) Full (Ok kind.Test) h (λ free. appended_lawful k s h free is)
    by_kind (Some Hot) k s is h = h
    by_kind (Some Test) k s is h = h
    by_kind (Some Cold) k s is h = h
    by_kind (Some Shadow) k s is h = cond_lawful (is_full s) s (grown (sent_to_end k Hot s)) Full (Ok kind.Hot) h (λ free. sent_lawful k s h free (kind_listed k s.entries (rw is refl)))

pub restored_lawful : (k : Key) (s : ClockState) → Lawful s → Lawful (restored k s).0
unfolding restored
restored_lawful k s h = by_kind (kind_of k s.entries) k s refl h
  where
    by_kind : (f : Option EntryKind) (k : Key) (s : ClockState) → kind_of k s.entries ≡ f → Lawful s → Lawful (kind_restored f k s).0
    by_kind None k s is h = cond_lawful (is_full s) s (appended (record { key = k; kind = Test }) s) Full (Ok tt) h (λ free. appended_lawful k s h free is)
    by_kind (Some Hot) k s is h = h
    by_kind (Some Test) k s is h = h
    by_kind (Some Cold) k s is h = h
    by_kind (Some Shadow) k s is h = cond_lawful (is_full s) s (marked k Test s) Full (Ok tt) h (λ free. marked_lawful k s h free (kind_listed k s.entries (rw is refl)))

-- Pages that are forgotten.

removed_lawful : (k : Key) (s : ClockState) → Lawful s → Lawful (removed k s)
unfolding removed relisted
removed_lawful k s h =
    let i : ℕ = place k s.entries in
    lawful_of (removed k s)
    (removed_steady k s (steady_of s h).based)
    (omega (arith, h.few, number-without_le (λ e. is_hot e.kind) s.entries i, number-without_le (λ e. is_cold e.kind) s.entries i))
    (omega (arith, h.few, number-without_le (λ e. is_shadow e.kind) s.entries i))

pub withdrawn_lawful : (k : Key) (s : ClockState) → Lawful s → Lawful (withdrawn k s).0
unfolding withdrawn
withdrawn_lawful k s h =
    elim (kind_of k s.entries) as (λ f. Lawful (kind_withdrawn f k s).0) [
      | None ↦ h
      | Some t ↦ removed_lawful k s h
    ]

pub purged_lawful : (process : ℕ) (s : ClockState) → Lawful s → Lawful (purged process s)
unfolding purged relisted
purged_lawful process s h =
    let q : Entry → Bool = λ e. not (is_of_process process e) in
    lawful_of (purged process s)
    (relisted_steady (filter q s.entries) s (steady_of s h).based (λ k. number-filter (has_key k) q s.entries))
    (omega (arith, h.few, number-filter (λ e. is_hot e.kind) q s.entries, number-filter (λ e. is_cold e.kind) q s.entries))
    (omega (arith, h.few, number-filter (λ e. is_shadow e.kind) q s.entries))

-- The bound.

-- the number of answers that are left, in plain numbers: a came so far, or one more
lower : (m a h c h' c' : ℕ) → a ≤ 3 * m → h + c ≤ m → h' + c' ≤ h + c → (a ≡ 3 * m → 2 * h' + c' < 2 * h + c) →
    cond (nat_lt (min (a + 1) (3 * m)) (3 * m)) (5 * m - min (a + 1) (3 * m)) (2 * h' + c') < cond (nat_lt a (3 * m)) (5 * m - a) (2 * h + c)
lower m a h c h' c' few within fewer lighter =
    elim (nat_lt a (3 * m)) as (λ t. nat_lt a (3 * m) ≡ t → cond (nat_lt (min (a + 1) (3 * m)) (3 * m)) (5 * m - min (a + 1) (3 * m)) (2 * h' + c') < cond t (5 * m - a) (2 * h + c)) [
      | true ↦ λ is.
          let less : a < 3 * m = below a (3 * m) is in
          elim (nat_lt (min (a + 1) (3 * m)) (3 * m)) as (λ u. nat_lt (min (a + 1) (3 * m)) (3 * m) ≡ u → cond u (5 * m - min (a + 1) (3 * m)) (2 * h' + c') < 5 * m - a) [
            | true ↦ λ _. omega arith
            | false ↦ λ _. omega arith
          ] refl
      | false ↦ λ is.
          let last : a ≡ 3 * m = omega (arith, not_below a (3 * m) is) in
          elim (nat_lt (min (a + 1) (3 * m)) (3 * m)) as (λ u. nat_lt (min (a + 1) (3 * m)) (3 * m) ≡ u → cond u (5 * m - min (a + 1) (3 * m)) (2 * h' + c') < 2 * h + c) [
            | true ↦ λ over. absurd (omega (arith, below (min (a + 1) (3 * m)) (3 * m) over))
            | false ↦ λ _. lighter last
          ] refl
    ] refl
  where
    below : (m n : ℕ) → nat_lt m n ≡ true → m < n
    below m n h = grind (arith, nat_tests)

    not_below : (m n : ℕ) → nat_lt m n ≡ false → n ≤ m
    not_below m n h = grind (arith, nat_tests)

-- the last answers count each use for nothing
heeded_unused : (s : ClockState) (bit : Bit) → s.asked ≡ 3 * s.frames → heeded s bit ≢ One
heeded_unused s Zero h g = cc
heeded_unused s One h g =
    let last : (s.asked == 3 * s.frames) ≡ true = grind (arith, nat_tests) in
    let zero : Zero ≡ One = rw last at g in
    cc
heeded_unused s Gone h g = cc

gone_on_lowers : (bit : Bit) (s new : ClockState) → Lawful s → GoesOn (heeded s bit) s new → answers_left (gone_on new).0 < answers_left s
unfolding gone_on
gone_on_lowers bit s new h g =
    rw (g.frames, g.asked) (lower s.frames s.asked (hot_count s.entries) (cold_count s.entries) (hot_count new.entries) (cold_count new.entries)
    h.few_asked h.few.resident g.resident (λ last. g.lighter (heeded_unused s bit last)))

gives_up_names : (k : Key) (new : ClockState) → (gives_up k new).1 ≡ Ok (Victim k)
unfolding gives_up
gives_up_names k new = refl

pub left_lowers : (bit : Bit) (s : ClockState) → Lawful s → (answered bit s).1 ≡ Ok GoOn → answers_left (answered bit s).0 < answers_left s
left_lowers bit s h g =
    elim (outcome bit s (steady_of s h)) [
      | inl on ↦ rw (on.1) (gone_on_lowers bit s on.0 h on.2)
      | inr other ↦ elim other [
        | inl v ↦ absurd (let names : (gives_up v.0 v.1).1 ≡ Ok (Victim v.0) = gives_up_names v.0 v.1 in let r : (answered bit s).1 ≡ (gives_up v.0 v.1).1 = ap (λ (a : Answer Verdict). a.1) v.2 in cc)
        | inr e ↦ absurd (let r : (answered bit s).1 ≡ Err e.0 = ap (λ (a : Answer Verdict). a.1) e.1 in cc)
      ]
    ]

-- the same of a state and an answer that are the definition's
pub lowers_at : (bit : Bit) (old new : ClockState) (r : Result Verdict Refusal) → Lawful old → new ≡ (answered bit old).0 → r ≡ (answered bit old).1 → r ≡ Ok GoOn → answers_left new < answers_left old
lowers_at bit old new r h moved exact on = rw moved (left_lowers bit old h (sym exact ∙ on))
