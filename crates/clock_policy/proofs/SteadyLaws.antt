-- What every move keeps: the sizes, that keys are distinct, and that the hands rest.
use Rattle.std.specs.Prelude.{◌≡◌, ℕ, ◌+◌, ◌*◌, ◌≤◌, ◌<◌, Bool, true, false, ◌&&◌, ◌||◌, ◌==◌, nat_lt, cond, Option, Some, None, is_some, unwrap_or, find, slice_get, List, [], ◌∷◌, ◌++◌, take, drop, set, length, refl}
use Rattle.std.specs.List.{list_any}
use Rattle.std.proofs.Common.{arith, sym, ap, ◌∙◌, length-append, length-set}
use Rattle.std.proofs.lemmas.List.{length-take, length-drop}
use Rattle.clock_policy.proofs.FindLaws.{found_passes}
use Rattle.clock_policy.specs.declared.key.Key.{Key}
use Rattle.clock_policy.specs.declared.entry.Entry.{Entry}
use Rattle.clock_policy.specs.declared.entry.EntryKind.{EntryKind}
use Rattle.clock_policy.specs.declared.entry.EntryKind.TheVariants.{Shadow}
use Rattle.clock_policy.specs.declared.answer.Bit.{Bit}
use Rattle.clock_policy.specs.declared.answer.Bit.TheVariants.{Zero, One, Gone}
use Rattle.clock_policy.specs.ClockPro.{ClockState, number, has_key, place, place_of, round, found_key, stays_in, settled, relisted, removed, appended, marked, sent_to_end, grown, fallen, cold_hand_on, shadowed, turned_to, trimmed, trimmed_once, tests_ended, hot_left, trimmed_list, trimmed_tests, test_count, shadow_count, is_shadow}
use Rattle.clock_policy.specs.FrameCounts.{least_frames, most_frames}
use Rattle.clock_policy.specs.Lawful.{RestsIn}
use Rattle.clock_policy.proofs.ListedLaws.{has_key_refl, list_any-round}
use Rattle.clock_policy.proofs.CountLaws.{has_key_same, has_key_sym, number-append, number-round, number-without, number-without_le, number-set, any_number, number_any, place_has, IsIn, place_holds, in_number, keys-tests_ended, keys-trimmed_list}

pub record Based (s : ClockState) : Type 0 where
  pub least : least_frames ≤ s.frames
  pub most : s.frames ≤ most_frames
  pub share_low : 1 ≤ s.share
  pub share_high : s.share < s.frames
  pub few_asked : s.asked ≤ 3 * s.frames
  pub distinct : (k : Key) → number (has_key k) s.entries ≤ 1

pub record Steady (s : ClockState) : Type 0 where
  pub based : Based s
  pub cold_hand_rests : RestsIn s.entries s.cold_hand
  pub test_hand_rests : RestsIn s.entries s.test_hand

-- the new list's keys are keys of the old one, each as often at most
abbrev pub KeysFrom : List Entry → List Entry → Type 0
KeysFrom new old = (k : Key) → number (has_key k) new ≤ number (has_key k) old

-- Hands.

-- who looks for less finds something, where there is something
find_some : (p q : Entry → Bool) → ((e : Entry) → q e ≡ true → p e ≡ true) → (l : List Entry) → list_any q l ≡ true → is_some (find p l) ≡ true
find_some p q less [] h = cc
find_some p q less (e ∷ es) h =
    elim (p e) as (λ t. p e ≡ t → is_some (cond t (Some e) (find p es)) ≡ true) [
      | true ↦ λ is. refl
      | false ↦ λ is. find_some p q less es (elim (q e) as (λ u. q e ≡ u → u || list_any q es ≡ true → list_any q es ≡ true) [
        | true ↦ λ yes g. let other : p e ≡ true = less e yes in cc
        | false ↦ λ no g. g
      ] refl h)
    ] refl

-- where no entry of the old list stays, the new one is empty
none_stays : (new old : List Entry) (i : ℕ) → KeysFrom new old → find (stays_in new) (round i old) ≡ None → length new ≡ 0
none_stays [] old i from h = refl
none_stays (n ∷ ns) old i from h =
    let q : Entry → Bool = has_key n.key in
    let once : 1 ≤ number q (n ∷ ns) = rw (has_key_refl n) (omega arith) in
    let there : list_any q old ≡ true = number_any q old (omega (arith, from n.key)) in
    let around : list_any q (round i old) ≡ true = list_any-round q i old ∙ there in
    let some : is_some (find (stays_in (n ∷ ns)) (round i old)) ≡ true =
    find_some (stays_in (n ∷ ns)) q (λ e yes. rw (has_key_sym n e yes) refl) (round i old) around in
    let no : is_some (find (stays_in (n ∷ ns)) (round i old)) ≡ false = rw h refl in
    cc

pub settled_rests : (new old : List Entry) (hand : Option Key) → KeysFrom new old → RestsIn new (settled old new hand)
unfolding settled
settled_rests new old hand from =
    elim (find (stays_in new) (round (place_of hand old) old)) as (λ found. find (stays_in new) (round (place_of hand old) old) ≡ found → RestsIn new (found_key found)) [
      | None ↦ λ h. none_stays new old (place_of hand old) from h
      | Some e ↦ λ h. any_number (has_key e.key) new (found_passes (stays_in new) (round (place_of hand old) old) e h)
    ] refl

-- the first entry from a place on is one of the list
pub first_rests : (i : ℕ) (l : List Entry) → RestsIn l (found_key (find (λ _. true) (round i l)))
first_rests i l =
    elim (round i l) as (λ r. round i l ≡ r → RestsIn l (found_key (find (λ _. true) r))) [
      | [] ↦ λ h. omega (arith, ap length h, length-append (drop i l) (take i l), length-drop i l, length-take i l)
      | e ∷ es ↦ λ h.
          let same : number (has_key e.key) (e ∷ es) ≡ number (has_key e.key) l = rw h at (number-round (has_key e.key) i l) in
          omega (arith, rw (has_key_refl e) at same)
    ] refl

-- Moves.

pub relisted_steady : (new : List Entry) (s : ClockState) → Based s → KeysFrom new s.entries → Steady (relisted new s)
unfolding relisted
relisted_steady new s b from = record {
  based = record {
    least = b.least;
    most = b.most;
    share_low = b.share_low;
    share_high = b.share_high;
    few_asked = b.few_asked;
    distinct = λ k. omega (arith, from k, b.distinct k);
  };
  cold_hand_rests = settled_rests new s.entries s.cold_hand from;
  test_hand_rests = settled_rests new s.entries s.test_hand from;
}

pub removed_steady : (k : Key) (s : ClockState) → Based s → Steady (removed k s)
unfolding removed
removed_steady k s b = relisted_steady (take (place k s.entries) s.entries ++ drop (place k s.entries + 1) s.entries) s b (λ q. number-without_le (has_key q) s.entries (place k s.entries))

-- two keys of one entry are one key
same_number : (q k : Key) (e : Entry) (l : List Entry) → has_key q e ≡ true → has_key k e ≡ true → number (has_key q) l ≡ number (has_key k) l
same_number q k e l h g =
    let process : q.process ≡ k.process = sym (has_key_same q e h).0 ∙ (has_key_same k e g).0 in
    let vpn : q.vpn ≡ k.vpn = sym (has_key_same q e h).1 ∙ (has_key_same k e g).1 in
    ap (λ (a : ℕ). number (λ n. (n.key.process == a) && (n.key.vpn == q.vpn)) l) process
    ∙ ap (λ (b : ℕ). number (λ n. (n.key.process == k.process) && (n.key.vpn == b)) l) vpn

-- a hand on none takes the entry that is appended
appended_rests : (e : Entry) (l : List Entry) (hand : Option Key) → RestsIn l hand → RestsIn (l ++ e ∷ []) (Some (unwrap_or hand e.key))
appended_rests e l None rests = omega (arith, rw (has_key_refl e) at (number-append (has_key e.key) l (e ∷ [])))
appended_rests e l (Some k) rests = omega (arith, number-append (has_key k) l (e ∷ []))

appended_distinct : (e : Entry) (l : List Entry) (q : Key) → number (has_key q) l ≤ 1 → number (has_key e.key) l ≡ 0 → number (has_key q) (l ++ e ∷ []) ≤ 1
appended_distinct e l q one none =
    elim (has_key q e) as (λ t. has_key q e ≡ t → number (has_key q) (l ++ e ∷ []) ≤ 1) [
      | true ↦ λ h. omega (arith, rw h at (number-append (has_key q) l (e ∷ [])), same_number q e.key e l h (has_key_refl e))
      | false ↦ λ h. omega (arith, rw h at (number-append (has_key q) l (e ∷ [])))
    ] refl

pub appended_steady : (e : Entry) (s : ClockState) → Steady s → number (has_key e.key) s.entries ≡ 0 → Steady (appended e s)
unfolding appended
appended_steady e s h none = record {
  based = record {
    least = h.based.least;
    most = h.based.most;
    share_low = h.based.share_low;
    share_high = h.based.share_high;
    few_asked = h.based.few_asked;
    distinct = λ q. appended_distinct e s.entries q (h.based.distinct q) none;
  };
  cold_hand_rests = appended_rests e s.entries s.cold_hand h.cold_hand_rests;
  test_hand_rests = appended_rests e s.entries s.test_hand h.test_hand_rests;
}

-- the key of an entry that was taken out is gone
removed_gone : (k : Key) (l : List Entry) → number (has_key k) l ≤ 1 → place k l < length l → number (has_key k) (take (place k l) l ++ drop (place k l + 1) l) ≡ 0
removed_gone k l one listed =
    let found : (x : Entry) × (slice_get l (place k l) ≡ Some x) × (has_key k x ≡ true) = place_has k l listed in
    omega (arith, rw found.2 at (number-without (has_key k) found.0 l (place k l) found.1))

pub sent_to_end_steady : (k : Key) (kind : EntryKind) (s : ClockState) → Based s → place k s.entries < length s.entries → Steady (sent_to_end k kind s)
unfolding sent_to_end removed relisted
sent_to_end_steady k kind s b listed =
    appended_steady (record { key = k; kind = kind }) (removed k s) (removed_steady k s b) (removed_gone k s.entries (b.distinct k) listed)

-- a mark leaves the keys
marked_keys : (q k : Key) (kind : EntryKind) (l : List Entry) → place k l < length l → number (has_key q) (set l (place k l) (record { key = k; kind = kind })) ≡ number (has_key q) l
marked_keys q k kind l listed =
    let y : Entry = record { key = k; kind = kind } in
    let found : (x : Entry) × (slice_get l (place k l) ≡ Some x) × (has_key k x ≡ true) = place_has k l listed in
    let key : (found.0.key.process ≡ k.process) × (found.0.key.vpn ≡ k.vpn) = has_key_same k found.0 found.2 in
    let same : has_key q found.0 ≡ has_key q y = rw (key.0, key.1) refl in
    omega (arith, rw same at (number-set (has_key q) found.0 y l (place k l) found.1))

marked_rests : (k : Key) (kind : EntryKind) (l : List Entry) (hand : Option Key) → place k l < length l → RestsIn l hand → RestsIn (set l (place k l) (record { key = k; kind = kind })) hand
marked_rests k kind l None listed rests = omega (arith, length-set l (place k l) (record { key = k; kind = kind }))
marked_rests k kind l (Some q) listed rests = omega (arith, marked_keys q k kind l listed)

pub marked_steady : (k : Key) (kind : EntryKind) (s : ClockState) → Steady s → place k s.entries < length s.entries → Steady (marked k kind s)
unfolding marked
marked_steady k kind s h listed = record {
  based = record {
    least = h.based.least;
    most = h.based.most;
    share_low = h.based.share_low;
    share_high = h.based.share_high;
    few_asked = h.based.few_asked;
    distinct = λ q. omega (arith, marked_keys q k kind s.entries listed, h.based.distinct q);
  };
  cold_hand_rests = marked_rests k kind s.entries s.cold_hand listed h.cold_hand_rests;
  test_hand_rests = marked_rests k kind s.entries s.test_hand listed h.test_hand_rests;
}

pub grown_steady : (s : ClockState) → Steady s → Steady (grown s)
unfolding grown
grown_steady s h = record {
  based = record {
    least = h.based.least;
    most = h.based.most;
    share_low = omega (arith, h.based.least, h.based.share_low);
    share_high = omega (arith, h.based.least);
    few_asked = h.based.few_asked;
    distinct = h.based.distinct;
  };
  cold_hand_rests = h.cold_hand_rests;
  test_hand_rests = h.test_hand_rests;
}

pub fallen_steady : (n : ℕ) (s : ClockState) → Steady s → Steady (fallen n s)
unfolding fallen
fallen_steady n s h = record {
  based = record {
    least = h.based.least;
    most = h.based.most;
    share_low = omega arith;
    share_high = omega (arith, h.based.least, h.based.share_high);
    few_asked = h.based.few_asked;
    distinct = h.based.distinct;
  };
  cold_hand_rests = h.cold_hand_rests;
  test_hand_rests = h.test_hand_rests;
}

pub shadowed_steady : (k : Key) (s : ClockState) → Steady s → place k s.entries < length s.entries → Steady (shadowed k s)
unfolding shadowed
shadowed_steady k s h listed =
    let after : Steady (marked k Shadow s) = marked_steady k Shadow s h listed in
    record {
      based = record {
        least = after.based.least;
        most = after.based.most;
        share_low = after.based.share_low;
        share_high = after.based.share_high;
        few_asked = after.based.few_asked;
        distinct = after.based.distinct;
      };
      cold_hand_rests = first_rests (place k s.entries + 1) (marked k Shadow s).entries;
      test_hand_rests = after.test_hand_rests;
    }

pub turned_to_steady : (bit : Bit) (x : Entry) (s : ClockState) → Based s → IsIn x s.entries → Steady (turned_to bit x s)
unfolding turned_to
turned_to_steady bit x s b in_list =
    let i = place x.key s.entries in
    fallen_steady (test_count (take i s.entries)) (relisted (drop (i + 1) s.entries ++ tests_ended (take i s.entries) ++ hot_left bit x) s)
    (relisted_steady (drop (i + 1) s.entries ++ tests_ended (take i s.entries) ++ hot_left bit x) s b (λ q. turned_keys q bit x s.entries (b.distinct x.key) in_list))
  where
    left_keys : (q : Key) (bit : Bit) (x : Entry) → number (has_key q) (hot_left bit x) ≤ cond (has_key q x) 1 0
    left_keys q Zero x = omega arith
    left_keys q One x = omega arith
    left_keys q Gone x = omega arith

    turned_keys : (q : Key) (bit : Bit) (x : Entry) (l : List Entry) → number (has_key x.key) l ≤ 1 → IsIn x l → number (has_key q) (drop (place x.key l + 1) l ++ tests_ended (take (place x.key l) l) ++ hot_left bit x) ≤ number (has_key q) l
    turned_keys q bit x l one in_list =
        let i = place x.key l in
        omega (
          arith,
          number-append (has_key q) (drop (i + 1) l ++ tests_ended (take i l)) (hot_left bit x),
          number-append (has_key q) (drop (i + 1) l) (tests_ended (take i l)),
          number-append (has_key q) (take i l) (drop (i + 1) l),
          keys-tests_ended q (take i l),
          left_keys q bit x,
          number-without (has_key q) x l i (place_holds x l one in_list),
        )

pub trimmed_once_steady : (s : ClockState) → Based s → Steady (trimmed_once s)
unfolding trimmed_once
trimmed_once_steady s b =
    let i = place_of s.test_hand s.entries in
    let at_shadow : ClockState = record s { test_hand = found_key (find (λ e. is_shadow e.kind) (round i s.entries)) } in
    let based : Based at_shadow = record {
      least = b.least;
      most = b.most;
      share_low = b.share_low;
      share_high = b.share_high;
      few_asked = b.few_asked;
      distinct = b.distinct;
    } in
    fallen_steady (trimmed_tests (round i s.entries)) (relisted (trimmed_list i s.entries) at_shadow)
    (relisted_steady (trimmed_list i s.entries) at_shadow based (λ q. keys-trimmed_list q i s.entries))

pub trimmed_steady : (s : ClockState) → Steady s → Steady (trimmed s)
unfolding trimmed
trimmed_steady s h =
    elim (nat_lt s.frames (shadow_count s.entries)) as (λ t. Steady (cond t (trimmed_once s) s)) [
      | true ↦ trimmed_once_steady s h.based
      | false ↦ h
    ]

-- the cold hand is set on an entry of the list
pub cold_hand_on_steady : (x : Entry) (s : ClockState) → Steady s → IsIn x s.entries → Steady (cold_hand_on x.key s)
unfolding cold_hand_on
cold_hand_on_steady x s h in_list = record {
  based = record {
    least = h.based.least;
    most = h.based.most;
    share_low = h.based.share_low;
    share_high = h.based.share_high;
    few_asked = h.based.few_asked;
    distinct = h.based.distinct;
  };
  cold_hand_rests = in_number x s.entries in_list;
  test_hand_rests = h.test_hand_rests;
}
