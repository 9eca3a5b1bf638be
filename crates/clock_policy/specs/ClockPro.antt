-- CLOCK-Pro on a plain list: its state, and each call as a function from state to state.
--
-- The list is a circle whose front is where the hot hand stands. The next of an entry is the one behind it, and the next of the last
-- is the front. The other two hands stand on an entry each, told by its key, or on none where the list is empty.
use Rattle.std.specs.Prelude.{ℕ, suc, ◌+◌, ◌-◌, ◌*◌, Bool, true, false, ◌==◌, ◌&&◌, ◌||◌, not, cond, nat_lt, min, max, List, [], ◌∷◌, ◌++◌, take, drop, set, filter, find, option_map, unwrap_or, Option, Some, None, Result, Ok, Err}
use Rattle.std.specs.List.{list_any}
use Rattle.clock_policy.specs.declared.key.Key.{Key}
use Rattle.clock_policy.specs.declared.entry.Entry.{Entry}
use Rattle.clock_policy.specs.declared.entry.EntryKind.{EntryKind}
use Rattle.clock_policy.specs.declared.entry.EntryKind.TheVariants.{Hot, Test, Cold, Shadow}
use Rattle.clock_policy.specs.declared.answer.Kind.{Kind}
use Rattle.clock_policy.specs.declared.answer.Kind.TheVariants as kind
use Rattle.clock_policy.specs.declared.answer.Bit.{Bit}
use Rattle.clock_policy.specs.declared.answer.Bit.TheVariants.{Zero, One, Gone}
use Rattle.clock_policy.specs.declared.answer.Verdict.{Verdict}
use Rattle.clock_policy.specs.declared.answer.Verdict.TheVariants.{GoOn, Victim}
use Rattle.clock_policy.specs.declared.refusal.Refusal.{Refusal}
use Rattle.clock_policy.specs.declared.refusal.Refusal.TheVariants.{AlreadyResident, NoQuestion, NotThere, Full}

-- `share` is how many of the frames cold pages are to have, `asked` how many answers came since the last victim
pub record ClockState : Type 0 where
  pub frames : ℕ
  pub share : ℕ
  pub asked : ℕ
  pub entries : List Entry
  pub cold_hand : Option Key
  pub test_hand : Option Key

-- Entries and how many of them there are.

abbrev pub has_key : Key → Entry → Bool
has_key k e = (e.key.process == k.process) && (e.key.vpn == k.vpn)

abbrev pub is_hot : EntryKind → Bool
is_hot Hot = true
is_hot Test = false
is_hot Cold = false
is_hot Shadow = false

-- resident, and not hot
abbrev pub is_cold : EntryKind → Bool
is_cold Hot = false
is_cold Test = true
is_cold Cold = true
is_cold Shadow = false

abbrev pub is_shadow : EntryKind → Bool
is_shadow Hot = false
is_shadow Test = false
is_shadow Cold = false
is_shadow Shadow = true

abbrev pub is_in_test : EntryKind → Bool
is_in_test Hot = false
is_in_test Test = true
is_in_test Cold = false
is_in_test Shadow = true

abbrev pub number : (Entry → Bool) → List Entry → ℕ
number p [] = 0
number p (e ∷ es) = cond (p e) 1 0 + number p es

abbrev pub hot_count : List Entry → ℕ
hot_count l = number (λ e. is_hot e.kind) l

abbrev pub cold_count : List Entry → ℕ
cold_count l = number (λ e. is_cold e.kind) l

abbrev pub shadow_count : List Entry → ℕ
shadow_count l = number (λ e. is_shadow e.kind) l

abbrev pub test_count : List Entry → ℕ
test_count l = number (λ e. is_in_test e.kind) l

abbrev pub of_kind : EntryKind → Entry → Entry
of_kind kind e = record { key = e.key; kind = kind }

-- Places, hands and moves.

-- how many entries stand before the one of the key
abbrev pub place : Key → List Entry → ℕ
place k [] = 0
place k (e ∷ es) = cond (has_key k e) 0 (suc (place k es))

abbrev pub place_of : Option Key → List Entry → ℕ
place_of None l = 0
place_of (Some k) l = place k l

-- the entries from place i on, once round
abbrev pub round : ℕ → List Entry → List Entry
round i l = drop i l ++ take i l

abbrev pub found_key : Option Entry → Option Key
found_key found = option_map (λ e. e.key) found

-- whether the entry is still in the list
abbrev pub stays_in : List Entry → Entry → Bool
stays_in l e = list_any (has_key e.key) l

-- Where a hand of the old list rests when the list is the new one: where it stands, or else, clockwise in the old list, on the next
-- entry that stays.
unfoldable pub settled : List Entry → List Entry → Option Key → Option Key
settled old new hand = found_key (find (stays_in new) (round (place_of hand old) old))

-- the list is the new one, and both hands rest
unfoldable pub relisted : List Entry → ClockState → ClockState
relisted new s = record s {
  entries = new;
  cold_hand = settled s.entries new s.cold_hand;
  test_hand = settled s.entries new s.test_hand;
}

-- the entry of the key is taken out
unfoldable pub removed : Key → ClockState → ClockState
removed k s =
    let i = place k s.entries in relisted (take i s.entries ++ drop (i + 1) s.entries) s

-- the entry becomes the last, and hands that stand on none rest on it
unfoldable pub appended : Entry → ClockState → ClockState
appended e s = record s {
  entries = s.entries ++ e ∷ [];
  cold_hand = Some (unwrap_or s.cold_hand e.key);
  test_hand = Some (unwrap_or s.test_hand e.key);
}

-- the entry of the key becomes of this kind, where it stands
unfoldable pub marked : Key → EntryKind → ClockState → ClockState
marked k kind s = record s { entries = set s.entries (place k s.entries) (record { key = k; kind = kind }) }

-- the entry of the key becomes the last, of this kind
unfoldable pub sent_to_end : Key → EntryKind → ClockState → ClockState
sent_to_end k kind s = appended (record { key = k; kind = kind }) (removed k s)

unfoldable pub grown : ClockState → ClockState
grown s = record s { share = min (s.share + 1) (s.frames - 1) }

unfoldable pub fallen : ℕ → ClockState → ClockState
fallen n s = record s { share = max (s.share - n) 1 }

-- The question.

-- a hot entry is asked while there are more than their frames, or where there is no cold one
abbrev pub asks_hot : ClockState → Bool
asks_hot s = nat_lt (s.frames - s.share) (hot_count s.entries) || (cold_count s.entries == 0)

-- the first hot entry from the front, or the first cold one from the cold hand on
unfoldable pub asked_entry : ClockState → Option Entry
asked_entry s =
    cond (asks_hot s)
    (find (λ e. is_hot e.kind) s.entries)
    (find (λ e. is_cold e.kind) (round (place_of s.cold_hand s.entries) s.entries))

-- The answer for a hot entry.

-- what the hot hand leaves of an entry that it passes: its test ends, so that a shadow goes
abbrev pub test_ended : EntryKind → Entry → List Entry
test_ended Hot e = e ∷ []
test_ended Test e = of_kind Cold e ∷ []
test_ended Cold e = e ∷ []
test_ended Shadow e = []

abbrev pub tests_ended : List Entry → List Entry
tests_ended [] = []
tests_ended (e ∷ es) = test_ended e.kind e ++ tests_ended es

-- what the answer leaves of the hot entry itself
abbrev pub hot_left : Bit → Entry → List Entry
hot_left Zero x = of_kind Cold x ∷ []
hot_left One x = x ∷ []
hot_left Gone x = []

-- The hot hand goes to x: the entries before x are passed and become the last, in their order, and then x. The share falls by the
-- tests that ended.
unfoldable pub turned_to : Bit → Entry → ClockState → ClockState
turned_to bit x s =
    let i = place x.key s.entries in
    let passed = take i s.entries in
    fallen (test_count passed) (relisted (drop (i + 1) s.entries ++ tests_ended passed ++ hot_left bit x) s)

-- The answer for a cold entry.

unfoldable pub cold_hand_on : Key → ClockState → ClockState
cold_hand_on k s = record s { cold_hand = Some k }

-- x becomes a shadow where it stands, and the cold hand goes to its next
unfoldable pub shadowed : Key → ClockState → ClockState
shadowed k s =
    let s' = marked k Shadow s in
    let next = found_key (find (λ _. true) (round (place k s.entries + 1) s'.entries)) in
    record s' { cold_hand = next }

-- Trimming, where there are more shadows than frames.

-- the entries up to the first shadow end their tests, and it goes
abbrev pub trimmed_part : List Entry → List Entry
trimmed_part [] = []
trimmed_part (e ∷ es) = cond (is_shadow e.kind) es (test_ended e.kind e ++ trimmed_part es)

-- how many tests that ends
abbrev pub trimmed_tests : List Entry → ℕ
trimmed_tests [] = 0
trimmed_tests (e ∷ es) = cond (is_shadow e.kind) 1 (cond (is_in_test e.kind) 1 0 + trimmed_tests es)

-- the list with that done from place i on, once round
abbrev pub trimmed_list : ℕ → List Entry → List Entry
trimmed_list i l =
    cond (list_any (λ e. is_shadow e.kind) (drop i l))
    (take i l ++ trimmed_part (drop i l))
    (trimmed_part (take i l) ++ trimmed_part (drop i l))

-- From the test hand on to the first shadow each test ends. The hand stops on that shadow, which goes: the hand rests on its next.
unfoldable pub trimmed_once : ClockState → ClockState
trimmed_once s =
    let i = place_of s.test_hand s.entries in
    let ring = round i s.entries in
    let at_shadow : ClockState = record s { test_hand = found_key (find (λ e. is_shadow e.kind) ring) } in
    fallen (trimmed_tests ring) (relisted (trimmed_list i s.entries) at_shadow)

unfoldable pub trimmed : ClockState → ClockState
trimmed s = cond (nat_lt s.frames (shadow_count s.entries)) (trimmed_once s) s

-- The calls.

abbrev pub Answer : Type 0 → Type 0
Answer T = ClockState × Result T Refusal

-- no entry, 1 for the least share
unfoldable pub opening_state : ℕ → ClockState
opening_state frames = record { frames = frames; share = 1; asked = 0; entries = []; cold_hand = None; test_hand = None }

unfoldable pub question_of : ClockState → Option Key
question_of s = found_key (asked_entry s)

unfoldable pub gone_on : ClockState → Answer Verdict
gone_on s = (record s { asked = min (s.asked + 1) (3 * s.frames) }, Ok GoOn)

unfoldable pub gives_up : Key → ClockState → Answer Verdict
gives_up k s = (record (trimmed s) { asked = 0 }, Ok (Victim k))

-- after three answers a frame with no victim, a used page is given up as an unused one
abbrev pub heeded : ClockState → Bit → Bit
heeded s Zero = Zero
heeded s One = cond (s.asked == 3 * s.frames) Zero One
heeded s Gone = Gone

abbrev pub test_answered : Bit → Entry → ClockState → Answer Verdict
test_answered Zero x s = gives_up x.key (shadowed x.key s)
test_answered One x s = gone_on (grown (sent_to_end x.key Hot (cold_hand_on x.key s)))
test_answered Gone x s = gone_on (removed x.key (cold_hand_on x.key s))

abbrev pub cold_answered : Bit → Entry → ClockState → Answer Verdict
cold_answered Zero x s = gives_up x.key (removed x.key (cold_hand_on x.key s))
cold_answered One x s = gone_on (sent_to_end x.key Test (cold_hand_on x.key s))
cold_answered Gone x s = gone_on (removed x.key (cold_hand_on x.key s))

abbrev pub kind_answered : EntryKind → Bit → Entry → ClockState → Answer Verdict
kind_answered Hot bit x s = gone_on (turned_to bit x s)
kind_answered Test bit x s = test_answered bit x s
kind_answered Cold bit x s = cold_answered bit x s
kind_answered Shadow bit x s = (s, Err NoQuestion)

abbrev pub entry_answered : Option Entry → Bit → ClockState → Answer Verdict
entry_answered None bit s = (s, Err NoQuestion)
entry_answered (Some x) bit s = kind_answered x.kind bit x s

-- the entry that the question names is answered
unfoldable pub answered : Bit → ClockState → Answer Verdict
answered bit s = entry_answered (asked_entry s) (heeded s bit) s

abbrev pub is_full : ClockState → Bool
is_full s = (hot_count s.entries + cold_count s.entries) == s.frames

-- the kind of the key's entry
abbrev pub kind_of : Key → List Entry → Option EntryKind
kind_of k l = option_map (λ e. e.kind) (find (has_key k) l)

abbrev pub new_admitted : Key → ClockState → Answer Kind
new_admitted k s = cond (is_full s) (s, Err Full) (appended (record { key = k; kind = Test }) s, Ok kind.Test)

abbrev pub shadow_admitted : Key → ClockState → Answer Kind
shadow_admitted k s = cond (is_full s) (s, Err Full) (grown (sent_to_end k Hot s), Ok kind.Hot)

abbrev pub kind_admitted : Option EntryKind → Key → ClockState → Answer Kind
kind_admitted None k s = new_admitted k s
kind_admitted (Some Hot) k s = (s, Err AlreadyResident)
kind_admitted (Some Test) k s = (s, Err AlreadyResident)
kind_admitted (Some Cold) k s = (s, Err AlreadyResident)
kind_admitted (Some Shadow) k s = shadow_admitted k s

-- a page that comes back within its test is hot, any other begins a test
unfoldable pub admitted : Key → ClockState → Answer Kind
admitted k s = kind_admitted (kind_of k s.entries) k s

abbrev pub new_restored : Key → ClockState → Answer Unit
new_restored k s = cond (is_full s) (s, Err Full) (appended (record { key = k; kind = Test }) s, Ok tt)

abbrev pub shadow_restored : Key → ClockState → Answer Unit
shadow_restored k s = cond (is_full s) (s, Err Full) (marked k Test s, Ok tt)

abbrev pub kind_restored : Option EntryKind → Key → ClockState → Answer Unit
kind_restored None k s = new_restored k s
kind_restored (Some Hot) k s = (s, Err AlreadyResident)
kind_restored (Some Test) k s = (s, Err AlreadyResident)
kind_restored (Some Cold) k s = (s, Err AlreadyResident)
kind_restored (Some Shadow) k s = shadow_restored k s

-- a victim that could not leave is resident again, in its test, where it stands
unfoldable pub restored : Key → ClockState → Answer Unit
restored k s = kind_restored (kind_of k s.entries) k s

abbrev pub kind_withdrawn : Option EntryKind → Key → ClockState → Answer Unit
kind_withdrawn None k s = (s, Err NotThere)
kind_withdrawn (Some _) k s = (removed k s, Ok tt)

unfoldable pub withdrawn : Key → ClockState → Answer Unit
withdrawn k s = kind_withdrawn (kind_of k s.entries) k s

abbrev pub is_of_process : ℕ → Entry → Bool
is_of_process process e = e.key.process == process

-- every entry of the process goes
unfoldable pub purged : ℕ → ClockState → ClockState
purged process s = relisted (filter (λ e. not (is_of_process process e)) s.entries) s

abbrev pub purge_count : ℕ → ClockState → ℕ
purge_count process s = number (is_of_process process) s.entries
