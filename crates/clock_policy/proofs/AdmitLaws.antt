-- How pages that come in, come back or are forgotten change the number of resident entries that pass a test of their keys.
use Rattle.std.specs.Prelude.{◌≡◌, ℕ, suc, ◌+◌, ◌≤◌, Bool, true, false, not, ◌==◌, ◌&&◌, ◌||◌, cond, ◌⊎◌, Option, Some, None, is_ok, find, filter, slice_get, option_map, List, [], ◌∷◌, ◌++◌, take, drop, Result, Ok, Err, refl}
use Rattle.std.proofs.Common.{arith, sym, ap, ◌∙◌, inl, inr}
use Rattle.std.proofs.lemmas.Bool.Decides.{nat_tests}
use Rattle.std.proofs.lemmas.Bool.{and_parts}
use Rattle.clock_policy.specs.declared.key.Key.{Key}
use Rattle.clock_policy.specs.declared.entry.Entry.{Entry}
use Rattle.clock_policy.specs.declared.entry.EntryKind.{EntryKind}
use Rattle.clock_policy.specs.declared.entry.EntryKind.TheVariants.{Hot, Test, Cold, Shadow}
use Rattle.clock_policy.specs.declared.answer.Kind.TheVariants as kind
use Rattle.clock_policy.specs.declared.refusal.Refusal.{Refusal}
use Rattle.clock_policy.specs.declared.refusal.Refusal.TheVariants.{AlreadyResident, Full}
use Rattle.clock_policy.specs.ClockPro.{ClockState, number, has_key, place, found_key, is_hot, is_cold, hot_count, cold_count, relisted, removed, appended, marked, sent_to_end, grown, asked_entry, question_of, is_full, kind_of, kind_admitted, admitted, kind_restored, restored, kind_withdrawn, withdrawn, is_of_process, purged}
use Rattle.clock_policy.specs.Residents.{in_frame, is_resident_that, residents, is_key, found_in_frame, has_resident}
use Rattle.clock_policy.specs.Lawful.{Lawful}
use Rattle.clock_policy.proofs.CountLaws.{number-append, number-without, number-set, IsIn}
use Rattle.clock_policy.proofs.ClockLaws.{asked_in}
use Rattle.clock_policy.proofs.QuestionLaws.{asked_resident}

-- What a look-up by key tells of the entry at the key's place.

pub one_key : (a b : Key) → a.process ≡ b.process → a.vpn ≡ b.vpn → a ≡ b
one_key a b p v =
    let one : Key → ℕ → Key = λ k n. record { process = n; vpn = k.vpn } in
    let other : Key → ℕ → Key = λ k n. record { process = k.process; vpn = n } in
    ap (one a) p ∙ ap (other b) v

pub keyed : (k : Key) (e : Entry) → has_key k e ≡ true → e.key ≡ k
keyed k e h = one_key e.key k (parts k e h).0 (parts k e h).1
  where
    parts : (k : Key) (e : Entry) → has_key k e ≡ true → (e.key.process ≡ k.process) × (e.key.vpn ≡ k.vpn)
    parts k e h = grind arith

pub entry_of_kind : (k : Key) (l : List Entry) (kind : EntryKind) → kind_of k l ≡ Some kind → (x : Entry) × (slice_get l (place k l) ≡ Some x) × (x.key ≡ k) × (x.kind ≡ kind)
entry_of_kind k [] kind h = cc
entry_of_kind k (e ∷ es) kind h =
    elim (has_key k e) as (λ t. has_key k e ≡ t → option_map (λ (x : Entry). x.kind) (cond t (Some e) (find (has_key k) es)) ≡ Some kind → (x : Entry) × (slice_get (e ∷ es) (cond t 0 (suc (place k es))) ≡ Some x) × (x.key ≡ k) × (x.kind ≡ kind)) [
      | true ↦ λ is g. let same : e.kind ≡ kind = cc in (e, refl, keyed k e is, same)
      | false ↦ λ is g. entry_of_kind k es kind g
    ] refl h

-- Moves.

appended_residents : (r : Key → Bool) (k : Key) (s : ClockState) → residents (appended (record { key = k; kind = Test }) s) r ≡ residents s r + cond (r k) 1 0
unfolding residents appended
appended_residents r k s = omega (arith, number-append (is_resident_that r) s.entries (record { key = k; kind = Test } ∷ []))

-- a shadow that comes back
sent_residents : (r : Key → Bool) (k : Key) (s : ClockState) → kind_of k s.entries ≡ Some Shadow → residents (grown (sent_to_end k Hot s)) r ≡ residents s r + cond (r k) 1 0
unfolding residents grown sent_to_end appended removed relisted
sent_residents r k s is =
    let l : List Entry = s.entries in
    let i : ℕ = place k l in
    let y : Entry = record { key = k; kind = Hot } in
    let f : (x : Entry) × (slice_get l (place k l) ≡ Some x) × (x.key ≡ k) × (x.kind ≡ Shadow) = entry_of_kind k l Shadow is in
    omega (
      arith,
      number-append (is_resident_that r) (take i l ++ drop (i + 1) l) (y ∷ []),
      number-without (is_resident_that r) f.0 l i f.1,
      ap {B = ℕ} (λ (t : EntryKind). cond (in_frame t && r f.0.key) 1 0) f.3,
    )

marked_residents : (r : Key → Bool) (k : Key) (s : ClockState) → kind_of k s.entries ≡ Some Shadow → residents (marked k Test s) r ≡ residents s r + cond (r k) 1 0
unfolding residents marked
marked_residents r k s is =
    let l : List Entry = s.entries in
    let y : Entry = record { key = k; kind = Test } in
    let f : (x : Entry) × (slice_get l (place k l) ≡ Some x) × (x.key ≡ k) × (x.kind ≡ Shadow) = entry_of_kind k l Shadow is in
    omega (
      arith,
      number-set (is_resident_that r) f.0 y l (place k l) f.1,
      ap {B = ℕ} (λ (t : EntryKind). cond (in_frame t && r f.0.key) 1 0) f.3,
    )

-- a refusal where the list is full, and else the move
cond_residents : {T : Type 0} (full : Bool) (r : Key → Bool) (k : Key) (s new : ClockState) (e : Refusal) (t : T) → residents new r ≡ residents s r + cond (r k) 1 0 →
    let a = cond {A = ClockState × Result T Refusal} full (s, Err e) (new, Ok t) in residents a.0 r ≡ residents s r + cond (is_ok a.1 && r k) 1 0
cond_residents true r k s new e t h = omega arith
cond_residents false r k s new e t h = h

-- A page that is admitted is one more.
pub admitted_residents : (r : Key → Bool) (k : Key) (s : ClockState) → residents (admitted k s).0 r ≡ residents s r + cond (is_ok (admitted k s).1 && r k) 1 0
unfolding admitted
admitted_residents r k s = by_kind (kind_of k s.entries) r k s refl
  where
    by_kind : (f : Option EntryKind) (r : Key → Bool) (k : Key) (s : ClockState) → kind_of k s.entries ≡ f → residents (kind_admitted f k s).0 r ≡ residents s r + cond (is_ok (kind_admitted f k s).1 && r k) 1 0
    by_kind None r k s is = cond_residents (is_full s) r k s (appended (record { key = k; kind = Test }) s) Full kind.Test (appended_residents r k s)
    by_kind (Some Hot) r k s is = omega arith
    by_kind (Some Test) r k s is = omega arith
    by_kind (Some Cold) r k s is = omega arith
    by_kind (Some Shadow) r k s is = cond_residents (is_full s) r k s (grown (sent_to_end k Hot s)) Full kind.Hot (sent_residents r k s is)

-- So is one that is taken back.
pub restored_residents : (r : Key → Bool) (k : Key) (s : ClockState) → residents (restored k s).0 r ≡ residents s r + cond (is_ok (restored k s).1 && r k) 1 0
unfolding restored
restored_residents r k s = by_kind (kind_of k s.entries) r k s refl
  where
    by_kind : (f : Option EntryKind) (r : Key → Bool) (k : Key) (s : ClockState) → kind_of k s.entries ≡ f → residents (kind_restored f k s).0 r ≡ residents s r + cond (is_ok (kind_restored f k s).1 && r k) 1 0
    by_kind None r k s is = cond_residents (is_full s) r k s (appended (record { key = k; kind = Test }) s) Full tt (appended_residents r k s)
    by_kind (Some Hot) r k s is = omega arith
    by_kind (Some Test) r k s is = omega arith
    by_kind (Some Cold) r k s is = omega arith
    by_kind (Some Shadow) r k s is = cond_residents (is_full s) r k s (marked k Test s) Full tt (marked_residents r k s is)

removed_residents : (kind : EntryKind) (r : Key → Bool) (k : Key) (s : ClockState) → kind_of k s.entries ≡ Some kind → residents (removed k s) r + cond (in_frame kind && r k) 1 0 ≡ residents s r
unfolding residents removed relisted
removed_residents kind r k s is =
    let l : List Entry = s.entries in
    let f : (x : Entry) × (slice_get l (place k l) ≡ Some x) × (x.key ≡ k) × (x.kind ≡ kind) = entry_of_kind k l kind is in
    omega (
      arith,
      number-without (is_resident_that r) f.0 l (place k l) f.1,
      ap {B = ℕ} (λ (t : EntryKind). cond (in_frame t && r f.0.key) 1 0) f.3,
      ap {B = ℕ} (λ (q : Key). cond (in_frame kind && r q) 1 0) f.2,
    )

-- A page that is forgotten goes, where it was resident.
pub withdrawn_residents : (r : Key → Bool) (k : Key) (s : ClockState) → residents (withdrawn k s).0 r + cond (has_resident k s && r k) 1 0 ≡ residents s r
unfolding withdrawn
withdrawn_residents r k s =
    elim (kind_of k s.entries) as (λ f. kind_of k s.entries ≡ f → residents (kind_withdrawn f k s).0 r + cond (found_in_frame f && r k) 1 0 ≡ residents s r) [
      | None ↦ λ is. omega arith
      | Some kind ↦ λ is. removed_residents kind r k s is
    ] refl

-- a test of one entry more
number_of_cond : (t : Bool) (p : Entry → Bool) (e : Entry) (l : List Entry) → number p (cond t (e ∷ l) l) ≡ cond t (cond (p e) 1 0 + number p l) (number p l)
number_of_cond true p e l = refl
number_of_cond false p e l = refl

-- The pages of a process go together.
pub purged_residents : (r : Key → Bool) (process : ℕ) (s : ClockState) → residents (purged process s) r ≡ residents s (λ q. not (q.process == process) && r q)
unfolding residents purged relisted
purged_residents r process s = filtered r process s.entries
  where
    both : (a b c : Bool) (n m : ℕ) → n ≡ m → cond (a) (cond (b && c) 1 0 + n) n ≡ cond (b && (a && c)) 1 0 + m
    both true b c n m h = rw h refl
    both false true c n m h = rw h (omega arith)
    both false false c n m h = rw h (omega arith)

    filtered : (r : Key → Bool) (process : ℕ) (l : List Entry) → number (is_resident_that r) (filter (λ e. not (is_of_process process e)) l) ≡ number (is_resident_that (λ q. not (q.process == process) && r q)) l
    filtered r process [] = refl
    filtered r process (e ∷ es) =
        number_of_cond (not (is_of_process process e)) (is_resident_that r) e (filter (λ e. not (is_of_process process e)) es)
        ∙ both (not (is_of_process process e)) (in_frame e.kind) (r e.key) _ _ (filtered r process es)

-- One key.

any_key : (r p : Entry → Bool) (l : List Entry) → ((e : Entry) → r e ≡ true → p e ≡ true) → number r l ≤ number p l
any_key r p [] less = omega arith
any_key r p (e ∷ es) less =
    elim (r e) as (λ t. r e ≡ t → cond t 1 0 + number r es ≤ cond (p e) 1 0 + number p es) [
      | true ↦ λ is. rw (less e is) (omega (arith, any_key r p es less))
      | false ↦ λ is. omega (arith, any_key r p es less)
    ] refl

-- a key counts once at most
pub residents_once : (k : Key) (s : ClockState) → Lawful s → residents s (is_key k) ≤ 1
unfolding residents
residents_once k s h =
    omega (arith, any_key (is_resident_that (is_key k)) (has_key k) s.entries (λ e yes. (and_parts (in_frame e.kind) (has_key k e) yes).1), h.distinct k)

in_list_number : (p : Entry → Bool) (x : Entry) (l : List Entry) → IsIn x l → p x ≡ true → 1 ≤ number p l
in_list_number p x [] h is = absurd h
in_list_number p x (e ∷ es) h is =
    elim h [
      | inl g ↦ rw (g, is) (omega arith)
      | inr g ↦ omega (arith, in_list_number p x es g is)
    ]

shown : (kind : EntryKind) → (is_hot kind || is_cold kind) ≡ true → in_frame kind ≡ true
shown Hot h = refl
shown Test h = refl
shown Cold h = refl
shown Shadow h = cc

pub is_key_self : (k : Key) → is_key k k ≡ true
is_key_self k = grind arith

entry_counts : (x : Entry) (s : ClockState) → IsIn x s.entries → in_frame x.kind ≡ true → 1 ≤ residents s (is_key x.key)
unfolding residents
entry_counts x s in_list frame = in_list_number (is_resident_that (is_key x.key)) x s.entries in_list (rw frame (is_key_self x.key))

-- the page of the question is resident, and stands in the list once
pub asked_once : (q : Key) (s : ClockState) → Lawful s → question_of s ≡ Some q → residents s (is_key q) ≡ 1
unfolding question_of
asked_once q s h asks =
    elim (asked_entry s) as (λ found. asked_entry s ≡ found → found_key found ≡ Some q → residents s (is_key q) ≡ 1) [
      | None ↦ λ is g. cc
      | Some x ↦ λ is g.
          let same : x.key ≡ q = cc in
          rw (← same) (one (residents s (is_key x.key)) (residents_once x.key s h) (entry_counts x s (asked_in s x is) (shown x.kind (asked_resident s x is))))
    ] refl asks
  where
    one : (n : ℕ) → n ≤ 1 → 1 ≤ n → n ≡ 1
    one n h g = omega arith

-- a key counts exactly where the list has its page as a resident one
pub key_residents : (k : Key) (s : ClockState) → Lawful s → residents s (is_key k) ≡ cond (has_resident k s) 1 0
unfolding residents
key_residents k s h = counted k s.entries (h.distinct k)
  where
    none_left : (k : Key) (l : List Entry) → number (has_key k) l ≡ 0 → number (is_resident_that (is_key k)) l ≡ 0
    none_left k l h = omega (arith, any_key (is_resident_that (is_key k)) (has_key k) l (λ e yes. (and_parts (in_frame e.kind) (has_key k e) yes).1))

    head_counts : (f : Bool) (n : ℕ) → n ≡ 0 → cond (f && true) 1 0 + n ≡ cond f 1 0
    head_counts true n h = omega arith
    head_counts false n h = omega arith

    tail_counts : (f : Bool) (n m : ℕ) → n ≡ m → cond (f && false) 1 0 + n ≡ m
    tail_counts true n m h = omega arith
    tail_counts false n m h = omega arith

    counted : (k : Key) (l : List Entry) → number (has_key k) l ≤ 1 → number (is_resident_that (is_key k)) l ≡ cond (found_in_frame (kind_of k l)) 1 0
    counted k [] one = refl
    counted k (e ∷ es) one =
        elim (has_key k e) as (λ t. cond t 1 0 + number (has_key k) es ≤ 1 → cond (in_frame e.kind && t) 1 0 + number (is_resident_that (is_key k)) es ≡ cond (found_in_frame (option_map (λ (x : Entry). x.kind) (cond t (Some e) (find (has_key k) es)))) 1 0) [
          | true ↦ λ few. head_counts (in_frame e.kind) _ (none_left k es (omega (arith, few)))
          | false ↦ λ few. tail_counts (in_frame e.kind) _ _ (counted k es (omega (arith, few)))
        ] one

-- The list is full where each frame has its page.

all_residents : (l : List Entry) → number (is_resident_that (λ _. true)) l ≡ hot_count l + cold_count l
all_residents [] = refl
all_residents (e ∷ es) =
    elim e.kind as (λ t. cond (in_frame t && true) 1 0 + number (is_resident_that (λ _. true)) es ≡ cond (is_hot t) 1 0 + hot_count es + (cond (is_cold t) 1 0 + cold_count es)) [
      | Hot ↦ omega (arith, all_residents es)
      | Test ↦ omega (arith, all_residents es)
      | Cold ↦ omega (arith, all_residents es)
      | Shadow ↦ omega (arith, all_residents es)
    ]

pub resident_total : (s : ClockState) → residents s (λ _. true) ≡ hot_count s.entries + cold_count s.entries
unfolding residents
resident_total s = all_residents s.entries

pub full_is : (s : ClockState) → is_full s ≡ (residents s (λ _. true) == s.frames)
full_is s = ap (λ (n : ℕ). n == s.frames) (sym (resident_total s))

-- Why a page is refused: it is resident, or it is not and each frame has its page.
abbrev pub Barred : Refusal → Key → ClockState → Type 0
Barred e k s =
    ((e ≡ AlreadyResident) × (has_resident k s ≡ true))
    ⊎ ((e ≡ Full) × (has_resident k s ≡ false) × (residents s (λ _. true) ≡ s.frames))

full_frames : (s : ClockState) → is_full s ≡ true → residents s (λ _. true) ≡ s.frames
full_frames s h = resident_total s ∙ same (hot_count s.entries + cold_count s.entries) s.frames h
  where
    same : (m n : ℕ) → (m == n) ≡ true → m ≡ n
    same m n h = grind (arith, nat_tests)

cond_barred : {T : Type 0} (full : Bool) (k : Key) (s new : ClockState) (e : Refusal) (t : T) → has_resident k s ≡ false → is_full s ≡ full → (cond {A = ClockState × Result T Refusal} full (s, Err Full) (new, Ok t)).1 ≡ Err e → Barred e k s
cond_barred true k s new e t free full h = let is : e ≡ Full = cc in inr (is, free, full_frames s full)
cond_barred false k s new e t free full h = cc

pub admitted_barred : (k : Key) (s : ClockState) (e : Refusal) → (admitted k s).1 ≡ Err e → Barred e k s
unfolding admitted
admitted_barred k s e h = by_kind (kind_of k s.entries) k s e refl h
  where
    by_kind : (f : Option EntryKind) (k : Key) (s : ClockState) (e : Refusal) → kind_of k s.entries ≡ f → (kind_admitted f k s).1 ≡ Err e → Barred e k s
    by_kind None k s e is h = cond_barred (is_full s) k s (appended (record { key = k; kind = Test }) s) e kind.Test (rw is refl) refl h
    by_kind (Some Hot) k s e is h = let why : e ≡ AlreadyResident = cc in inl (why, rw is refl)
    by_kind (Some Test) k s e is h = let why : e ≡ AlreadyResident = cc in inl (why, rw is refl)
    by_kind (Some Cold) k s e is h = let why : e ≡ AlreadyResident = cc in inl (why, rw is refl)
    by_kind (Some Shadow) k s e is h = cond_barred (is_full s) k s (grown (sent_to_end k Hot s)) e kind.Hot (rw is refl) refl h

pub restored_barred : (k : Key) (s : ClockState) (e : Refusal) → (restored k s).1 ≡ Err e → Barred e k s
unfolding restored
restored_barred k s e h = by_kind (kind_of k s.entries) k s e refl h
  where
    by_kind : (f : Option EntryKind) (k : Key) (s : ClockState) (e : Refusal) → kind_of k s.entries ≡ f → (kind_restored f k s).1 ≡ Err e → Barred e k s
    by_kind None k s e is h = cond_barred (is_full s) k s (appended (record { key = k; kind = Test }) s) e tt (rw is refl) refl h
    by_kind (Some Hot) k s e is h = let why : e ≡ AlreadyResident = cc in inl (why, rw is refl)
    by_kind (Some Test) k s e is h = let why : e ≡ AlreadyResident = cc in inl (why, rw is refl)
    by_kind (Some Cold) k s e is h = let why : e ≡ AlreadyResident = cc in inl (why, rw is refl)
    by_kind (Some Shadow) k s e is h = cond_barred (is_full s) k s (marked k Test s) e tt (rw is refl) refl h
