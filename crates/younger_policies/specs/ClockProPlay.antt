-- CLOCK-Pro on a string: the replacement list asks for pages' marks, as a pager asks for accessed bits.
use Rattle.std.specs.Prelude.{ℕ, zero, suc, ◌*◌, Bool, true, false, cond, not, List, Option, Some, None, Result, Ok, Err}
use Rattle.std.specs.HashSet.{HashSet, contains}
use Rattle.clock_policy.specs.declared.key.Key.{Key}
use Rattle.clock_policy.specs.declared.answer.Bit.{Bit}
use Rattle.clock_policy.specs.declared.answer.Bit.TheVariants.{Zero, One}
use Rattle.clock_policy.specs.declared.answer.Kind.{Kind}
use Rattle.clock_policy.specs.declared.answer.Verdict.{Verdict}
use Rattle.clock_policy.specs.declared.answer.Verdict.TheVariants.{GoOn, Victim}
use Rattle.clock_policy.specs.declared.entry.EntryKind.{EntryKind}
use Rattle.clock_policy.specs.declared.refusal.Refusal.{Refusal}
use Rattle.clock_policy.specs.declared.refusal.Refusal.TheVariants.{Full, AlreadyResident, NoQuestion, NotThere, NoMemory}
use Rattle.clock_policy.specs.ClockPro.{ClockState, opening_state, kind_of, is_shadow, question_of, answered, admitted}
use Rattle.page_policies.specs.Strings.{is_page, misses}

-- the list, and which pages were used since it last asked for them
pub record Play : Type 0 where
  pub clock : ClockState
  pub used : Key → Bool

abbrev pub is_resident_kind : Option EntryKind → Bool
is_resident_kind None = false
is_resident_kind (Some kind) = not (is_shadow kind)

-- whether the page is in a frame
abbrev pub in_play : Key → Play → Bool
in_play p s = is_resident_kind (kind_of p s.clock.entries)

abbrev pub bit_of : Bool → Bit
bit_of true = One
bit_of false = Zero

-- the page of the question is answered by its mark, which it loses
abbrev pub asked : Option Key → Play → Play
asked None s = s
asked (Some k) s = record {
  clock = (answered (bit_of (s.used k)) s.clock).0;
  used = λ q. cond (is_page k q) false (s.used q);
}

abbrev pub is_full_refusal : Result Kind Refusal → Bool
is_full_refusal (Ok kind) = false
is_full_refusal (Err Full) = true
is_full_refusal (Err AlreadyResident) = false
is_full_refusal (Err NoQuestion) = false
is_full_refusal (Err NotThere) = false
is_full_refusal (Err NoMemory) = false

-- whether the answer to a question names a page that is to leave its frame
abbrev pub makes_room : Result Verdict Refusal → Bool
makes_room (Ok GoOn) = false
makes_room (Ok (Victim k)) = true
makes_room (Err e) = false

-- Whether a reference may want memory: one to a page that the list does not know, or that is in no frame where each frame has its page;
-- and one to a page in a frame that was not used since the list last asked for it.
abbrev pub wants_by : Option EntryKind → Bool → Bool → Bool
wants_by None is_full used = true
wants_by (Some kind) is_full used = cond (is_shadow kind) is_full (not used)

abbrev pub entered : Key → Play → Play
entered p s = record { clock = (admitted p s.clock).0; used = s.used }

-- While each frame has its page, the list's question is answered, so many times at most; then the page comes in.
abbrev pub placed : ℕ → Key → Play → Play
placed zero p s = entered p s
placed (suc n) p s = cond (is_full_refusal (admitted p s.clock).1) (placed n p (asked (question_of s.clock) s)) (entered p s)

abbrev pub marked_used : Key → Play → Play
marked_used p s = record { clock = s.clock; used = λ q. cond (is_page p q) true (s.used q) }

-- As published (Song Jiang, Feng Chen and Xiaodong Zhang, "CLOCK-Pro: An Effective Improvement of the CLOCK Replacement", USENIX
-- Annual Technical Conference 2005): a page comes in with its reference bit clear, which a use of it in its frame sets. The list itself is
-- the machine's (`ClockPro` of clock_policy), whose differences from the publication docs/REPLACEMENT.md names.
abbrev pub clock_pro : ℕ → Key → Play → Play
clock_pro turns p s = cond (in_play p s) (marked_used p s) (placed turns p s)

-- This machine's profile: a reference brings its page in where it is in no frame, and marks it as used in any case.
abbrev pub clock_pro_used : ℕ → Key → Play → Play
clock_pro_used turns p s = marked_used p (cond (in_play p s) s (placed turns p s))

abbrev pub opening_play : ℕ → Play
opening_play m = record { clock = opening_state m; used = λ q. false }

-- five questions a frame are enough to make room
unfoldable pub clock_pro_misses : ℕ → List Key → ℕ
clock_pro_misses m string = misses in_play (clock_pro (5 * m)) (opening_play m) string

unfoldable pub clock_pro_used_misses : ℕ → List Key → ℕ
clock_pro_used_misses m string = misses in_play (clock_pro_used (5 * m)) (opening_play m) string

-- the list and a set of pages as a play
abbrev pub play_of : {S : Type 0} → ClockState → HashSet Key S → Play
play_of clock used = record { clock = clock; used = λ q. contains is_page used q }
