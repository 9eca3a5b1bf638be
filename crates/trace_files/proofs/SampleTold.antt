-- A sample of references that are told one after another.
use Rattle.std.proofs.Common.{◌≡◌, ◌∙◌, ℕ, suc, ◌+◌, Bool, true, false, cond, List, [], ◌∷◌, ◌++◌, filter, map, length, Option, None, Some, Result, Ok, Err, IfSome, OnOk, is_err, ap, arith, append-nil, append_assoc, refl, subst, sym}
use Rattle.std.specs.List.{All}
use Rattle.std.proofs.lemmas.List.Elements.{All-append, filter_passes}
use Rattle.clock_policy.specs.declared.key.Key.{Key}
use Rattle.guest_strings.specs.declared.reference.Reference.{Reference}
use Rattle.trace_files.specs.References.{Trace, Gives, told, flaw_at_end}
use Rattle.trace_files.specs.ReferenceAnswers.{BreaksBy, IsOver, IsSample, IsWhole, Passes, StopsBy, Tells, TellsSample, page_of}
use Rattle.trace_files.specs.declared.fault.TraceFault.{TraceFault}
use Rattle.trace_files.proofs.ManyTold.{empty_string, stops_here}

pub nothing_sampled : (keeps : Key → Bool) (trace : Option Trace) → TellsSample keeps [] 0 trace trace
nothing_sampled keeps None = tt
nothing_sampled keeps (Some trace) = (refl, (omega arith, refl))

filter_ahead : (keeps : Key → Bool) (page : Key) (pages : List Key) → filter keeps (page ∷ pages) ≡ filter keeps (page ∷ []) ++ filter keeps pages
filter_ahead keeps page pages = by_test (keeps page)
  where
    by_test : (b : Bool) → cond b (page ∷ filter keeps pages) (filter keeps pages) ≡ cond b (page ∷ []) [] ++ filter keeps pages
    by_test true = refl
    by_test false = refl

pub sample_on : (keeps : Key → Bool) (sample kept : List Key) (number : ℕ) (reference : Reference) (first now later : Option Trace) → TellsSample keeps sample number first now → Passes (Gives reference) now later
    → kept ≡ sample ++ filter keeps (reference.page ∷ []) → TellsSample keeps kept (number + 1) first later
sample_on keeps sample kept number reference None now later told_so passed is = tt
sample_on keeps sample kept number reference (Some first) None later told_so passed is = elim told_so [ ]
sample_on keeps sample kept number reference (Some first) (Some now) None told_so passed is = elim passed [ ]
sample_on keeps sample kept number reference (Some first) (Some now) (Some later) told_so passed is =
    let pages : List Key = map page_of (told later) in
    let size : length (told now) ≡ suc (length (told later)) = ap (λ (trace : Trace). length (told trace)) passed in
    let all : length (told first) ≡ number + length (told now) = told_so.1.0 in (
      told_so.0
          ∙ ap (λ (trace : Trace). sample ++ filter keeps (map page_of (told trace))) passed
          ∙ ap (λ (l : List Key). sample ++ l) (filter_ahead keeps reference.page pages)
          ∙ sym (append_assoc sample (filter keeps (reference.page ∷ [])) (filter keeps pages))
          ∙ ap (λ (l : List Key). l ++ filter keeps pages) (sym is),
      (omega (arith, size, all), told_so.1.1 ∙ ap flaw_at_end passed),
    )

pub all_sampled : (keeps : Key → Bool) (sample : List Key) (number : ℕ) (first now later : Option Trace) → TellsSample keeps sample number first now → IsOver now later → IfSome first (IsSample keeps sample number)
all_sampled keeps sample number None now later told_so over = tt
all_sampled keeps sample number (Some first) None later told_so over = elim told_so [ ]
all_sampled keeps sample number (Some first) (Some now) None told_so over = elim over [ ]
all_sampled keeps sample number (Some first) (Some now) (Some later) told_so over =
    let size : length (told now) ≡ 0 = ap (λ (trace : Trace). length (told trace)) over.0 in
    let all : length (told first) ≡ number + length (told now) = told_so.1.0 in (
      told_so.0 ∙ ap (λ (trace : Trace). sample ++ filter keeps (map page_of (told trace))) over.0 ∙ append-nil sample,
      (omega (arith, size, all), told_so.1.1 ∙ ap flaw_at_end over.0),
    )

pub empty_sample : (keeps : Key → Bool) (sample : List Key) (number : ℕ) (first now later : Option Trace) → TellsSample keeps sample number first now → IsOver now later → number ≡ 0 → IfSome first (IsWhole [])
empty_sample keeps sample number None now later told_so over none = tt
empty_sample keeps sample number (Some first) None later told_so over none = elim told_so [ ]
empty_sample keeps sample number (Some first) (Some now) None told_so over none = elim over [ ]
empty_sample keeps sample number (Some first) (Some now) (Some later) told_so over none =
    let size : length (told now) ≡ 0 = ap (λ (trace : Trace). length (told trace)) over.0 in
    let all : length (told first) ≡ number + length (told now) = told_so.1.0 in (
      empty_string (told first) (omega (arith, size, all, none)),
      told_so.1.1 ∙ ap flaw_at_end over.0,
    )

pub sample_stops : (keeps : Key → Bool) (sample : List Key) (number : ℕ) (fault : TraceFault) (first now : Option Trace) → TellsSample keeps sample number first now → IfSome now (BreaksBy fault) → IfSome first (StopsBy fault)
sample_stops keeps sample number fault None now told_so breaks = tt
sample_stops keeps sample number fault (Some first) None told_so breaks = elim told_so [ ]
sample_stops keeps sample number fault (Some first) (Some now) told_so breaks = stops_here fault first now told_so.1.1 breaks

-- what is kept passes the test
pub sample_passes : (keeps : Key → Bool) (sample kept : List Key) (page : Key) → All (λ (p : Key). keeps p ≡ true) sample → kept ≡ sample ++ filter keeps (page ∷ []) → All (λ (p : Key). keeps p ≡ true) kept
sample_passes keeps sample kept page passes is =
    subst (λ (l : List Key). All (λ (p : Key). keeps p ≡ true) l) (sym is) (All-append (λ (p : Key). keeps p ≡ true) sample (filter keeps (page ∷ [])) passes (filter_passes keeps (page ∷ [])))

-- an answer that is a reference tells of that one
pub passed_at_some : (answer : Option Reference) (reference : Reference) (trace rest : Option Trace) → answer ≡ Some reference → Tells Gives (Ok answer) trace rest → Passes (Gives reference) trace rest
passed_at_some answer reference trace rest e told_so = subst (λ (o : Option Reference). Tells Gives (Ok o) trace rest) e told_so

-- what a call ensures that did not fail
pub not_failed : {T E P : Type 0} (r : Result T E) → is_err r ≡ false → OnOk r P → P
not_failed (Ok value) e h = h
not_failed (Err error) e h = cc
