-- A trace is counted as it comes.
use Rattle.std.specs.Prelude.{◌≡◌, ℕ, ◌+◌, ◌≤◌, ◌<◌, Bool, true, false, cond, List, [], ◌∷◌, ◌++◌, length, map, Option, Some, None, IfSome, refl}
use Rattle.std.specs.HashSet.{HashSet, contains}
use Rattle.std.proofs.Common.{arith, ap, sym, ◌∙◌}
use Rattle.std.proofs.lemmas.List.{length-append, map-append}
use Rattle.clock_policy.specs.declared.key.Key.{Key}
use Rattle.guest_strings.specs.declared.reference.Reference.{Reference}
use Rattle.whole_strings.specs.PageCounts.{first_uses, page_count}
use Rattle.miss_counts.specs.StringPages.{pages_of}
use Rattle.page_policies.specs.Strings.{is_page}
use Rattle.trace_files.specs.References.{Trace, Gives}
use Rattle.trace_files.specs.ReferenceAnswers.{IsOver, IsWhole, Passes, TellsReferences}
use Rattle.trace_files.proofs.ManyTold.{all_references, no_references, references_on}
use Rattle.policies_cli.specs.Totals.{AreTotals, TotalsOf, writes_in}
use Rattle.policies_cli.specs.declared.totals.Totals.{Totals}

-- whether a page was seen before or is among these
abbrev pub seen_in : (Key → Bool) → List Key → Key → Bool
seen_in seen [] p = seen p
seen_in seen (q ∷ qs) p = seen_in (λ r. cond (is_page q r) true (seen r)) qs p

first_more : (seen : Key → Bool) (qs : List Key) (p : Key) → first_uses seen (qs ++ p ∷ []) ≡ first_uses seen qs + cond (seen_in seen qs p) 0 1
first_more seen [] p = omega arith
first_more seen (q ∷ qs) p = let rest = first_more (λ r. cond (is_page q r) true (seen r)) qs p in omega (arith, rest)

seen_more : (seen : Key → Bool) (qs : List Key) (p r : Key) → seen_in seen (qs ++ p ∷ []) r ≡ cond (is_page p r) true (seen_in seen qs r)
seen_more seen [] p r = refl
seen_more seen (q ∷ qs) p r = seen_more (λ k. cond (is_page q k) true (seen k)) qs p r

writes_more : (rs : List Reference) (r : Reference) → writes_in (rs ++ r ∷ []) ≡ writes_in rs + cond r.is_written 1 0
writes_more [] r = omega arith
writes_more (s ∷ rs) r = let rest = writes_more rs r in omega (arith, rest)

-- so much of a trace was told, and counted
pub record Counts {S : Type 0} (first now : Option Trace) (seen : HashSet Key S) (totals : Totals) : Type 0 where
  pub string : List Reference
  pub told : TellsReferences string first now
  pub totals_are : AreTotals string totals
  pub seen_are : (q : Key) → contains is_page seen q ≡ seen_in (λ k. false) (pages_of string) q

pub counts_none : {S : Type 0} (trace : Option Trace) (seen : HashSet Key S) (totals : Totals) → ((q : Key) → contains is_page seen q ≡ false) → totals.references ≡ 0 → totals.writes ≡ 0 → totals.pages ≡ 0 → Counts trace trace seen totals
unfolding page_count
counts_none trace seen totals none references writes pages = record {
  string = [];
  told = no_references trace;
  totals_are = record { references = references; writes = writes; pages = pages };
  seen_are = none;
}

pub counts_on : {S : Type 0} (first now later : Option Trace) (seen more : HashSet Key S) (totals new : Totals) (reference : Reference) (fresh : ℕ) → Counts first now seen totals → Passes (Gives reference) now later
    → fresh ≡ cond (contains is_page seen reference.page) 0 1 → ((q : Key) → contains is_page more q ≡ cond (is_page reference.page q) true (contains is_page seen q))
    → new.references ≡ totals.references + 1 → new.writes ≡ totals.writes + cond reference.is_written 1 0 → new.pages ≡ totals.pages + fresh → Counts first later more new
unfolding page_count
counts_on first now later seen more totals new reference fresh before passed is seen_too references writes pages =
    let p : Key = reference.page in
    let string : List Reference = before.string ++ reference ∷ [] in
    let sized : length string ≡ length before.string + 1 = length-append before.string (reference ∷ []) in
    let joined : pages_of string ≡ pages_of before.string ++ p ∷ [] = map-append (λ (r : Reference). r.page) before.string (reference ∷ []) in
    let so_far : totals.references ≡ length before.string = before.totals_are.references in
    let written : totals.writes ≡ writes_in before.string = before.totals_are.writes in
    let seen_pages : totals.pages ≡ first_uses (λ k. false) (pages_of before.string) = before.totals_are.pages in
    let one : fresh ≡ cond (seen_in (λ k. false) (pages_of before.string) p) 0 1 = is ∙ ap (λ (b : Bool). cond b 0 1) (before.seen_are p) in record {
      string = string;
      told = references_on before.string reference first now later before.told passed;
      totals_are = record {
        references = omega (arith, references, so_far, sized);
        writes = omega (arith, writes, written, writes_more before.string reference);
        pages = pages ∙ (ap (λ (n : ℕ). n + fresh) seen_pages ∙ ap (λ (n : ℕ). first_uses (λ k. false) (pages_of before.string) + n) one) ∙ sym (first_more (λ k. false) (pages_of before.string) p) ∙ ap (first_uses (λ k. false)) (sym joined);
      };
      seen_are = λ q. seen_too q ∙ ap (λ (b : Bool). cond (is_page p q) true b) (before.seen_are q) ∙ sym (seen_more (λ k. false) (pages_of before.string) p q) ∙ ap (λ (l : List Key). seen_in (λ k. false) l q) (sym joined);
    }

pub counts_all : {S : Type 0} (first now later : Option Trace) (seen : HashSet Key S) (totals : Totals) → Counts first now seen totals → IsOver now later → TotalsOf totals first
counts_all first now later seen totals before over = (before.string, (all_references before.string first now later before.told over, before.totals_are))
