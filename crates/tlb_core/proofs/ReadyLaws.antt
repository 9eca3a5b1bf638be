-- What a cache shows stays shown as it changes, and how what is ready is kept.
use Rattle.std.proofs.Common.{◌≡◌, ◌≢◌, ℕ, zero, suc, ◌+◌, ◌*◌, ◌/◌, ◌<◌, false, cond, refl, sym, ap, ◌∙◌, subst, arith, List, [], ◌∷◌, ◌++◌, length, get_or, set, drop, Some, option_map}
use Rattle.std.specs.Prelude.{find, position}
use Rattle.std.specs.Option.{option_or}
use Rattle.std.proofs.lemmas.List.{drop_more}
use Rattle.std.proofs.lemmas.List.Folds.{find-append}
use Rattle.std.proofs.lemmas.List.Quantifiers.{position-Some}
use Rattle.std.proofs.lemmas.Bool.Decides.{nat_tests}
use Rattle.page_memory.specs.declared.words.Access.{Access}
use Rattle.page_memory.specs.Words.{page_number}
use Rattle.page_memory.specs.declared.recent_pages.RecentPage.{RecentPage}
use Rattle.page_memory.specs.declared.recent_pages.RecentPages.{RecentPages}
use Rattle.page_memory.specs.RecentPages.{nowhere, no_recent, recent_of, learned, forgotten}
use Rattle.page_memory.proofs.RecentPagesLaws.{each_none, each_learned, each_forgotten}
use Rattle.tlb_core.specs.declared.translation.Translation.{Translation}
use Rattle.tlb_core.specs.Cache.{Hits, is_of_page, translation_of, doomed, doomed_entry}
use Rattle.tlb_core.proofs.CacheLaws.{entry_of-doomed}
use Rattle.tlb_core.specs.Ready.{IsShown, IsReady}
use Rattle.tlb_core.proofs.Places.{place_within}

-- an entry of another page hides nothing
find_other : (q : ℕ) (x : Translation) (xs : List Translation) → x.page ≢ q → find (is_of_page q) (x ∷ xs) ≡ find (is_of_page q) xs
find_other q x xs apart = let test : is_of_page q x ≡ false = grind (arith, nat_tests) in rw test refl

find_set_other : (q : ℕ) (xs : List Translation) (k : ℕ) (e d : Translation) → k < length xs → (get_or xs k d).page ≢ q → e.page ≢ q → find (is_of_page q) (set xs k e) ≡ find (is_of_page q) xs
find_set_other q [] k e d within was is = absurd (omega arith)
find_set_other q (x ∷ xs) zero e d within was is = find_other q e xs is ∙ sym (find_other q x xs was)
find_set_other q (x ∷ xs) (suc k) e d within was is = ap (λ o. cond (is_of_page q x) (Some x) o) (find_set_other q xs k e d (omega arith) was is)

-- what a cache shows it shows on where the page's entry stays
shown_on : (cache cache' : List Translation) (access : Access) (q place : ℕ) → (hits : Hits cache access q place) → translation_of q cache' ≡ Some hits.entry → Hits cache' access q place
shown_on cache cache' access q place hits found = record { entry = hits.entry; found = found; at = hits.at; allowed = hits.allowed; dirty = hits.dirty }

pub hits_replaced : (cache : List Translation) (k : ℕ) (e : Translation) (access : Access) (q place : ℕ) → position (is_of_page e.page) cache ≡ Some k → q ≢ e.page → Hits cache access q place → Hits (set cache k e) access q place
hits_replaced cache k e access q place is apart hits =
    let at = position-Some (is_of_page e.page) cache k e is in
    let same : (get_or cache k e).page ≡ e.page = let t = at.1 in grind (arith, nat_tests) in
    shown_on cache (set cache k e) access q place hits
    (find_set_other q cache k e e (place_within e.page cache k is) (λ s. apart (sym s ∙ same)) (λ s. apart (sym s)) ∙ hits.found)

pub hits_behind : (cache : List Translation) (e : Translation) (access : Access) (q place : ℕ) → Hits cache access q place → Hits (cache ++ e ∷ []) access q place
hits_behind cache e access q place hits =
    shown_on cache (cache ++ e ∷ []) access q place hits (find-append (is_of_page q) cache (e ∷ []) ∙ ap (λ o. option_or o (find (is_of_page q) (e ∷ []))) hits.found)

pub hits_dropped : (cache : List Translation) (d : Translation) (access : Access) (q place : ℕ) → q ≢ (get_or cache 0 d).page → Hits cache access q place → Hits (drop 1 cache) access q place
hits_dropped [] d access q place apart hits = shown_on [] [] access q place hits hits.found
hits_dropped (x ∷ xs) d access q place apart hits = shown_on (x ∷ xs) xs access q place hits (sym (find_other q x xs (λ s. apart (sym s))) ∙ hits.found)

pub hits_doomed : (page : ℕ) (cache : List Translation) (access : Access) (q place : ℕ) → Hits cache access q place → Hits (doomed page cache) access q place
hits_doomed page cache access q place hits =
    record {
      entry = doomed_entry page hits.entry;
      found = entry_of-doomed q page cache ∙ ap (option_map (doomed_entry page)) hits.found;
      at = hits.at;
      allowed = hits.allowed;
      dirty = hits.dirty;
    }

-- no page is there
shows_nowhere : (cache : List Translation) (access : Access) (page : ℕ) → IsShown cache access page nowhere
shows_nowhere cache access page = record { multiple = omega arith; limit = omega arith; shown = λ low e. absurd (omega arith) }

pub nothing_ready : (cache : List Translation) (ready : RecentPages) → ready ≡ no_recent → IsReady cache ready
nothing_ready cache ready none = subst (IsReady cache) (sym none) (each_none (IsShown cache) (λ access page. shows_nowhere cache access page))

pub ready_forgotten : (cache cache' : List Translation) (page : ℕ) (ready : RecentPages) → ((access : Access) (q place : ℕ) → q ≢ page → Hits cache access q place → Hits cache' access q place)
    → IsReady cache ready → IsReady cache' (forgotten page ready)
ready_forgotten cache cache' page ready step is = each_forgotten (IsShown cache) (IsShown cache') page ready (λ access q. shows_nowhere cache' access q) on is
  where
    on : (access : Access) (q : ℕ) (known : RecentPage) → (q * 4096 ≡ known.start → q ≢ page) → IsShown cache access q known → IsShown cache' access q known
    on access q known apart was = record { multiple = was.multiple; limit = was.limit; shown = λ low e. step access q known.place (apart e) (was.shown low e) }

pub ready_on : (cache cache' : List Translation) (ready : RecentPages) → ((access : Access) (q place : ℕ) → Hits cache access q place → Hits cache' access q place) → IsReady cache ready → IsReady cache' ready
ready_on cache cache' ready step is =
    λ access q. record {
      multiple = (is access q).multiple;
      limit = (is access q).limit;
      shown = λ low e. step access q (recent_of access q ready).place ((is access q).shown low e);
    }

pub ready_learned : (cache : List Translation) (used : Access) (address place : ℕ) (ready : RecentPages) → address < 4294967296 → Hits cache used (page_number address) place → IsReady cache ready
    → IsReady cache (learned used address place ready)
ready_learned cache used address place ready small hits is = each_learned (IsShown cache) used address place ready (λ access q. shows_nowhere cache access q) new is
  where
    new : (q : ℕ) → IsShown cache used q (record { start = address / 4096 * 4096; place = place })
    new q = record { multiple = omega arith; limit = omega arith; shown = λ low e. let same : page_number address ≡ q = omega arith in subst (λ n. Hits cache used n place) same hits }

-- an access of any width finds what is ready
pub served : (cache : List Translation) (access : Access) (address past : ℕ) (ready : RecentPages) → IsReady cache ready → address < 4294967296 → past < 4 → address / 4096 * 4096 + past ≡ (recent_of access (page_number address) ready).start
    → (past ≡ 0) × Hits cache access (page_number address) (recent_of access (page_number address) ready).place
served cache access address past ready is small below e =
    let was = is access (page_number address) in
    let multiple = was.multiple in
    let aligned : past ≡ 0 = omega arith in
    (aligned, was.shown (omega arith) (omega arith))

-- what is ready stays so as the oldest entry goes, and its page with it
pub ready_oldest_gone : (cache : List Translation) (oldest : Translation) (ready : RecentPages) → oldest ≡ get_or cache 0 oldest → IsReady cache ready → IsReady (drop 1 cache) (forgotten oldest.page ready)
ready_oldest_gone cache oldest ready first is =
    ready_forgotten cache (drop 1 cache) oldest.page ready
    (λ access q place apart hits. hits_dropped cache oldest access q place (λ s. apart (s ∙ ap (λ (e : Translation). e.page) (sym first))) hits) is

-- and as the entries go one after another, from the first on
pub ready_next_gone : (cache : List Translation) (k : ℕ) (d : Translation) (ready : RecentPages) → k < length cache → IsReady (drop k cache) ready → IsReady (drop (k + 1) cache) (forgotten (get_or cache k d).page ready)
ready_next_gone cache k d ready within is =
    let e : Translation = get_or cache k d in
    ready_oldest_gone (e ∷ drop (k + 1) cache) e ready refl (subst (λ l. IsReady l ready) (drop_more cache k d within) is)

-- as another comes behind the others
pub ready_behind : (cache cache' : List Translation) (e : Translation) (ready : RecentPages) → cache' ≡ cache ++ e ∷ [] → IsReady cache ready → IsReady cache' ready
ready_behind cache cache' e ready made is =
    subst (λ l. IsReady l ready) (sym made) (ready_on cache (cache ++ e ∷ []) ready (λ access q place hits. hits_behind cache e access q place hits) is)

-- as marks are set
pub ready_marked : (page : ℕ) (cache marked : List Translation) (ready : RecentPages) → marked ≡ doomed page cache → IsReady cache ready → IsReady marked ready
ready_marked page cache marked ready made is =
    subst (λ l. IsReady l ready) (sym made) (ready_on cache (doomed page cache) ready (λ access q place hits. hits_doomed page cache access q place hits) is)

-- and as an entry is put in at the place of its page's, which is forgotten
pub ready_replaced : (cache written : List Translation) (e : Translation) (k : ℕ) (ready : RecentPages) → position (is_of_page e.page) cache ≡ Some k → written ≡ set cache k e
    → IsReady cache ready → IsReady written (forgotten e.page ready)
ready_replaced cache written e k ready here made is =
    subst (λ l. IsReady l (forgotten e.page ready)) (sym made)
    (ready_forgotten cache (set cache k e) e.page ready (λ access q place apart hits. hits_replaced cache k e access q place here apart hits) is)
