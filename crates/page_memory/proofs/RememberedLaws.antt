-- How what is remembered of a page serves an access, and how it is kept.
use Rattle.std.proofs.Common.{◌≡◌, ℕ, zero, suc, ◌+◌, ◌*◌, ◌/◌, ◌%◌, ◌<◌, List, [], ◌∷◌, length, true, ◌≢◌, IsTrue, Option, Some, None, option_map, option_and_then, Ok, Err, arith, refl, sym, subst, ap, ◌∙◌, ne_eqb}
use Rattle.std.proofs.lemmas.Option.{same_Some}
use Rattle.std.specs.Ordering.{nat_cmp}
use Rattle.std.specs.Option.{IsSomeAnd}
use Rattle.std.specs.FinMap.{get, from_entries}
use Rattle.page_memory.specs.declared.fault.MemoryFault.{MemoryFault}
use Rattle.page_memory.specs.declared.fault.MemoryFault.TheVariants.{Misaligned}
use Rattle.page_memory.specs.declared.words.Access.{Access}
use Rattle.page_memory.specs.declared.words.Access.TheVariants.{Fetch, Load, Store}
use Rattle.byteorder.specs.Endian.{little_bytes}
use Rattle.page_memory.specs.declared.words.Width.{Width}
use Rattle.page_memory.specs.declared.words.Width.TheVariants.{Byte, Half, Word}
use Rattle.page_memory.specs.Words.{page_number, page_offset, bytes_in}
use Rattle.page_memory.specs.Rights.{may}
use Rattle.page_memory.specs.Pages.{Page, Pages, with_right, answer_by, stored, overwritten, loaded, number_at, aligned_page, usable, fetched, if_aligned}
use Rattle.page_memory.specs.Entries.{place_of, value_at, with_value}
use Rattle.page_memory.proofs.EntriesLaws.{value_by_place, place_of-with_value, length-with_value}
use Rattle.page_memory.proofs.AccessLaws.{usable_found, aligned_usable, stored_at}
use Rattle.page_memory.specs.declared.recent_pages.RecentPage.{RecentPage}
use Rattle.page_memory.specs.declared.recent_pages.RecentPages.{RecentPages}
use Rattle.page_memory.specs.RecentPages.{nowhere, no_recent, recent_of, learned}
use Rattle.page_memory.proofs.RecentPagesLaws.{each_none, each_learned}
use Rattle.page_memory.specs.Remembered.{may_at, StandsAt, Leads, LeadsTo, Remembers}

-- where it is past all addresses
pub leads_nowhere : (access : Access) (pages : List (ℕ × Page)) (place : ℕ) → Leads access pages 4294967296 place
leads_nowhere access pages place = record { multiple = omega arith; limit = omega arith; stands = λ number low e. absurd (omega arith) }

-- the start of a page that stands there
pub leads_there : (access : Access) (pages : List (ℕ × Page)) (address start place : ℕ) → address < 4294967296 → start ≡ address / 4096 * 4096 → StandsAt access pages (page_number address) place → Leads access pages start place
leads_there access pages address start place small is stands =
    record {
      multiple = omega arith;
      limit = omega arith;
      stands = λ number low e. let same : number ≡ page_number address = omega arith in rw same stands;
    }

-- where an address leads there, its page stands there, and it is aligned
pub stands_led : (access : Access) (pages : List (ℕ × Page)) (width address start place : ℕ) → Leads access pages start place → address < 4294967296
    → address % width < 4 → address / 4096 * 4096 + address % width ≡ start → StandsAt access pages (page_number address) place
stands_led access pages width address start place leads small below e =
    let multiple = leads.multiple in
    leads.stands (page_number address) (omega arith) (omega arith)

pub aligned_led : (access : Access) (pages : List (ℕ × Page)) (width address start place : ℕ) → Leads access pages start place
    → address % width < 4 → address / 4096 * 4096 + address % width ≡ start → address % width ≡ 0
aligned_led access pages width address start place leads below e = let multiple = leads.multiple in omega arith

-- the page at the place, where an address leads there
pub page_led_to : (access : Access) (pages : List (ℕ × Page)) (width address start place : ℕ) (page : Page) → Leads access pages start place
    → address < 4294967296 → address % width < 4 → address / 4096 * 4096 + address % width ≡ start → value_at place pages ≡ Some page → aligned_page (from_entries pages) access width address ≡ Ok page
page_led_to access pages width address start place page leads small below e is =
    let stands = stands_led access pages width address start place leads small below e in
    let found : get (from_entries {R = nat_cmp} pages) (page_number address) ≡ Some page = value_by_place pages (page_number address) ∙ ap (option_and_then (λ k. value_at k pages)) stands.there ∙ is in
    aligned_usable (from_entries pages) access width address (Ok page) (aligned_led access pages width address start place leads below e)
    (usable_found (from_entries pages) access address page found (same_Some _ _ (sym (ap (option_map (λ p. may access p.rights)) is) ∙ stands.allowed)))

-- a page with other bytes and the same rights is allowed what it was
allowed_stays : (access : Access) (pages : List (ℕ × Page)) (changed place : ℕ) (old new : Page) → value_at changed pages ≡ Some old → new.rights ≡ old.rights → may_at access place (with_value pages changed new) ≡ may_at access place pages
unfolding with_value
allowed_stays access [] changed place old new was same = refl
allowed_stays access (e ∷ es) zero zero old new was same = ap (λ r. Some (may access r)) (same ∙ ap (λ p. p.rights) (sym (same_Some _ _ was)))
allowed_stays access (e ∷ es) zero (suc place) old new was same = refl
allowed_stays access (e ∷ es) (suc changed) zero old new was same = refl
allowed_stays access (e ∷ es) (suc changed) (suc place) old new was same = allowed_stays access es changed place old new was same

pub still_leads : (access : Access) (pages : List (ℕ × Page)) (start place changed : ℕ) (old new : Page) → value_at changed pages ≡ Some old → new.rights ≡ old.rights → Leads access pages start place → Leads access (with_value pages changed new) start place
still_leads access pages start place changed old new was same leads =
    record {
      multiple = leads.multiple;
      limit = leads.limit;
      stands = λ number low e.
          let s = leads.stands number low e in
          record {
            within = let l = length-with_value pages changed new in omega (arith, s.within);
            there = place_of-with_value pages changed number new ∙ s.there;
            allowed = allowed_stays access pages changed place old new was same ∙ s.allowed;
          };
    }

pub fetched_led : (pages : List (ℕ × Page)) (address start place : ℕ) (page : Page) → Leads Fetch pages start place → address < 4294967296 → address / 4096 * 4096 + address % 4 ≡ start → value_at place pages ≡ Some page → fetched (from_entries pages) address ≡ Ok (number_at 4 address page)
unfolding fetched
fetched_led pages address start place page leads small e is = ap (answer_by (number_at 4 address)) (page_led_to Fetch pages 4 address start place page leads small (omega arith) e is)

allowed_of : (access : Access) (found : Option Page) → IsSomeAnd found (λ page. IsTrue (may access page.rights)) → option_map (λ (page : Page). may access page.rights) found ≡ Some true
allowed_of access None never = absurd never
allowed_of access (Some page) is = ap Some is

-- a page that was found stands at its place
pub stands_of : (access : Access) (pages : List (ℕ × Page)) (number place : ℕ) → place < length pages → place_of number pages ≡ Some place → IsSomeAnd (value_at place pages) (λ page. IsTrue (may access page.rights)) → StandsAt access pages number place
stands_of access pages number place within there allowed = record { within = within; there = there; allowed = allowed_of access (value_at place pages) allowed }

-- what is fetched from it
pub fetched_there : (pages : List (ℕ × Page)) (address place : ℕ) (page : Page) → address < 4294967296 → address % 4 ≡ 0 → StandsAt Fetch pages (page_number address) place → value_at place pages ≡ Some page → fetched (from_entries pages) address ≡ Ok (number_at 4 address page)
fetched_there pages address place page small aligned stands is =
    fetched_led pages address (address / 4096 * 4096) place page (leads_there Fetch pages address (address / 4096 * 4096) place small refl stands) small (omega arith) is

pub fetched_misaligned : (memory : Pages) (address : ℕ) → address % 4 ≢ 0 → fetched memory address ≡ Err Misaligned
unfolding fetched aligned_page
fetched_misaligned memory address odd = ap (λ b. answer_by (number_at 4 address) (if_aligned b (usable memory Fetch address))) (ne_eqb (address % 4) 0 odd)

pub not_fetched_there : (memory : Pages) (address : ℕ) (fault : MemoryFault) → address % 4 ≡ 0 → with_right Fetch (get memory (page_number address)) ≡ Err fault → fetched memory address ≡ Err fault
unfolding fetched usable
not_fetched_there memory address fault aligned is = ap (answer_by (number_at 4 address)) (aligned_usable memory Fetch 4 address _ aligned is)

pub ruleset not_fetched = (fetched_misaligned, not_fetched_there)

pub below_four : (width : Width) (address : ℕ) → address % bytes_in width < 4
below_four Byte address = omega arith
below_four Half address = omega arith
below_four Word address = omega arith

-- what is made of a page that stands there
pub leads_to_it : (access : Access) (pages : List (ℕ × Page)) (address first place : ℕ) → address < 4294967296 → first ≡ place * 4096
    → StandsAt access pages (page_number address) place → LeadsTo access pages (record { start = address / 4096 * 4096; place = first })
leads_to_it access pages address first place small at stands =
    let same : place ≡ first / 4096 = omega arith in
    record {
      whole = omega arith;
      leads = subst (Leads access pages (address / 4096 * 4096)) same (leads_there access pages address (address / 4096 * 4096) place small refl stands);
    }

still_led_to : (access : Access) (pages : List (ℕ × Page)) (recent : RecentPage) (changed : ℕ) (old new : Page) → value_at changed pages ≡ Some old → new.rights ≡ old.rights
    → LeadsTo access pages recent → LeadsTo access (with_value pages changed new) recent
still_led_to access pages recent changed old new was same is = record { whole = is.whole; leads = still_leads access pages recent.start (recent.place / 4096) changed old new was same is.leads }

to_nowhere : (access : Access) (pages : List (ℕ × Page)) → LeadsTo access pages nowhere
to_nowhere access pages = record { whole = refl; leads = leads_nowhere access pages (0 / 4096) }

pub loaded_led : (pages : List (ℕ × Page)) (width : Width) (address start place : ℕ) (page : Page) → Leads Load pages start place → address < 4294967296 → address / 4096 * 4096 + address % bytes_in width ≡ start → value_at place pages ≡ Some page → loaded (from_entries pages) width address ≡ Ok (number_at (bytes_in width) address page)
unfolding loaded
loaded_led pages width address start place page leads small e is = ap (answer_by (number_at (bytes_in width) address)) (page_led_to Load pages (bytes_in width) address start place page leads small (below_four width address) e is)

pub loaded_there : (pages : List (ℕ × Page)) (width : Width) (address place : ℕ) (page : Page) → address < 4294967296 → address % bytes_in width ≡ 0 → StandsAt Load pages (page_number address) place → value_at place pages ≡ Some page → loaded (from_entries pages) width address ≡ Ok (number_at (bytes_in width) address page)
loaded_there pages width address place page small aligned stands is =
    loaded_led pages width address (address / 4096 * 4096) place page (leads_there Load pages address (address / 4096 * 4096) place small refl stands) small (omega arith) is

pub loaded_misaligned : (memory : Pages) (width : Width) (address : ℕ) → address % bytes_in width ≢ 0 → loaded memory width address ≡ Err Misaligned
unfolding loaded aligned_page
loaded_misaligned memory width address odd = ap (λ b. answer_by (number_at (bytes_in width) address) (if_aligned b (usable memory Load address))) (ne_eqb (address % bytes_in width) 0 odd)

pub not_loaded_there : (memory : Pages) (width : Width) (address : ℕ) (fault : MemoryFault) → address % bytes_in width ≡ 0 → with_right Load (get memory (page_number address)) ≡ Err fault → loaded memory width address ≡ Err fault
unfolding loaded usable
not_loaded_there memory width address fault aligned is = ap (answer_by (number_at (bytes_in width) address)) (aligned_usable memory Load (bytes_in width) address _ aligned is)

pub ruleset not_loaded = (loaded_misaligned, not_loaded_there)

-- what a store changes where a page leads
pub stored_led : (pages : List (ℕ × Page)) (width : Width) (address word start place : ℕ) (page : Page) → Leads Store pages start place → address < 4294967296 → address / 4096 * 4096 + address % bytes_in width ≡ start → value_at place pages ≡ Some page → stored (from_entries pages) width address word ≡ Ok (from_entries (with_value pages place (record page { bytes = overwritten page.bytes (page_offset address) (little_bytes (bytes_in width) word) })))
stored_led pages width address word start place page leads small e is =
    let stands = stands_led Store pages (bytes_in width) address start place leads small (below_four width address) e in
    stored_at pages width address word place page (aligned_led Store pages (bytes_in width) address start place leads (below_four width address) e) stands.there is
    (same_Some _ _ (sym (ap (option_map (λ p. may Store p.rights)) is) ∙ stands.allowed))

-- no page is remembered
pub nothing_remembered : (pages : List (ℕ × Page)) (recent : RecentPages) → recent ≡ no_recent → Remembers pages recent
nothing_remembered pages recent none = subst (Remembers pages) (sym none) (each_none (λ access number. LeadsTo access pages) (λ access number. to_nowhere access pages))

-- what is remembered holds on where a page's bytes change
pub still_remembered : (pages : List (ℕ × Page)) (recent : RecentPages) (changed : ℕ) (old new : Page) → value_at changed pages ≡ Some old → new.rights ≡ old.rights → Remembers pages recent → Remembers (with_value pages changed new) recent
still_remembered pages recent changed old new was same is = λ access number. still_led_to access pages (recent_of access number recent) changed old new was same (is access number)

-- one more page is remembered
pub one_remembered : (access : Access) (pages : List (ℕ × Page)) (recent new : RecentPages) (address first place : ℕ) → address < 4294967296 → first ≡ place * 4096
    → new ≡ learned access address first recent → StandsAt access pages (page_number address) place → Remembers pages recent → Remembers pages new
one_remembered access pages recent new address first place small at is stands all =
    subst (Remembers pages) (sym is)
    (each_learned (λ access number. LeadsTo access pages) access address first recent (λ access number. to_nowhere access pages) (λ number. leads_to_it access pages address first place small at stands) all)

-- what is remembered for an access leads there
pub remembered_for : (access : Access) (pages : List (ℕ × Page)) (recent : RecentPages) (number : ℕ) (one : RecentPage) → one ≡ recent_of access number recent → Remembers pages recent → LeadsTo access pages one
remembered_for access pages recent number one is all = subst (LeadsTo access pages) (sym is) (all access number)
