-- How each page was used.
use Rattle.std.specs.Prelude.{ℕ, Bool, Option, is_some, nat_eq}
use Rattle.std.specs.HashMap.{get}
use Rattle.guest_profile.specs.Pages.{is_stored_to}
use Rattle.guest_profile.specs.declared.used_pages.UsedPages.{UsedPages}

-- whether a page was stored to, if it was used
abbrev pub use_of : UsedPages → ℕ → Option Bool
use_of used page = get nat_eq used.pages page

abbrev pub was_used : UsedPages → ℕ → Bool
was_used used page = is_some (use_of used page)

abbrev pub was_stored_to : UsedPages → ℕ → Bool
was_stored_to used page = is_stored_to (use_of used page)
