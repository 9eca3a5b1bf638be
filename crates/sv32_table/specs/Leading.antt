-- Where walks lead, by the manual's process over the words that tables represent. For a tree this is where the page's entry says.
use Rattle.std.specs.Prelude.{◌≡◌, ℕ, ◌/◌, ◌^◌, ◌<◌, List, Result}
use Rattle.std.specs.Result.{result_map_both}
use Rattle.page_memory.specs.declared.words.Access.{Access}
use Rattle.sv32_table.specs.declared.fault.WalkFault.{WalkFault}
use Rattle.sv32_table.specs.declared.walk.Leaf.{Leaf as Translation}
use Rattle.sv32_table.specs.EntryAt.{entry_at, walk_entry}
use Rattle.sv32_table.specs.Tables.{root_page}
use Rattle.sv32_table.specs.TranslationProcess.{Success, physical_words, translate}

-- the physical address that an access leads to
unfoldable pub walk_leads : List (List ℕ) → ℕ → Access → Result ℕ WalkFault
walk_leads tables address access = result_map_both (λ (success : Success). success.physical) (λ (fault : WalkFault). fault) (translate (physical_words tables) root_page address access)

-- each leads where its page's entry says
abbrev pub LeadsByEntry : List (List ℕ) → Type 0
LeadsByEntry tables =
    (address : ℕ) (access : Access) → address < 2 ^ 32 → walk_leads tables address access ≡ result_map_both (λ (leaf : Translation). leaf.physical) (λ (fault : WalkFault). fault) (walk_entry (entry_at tables (address / 0x1000)) address access)
