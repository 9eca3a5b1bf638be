-- The two passes one after the other.
use Rattle.std.proofs.Common.{◌≡◌, ℕ, ◌<◌, List, true, false, ◌==◌, Ok, Err, sym, ap, ◌∙◌, subst, arith}
use Rattle.std.proofs.lemmas.Bool.Decides.{nat_tests}
use Rattle.rv_asm.specs.declared.fault.AsmError.{AsmError}
use Rattle.rv_asm.specs.declared.fault.AsmError.TheVariants.{Fault, NoMemory}
use Rattle.asm_lines.specs.declared.fault.FaultKind.TheVariants.{Empty}
use Rattle.asm_statements.specs.declared.section.Section.TheVariants.{Text}
use Rattle.rv_asm.specs.declared.item.Item.{Item}
use Rattle.rv_asm.specs.Steps.{Fails, chained, map_value}
use Rattle.rv_asm.specs.Program.{size}
use Rattle.rv_asm.specs.FirstPass.{Progress, first_pass}
use Rattle.rv_asm.specs.SecondPass.{Sections, second_pass}
use Rattle.rv_asm.specs.Listing.{ListingContent, Lists, ListsTold, unless_empty, laid_out, assembled}

pub first_refuses : (source : List ℕ) (error : AsmError) → Fails (first_pass source) error → Fails (assembled source) error
unfolding assembled
first_refuses source (Fault line kind) fails = ap (chained (λ progress. laid_out progress.items)) fails
first_refuses source NoMemory fails = tt

second_pass_follows : (source : List ℕ) (progress : Progress) → first_pass source ≡ Ok progress → assembled source ≡ laid_out progress.items
unfolding assembled
second_pass_follows source progress is = ap (chained (λ progress. laid_out progress.items)) is

not_empty : (items : List Item) → (size Text items == 0) ≡ false → laid_out items ≡ map_value (λ sections. record { items = items; sections = sections }) (second_pass items)
unfolding laid_out
not_empty items some = ap (λ b. unless_empty b items) some

pub no_text : (source : List ℕ) (progress : Progress) → first_pass source ≡ Ok progress → (size Text progress.items == 0) ≡ true → assembled source ≡ Err (record { line = 0; kind = Empty })
unfolding laid_out
no_text source progress is none = second_pass_follows source progress is ∙ ap (λ b. unless_empty b progress.items) none

pub second_refuses : (source : List ℕ) (progress : Progress) (error : AsmError) → first_pass source ≡ Ok progress → (size Text progress.items == 0) ≡ false → Fails (second_pass progress.items) error → Fails (assembled source) error
second_refuses source progress (Fault line kind) is some fails =
    second_pass_follows source progress is ∙ not_empty progress.items some ∙ ap (map_value (λ sections. record { items = progress.items; sections = sections })) fails
second_refuses source progress NoMemory is some fails = tt

pub both_passes_list : (source : List ℕ) (progress : Progress) (sections : Sections) (listing : ListingContent) → first_pass source ≡ Ok progress → (size Text progress.items == 0) ≡ false → second_pass progress.items ≡ Ok sections → Lists (record { items = progress.items; sections = sections }) listing → ListsTold (assembled source) listing
both_passes_list source progress sections listing is some put lists =
    let all : assembled source ≡ Ok (record { items = progress.items; sections = sections }) = second_pass_follows source progress is ∙ not_empty progress.items some ∙ ap (map_value (λ sections. record { items = progress.items; sections = sections })) put in
    subst (λ told. ListsTold told listing) (sym all) lists

pub some_text : (items : List Item) → (size Text items == 0) ≡ false → 0 < size Text items
some_text items some = grind (arith, nat_tests)
