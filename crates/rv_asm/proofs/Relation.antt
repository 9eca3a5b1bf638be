-- The two passes meet the relation.
use Rattle.std.proofs.Common.{ap, ◌≡◌, ℕ, ◌+◌, ◌<◌, List, length, Bool, true, false, ◌==◌, Result, Ok, Err, refl, ◌∙◌, subst, arith, zero-add}
use Rattle.std.proofs.lemmas.Bool.Decides.{nat_tests}
use Rattle.rv_asm.specs.declared.fault.AsmError.{AsmError}
use Rattle.rv_asm.specs.declared.fault.AsmError.TheVariants.{Fault, NoMemory}
use Rattle.asm_statements.specs.declared.section.Section.{Section}
use Rattle.asm_statements.specs.declared.section.Section.TheVariants.{Text}
use Rattle.rv_asm.specs.declared.item.Item.{Item}
use Rattle.rv_asm.specs.Steps.{FaultAt, Fails, chained, map_value}
use Rattle.text_lines.specs.Text.{lines_of}
use Rattle.rv_asm.specs.Program.{size}
use Rattle.rv_asm.specs.FirstPass.{Progress, no_lines, with_lines, first_pass}
use Rattle.rv_asm.specs.SecondPass.{Sections, second_pass}
use Rattle.rv_asm.specs.Listing.{Assembly, ListingContent, ListsTold, unless_empty, laid_out, assembled, Lists, entry_point_of, image_of}
use Rattle.rv_asm.specs.Assembly.{HasProgram, HoldsParts, Assembles, FirstFault, in_line, no_text, in_part, IsFirstFault}
use Rattle.elf_image.specs.Image.{ImageContent}
use Rattle.rv_asm.proofs.Entries.{enters}
use Rattle.rv_asm.proofs.LineLaws.{LinesSaid, lines_said, program_read}
use Rattle.rv_asm.proofs.PartLaws.{pass_holds, pass_stops}

-- a program with its sections
pub record HasAssembly (source : List ℕ) (assembly : Assembly) : Type 0 where
  pub section : Section
  pub program : HasProgram (lines_of source) section assembly.items
  pub some : 0 < size Text assembly.items
  pub holds : HoldsParts assembly.items assembly.sections.text assembly.sections.bytes

abbrev pub Said : List ℕ → Result Assembly FaultAt → Type 0
Said source (Ok assembly) = HasAssembly source assembly
Said source (Err fault) = FirstFault source fault.line fault.kind

laid_said : (source : List ℕ) (section : Section) (items : List Item) → HasProgram (lines_of source) section items → Said source (laid_out items)
unfolding laid_out
laid_said source section items program = by_size (size Text items == 0) refl
  where
    by_pass : (r : Result Sections FaultAt) → second_pass items ≡ r → 0 < size Text items → Said source (map_value (λ sections. record { items = items; sections = sections }) r)
    by_pass (Ok sections) is some = record { section = section; program = program; some = some; holds = pass_holds items sections is }
    by_pass (Err fault) is some = let s = pass_stops items fault is in in_part section items s.above s.below s.item program some s.cut s.put_above s.wrong

    by_size : (b : Bool) → (size Text items == 0) ≡ b → Said source (unless_empty b items)
    by_size true e = no_text section items program (grind (arith, nat_tests)) refl refl
    by_size false e = by_pass (second_pass items) refl (grind (arith, nat_tests))

pub said : (source : List ℕ) → Said source (assembled source)
unfolding assembled first_pass
said source = by_lines (with_lines 0 no_lines (lines_of source)) (lines_said 0 no_lines (lines_of source))
  where
    by_lines : (r : Result Progress FaultAt) → LinesSaid 0 no_lines (lines_of source) r → Said source (chained (λ progress. laid_out progress.items) r)
    by_lines (Ok q) read = laid_said source q.section q.items (program_read (lines_of source) q read)
    by_lines (Err fault) stop =
        let program = program_read stop.good stop.m stop.read in
        in_line stop.good stop.bad stop.below stop.m.section stop.m.items stop.cut program (stop.number ∙ zero-add (length stop.good + 1)) (stop.wrong program.distinct)

entry_listed : (assembly : Assembly) (listing : ListingContent) → Lists assembly listing → listing.image.entry ≡ entry_point_of assembly.items
unfolding image_of
entry_listed assembly listing l = ap (λ (image : ImageContent). image.entry) l.image

pub assembles : (source : List ℕ) (listing : ListingContent) → ListsTold (assembled source) listing → Assembles source listing
assembles source listing lists = by_told (assembled source) (said source) lists
  where
    by_told : (r : Result Assembly FaultAt) → Said source r → ListsTold r listing → Assembles source listing
    by_told (Ok assembly) s l = record {
      section = s.section;
      items = assembly.items;
      text = assembly.sections.text;
      bytes = assembly.sections.bytes;
      program = s.program;
      some = s.some;
      holds = s.holds;
      enters = enters assembly.items listing.image.entry s.program.distinct (entry_listed assembly listing l);
      lists = l;
    }
    by_told (Err fault) s l = absurd l

pub fails_first : (source : List ℕ) (error : AsmError) → Fails (assembled source) error → IsFirstFault source error
fails_first source (Fault line kind) fails = subst (Said source) fails (said source)
fails_first source NoMemory fails = tt
