-- The text that is assembled is the file's.
use Rattle.std.proofs.Common.{◌≡◌, ◌∙◌, refl, subst}
use Rattle.std.specs.Str.{IsUtf8}
use Rattle.rv_asm.specs.Assembly.{FirstFault, IsFirstFault}
use Rattle.image_files.proofs.ImageFaults.{listing_made}
use Rattle.image_files.proofs.image_file.listing_of.Goals as goal

pub returns-in-Ok-clause-listing : goal.returns-in-Ok-clause-listing
returns-in-Ok-clause-listing c =
    listing_made c.args.file.items c.as_str.result.now c.assemble.result c.in-Ok.listing (c.as_str.ensures.value ∙ c.in_ok-source.ensures.text) (subst IsUtf8 c.in_ok-source.ensures.text c.in_ok-source.ensures.utf8) c.in-Ok.is
    c.in-Ok.ensures.listing c.assemble.ensures.exact

pub returns-in-Err-Fault-clause-refused : goal.returns-in-Err-Fault-clause-refused
returns-in-Err-Fault-clause-refused c =
    let same : c.as_str.result.now ≡ c.args.file.items = c.as_str.ensures.value ∙ c.in_ok-source.ensures.text in
    let first = subst (IsFirstFault c.as_str.result.now) c.in-Err-Fault.field-0-is c.in-Err-Fault.ensures.refusal in
    (refl, (c.in-Err-Fault.kind, (subst (λ l. FirstFault l c.in-Err-Fault.line c.in-Err-Fault.kind) same first, c.number.ensures)))
