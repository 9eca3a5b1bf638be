use Rattle.std.proofs.Common.{◌≡◌, ◌∙◌, true, false, sym}
use Rattle.run_records.specs.Records.{value_of}
use Rattle.record_commands.proofs.saving.is_free.Goals as goal

pub returns-in-Ok-read_record-clause-no : goal.returns-in-Ok-read_record-clause-no
returns-in-Ok-read_record-clause-no g c = λ unlike. record {
  text = c.in-Ok.text.items;
  given = c.in-Ok.ensures.bytes;
  told = value_of c.in-Ok-read_record.old;
  is = rw c.as_slice.ensures.value at c.in-Ok-read_record.ensures.read;
  other = λ same. let no : false ≡ true = sym unlike ∙ c.is_same.ensures.1 same in cc;
}
