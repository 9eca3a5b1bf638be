use Rattle.std.proofs.Common.{◌≡◌, ◌∙◌, ◌<◌, ◌≤◌, List, ℕ, length, map, Bor, Some, refl, sym, ap, arith}
use Rattle.elf_symbols.specs.Objects.{object_named}
use Rattle.guest_words.specs.Words.{object_bytes, object_name, size_of, with_bytes}
use Rattle.guest_words.proofs.FilledFiles.{has_some, lacks_memory}
use Rattle.guest_words.proofs.filling.with_words.Goals as goal

pub returns-in_err-bytes-clause-refused : goal.returns-in_err-bytes-clause-refused
returns-in_err-bytes-clause-refused c =
    let words = c.args.words.now in
    let some : 0 < length words = grind (arith, c.is_empty.ensures, c.if-is_empty.false) in
    let found : object_named object_name c.args.file.items ≡ Some c.in-Some.place = sym (rw c.as_slice.ensures.value at c.in-Some.ensures.found) in
    let fits : size_of (map (λ s. s.now) words) ≤ c.in-Some.place.size = omega (arith, c.size_of-need.ensures, c.from.ensures, c.if-need-from.false) in
    lacks_memory (λ s. s.now) words c.args.image.now c.args.file.items c.in-Some.place some found fits c.from_residual.result c.from_residual.ensures.1

pub returns-in_err-with_bytes-clause-refused : goal.returns-in_err-with_bytes-clause-refused
returns-in_err-with_bytes-clause-refused c =
    let words = c.args.words.now in
    let some : 0 < length words = grind (arith, c.is_empty.ensures, c.if-is_empty.false) in
    let found : object_named object_name c.args.file.items ≡ Some c.in-Some.place = sym (rw c.as_slice.ensures.value at c.in-Some.ensures.found) in
    let fits : size_of (map (λ s. s.now) words) ≤ c.in-Some.place.size = omega (arith, c.size_of-need.ensures, c.from.ensures, c.if-need-from.false) in
    lacks_memory (λ s. s.now) words c.args.image.now c.args.file.items c.in-Some.place some found fits c.from_residual-in_err-with_bytes.result c.from_residual-in_err-with_bytes.ensures.1

pub returns-clause-has : goal.returns-clause-has
returns-clause-has c =
    let words = c.args.words.now in
    let place = c.in-Some.place in
    let some : 0 < length words = grind (arith, c.is_empty.ensures, c.if-is_empty.false) in
    let bytes = object_bytes place.address place.size (map (λ s. s.now) words) in
    has_some (λ s. s.now) words c.args.file.items c.in_ok-with_bytes.field-0.items some (record {
      place = place;
      found = sym (rw c.as_slice.ensures.value at c.in-Some.ensures.found);
      fits = omega (arith, c.size_of-need.ensures, c.from.ensures, c.if-need-from.false);
      new_is = c.in_ok-with_bytes.ensures
          ∙ ap (λ l. with_bytes place.offset l c.as_slice-2.result.now) (c.as_slice-3.ensures.value ∙ c.in_ok-bytes.ensures.bytes)
          ∙ ap (λ l. with_bytes place.offset bytes l) c.as_slice-2.ensures.value;
    })
