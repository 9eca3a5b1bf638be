use Rattle.std.proofs.Common.{◌≡◌, None, refl, sym, ap, ◌∙◌, rules}
use Rattle.elf_symbols.specs.declared.symbols.Symbols.{Symbols}
use Rattle.elf_symbols.specs.Nearest.{standing}
use Rattle.elf_symbols.specs.SymbolTables.{with_entry}
use Rattle.elf_symbols.proofs.Standing.{named_none, named_same, named_added}
use Rattle.elf_symbols.proofs.symbols.Symbols.of_table.Goals.{in-Some+in_ok-add, in_default}
use Rattle.elf_symbols.proofs.symbols.Symbols.of_table.Goals as goal

pub symbols-init : goal.symbols-init
symbols-init c = record {
  names = refl;
  standing = λ address.
      let empty : standing (record { names = c.args.names; by_address = c.new.result }) address ≡ None = search rules in
      empty ∙ sym (named_none c.args.table.now c.args.names.now address);
}

pub symbols-preserved : goal.symbols-preserved
symbols-preserved c =
    let table = c.args.table.now in
    let names = c.args.names.now in
    let number = c.symbols.number in
    elim c.match-entry_at.branch [
      | in-Some+in_ok-add w ↦ record {
        names = cc;
        standing = λ address.
            ap (λ (s : Symbols). standing s address) w.symbols-is
            ∙ w.in_ok-add.ensures.added address
            ∙ ap (with_entry w.in-Some.entry address) (c.symbols.invariant.standing address)
            ∙ sym (named_added table names number address w.in-Some.entry (sym c.entry_at.ensures ∙ w.in-Some.is));
      }
      | in_default w ↦ record {
        names = cc;
        standing = λ address.
            ap (λ (s : Symbols). standing s address) w.symbols-is
            ∙ c.symbols.invariant.standing address
            ∙ sym (named_same table names number address (sym c.entry_at.ensures ∙ w.in_default.is));
      }
    ]
