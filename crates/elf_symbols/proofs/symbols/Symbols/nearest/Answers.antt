use Rattle.std.proofs.Common.{Some, ap, sym, ◌∙◌, arith}
use Rattle.std.specs.Option.{option_map}
use Rattle.std.proofs.lemmas.Bool.Decides.{nat_tests}
use Rattle.elf_symbols.specs.SymbolTables.{name_of}
use Rattle.elf_symbols.proofs.LastSymbols.{none_between}
use Rattle.elf_symbols.proofs.symbols.Symbols.nearest.Goals as goal

pub returns-clause-found : goal.returns-clause-found
returns-clause-found c =
    let there = (c.range.ensures.in_range tt).3 _ _ c.in_ok-at.ensures.steps in
    record {
      sum = grind (arith, nat_tests);
      named = ap (option_map (name_of c.args.self.now.names.now)) there.1 ∙ ap (λ n. Some n) (sym c.name_at.ensures);
      last = none_between c.args.self.now c.in_ok-at.at.now c.args.address ((c.range.ensures.in_range tt).4 _ _ c.in_ok-at.ensures.steps);
    }
