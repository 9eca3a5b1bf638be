use Rattle.std.proofs.Common.{ap, map, refl, sym, true, ◌≡◌, ◌∙◌}
use Rattle.clap.specs.Faults.{fault_of, is_simple_and_free}
use Rattle.clap.specs.Simple.{App, is_simple, subcommand_of}
use Rattle.command_line.specs.Commands.{asm_app, bare_app, clock_app, debug_app, drive_app, flat_app, paged_app, run_app}
use Rattle.command_line.specs.declared.request.UsageError.TheVariants.{BadUsage}
use Rattle.command_line.proofs.Faulty.{has_fault}
use Rattle.command_line.proofs.words.parse.Goals as goal

simple : is_simple paged_app ≡ true
unfolding paged_app bare_app asm_app flat_app clock_app drive_app run_app debug_app
simple = refl

free : is_simple_and_free paged_app ≡ true
unfolding paged_app bare_app asm_app flat_app clock_app drive_app run_app debug_app
free = refl

pub returns-in-Ok-clause-rows : goal.returns-in-Ok-clause-rows
returns-in-Ok-clause-rows g c =
    let read = c.in_ok-paged.ensures.read_as in
    (c.in-Ok.ensures.matches (ap is_simple read ∙ simple)).1
    ∙ ap (λ (app : App). subcommand_of app (map g.S.AsStr.text c.args.words.now)) read

pub returns-in-Ok-clause-no_fault : goal.returns-in-Ok-clause-no_fault
returns-in-Ok-clause-no_fault g c =
    let read = c.in_ok-paged.ensures.read_as in
    ap (λ (app : App). fault_of app (map g.S.AsStr.text c.args.words.now)) (sym read)
    ∙ c.in-Ok.ensures.kinds (ap is_simple_and_free read ∙ free)

pub returns-in-Err-clause-bad : goal.returns-in-Err-clause-bad
returns-in-Err-clause-bad g c is none =
    let read = c.in_ok-paged.ensures.read_as in
    let bad : c.usage_error.result ≡ BadUsage = cc in
    has_fault _ c.in-Err.error c.kind.result c.kind.ensures (c.in-Err.ensures.kinds (ap is_simple_and_free read ∙ free)) (c.usage_error.ensures.bad bad)
    (ap (λ (app : App). fault_of app (map g.S.AsStr.text c.args.words.now)) read ∙ none)
