use Rattle.std.proofs.Common.{◌≡◌, ◌≤◌, ◌-◌, ◌+◌, ◌++◌, length, replicate, arith, ap, ◌∙◌}
use Rattle.flat_machine.specs.Schedule.{written_out, rest_in_last}
use Rattle.flat_machine.proofs.TurnsLaws.{last_there, last_turn_at, written_up, joined_up, rest_up}
use Rattle.flat_machine.proofs.schedule.Schedule.lengthen.Goals as goal

pub overflow_sub-last : goal.overflow_sub-last
overflow_sub-last c =
    let count : c.len-last.result ≡ length c.self.inside.turns.items = omega (arith, c.len-last.ensures, c.self.inside.turns.ok.0) in
    let fit : c.args.count ≤ rest_in_last c.self.inside.turns.items c.args.hart = omega (arith, ap (λ t. rest_in_last t c.args.hart) c.self.view_is, c.requires.fit) in
    let there = last_there c.self.inside.turns.items c.args.hart c.args.count fit c.requires.some in
    omega arith

pub index_mut-requires : goal.index_mut-requires
index_mut-requires c =
    let count : c.len-last.result ≡ length c.self.inside.turns.items = omega (arith, c.len-last.ensures, c.self.inside.turns.ok.0) in
    let fit : c.args.count ≤ rest_in_last c.self.inside.turns.items c.args.hart = omega (arith, ap (λ t. rest_in_last t c.args.hart) c.self.view_is, c.requires.fit) in
    let there = last_there c.self.inside.turns.items c.args.hart c.args.count fit c.requires.some in
    omega (arith, c.len-last.ensures)

pub overflow_add-index_mut : goal.overflow_add-index_mut
overflow_add-index_mut c =
    let count : c.len-last.result ≡ length c.self.inside.turns.items = omega (arith, c.len-last.ensures, c.self.inside.turns.ok.0) in
    let fit : c.args.count ≤ rest_in_last c.self.inside.turns.items c.args.hart = omega (arith, ap (λ t. rest_in_last t c.args.hart) c.self.view_is, c.requires.fit) in
    let there = last_there c.self.inside.turns.items c.args.hart c.args.count fit c.requires.some in
    let last : (c.len-last.result - 1) + 1 ≡ length c.self.inside.turns.items = omega arith in
    let facts = last_turn_at c.self.inside.turns.items (c.len-last.result - 1) c.args.hart c.args.count c.index_mut.result.now last c.index_mut.ensures.value fit c.requires.some in
    let most = facts.1 in
    record { fits = omega arith }

pub invariant_of-self : goal.invariant_of-self
invariant_of-self c =
    let count : c.len-last.result ≡ length c.self.inside.turns.items = omega (arith, c.len-last.ensures, c.self.inside.turns.ok.0) in
    let fit : c.args.count ≤ rest_in_last c.self.inside.turns.items c.args.hart = omega (arith, ap (λ t. rest_in_last t c.args.hart) c.self.view_is, c.requires.fit) in
    let there = last_there c.self.inside.turns.items c.args.hart c.args.count fit c.requires.some in
    let last : (c.len-last.result - 1) + 1 ≡ length c.self.inside.turns.items = omega arith in
    let facts = last_turn_at c.self.inside.turns.items (c.len-last.result - 1) c.args.hart c.args.count c.index_mut.result.now last c.index_mut.ensures.value fit c.requires.some in
    record {
      joined = joined_up c.self.inside.turns.items (c.len-last.result - 1) c.args.count c.index_mut.result.now c.self.invariant.joined last c.index_mut.ensures.value facts.1 c.requires.some;
      roomy = c.self.invariant.roomy;
    }

pub returns-clause-recorded : goal.returns-clause-recorded
returns-clause-recorded c =
    let count : c.len-last.result ≡ length c.self.inside.turns.items = omega (arith, c.len-last.ensures, c.self.inside.turns.ok.0) in
    let fit : c.args.count ≤ rest_in_last c.self.inside.turns.items c.args.hart = omega (arith, ap (λ t. rest_in_last t c.args.hart) c.self.view_is, c.requires.fit) in
    let there = last_there c.self.inside.turns.items c.args.hart c.args.count fit c.requires.some in
    let last : (c.len-last.result - 1) + 1 ≡ length c.self.inside.turns.items = omega arith in
    let facts = last_turn_at c.self.inside.turns.items (c.len-last.result - 1) c.args.hart c.args.count c.index_mut.result.now last c.index_mut.ensures.value fit c.requires.some in
    written_up c.self.inside.turns.items (c.len-last.result - 1) c.args.hart c.args.count c.index_mut.result.now c.index_mut.result.now last c.index_mut.ensures.value facts.0
    ∙ ap (λ t. written_out t ++ replicate c.args.count c.args.hart) c.self.view_is

pub returns-clause-rest : goal.returns-clause-rest
returns-clause-rest c =
    let count : c.len-last.result ≡ length c.self.inside.turns.items = omega (arith, c.len-last.ensures, c.self.inside.turns.ok.0) in
    let fit : c.args.count ≤ rest_in_last c.self.inside.turns.items c.args.hart = omega (arith, ap (λ t. rest_in_last t c.args.hart) c.self.view_is, c.requires.fit) in
    let there = last_there c.self.inside.turns.items c.args.hart c.args.count fit c.requires.some in
    let last : (c.len-last.result - 1) + 1 ≡ length c.self.inside.turns.items = omega arith in
    let facts = last_turn_at c.self.inside.turns.items (c.len-last.result - 1) c.args.hart c.args.count c.index_mut.result.now last c.index_mut.ensures.value fit c.requires.some in
    rest_up c.self.inside.turns.items (c.len-last.result - 1) c.args.hart c.args.count c.index_mut.result.now last c.index_mut.ensures.value facts.0 facts.1
    ∙ ap (λ t. rest_in_last t c.args.hart) c.self.view_is
