-- the new node is the last, or the only one
use Rattle.std.specs.Prelude.{◌≡◌, ◌≤◌, ◌==◌, ◌++◌, false, ℕ, [], ◌∷◌, List, refl}
use Rattle.std.proofs.Common.{arith, sym, ap, ◌∙◌, eqb-true}
use Rattle.std.proofs.lemmas.Bool.Decides.{nat_tests}
use Rattle.slab.specs.Slab.{slab_len}
use Rattle.page_ring.specs.Linked.{Cell, is_at}
use Rattle.page_ring.specs.Chain.{Chain, cells_of}
use Rattle.page_ring.proofs.ChainLaws.{Appended, alone_step, append_step}
use Rattle.page_ring.proofs.links.Links.append.Goals as goal

above : (n : ℕ) → (n == 0) ≡ false → 1 ≤ n
above n h = grind (arith, nat_tests)

pub invariant_of-self : goal.invariant_of-self
invariant_of-self c =
    let seen : c.args.self.now.cells ≡ cells_of c.self.inside.nodes c.self.inside.front = sym (ap (λ (l : Chain). l.cells) c.self.view_is) in
    let none : slab_len c.self.inside.nodes ≡ 0 = eqb-true (slab_len c.self.inside.nodes) 0 (sym c.is_empty.ensures ∙ c.if-is_empty.true) in
    let step : Appended c.self.inside.nodes c.link_alone-self-inside.new.nodes c.self.inside.front c.link_alone-self-inside.result c.link_alone-self-inside.result c.args.entry = alone_step c.self.inside.nodes c.link_alone-self-inside.new.nodes c.self.inside.front c.link_alone-self-inside.result c.args.entry (cells_of c.self.inside.nodes c.self.inside.front) refl c.self.invariant none c.link_alone-self-inside.ensures.circle c.link_alone-self-inside.ensures.len in
    step.held

pub returns-then-is_empty-clause-cells : goal.returns-then-is_empty-clause-cells
returns-then-is_empty-clause-cells c =
    let seen : c.args.self.now.cells ≡ cells_of c.self.inside.nodes c.self.inside.front = sym (ap (λ (l : Chain). l.cells) c.self.view_is) in
    let none : slab_len c.self.inside.nodes ≡ 0 = eqb-true (slab_len c.self.inside.nodes) 0 (sym c.is_empty.ensures ∙ c.if-is_empty.true) in
    let step : Appended c.self.inside.nodes c.link_alone-self-inside.new.nodes c.self.inside.front c.link_alone-self-inside.result c.link_alone-self-inside.result c.args.entry = alone_step c.self.inside.nodes c.link_alone-self-inside.new.nodes c.self.inside.front c.link_alone-self-inside.result c.args.entry (cells_of c.self.inside.nodes c.self.inside.front) refl c.self.invariant none c.link_alone-self-inside.ensures.circle c.link_alone-self-inside.ensures.len in
    step.cells ∙ ap (λ (l : List Cell). l ++ record { at = c.link_alone-self-inside.result; entry = c.args.entry } ∷ []) (sym seen)

pub returns-then-is_empty-clause-apart : goal.returns-then-is_empty-clause-apart
returns-then-is_empty-clause-apart c =
    let seen : c.args.self.now.cells ≡ cells_of c.self.inside.nodes c.self.inside.front = sym (ap (λ (l : Chain). l.cells) c.self.view_is) in
    let none : slab_len c.self.inside.nodes ≡ 0 = eqb-true (slab_len c.self.inside.nodes) 0 (sym c.is_empty.ensures ∙ c.if-is_empty.true) in
    let step : Appended c.self.inside.nodes c.link_alone-self-inside.new.nodes c.self.inside.front c.link_alone-self-inside.result c.link_alone-self-inside.result c.args.entry = alone_step c.self.inside.nodes c.link_alone-self-inside.new.nodes c.self.inside.front c.link_alone-self-inside.result c.args.entry (cells_of c.self.inside.nodes c.self.inside.front) refl c.self.invariant none c.link_alone-self-inside.ensures.circle c.link_alone-self-inside.ensures.len in
    step.held.circle.apart

pub returns-then-is_empty-clause-fresh : goal.returns-then-is_empty-clause-fresh
returns-then-is_empty-clause-fresh c =
    let seen : c.args.self.now.cells ≡ cells_of c.self.inside.nodes c.self.inside.front = sym (ap (λ (l : Chain). l.cells) c.self.view_is) in
    let none : slab_len c.self.inside.nodes ≡ 0 = eqb-true (slab_len c.self.inside.nodes) 0 (sym c.is_empty.ensures ∙ c.if-is_empty.true) in
    let step : Appended c.self.inside.nodes c.link_alone-self-inside.new.nodes c.self.inside.front c.link_alone-self-inside.result c.link_alone-self-inside.result c.args.entry = alone_step c.self.inside.nodes c.link_alone-self-inside.new.nodes c.self.inside.front c.link_alone-self-inside.result c.args.entry (cells_of c.self.inside.nodes c.self.inside.front) refl c.self.invariant none c.link_alone-self-inside.ensures.circle c.link_alone-self-inside.ensures.len in
    ap (λ (l : List Cell). is_at l c.link_alone-self-inside.result) seen ∙ step.fresh

pub invariant_of-self-2 : goal.invariant_of-self-2
invariant_of-self-2 c =
    let seen : c.args.self.now.cells ≡ cells_of c.self.inside.nodes c.self.inside.front = sym (ap (λ (l : Chain). l.cells) c.self.view_is) in
    let some : 1 ≤ slab_len c.self.inside.nodes = above (slab_len c.self.inside.nodes) (sym c.is_empty.ensures ∙ c.if-is_empty.false) in
    let step : Appended c.self.inside.nodes c.link_last.new.nodes c.self.inside.front c.self.inside.front c.link_last.result c.args.entry = append_step c.self.inside.nodes c.link_last.new.nodes c.self.inside.front c.link_last.result c.args.entry (cells_of c.self.inside.nodes c.self.inside.front) refl c.self.invariant some c.link_last.ensures.circle c.link_last.ensures.free c.link_last.ensures.len in
    step.held

pub returns-clause-cells : goal.returns-clause-cells
returns-clause-cells c =
    let seen : c.args.self.now.cells ≡ cells_of c.self.inside.nodes c.self.inside.front = sym (ap (λ (l : Chain). l.cells) c.self.view_is) in
    let some : 1 ≤ slab_len c.self.inside.nodes = above (slab_len c.self.inside.nodes) (sym c.is_empty.ensures ∙ c.if-is_empty.false) in
    let step : Appended c.self.inside.nodes c.link_last.new.nodes c.self.inside.front c.self.inside.front c.link_last.result c.args.entry = append_step c.self.inside.nodes c.link_last.new.nodes c.self.inside.front c.link_last.result c.args.entry (cells_of c.self.inside.nodes c.self.inside.front) refl c.self.invariant some c.link_last.ensures.circle c.link_last.ensures.free c.link_last.ensures.len in
    step.cells ∙ ap (λ (l : List Cell). l ++ record { at = c.link_last.result; entry = c.args.entry } ∷ []) (sym seen)

pub returns-clause-fresh : goal.returns-clause-fresh
returns-clause-fresh c =
    let seen : c.args.self.now.cells ≡ cells_of c.self.inside.nodes c.self.inside.front = sym (ap (λ (l : Chain). l.cells) c.self.view_is) in
    let some : 1 ≤ slab_len c.self.inside.nodes = above (slab_len c.self.inside.nodes) (sym c.is_empty.ensures ∙ c.if-is_empty.false) in
    let step : Appended c.self.inside.nodes c.link_last.new.nodes c.self.inside.front c.self.inside.front c.link_last.result c.args.entry = append_step c.self.inside.nodes c.link_last.new.nodes c.self.inside.front c.link_last.result c.args.entry (cells_of c.self.inside.nodes c.self.inside.front) refl c.self.invariant some c.link_last.ensures.circle c.link_last.ensures.free c.link_last.ensures.len in
    ap (λ (l : List Cell). is_at l c.link_last.result) seen ∙ step.fresh

pub returns-clause-apart : goal.returns-clause-apart
returns-clause-apart c =
    let seen : c.args.self.now.cells ≡ cells_of c.self.inside.nodes c.self.inside.front = sym (ap (λ (l : Chain). l.cells) c.self.view_is) in
    let some : 1 ≤ slab_len c.self.inside.nodes = above (slab_len c.self.inside.nodes) (sym c.is_empty.ensures ∙ c.if-is_empty.false) in
    let step : Appended c.self.inside.nodes c.link_last.new.nodes c.self.inside.front c.self.inside.front c.link_last.result c.args.entry = append_step c.self.inside.nodes c.link_last.new.nodes c.self.inside.front c.link_last.result c.args.entry (cells_of c.self.inside.nodes c.self.inside.front) refl c.self.invariant some c.link_last.ensures.circle c.link_last.ensures.free c.link_last.ensures.len in
    step.held.circle.apart
