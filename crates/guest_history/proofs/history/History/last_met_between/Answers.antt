use Rattle.std.proofs.Common.{◌≡◌, ℕ, ◌≤◌, ◌∙◌, ◌+◌, ◌-◌, ◌<◌, ap, subst, sym, arith, List, Option, IfSome, Some, None, ◌^◌}
use Rattle.debug_core.specs.declared.point.Point.{Point}
use Rattle.guest_history.specs.Checkpoints.{beginning}
use Rattle.guest_history.specs.Histories.{stops_at}
use Rattle.run_paths.specs.declared.path.Stretch.{Stretch}
use Rattle.run_paths.specs.declared.running.Place.{Place}
use Rattle.run_paths.specs.declared.searching.Met.{Met}
use Rattle.run_paths.specs.Meeting.{met_at, shifted, LastMet}
use Rattle.run_paths.specs.Paths.{along, part_of, steps_of, whose_at}
use Rattle.run_paths.proofs.Meets.{last_part, last_within}
use Rattle.run_paths.proofs.Parts.{steps_part, whose_part}
use Rattle.guest_history.proofs.history.History.last_met_between.Goals as goal

-- how long a part is
long : (path part : List Stretch) (from end : ℕ) → from < end → end ≤ steps_of path → part ≡ part_of path from (end - from) → steps_of part ≡ end - from
long path part from end before within is = ap steps_of is ∙ steps_part path from (end - from) (omega (arith, within, before))

found : (points : List (Option Point)) (path part : List Stretch) (first at : Place) (from end : ℕ) (met : Option Met) → from < end → end ≤ steps_of path → part ≡ part_of path from (end - from) → along path from first ≡ Some at
    → LastMet (met_at points part at) 0 (steps_of part) met → LastMet (met_at points path first) from end (shifted from met)
found points path part first at from end met before within is led last =
    let whole : from + (end - from) ≡ end = omega (arith, before) in
    subst (λ n. LastMet (met_at points path first) from n (shifted from met)) whole
    (last_part points path part first at from (end - from) met led (λ i h. ap (λ (l : List Stretch). whose_at l i) is ∙ whose_part path from (end - from) i h)
    (subst (λ n. LastMet (met_at points part at) 0 n met) (long path part from end before within is) last))

small_enough : (met : Option Met) (n from : ℕ) → IfSome met (λ it. it.steps < n) → from + n < 2 ^ 64 → IfSome met (λ it. from + it.steps < 2 ^ 64)
small_enough None n from less fits = tt
small_enough (Some met) n from less fits = omega (arith, less, fits)

pub last_met-requires : goal.last_met-requires
last_met-requires c =
    let old = c.args.self.now in
    let is : c.as_slice.result.now ≡ part_of old.path.stretches.items c.args.from (c.args.end - c.args.from) =
    c.as_slice.ensures.value ∙ c.in_ok-part.ensures
    ∙ ap (λ (l : List Stretch). part_of l c.args.from (c.args.end - c.args.from)) c.as_slice-path.ensures.value in
    let counted = c.requires.stands.counted in
    let within = c.requires.within in
    let size = long old.path.stretches.items c.as_slice.result.now c.args.from c.args.end c.requires.before (omega (arith, counted, within)) is in
    let fits = c.ranges.end.fits in
    record { small = omega (arith, size, fits); points = c.requires.stands.ranged }

pub behind-requires : goal.behind-requires
behind-requires c =
    let old = c.args.self.now in
    let is : c.as_slice.result.now ≡ part_of old.path.stretches.items c.args.from (c.args.end - c.args.from) =
    c.as_slice.ensures.value ∙ c.in_ok-part.ensures
    ∙ ap (λ (l : List Stretch). part_of l c.args.from (c.args.end - c.args.from)) c.as_slice-path.ensures.value in
    let counted = c.requires.stands.counted in
    let within = c.requires.within in
    let before = c.requires.before in
    let size = long old.path.stretches.items c.as_slice.result.now c.args.from c.args.end before (omega (arith, counted, within)) is in
    let fits = c.ranges.end.fits in
    record { small = small_enough c.in_ok-met.met (steps_of c.as_slice.result.now) c.args.from (last_within _ 0 (steps_of c.as_slice.result.now) c.in_ok-met.met c.in_ok-met.ensures) (omega (arith, size, fits, before)) }

pub returns : goal.returns
returns c =
    let old = c.args.self.now in
    let is : c.as_slice.result.now ≡ part_of old.path.stretches.items c.args.from (c.args.end - c.args.from) =
    c.as_slice.ensures.value ∙ c.in_ok-part.ensures
    ∙ ap (λ (l : List Stretch). part_of l c.args.from (c.args.end - c.args.from)) c.as_slice-path.ensures.value in
    let counted = c.requires.stands.counted in
    let within = c.requires.within in
    let last : LastMet (met_at old.points c.as_slice.result.now c.in_ok-place.place) 0 (steps_of c.as_slice.result.now) c.in_ok-met.met =
    c.in_ok-met.ensures in
    record {
      last = subst (LastMet (stops_at old) c.args.from c.args.end) (sym c.behind.ensures)
          (found old.points old.path.stretches.items c.as_slice.result.now (beginning old.program) c.in_ok-place.place c.args.from c.args.end c.in_ok-met.met c.requires.before (omega (arith, counted, within)) is c.in_ok-place.ensures.led last);
    }
