-- CAR's hands pass pages one by one: proofs.
use Rattle.std.specs.Prelude.{◌≡◌, ℕ, suc, ◌+◌, ◌-◌, ◌<◌, ◌≤◌, Bool, true, false, cond, List, [], ◌∷◌, length}
use Rattle.std.specs.HashSet.{contains}
use Rattle.std.proofs.Common.{arith, sym, ap, ◌∙◌}
use Rattle.clock_policy.specs.declared.key.Key.{Key}
use Rattle.page_policies.specs.Strings.{is_page, holds, misses}
use Rattle.textbook_policies.specs.Car.{CarState, head_used, head_on, head_out, replaced, in_car, car, car_misses, clocks_of}
use Rattle.textbook_policies.specs.declared.car.Car.{Car}

pub some_held : (p : Key) (s : List Key) → holds p s ≡ true → 1 ≤ length s
some_held p [] h = cc
some_held p (q ∷ qs) h = omega arith

pub replaced_more : (n i : ℕ) (s t : CarState) → i < n → true ≡ head_used s → t ≡ head_on s → replaced (n - (i + 1)) t ≡ replaced (n - i) s
replaced_more n i s t h used is =
    let e : n - i ≡ suc (n - (i + 1)) = omega (arith, h) in
    ap (replaced (n - (i + 1))) is
    ∙ ap (λ (b : Bool). cond b (replaced (n - (i + 1)) (head_on s)) (head_out s)) used
    ∙ ap (λ (k : ℕ). replaced k s) (sym e)

pub car_opens : (s : Car) (m : ℕ) → s.frames ≡ m → s.t1 ≡ [] → s.t2 ≡ [] → s.b1 ≡ [] → s.b2 ≡ [] → ((q : Key) → contains is_page s.referenced q ≡ false) → s.target ≡ 0 → (string : List Key) → misses in_car (car s.frames) (clocks_of s) string ≡ car_misses m string
unfolding car_misses
car_opens s m frames t1 t2 b1 b2 none target string = λ i. misses in_car (car (frames i)) (record { t1 = t1 i; t2 = t2 i; b1 = b1 i; b2 = b2 i; referenced = λ q. none q i; target = target i }) string
