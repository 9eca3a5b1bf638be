-- Words that are none of the names of events on two numbers write no event.
use Rattle.std.proofs.Common.{◌≡◌, ℕ, List, [], ◌∷◌, sym, ap, ◌∙◌}
use Rattle.std.specs.Prelude.{codes}
use Rattle.clock_policy.proofs.AdmitLaws.{one_key}
use Rattle.clock_policy.specs.declared.key.Key.{Key}
use Rattle.text_lines.specs.Calls.{AreNameAndNumbers}
use Rattle.text_lines.specs.Numbers.{number_value}
use Rattle.machine_core.specs.declared.event.Event.{Event}
use Rattle.machine_core.specs.declared.event.Event.TheVariants.{Step, Notice, Sweep, Collect, Saved, PageIn, Kill, Purge, Clean, Copy, Cleaned}
use Rattle.event_scripts.specs.DriveScript.{IsOfCleaning, WritesEvent}

-- the parts of a line of three words
same_name : (name known first second one two : List ℕ) → name ∷ first ∷ second ∷ [] ≡ known ∷ one ∷ two ∷ [] → name ≡ known
same_name name known first second one two e = cc

same_first : (name known first second one two : List ℕ) → name ∷ first ∷ second ∷ [] ≡ known ∷ one ∷ two ∷ [] → first ≡ one
same_first name known first second one two e = cc

same_second : (name known first second one two : List ℕ) → name ∷ first ∷ second ∷ [] ≡ known ∷ one ∷ two ∷ [] → second ≡ two
same_second name known first second one two e = cc

module _ (name first second : List ℕ) (key : Key) (process : key.process ≡ number_value first) (vpn : key.vpn ≡ number_value second) where
  named : (known : List ℕ) (p v : ℕ) → AreNameAndNumbers known p v (name ∷ first ∷ second ∷ []) → name ≡ known
  named known p v writes = same_name name known first second writes.0 writes.1.0 writes.1.1

  keyed : (known : List ℕ) (other : Key) → AreNameAndNumbers known other.process other.vpn (name ∷ first ∷ second ∷ []) → other ≡ key
  keyed known other writes =
      one_key other key
      (writes.1.2.1 ∙ ap number_value (sym (same_first name known first second writes.0 writes.1.0 writes.1.1)) ∙ sym process)
      (writes.1.3.1 ∙ ap number_value (sym (same_second name known first second writes.0 writes.1.0 writes.1.1)) ∙ sym vpn)

  pub no_event : (name ≡ codes "step" → ⊥) → (name ≡ codes "notice" → ⊥) → (name ≡ codes "collect" → ⊥) → (name ≡ codes "saved" → ⊥) → (name ≡ codes "pagein" → ⊥) → (name ≡ codes "kill" → ⊥)
      → ((event : Event) → IsOfCleaning name key event → ⊥) → (event : Event) → WritesEvent event (name ∷ first ∷ second ∷ []) → ⊥
  no_event step notice collect saved pagein kill none (Step p h) writes = step (named (codes "step") p h writes)
  no_event step notice collect saved pagein kill none (Notice p h) writes = notice (named (codes "notice") p h writes)
  no_event step notice collect saved pagein kill none Sweep writes = cc
  no_event step notice collect saved pagein kill none (Collect k) writes = collect (named (codes "collect") k.process k.vpn writes)
  no_event step notice collect saved pagein kill none (Saved k) writes = saved (named (codes "saved") k.process k.vpn writes)
  no_event step notice collect saved pagein kill none (PageIn k) writes = pagein (named (codes "pagein") k.process k.vpn writes)
  no_event step notice collect saved pagein kill none (Kill p cause) writes = kill (named (codes "kill") p _ writes)
  no_event step notice collect saved pagein kill none (Purge p) writes = let e = writes.1 in cc
  no_event step notice collect saved pagein kill none (Clean k) writes = none (Clean k) (named (codes "clean") k.process k.vpn writes, keyed (codes "clean") k writes)
  no_event step notice collect saved pagein kill none (Copy k) writes = none (Copy k) (named (codes "copy") k.process k.vpn writes, keyed (codes "copy") k writes)
  no_event step notice collect saved pagein kill none (Cleaned k) writes = none (Cleaned k) (named (codes "cleaned") k.process k.vpn writes, keyed (codes "cleaned") k writes)
