-- A film: the scenes of one run, in each the machine that its event leaves.
use Rattle.std.specs.Prelude.{◌≡◌, ℕ, List, [], ◌∷◌}
use Rattle.clock_policy.specs.declared.key.Key.{Key}
use Rattle.machine_core.specs.Applying.{Applies}
use Rattle.machine_core.specs.Machine.{CoreValue}
use Rattle.machine_core.specs.declared.event.Event.{Event}
use Rattle.run_picture.specs.Pictures.{IsPictureOf}
use Rattle.run_picture.specs.declared.scene.Scene.{Scene}

module _ {S : Type 0} (held : S → List ℕ) (honest : Type 0) (failures : S → ℕ) where
  -- an event, and the reply and the machine that it leaves, with some of that machine's pages
  pub record IsScene (event : Event) (old new : CoreValue S) (scene : Scene) : Type 0 where
    pub keys : List Key
    pub event_is : scene.event ≡ event
    pub applies : Applies held honest failures event old new scene.reply
    pub picture : IsPictureOf new keys scene.picture

  -- events one after another, each with its scene
  unfoldable pub IsFilm : List Event → List Scene → CoreValue S → CoreValue S → Type 0
  IsFilm [] [] old new = new ≡ old
  IsFilm [] (scene ∷ scenes) old new = ⊥
  IsFilm (event ∷ events) [] old new = ⊥
  IsFilm (event ∷ events) (scene ∷ scenes) old new = (between : CoreValue S) × (IsScene event old between scene × IsFilm events scenes between new)
