-- A film that goes on.
use Rattle.std.proofs.Common.{ℕ, ◌+◌, ◌<◌, List, [], ◌∷◌, ◌++◌, length, take, get_or, refl, sym, subst}
use Rattle.std.proofs.lemmas.List.{take_more}
use Rattle.machine_core.specs.Machine.{CoreValue}
use Rattle.machine_core.specs.declared.event.Event.{Event}
use Rattle.run_picture.specs.Films.{IsScene, IsFilm}
use Rattle.run_picture.specs.declared.scene.Scene.{Scene}

module _ {S : Type 0} (held : S → List ℕ) (honest : Type 0) (failures : S → ℕ) where
  -- no event makes no scene
  pub film_none : (core : CoreValue S) → IsFilm held honest failures [] [] core core
  unfolding IsFilm
  film_none core = refl

  -- a film, and then one scene more
  pub film_more : (events : List Event) (scenes : List Scene) (old between new : CoreValue S) (event : Event) (scene : Scene) → IsFilm held honest failures events scenes old between
      → IsScene held honest failures event between new scene → IsFilm held honest failures (events ++ event ∷ []) (scenes ++ scene ∷ []) old new
  unfolding IsFilm
  film_more [] [] old between new event scene same shown =
      (new, (subst (λ c. IsScene held honest failures event c new scene) same shown, refl))
  film_more [] (s ∷ ss) old between new event scene film shown = absurd film
  film_more (e ∷ es) [] old between new event scene film shown = absurd film
  film_more (e ∷ es) (s ∷ ss) old between new event scene film shown =
      (film.0, (film.1.0, film_more es ss film.0 between new event scene film.1.1 shown))

  -- the same of events that stand in a list
  pub film_next : (events : List Event) (i : ℕ) (event : Event) (scenes : List Scene) (old between new : CoreValue S) (scene : Scene) → i < length events
      → IsFilm held honest failures (take i events) scenes old between → IsScene held honest failures (get_or events i event) between new scene
      → IsFilm held honest failures (take (i + 1) events) (scenes ++ scene ∷ []) old new
  film_next events i event scenes old between new scene small film shown =
      subst (λ l. IsFilm held honest failures l (scenes ++ scene ∷ []) old new) (sym (take_more events i event small))
      (film_more (take i events) scenes old between new (get_or events i event) scene film shown)
