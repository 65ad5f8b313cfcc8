-- The stages of bases and emitters, one after the other.
use mathlib.Core.Path.{◌≡◌, ◌∙◌, ap}
use mathlib.Core.List.{List, ◌++◌}
use Prim.Native.Nat.{ℕ, ◌+◌}
use lib.Dec.{T}
use Rattle.lists.proofs.Lists.{any_left, any_right}
use Rattle.boolean.specs.Space.{Stage, enough, plus, space}
use Rattle.boolean.specs.Counts.{Exceeds, is_no_room}
use Rattle.boolean.proofs.Space.{space_enough}
use Rattle.boolean.proofs.Stages.{no_room_exact}

-- there is no room for stages in a row if there is none for some
module _ (room : ℕ) (ms ns : List Stage) where
  pub no_room_left : T (is_no_room (space room ms)) → T (is_no_room (space room (ms ++ ns)))
  no_room_left t = (no_room_exact room (ms ++ ns)).1 (any_left (Exceeds room) ms ns ((no_room_exact room ms).0 t))

  pub no_room_right : T (is_no_room (space room ns)) → T (is_no_room (space room (ms ++ ns)))
  no_room_right t = (no_room_exact room (ms ++ ns)).1 (any_right (Exceeds room) ms ns ((no_room_exact room ns).0 t))

  pub enough_both : (m n : ℕ) → space room ms ≡ enough m → space room ns ≡ enough n → space room (ms ++ ns) ≡ enough (m + n)
  enough_both m n e f = space_enough room m ms ns e ∙ ap (plus m) f
