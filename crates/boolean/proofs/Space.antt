-- The space of stages in a row.
use mathlib.Core.Path.{◌≡◌, refl, sym, ◌∙◌, ap}
use mathlib.Core.Bool.{Bool, true, false, cond}
use mathlib.Core.List.{List, [], ◌∷◌, ◌++◌}
use Prim.Native.Nat.{ℕ, ◌+◌}
use native.Mathlib.Omega.{arith}
use lib.Dec.{ltb}
use Rattle.boolean.specs.Space.{Stage, size_of, overlays_of, Space, enough, no_room, plus, space}

-- what follows counts only if what came before had enough
abbrev pub after : Space → Space → Space
after (enough m) s = plus m s
after (no_room m) s = no_room m

pub plus_none : (s : Space) → plus 0 s ≡ s
plus_none (enough m) = ap enough (omega arith)
plus_none (no_room m) = ap no_room (omega arith)

pub plus-plus : (n m : ℕ) (s : Space) → plus n (plus m s) ≡ plus (n + m) s
plus-plus n m (enough k) = ap enough (omega arith)
plus-plus n m (no_room k) = ap no_room (omega arith)

pub plus_after : (n : ℕ) (s t : Space) → plus n (after s t) ≡ after (plus n s) t
plus_after n (enough m) t = plus-plus n m t
plus_after n (no_room m) t = refl

pub space_append : (room : ℕ) (ms ns : List Stage) → space room (ms ++ ns) ≡ after (space room ms) (space room ns)
unfolding space
space_append room [] ns = sym (plus_none (space room ns))
space_append room (m ∷ ms) ns = go (ltb room (size_of m)) (space_append room ms ns)
  where
    go : (b : Bool) → space room (ms ++ ns) ≡ after (space room ms) (space room ns)
        → cond b (no_room (overlays_of m)) (plus (overlays_of m) (space room (ms ++ ns))) ≡ after (cond b (no_room (overlays_of m)) (plus (overlays_of m) (space room ms))) (space room ns)
    go true e = refl
    go false e = ap (plus (overlays_of m)) e ∙ plus_after (overlays_of m) (space room ms) (space room ns)

pub space_enough : (room m : ℕ) (ms ns : List Stage) → space room ms ≡ enough m → space room (ms ++ ns) ≡ plus m (space room ns)
space_enough room m ms ns e = space_append room ms ns ∙ ap (λ (s : Space). after s (space room ns)) e

pub space_no_room : (room m : ℕ) (ms ns : List Stage) → space room ms ≡ no_room m → space room (ms ++ ns) ≡ no_room m
space_no_room room m ms ns e = space_append room ms ns ∙ ap (λ (s : Space). after s (space room ns)) e
