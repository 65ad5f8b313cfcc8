-- Paths: numbers that lead from one to another, each to the next by a relation.
use Rattle.std.specs.Prelude.{◌≡◌, List, [], ◌∷◌, ℕ}
use Rattle.lists.specs.Lists.{At}
use Rattle.geometry.specs.declared.Trapezoid.{Trapezoid}
use Rattle.connectivity.specs.Touching.{Touch}

-- i is related to the first of js, each of js to the next, and the last is k
abbrev pub Leads : (ℕ → ℕ → Type 0) → ℕ → List ℕ → ℕ → Type 0
Leads R i [] k = i ≡ k
Leads R i (j ∷ js) k = R i j × Leads R j js k

pub record Reachable (R : ℕ → ℕ → Type 0) (i k : ℕ) : Type 0 where
  pub through : List ℕ
  pub leads : Leads R i through k

-- the trapezoids with the numbers i and j touch
abbrev pub TouchAt : List Trapezoid → ℕ → ℕ → Type 0
TouchAt ts i j = At (λ (t : Trapezoid). At (Touch t) ts j) ts i
