-- Every line in a layer of a chain is a line of a starting piece.
use mathlib.Core.Path.{sym, subst}
use mathlib.Core.List.{List, [], ◌∷◌, ◌++◌}
use mathlib.Core.Logic.{inl, inr}
use Prim.Native.Nat.{ℕ}
use Rattle.lists.specs.Lists.{All, Member}
use Rattle.lists.proofs.Lists.{all_append, all_map, any_left, any_right, any_elim}
use Rattle.lists.proofs.Members.{all_member, members}
use Rattle.geometry.specs.declared.Line.{Line}
use Rattle.geometry.specs.declared.Trapezoid.{Trapezoid}
use Rattle.geometry.specs.Trapezoids.{lines_of, layer_of}
use Rattle.boolean.specs.Operations.{Code, result}
use Rattle.boolean.specs.Statements.{LineOf, LinesFrom}
use Rattle.boolean.proofs.Kept.{result_lines}
use Rattle.calls.proofs.Success.{Accepted}
use Rattle.chains.specs.Chains.{Layer, Step, run}
use Rattle.chains.specs.Statements.{starting_trapezoids}
use Rattle.chains.proofs.Steps.{run_keeps}

abbrev HasLines : List Trapezoid → Trapezoid → Type 0
HasLines us t = All (LineOf us) (lines_of t)

abbrev HasLine : Line → Trapezoid → Type 0
HasLine l t = Member l (lines_of t)

-- a line of a trapezoid whose lines are lines of us
line-from : (us ts : List Trapezoid) → LinesFrom us ts → (l : Line) → LineOf ts l → LineOf us l
line-from us ts h l k = any_elim {P = HasLines us} {Q = HasLine l} (λ t p q. all_member (LineOf us) l (lines_of t) p q) ts h k

lines_trans : (us ts vs : List Trapezoid) → LinesFrom us ts → LinesFrom ts vs → LinesFrom us vs
lines_trans us ts vs h k =
    all_map {P = HasLines ts} {Q = HasLines us} (λ t p. all_map {P = LineOf ts} {Q = LineOf us} (λ l q. line-from us ts h l q) (lines_of t) p) vs k

-- the lines of a layer's trapezoids are lines of us
abbrev pub LayerLines : List Trapezoid → Layer → Type 0
LayerLines us A = LinesFrom us (layer_of A)

result_lines_from : (us : List Trapezoid) (L : ℕ) (c : Code) (A B C : Layer) → Accepted L c A B C → LayerLines us A → LayerLines us B → LayerLines us C
result_lines_from us L c A B C h hA hB =
    subst (LinesFrom us) (sym h.is)
    (lines_trans us (layer_of A ++ layer_of B) (result c (layer_of A) (layer_of B))
    (all_append (HasLines us) (layer_of A) (layer_of B) hA hB)
    (result_lines L (layer_of A) (layer_of B) h.first h.second c))

-- ---- the starting layers
own_lines : (us ts : List Trapezoid) → ((l : Line) → LineOf ts l → LineOf us l) → LinesFrom us ts
own_lines us [] f = tt
own_lines us (t ∷ ts) f = (
  all_map {P = λ (l : Line). Member l (lines_of t)} {Q = LineOf us} (λ l h. f l (inl h)) (lines_of t) (members (lines_of t)),
  own_lines us ts (λ l h. f l (inr h)),
)

starting_lines : (us : List Trapezoid) (start : List Layer) → ((l : Line) → LineOf (starting_trapezoids start) l → LineOf us l) → All (LayerLines us) start
starting_lines us [] f = tt
starting_lines us (A ∷ start) f = (
  own_lines us (layer_of A) (λ l h. f l (any_left (HasLine l) (layer_of A) (starting_trapezoids start) h)),
  starting_lines us start (λ l h. f l (any_right (HasLine l) (layer_of A) (starting_trapezoids start) h)),
)

pub run_lines : (start : List Layer) (steps : List Step) → All (LayerLines (starting_trapezoids start)) (run start steps)
run_lines start steps =
    run_keeps (LayerLines (starting_trapezoids start)) (result_lines_from (starting_trapezoids start)) start steps (starting_lines (starting_trapezoids start) start (λ l h. h))
