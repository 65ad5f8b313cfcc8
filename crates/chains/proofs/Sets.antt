-- What the sets in the layers of a chain say.
use mathlib.Core.Path.{◌≡◌, refl, sym, subst}
use mathlib.Core.Bool.{Bool, true, false}
use mathlib.Core.List.{List, [], ◌∷◌, map}
use Prim.Native.Nat.{ℕ, zero, suc}
use lib.Dec.{T}
use Rattle.lists.specs.Lists.{All}
use Rattle.lists.proofs.Lists.{all_append}
use Rattle.records.specs.Records.{records_from}
use Rattle.geometry.specs.Trapezoids.{layer_of}
use Rattle.geometry.specs.Fitness.{FitFor}
use Rattle.sources.specs.Sourced.{Sourced, sourced_of, shapes}
use Rattle.sources.proofs.Sourced.{shapes_of}
use Rattle.boolean.specs.Operations.{Code, union, intersect, a_minus_b, b_minus_a, symmetric_difference, code_at}
use Rattle.boolean.specs.Sources.{sourced_result, Traced, origin}
use Rattle.boolean.proofs.Sources.{result_traced, own_traced, traced_through, origin-through}
use Rattle.chains.specs.Chains.{Layer, layer_at, Step, succeeds, added, result_of, stepped, run, Told, told, origin_at, origins_by}
use Rattle.chains.specs.Statements.{Each}
use Rattle.chains.proofs.Each.{each_at, each_added}
use Rattle.chains.proofs.Success.{success_gives}

-- the sets of a layer come from us
abbrev From : List Sourced → Layer → Type 0
From us A = All (Traced us) (sourced_of A)

from_own : (start : List Layer) → Each From (map sourced_of start) start
from_own [] = tt
from_own (A ∷ start) = (own_traced (sourced_of A), from_own start)

no_sets : sourced_of [] ≡ []
unfolding records_from
no_sets = refl

from_at : (origins : List (List Sourced)) (layers : List Layer) → Each From origins layers → (n : ℕ) → From (origin_at origins n) (layer_at layers n)
from_at = each_at From [] [] (subst (All (Traced [])) (sym no_sets) tt)

fit_shapes : (L : ℕ) (A : Layer) → All (FitFor L) (layer_of A) → All (FitFor L) (shapes (sourced_of A))
fit_shapes L A h = subst (All (FitFor L)) (sym (shapes_of A)) h

-- those of a success's result
from-result : (origins : List (List Sourced)) (layers : List Layer) (s : Step) → Each From origins layers → T (succeeds layers s)
    → From (origin (code_at s.code) (origin_at origins s.first) (origin_at origins s.second)) (result_of layers s)
from-result origins layers s h t =
    let c = code_at s.code in
    let A = layer_at layers s.first in
    let B = layer_at layers s.second in
    let us = origin_at origins s.first in
    let vs = origin_at origins s.second in
    let k = (success_gives layers s t).call in
    subst (All (Traced (origin c us vs))) (sym k.sets)
    (traced_through (origin c us vs) (origin c (sourced_of A) (sourced_of B)) (sourced_result c (sourced_of A) (sourced_of B))
    (origin-through c us vs (sourced_of A) (sourced_of B) (from_at origins layers h s.first) (from_at origins layers h s.second))
    (result_traced s.limit c (sourced_of A) (sourced_of B) (fit_shapes s.limit A k.first) (fit_shapes s.limit B k.second)))

-- ---- what holds of each starting trapezoid holds of each that sets come from
module _ (Q : Sourced → Type 0) where
  origin_kept : (c : Code) (us vs : List Sourced) → All Q us → All Q vs → All Q (origin c us vs)
  origin_kept union us vs h k = all_append Q us vs h k
  origin_kept intersect us vs h k = all_append Q us vs h k
  origin_kept a_minus_b us vs h k = h
  origin_kept b_minus_a us vs h k = k
  origin_kept symmetric_difference us vs h k = all_append Q us vs h k

  pub kept_at : (origins : List (List Sourced)) → All (All Q) origins → (n : ℕ) → All Q (origin_at origins n)
  kept_at [] h n = tt
  kept_at (us ∷ origins) h zero = h.0
  kept_at (us ∷ origins) h (suc n) = kept_at origins h.1 n

  added_kept : (s : Bool) (origins : List (List Sourced)) (us : List Sourced) → All (All Q) origins → All Q us → All (All Q) (added s origins us)
  added_kept true origins us h k = all_append (All Q) origins (us ∷ []) h (k, tt)
  added_kept false origins us h k = h

  pub origins_kept : (origins : List (List Sourced)) (ts : List Told) → All (All Q) origins → All (All Q) (origins_by origins ts)
  unfolding origins_by
  origins_kept origins [] h = h
  origins_kept origins (t ∷ ts) h =
      origins_kept _ ts
      (added_kept t.success origins _ h (origin_kept (code_at t.code) (origin_at origins t.first) (origin_at origins t.second) (kept_at origins h t.first) (kept_at origins h t.second)))

-- ---- where the sets of each layer come from
from-run : (origins : List (List Sourced)) (layers : List Layer) (steps : List Step) → Each From origins layers → Each From (origins_by origins (told layers steps)) (run layers steps)
unfolding run told origins_by
from-run origins layers [] h = h
from-run origins layers (s ∷ steps) h = from-run (added (succeeds layers s) origins (origin (code_at s.code) (origin_at origins s.first) (origin_at origins s.second))) (stepped layers s) steps (each_added From (succeeds layers s) origins layers _ (result_of layers s) h (from-result origins layers s h))

pub run_sets : (start : List Layer) (steps : List Step) (n : ℕ) → From (origin_at (origins_by (map sourced_of start) (told start steps)) n) (layer_at (run start steps) n)
run_sets start steps n = from_at (origins_by (map sourced_of start) (told start steps)) (run start steps) (from-run (map sourced_of start) start steps (from_own start)) n
