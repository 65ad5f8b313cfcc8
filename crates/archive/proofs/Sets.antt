-- Where the trapezoids that a chain holds came from, by their sets.
use mathlib.Core.Path.{◌≡◌, refl, sym, ◌∙◌, subst}
use mathlib.Core.List.{List, [], ◌∷◌, map}
use mathlib.Core.Logic.{inl, inr}
use Prim.Native.Nat.{ℕ, zero, suc}
use lib.Dec.{T}
use lib.IntN.{ℤ}
use lib.ListN.{get_or}
use Rattle.lists.specs.Lists.{All, Any}
use Rattle.lists.proofs.Lists.{all_map, all_with, any_map, any_elim}
use Rattle.geometry.specs.declared.Trapezoid.{Trapezoid}
use Rattle.geometry.specs.Points.{Point}
use Rattle.geometry.specs.Trapezoids.{layer_of, lies_in, LiesInLayer}
use Rattle.geometry.specs.Fitness.{FitFor}
use Rattle.sources.specs.Sets.{has, empty, single}
use Rattle.sources.specs.Sourced.{Sourced, sourced_of, shapes, bearing}
use Rattle.sources.proofs.Sourced.{shapes_of}
use Rattle.boolean.specs.Sources.{sourced_deoverlapped, Keeps, Inside, Traced}
use Rattle.boolean.proofs.Sources.{deoverlapped_sets}
use Rattle.files.specs.Formats.{file_words}
use Rattle.files.specs.Contents.{file_layers_of}
use Rattle.calls.specs.Statements.{fractured_layer}
use Rattle.calls.proofs.Sets.{fracture_sets}
use Rattle.calls.proofs.Success.{deoverlap_accepted}
use Rattle.chains.specs.Chains.{Layer, layer_at, steps_of, told, held, origin_at, origins}
use Rattle.chains.proofs.Chains.{every_chain}
use Rattle.chains.proofs.Sets.{kept_at, origins_kept}
use Rattle.archive.specs.Calls.{FractureCall, FractureAccepted, fractured_by, DeoverlapCall, deoverlapped_by}
use Rattle.archive.specs.Archive.{Source, polygons, disjoint_polygons, archived, layer_from, BothAccepted, Accepted, set_of}
use Rattle.archive.specs.Statements.{CameFrom, SetsSent}
use Rattle.archive.proofs.Sources.{by_definition, source_points, layer_sets}

-- ---- the sets of a starting layer
abbrev Has : ℤ → Sourced → Type 0
Has z u = u.sources ≡ z

bearing-has : (z : ℤ) (ts : List Trapezoid) → All (Has z) (bearing z ts)
bearing-has z [] = tt
bearing-has z (t ∷ ts) = (refl, bearing-has z ts)

empty-at : (tss : List (List Trapezoid)) (n : ℕ) → All (Has empty) (get_or (map (bearing empty) tss) n [])
empty-at [] n = tt
empty-at (ts ∷ tss) zero = bearing-has empty ts
empty-at (ts ∷ tss) (suc n) = empty-at tss n

fractured_has : (f : FractureCall) → FractureAccepted f → All (Has (single f.layer)) (sourced_of (fractured_by f))
fractured_has f h =
    by_definition (λ (A : Layer). All (Has (single f.layer)) (sourced_of A)) _ _ h.kept h.accepted
    (λ t.
    subst (All (Has (single f.layer))) (sym (fracture_sets f.edition f.limit f.layer f.file f.out f.scratch t).1)
    (bearing-has (single f.layer) (layer_of (fractured_layer f.edition f.limit f.layer f.file f.out f.scratch))))

-- what keeps the sets of us
keeps_has : (z : ℤ) (us rs : List Sourced) → All (Has z) us → All (Keeps us) rs → All (Has z) rs
keeps_has z us rs h =
    all_map {P = Keeps us} {Q = Has z}
    (λ r k. any_elim {B = Has z r} {P = Has z} {Q = λ (u : Sourced). (r.sources ≡ u.sources) × Inside r.shape u.shape} (λ u p q. q.0 ∙ p) us h k) rs

deoverlapped-has : (f : FractureCall) (d : DeoverlapCall) → BothAccepted f d → All (Has (single f.layer)) (sourced_of (deoverlapped_by d))
deoverlapped-has f d h =
    let z = single f.layer in
    let us = sourced_of d.layer in
    let lent : All (Has z) us = subst (λ (A : Layer). All (Has z) (sourced_of A)) (sym h.lent) (fractured_has f h.fractured) in
    by_definition (λ (A : Layer). All (Has z) (sourced_of A)) _ _ h.deoverlapped.kept h.deoverlapped.accepted
    (λ t.
    let k = deoverlap_accepted d.limit d.layer d.out d.scratch t in
    subst (All (Has z)) (sym k.sets)
    (keeps_has z us (sourced_deoverlapped us) lent (deoverlapped_sets d.limit us (subst (All (FitFor d.limit)) (sym (shapes_of d.layer)) k.layer))))

source_has : (s : Source) → Accepted s → All (Has (set_of s)) (sourced_of (layer_from s))
source_has (polygons f) h = fractured_has f h
source_has (disjoint_polygons f d) h = deoverlapped-has f d h
source_has (archived r n) h = subst (All (Has empty)) (sym (layer_sets r n h)) (empty-at (file_layers_of (file_words r.file)) n)

-- ---- and their points
own_points : (rs : List Sourced) → All (λ (u : Sourced). (P : Point) → T (lies_in P u.shape) → LiesInLayer P (shapes rs)) rs
own_points [] = tt
own_points (r ∷ rs) = (
  (λ P h. inl h),
  all_map {P = λ (u : Sourced). (P : Point) → T (lies_in P u.shape) → LiesInLayer P (shapes rs)} {Q = λ (u : Sourced). (P : Point) → T (lies_in P u.shape) → LiesInLayer P (shapes (r ∷ rs))}
      (λ u f P h. inr (f P h)) rs (own_points rs),
)

-- u came from s by each layer in its set
abbrev Came : Source → Sourced → Type 0
Came s u = (k : ℕ) → T (has k u.sources) → CameFrom k u.shape s

source_came : (s : Source) → Accepted s → All (Came s) (sourced_of (layer_from s))
source_came s h =
    let A = layer_from s in
    all_with {P = Has (set_of s)} {Q = λ (u : Sourced). (P : Point) → T (lies_in P u.shape) → LiesInLayer P (shapes (sourced_of A))} {R = Came s}
    (λ u e f k t. (
      subst (λ (z : ℤ). T (has k z)) e t,
      (λ P hP i. (source_points P hP s h).0 (subst (LiesInLayer P) (shapes_of A) (f P i))),
    ))
    (sourced_of A) (source_has s h) (own_points (sourced_of A))

-- from one of the sources
abbrev CameOf : List Source → Sourced → Type 0
CameOf sources u = (k : ℕ) → T (has k u.sources) → Any (CameFrom k u.shape) sources

starting_came : (sources : List Source) → All Accepted sources → All (All (CameOf sources)) (map sourced_of (map layer_from sources))
starting_came [] h = tt
starting_came (s ∷ sources) h = (
  all_map {P = Came s} {Q = CameOf (s ∷ sources)} (λ u c k t. inl (c k t)) (sourced_of (layer_from s)) (source_came s h.0),
  all_map {P = All (CameOf sources)} {Q = All (CameOf (s ∷ sources))} (λ us. all_map {P = CameOf sources} {Q = CameOf (s ∷ sources)} (λ u c k t. inr (c k t)) us)
      (map sourced_of (map layer_from sources)) (starting_came sources h.1),
)

-- what comes from those that came from the sources, came from them
traced_came : (sources : List Source) (us : List Sourced) → All (CameOf sources) us → (r : Sourced) → Traced us r → CameOf sources r
traced_came sources us h r t k i =
    any_elim {B = Any (CameFrom k r.shape) sources} {P = CameOf sources} {Q = λ (u : Sourced). T (has k u.sources) × Inside r.shape u.shape}
    (λ u c g. any_map (λ s x. (x.0, (λ P hP j. x.1 P hP (g.1 P hP j)))) sources (c k g.0)) us h (t k i)

pub sets_sent : SetsSent
sets_sent sources accepted calls contracts n =
    let start = map layer_from sources in
    let us = origin_at (origins start calls) n in
    let h = kept_at (CameOf sources) (origins start calls) (origins_kept (CameOf sources) (map sourced_of start) (told start (steps_of calls)) (starting_came sources accepted)) n in
    all_map {P = Traced us} {Q = CameOf sources} (traced_came sources us h) (sourced_of (layer_at (held start calls) n)) (((every_chain start).0 calls contracts).sets n)
