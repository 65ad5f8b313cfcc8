-- Whether a point was sent, as a yes or no, is what it means.
use mathlib.Core.Path.{◌≡◌, sym, subst}
use mathlib.Core.Bool.{Bool, true, false, not}
use mathlib.Core.List.{List, [], ◌∷◌}
use mathlib.Core.Logic.{◌↔◌}
use lib.Dec.{T}
use lib.IntN.{ℤ, pos}
use Rattle.lists.specs.Lists.{Any}
use Rattle.lists.proofs.Tests.{or_exact}
use Rattle.geometry.specs.Points.{Point}
use Rattle.geometry.specs.Polygons.{Polygon}
use Rattle.geometry.proofs.Layers.{lies_in-layer_exact}
use Rattle.sweep.specs.Columns.{is_zero}
use Rattle.sweep.proofs.Slabs.{zero_is}
use Rattle.fracture.specs.Polygons.{winding_number}
use Rattle.fracture.specs.Statements.{Wound}
use Rattle.files.specs.Formats.{file_words}
use Rattle.files.specs.Contents.{polygons_of}
use Rattle.archive.specs.Archive.{polygons, disjoint_polygons, archived, any_wound, file_layer_at, SentExact}

not_zero : (z : ℤ) → T (not (is_zero z)) ↔ ¬ (z ≡ pos 0)
not_zero z = go (is_zero z) (zero_is z) (λ e. subst (λ (y : ℤ). T (is_zero y)) (sym e) tt)
  where
    go : (b : Bool) → (T b → z ≡ pos 0) → (z ≡ pos 0 → T b) → T (not b) ↔ ¬ (z ≡ pos 0)
    go true f g = ((λ t. absurd t), (λ n. n (f tt)))
    go false f g = ((λ t. g), (λ n. tt))

any_wound_exact : (P : Point) (ps : List Polygon) → T (any_wound P ps) ↔ Any (Wound P) ps
any_wound_exact P [] = ((λ t. t), (λ x. x))
any_wound_exact P (polygon ∷ ps) =
    or_exact (not (is_zero (winding_number P polygon))) (any_wound P ps) (Wound P polygon) (Any (Wound P) ps) (not_zero (winding_number P polygon)) (any_wound_exact P ps)

pub sent_exact : SentExact
sent_exact P (polygons f) = any_wound_exact P (polygons_of f.edition (file_words f.file))
sent_exact P (disjoint_polygons f d) = any_wound_exact P (polygons_of f.edition (file_words f.file))
sent_exact P (archived r n) = lies_in-layer_exact P (file_layer_at r.file n)
