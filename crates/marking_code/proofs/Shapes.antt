-- Shapes in buffers, and what it says that those of two layers were tried.
use Rattle.std.specs.Prelude.{Option, Some, None}
use mathlib.Core.Path.{◌≡◌, sym, ◌∙◌, ap}
use mathlib.Core.List.{List}
use Prim.Native.Nat.{ℕ, ◌≤◌}
use native.Mathlib.Omega.{arith}
use lib.ListN.{length}
use lib.IntN.{ℤ}
use Rattle.records.specs.Limits.{max_records}
use Rattle.records.specs.Records.{count}
use Rattle.records.proofs.Records.{length_from}
use Rattle.geometry.specs.Limit.{coordinate_limit}
use Rattle.geometry.specs.Fitness.{FitLayer}
use Rattle.geometry.specs.Trapezoids.{trapezoid_codec, layer_of}
use Rattle.boolean.specs.Space.{space}
use Rattle.extraction.specs.Extraction.{enclosing_stages}
use Rattle.shapes_code.specs.Code.{group_at, ShapesIn}
use Rattle.enclosure_code.specs.Code.{EnclosedAs, Marking}
use Rattle.enclosing_code.specs.Code.{family_stages, FamilyMarked}
use Rattle.marking_code.specs.Code.{Tried, TriedWithin}
use Rattle.marking_code.proofs.Families.{family_stages_lem, family_marked, one_mark, overlays_few}

pub layer-length : (t : List ℤ) → length (layer_of t) ≡ count trapezoid_codec t
layer-length t = length_from trapezoid_codec (count trapezoid_codec t) t 0

-- ---- the shapes of two layers, tried
module _ {a b : List ℤ} (f : FitLayer a) (g : FitLayer b)
    {ends₁ : List ℕ} {s₁ d₁ : List ℤ} (h : ShapesIn (layer_of a) ends₁ s₁ d₁) {ends₂ : List ℕ} {s₂ d₂ : List ℤ} (k : ShapesIn (layer_of b) ends₂ s₂ d₂) where
  stages_are : family_stages (group_at ends₁ (layer_of s₁)) (length ends₁) (group_at ends₂ (layer_of s₂)) (length ends₂) ≡ enclosing_stages (layer_of a) (layer_of b)
  stages_are = rw (h.one_each, k.one_each) (family_stages_lem (layer_of a) (layer_of b) (group_at ends₁ (layer_of s₁)) (group_at ends₂ (layer_of s₂)) h.each k.each)

  pub tried_is : (room : ℕ) (r : Option ℕ) (d : List ℕ) → EnclosedAs room (family_stages (group_at ends₁ (layer_of s₁)) (length ends₁) (group_at ends₂ (layer_of s₂)) (length ends₂)) r
      → Marking r (FamilyMarked (group_at ends₁ (layer_of s₁)) (length ends₁) (group_at ends₂ (layer_of s₂)) (length ends₂) d) → Tried room (layer_of a) (layer_of b) r d
  tried_is room None d e m = rw stages_are at e
  tried_is room (Some n) d e m = (
    ap (space room) (sym stages_are) ∙ e,
    family_marked (layer_of a) (layer_of b) (group_at ends₁ (layer_of s₁)) (group_at ends₂ (layer_of s₂)) h.each k.each (omega (arith, layer-length a, f.few))
        (one_mark coordinate_limit (layer_of a) (layer_of b) f.fit g.fit) (rw (h.one_each, k.one_each) at m),
  )

  pub tried_few : (room : ℕ) (r : Option ℕ) → room ≤ max_records → EnclosedAs room (family_stages (group_at ends₁ (layer_of s₁)) (length ends₁) (group_at ends₂ (layer_of s₂)) (length ends₂)) r → TriedWithin r
  tried_few room None l e = tt
  tried_few room (Some n) l e =
      overlays_few room n (layer_of a) (layer_of b) l (omega (arith, layer-length a, f.few)) (omega (arith, layer-length b, g.few)) (ap (space room) (sym stages_are) ∙ e)
