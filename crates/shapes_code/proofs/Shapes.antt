-- The grouped trapezoids of a layer with its component numbers are its shapes.
use mathlib.Core.Path.{◌≡◌, refl, sym, ◌∙◌, ap, subst}
use mathlib.Core.List.{List}
use Prim.Native.Nat.{ℕ, zero, suc, ◌<◌, ◌≤◌}
use native.Mathlib.Nat.{mul-div_cancel_left}
use native.Mathlib.Omega.{arith}
use lib.ListN.{length, get_or, take, replicate, length-replicate}
use lib.IntN.{ℤ}
use lib.Seq.{length-take-le}
use Rattle.lists.specs.Lists.{All}
use Rattle.lists.proofs.Lists.{all_of}
use Rattle.records.specs.Limits.{max_records}
use Rattle.records.specs.Records.{records_from, count}
use Rattle.records.proofs.Buffer.{image_records}
use Rattle.geometry.specs.declared.Trapezoid.{Trapezoid}
use Rattle.geometry.specs.Limit.{coordinate_limit}
use Rattle.geometry.specs.Fitness.{FitFor, FitLayer}
use Rattle.geometry.specs.Trapezoids.{trapezoid_codec, layer_of}
use Rattle.geometry.proofs.Trapezoids.{trapezoid_readable}
use Rattle.connectivity.specs.Paths.{TouchAt}
use Rattle.connectivity.specs.Components.{component_numbers}
use Rattle.connectivity.proofs.Paths.{chain_here}
use Rattle.connectivity.proofs.Exact.{components_exact}
use Rattle.extraction.specs.Shapes.{having_number, shape_of}
use Rattle.extraction.proofs.Shapes.{numbers_length}
use Rattle.boxes_code.specs.Code.{BoxesOf}
use Rattle.shapes_code.specs.Code.{groups_below, GroupedAs, start_of, group_at, ShapesIn}
use Rattle.shapes_code.proofs.Groups.{below_fit, below_most, below_all, below_at, below_rises}

-- the first n of a new array
pub first_length : (n : ℕ) → n ≤ max_records → length {A = ℕ} (take n (replicate max_records 0)) ≡ n
first_length n l = length-take-le n (replicate max_records 0) (omega (arith, l, length-replicate {A = ℕ} max_records 0))

module _ {s : List ℤ} (h : FitLayer s) where
  number_below : (i : ℕ) → i < length (layer_of s) → get_or (component_numbers (layer_of s)) i 0 < length (layer_of s)
  number_below i l = omega (arith, (components_exact coordinate_limit (layer_of s) h.fit).lowest i i l (chain_here (TouchAt (layer_of s)) i), l)

  -- grouped by them
  module _ {ns ends : List ℕ} {d : List ℤ} (are : ns ≡ component_numbers (layer_of s)) (g : GroupedAs s ns ends d) where
    abbrev N : ℕ
    N = length ns

    abbrev G : List Trapezoid
    G = groups_below N ns (layer_of s)

    one_each : N ≡ length (layer_of s)
    one_each = ap length are ∙ numbers_length (layer_of s)

    all_below : (i : ℕ) → i < N → get_or ns i 0 < N
    all_below i l = omega (arith, number_below i (omega (arith, l, one_each)), ap (λ (ms : List ℕ). get_or ms i 0) are, one_each)

    many : length G ≡ N
    many = below_all N ns (layer_of s) one_each all_below

    pub grouped_count : count trapezoid_codec d ≡ count trapezoid_codec s
    grouped_count = rw g.all.wide (mul-div_cancel_left N (omega arith)) ∙ g.all.one_each

    grouped_layer : layer_of d ≡ G
    grouped_layer =
        ap (λ (n : ℕ). records_from trapezoid_codec n d 0) (grouped_count ∙ sym g.all.one_each ∙ sym many)
        ∙ ap (λ (w : List ℤ). records_from trapezoid_codec (length G) w 0) g.all.is
        ∙ image_records trapezoid_codec trapezoid_readable (length d) G (all_of (λ (t : Trapezoid). Unit {0}) (λ t. tt) G)

    pub grouped_fit : All (FitFor coordinate_limit) (layer_of d)
    grouped_fit = subst (All (FitFor coordinate_limit)) (sym grouped_layer) (below_fit (FitFor coordinate_limit) N ns (layer_of s) h.fit)

    starts : (k : ℕ) → k < N → start_of ends k ≡ length (groups_below k ns (layer_of s))
    unfolding groups_below
    starts zero l = refl
    starts (suc k) l = g.each k (omega (arith, l))

    pub grouped_shapes : {b : List ℤ} → BoxesOf d b → ShapesIn (layer_of s) ends d b
    unfolding group_at shape_of
    grouped_shapes f =
        record {
          groups = record {
            boxed = record { layer = record { fit = grouped_fit; few = omega (arith, grouped_count, h.few) }; boxes = f };
            few = omega (arith, g.one_each, g.all.one_each, h.few);
            rises = λ k l. (let m : k < N = omega (arith, l, g.one_each) in omega (arith, starts k m, g.each k m, below_rises k ns (layer_of s)));
            within = λ k l. (let m : k < N = omega (arith, l, g.one_each) in omega (arith, g.each k m, below_most (suc k) ns (layer_of s) one_each, g.all.one_each, grouped_count));
          };
          one_each = g.one_each ∙ one_each;
          each = λ k l. (
              let m : k < N = omega (arith, l, one_each) in
              rw (starts k m, g.each k m, grouped_layer) (below_at ns (layer_of s) k N m ∙ ap (λ (ms : List ℕ). having_number k ms (layer_of s)) are)
              );
        }
