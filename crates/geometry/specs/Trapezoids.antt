-- Trapezoids (paper 01: pieces), the points that lie in them, and layers.
use Rattle.std.specs.Prelude.{Bool, false, not, ◌&&◌, ◌||◌, List, [], ◌∷◌, ◌++◌, ◌↔◌, ℕ, ◌+◌, T, ℤ, pos, get_or}
use Rattle.std.specs.Int.Signed.{le_z}
use Rattle.lists.specs.Lists.{Any, Pairs}
use Rattle.integer.specs.Fraction.{before}
use Rattle.records.specs.Limits.{memory_width}
use Rattle.records.specs.Records.{Codec, records}
use Rattle.geometry.specs.declared.Line.{Line}
use Rattle.geometry.specs.declared.Trapezoid.{Trapezoid}
use Rattle.geometry.specs.Positions.{crosses, position}
use Rattle.geometry.specs.Points.{Point, IsPoint, at, orientation, under}

-- "A piece is six lines, 24 signed 32-bit words: left base (two lines), right base (two lines), bottom, top."
abbrev pub lines_of : Trapezoid → List Line
lines_of t = t.left.first ∷ t.left.second ∷ t.right.first ∷ t.right.second ∷ t.bottom ∷ t.top ∷ []

abbrev pub line_at : List ℤ → ℕ → Line
line_at s i = record { x1 = get_or s i (pos 0); y1 = get_or s (i + 1) (pos 0); x2 = get_or s (i + 2) (pos 0); y2 = get_or s (i + 3) (pos 0) }

abbrev pub line_words : Line → List ℤ
line_words l = l.x1 ∷ l.y1 ∷ l.x2 ∷ l.y2 ∷ []

unfoldable pub trapezoid_of : List ℤ → Trapezoid
trapezoid_of s =
    record {
      left = record { first = line_at s 0; second = line_at s 4 };
      right = record { first = line_at s 8; second = line_at s 12 };
      bottom = line_at s 16;
      top = line_at s 20;
    }

unfoldable pub trapezoid_words : Trapezoid → List ℤ
trapezoid_words t =
    line_words t.left.first
    ++ (line_words t.left.second ++ (line_words t.right.first ++ (line_words t.right.second ++ (line_words t.bottom ++ line_words t.top))))

-- Trapezoids in memory. The 25th word, the set of source layers, is empty where trapezoids alone are written, and passed over where they alone are read; trapezoids
-- with their sets are `sourced_codec` of crates/sources.
abbrev pub trapezoid_codec : Codec ℤ Trapezoid
trapezoid_codec = record { width = memory_width; blank = pos 0; encode = λ t. trapezoid_words t ++ (pos 0 ∷ []); decode = trapezoid_of }

-- the trapezoids of a layer's words, without their sets
abbrev pub layer_of : List ℤ → List Trapezoid
layer_of s = records trapezoid_codec s

-- ---- points
-- a trapezoid holds a point only if the lines of each of its bases cross
abbrev pub based : Trapezoid → Bool
based t = crosses t.left.first t.left.second && crosses t.right.first t.right.second

-- "It lies in a piece if left base ≤ point < right base and bottom ≤ point < top."
unfoldable pub lies_in : Point → Trapezoid → Bool
lies_in P t =
    based t
    && (not (before (at P) (position t.left)) && (before (at P) (position t.right) && (under P t.bottom && not (under P t.top))))

-- "The closed piece has ≤ in all four places."
unfoldable pub lies_in_closed : Point → Trapezoid → Bool
lies_in_closed P t =
    based t
    && (not (before (at P) (position t.left)) && (not (before (position t.right) (at P)) && (under P t.bottom && le_z (orientation t.top P) (pos 0))))

-- ---- layers
-- "A point lies in a layer if it lies in one of its pieces."
abbrev pub LiesInLayer : Point → List Trapezoid → Type 0
LiesInLayer P ts = Any (λ (t : Trapezoid). T (lies_in P t)) ts

-- the same as a yes or no
abbrev pub lies_in_layer : Point → List Trapezoid → Bool
lies_in_layer P [] = false
lies_in_layer P (t ∷ ts) = lies_in P t || lies_in_layer P ts

-- it is yes exactly if the point lies in the layer (proofs/Layers.antt: `lies_in-layer_exact`)
abbrev pub LiesInLayerExact : Type 0
LiesInLayerExact = (P : Point) (ts : List Trapezoid) → T (lies_in_layer P ts) ↔ LiesInLayer P ts

-- no rational point lies in both
abbrev pub Apart : Trapezoid → Trapezoid → Type 0
Apart t u = (P : Point) → IsPoint P → T (lies_in P t) → T (lies_in P u) → ⊥

-- "It is disjoint if no rational point lies in two of them."
abbrev pub Disjoint : List Trapezoid → Type 0
Disjoint ts = Pairs Apart ts
