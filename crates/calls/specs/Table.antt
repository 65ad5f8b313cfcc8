-- "Proved table": paper 01's ten cases, as rows about the definitions that the calls' contracts cite. All rows hold: proofs/Table.antt, `table`.
use Rattle.std.specs.Prelude.{◌≡◌, List, [], ◌∷◌, ◌++◌, ℕ, suc, ◌*◌, ℤ, pos, length, replicate}
use Rattle.records.specs.Limits.{memory_width}
use Rattle.records.specs.Records.{words_of}
use Rattle.records.specs.Words.{word_codec}
use Rattle.geometry.specs.declared.Line.{Line}
use Rattle.geometry.specs.declared.Base.{Base}
use Rattle.geometry.specs.declared.Trapezoid.{Trapezoid}
use Rattle.geometry.specs.Points.{Point}
use Rattle.geometry.specs.Trapezoids.{trapezoid_codec}
use Rattle.geometry.specs.declared.Vertex.{Vertex}
use Rattle.overlay.specs.Overlay.{Part, overlay}
use Rattle.files.specs.declared.Edition.TheVariants.{New}
use Rattle.files.specs.Contents.{vertex_codec}
use Rattle.files.specs.Outcomes.{refused, done}
use Rattle.calls.specs.Components as connectivity
use Rattle.calls.specs.Answers.{same, yes, no}
use Rattle.calls.specs.Rows.{plate_limit, point_at}
use Rattle.calls.specs.Outcomes.{observed, zeros, fracture_outcome, combined, equal_outcome, contains_answer}

-- ---- squares
abbrev pub line : ℕ → ℕ → ℕ → ℕ → Line
line a b c d = record { x1 = pos a; y1 = pos b; x2 = pos c; y2 = pos d }

-- the base at k: "the line 0 0 1 0 and the line k 0 k+1 1"
abbrev pub base_at : ℕ → Base
base_at k = record { first = line 0 0 1 0; second = line k 0 (suc k) 1 }

-- [a, c) × [b, d)
abbrev pub box : ℕ → ℕ → ℕ → ℕ → Trapezoid
box a b c d = record { left = base_at a; right = base_at c; bottom = line a b c b; top = line a d c d }

-- "Q = [0,4)×[0,4), R = [2,6)×[2,6)", and [4,8)×[0,4) of (e)
abbrev pub Q : Trapezoid
Q = box 0 0 4 4

abbrev pub R : Trapezoid
R = box 2 2 6 6

abbrev pub S : Trapezoid
S = box 4 0 8 4

-- ---- what a call is lent
-- a layer's words, and those of the layers of Q alone and of R alone
abbrev pub layer : List Trapezoid → List ℤ
layer ts = words_of trapezoid_codec ts

abbrev pub q : List ℤ
q = layer (Q ∷ [])

abbrev pub r : List ℤ
r = layer (R ∷ [])

-- an output or a scratch area (paper 01: work area) for n trapezoids, with ones in it before
abbrev pub lent : ℕ → List ℤ
lent n = replicate (memory_width * n) (pos 1)

-- and with zeros in it after
abbrev pub cleared : ℕ → List ℤ
cleared n = zeros (memory_width * n)

abbrev pub vertex : ℕ → ℕ → Vertex
vertex x y = record { x = pos x; y = pos y }

-- the bytes of a polygon file (paper 01: sheet) with one polygon: the count 1, the pair of the offset 0 and the number of vertices, then the vertices
abbrev pub file_of : List Vertex → List ℕ
file_of vs = words_of word_codec (pos 1 ∷ pos 0 ∷ pos (length vs) ∷ words_of vertex_codec vs)

-- ---- the polygons of (g), (h) and (i); that of (i) with any first vertex
abbrev pub bow_tie : List Vertex
bow_tie = vertex 0 0 ∷ vertex 4 4 ∷ vertex 4 0 ∷ vertex 0 4 ∷ []

abbrev pub square : List Vertex
square = vertex 0 0 ∷ vertex 2 0 ∷ vertex 2 2 ∷ vertex 0 2 ∷ []

abbrev pub corner_from : ℕ → ℕ → List Vertex
corner_from x y = vertex x y ∷ vertex 2047 2048 ∷ vertex 2048 2047 ∷ []

-- ---- the rows
abbrev pub tags : List Part → List ℕ
tags [] = []
tags (p ∷ ps) = p.tag ∷ tags ps

-- the point (X÷D, Y÷D)
abbrev pub point : ℕ → ℕ → ℕ → Point
point x y d = point_at (pos x) (pos y) (pos d)

-- the output and the scratch area come last in `combined`, `fracture_outcome` and `equal_outcome`; `done` has pieces and overlays, `refused` number and place
pub record Table : Type 0 where
  -- "(a) Q cut with R: tags 1,1,3,2,2."
  pub a_tags : tags (overlay Q R) ≡ 1 ∷ 1 ∷ 3 ∷ 2 ∷ 2 ∷ []
  -- "(b) Q−R: 2 pieces, 1 cut; space 1 gives 12." Q−R is code 2. At 12 output and scratch area are zero.
  pub b_counts : (combined plate_limit 2 q r (lent 2) (lent 2)).answer ≡ done 2 1
  pub b_space : combined plate_limit 2 q r (lent 1) (lent 1) ≡ observed (refused 12 0) (cleared 1) (cleared 1)
  -- "(c) Q∪R: 3 pieces." The union is code 0: Q, then R−Q, which takes 1 cut.
  pub c_counts : (combined plate_limit 0 q r (lent 3) (lent 3)).answer ≡ done 3 1
  -- "(d) code 4: 4 pieces, 2 cuts."
  pub d_counts : (combined plate_limit 4 q r (lent 4) (lent 4)).answer ≡ done 4 2
  -- "(e) Q and [4,8)×[0,4): tags 1,2, one component." Both get the number 0, in a list that held 7 and 7.
  pub e_tags : tags (overlay Q S) ≡ 1 ∷ 2 ∷ []
  pub e_components : connectivity.components_outcome plate_limit (layer (Q ∷ S ∷ [])) (7 ∷ 7 ∷ []) ≡ connectivity.observed_components (connectivity.counted 1) (0 ∷ 0 ∷ [])
  -- paper 02 (v): "Case (e) still has one component; Q and [4,8)×[4,8) now have two."
  pub e_corner : connectivity.components_outcome plate_limit (layer (Q ∷ box 4 4 8 8 ∷ [])) (7 ∷ 7 ∷ []) ≡ connectivity.observed_components (connectivity.counted 2) (0 ∷ 1 ∷ [])
  -- "(f) (4,0,1) isn't in Q, (0,0,1) is." Asked of the union (code 0) of Q and the empty layer.
  pub f_outside : contains_answer plate_limit (point 4 0 1) q [] 0 ≡ no
  pub f_inside : contains_answer plate_limit (point 0 0 1) q [] 0 ≡ yes
  -- (g) to (i) with the layer number 0
  -- "(g) Polygon (0,0),(4,4),(4,0),(0,4): 2 pieces."
  pub g_counts : (fracture_outcome New plate_limit 0 (file_of bow_tie) (lent 2) (lent 2)).answer ≡ done 2 0
  -- "(h) (0,0),(2,0),(2,2),(0,2) run through twice: 1 piece."
  pub h_counts : (fracture_outcome New plate_limit 0 (file_of (square ++ square)) (lent 1) (lent 1)).answer ≡ done 1 0
  -- "(i) (2048,2048),(2047,2048),(2048,2047): 1 piece; 2,049 gives 7." The place is polygon 0, and nothing changes.
  pub i_counts : (fracture_outcome New plate_limit 0 (file_of (corner_from 2048 2048)) (lent 1) (lent 1)).answer ≡ done 1 0
  pub i_beyond_x : fracture_outcome New plate_limit 0 (file_of (corner_from 2049 2048)) (lent 1) (lent 1) ≡ observed (refused 7 0) (lent 1) (lent 1)
  pub i_beyond_y : fracture_outcome New plate_limit 0 (file_of (corner_from 2048 2049)) (lent 1) (lent 1) ≡ observed (refused 7 0) (lent 1) (lent 1)
  -- "(j) Empty layers are the same, 0 cuts." Output and scratch area are then zero; they may have no words.
  pub j_same : equal_outcome plate_limit [] [] (lent 1) (lent 1) ≡ observed (same 0) (cleared 1) (cleared 1)
  pub j_no_words : (equal_outcome plate_limit [] [] (lent 0) (lent 0)).answer ≡ same 0
