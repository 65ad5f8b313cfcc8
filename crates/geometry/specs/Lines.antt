-- "A line is four words x1 y1 x2 y2, two grid points with x1 < x2. It is never vertical."
-- It is used through three numbers: dx·y = dy·x + offset at its points (x, y).
use Rattle.std.specs.Prelude.{ℕ, ◌≤◌, ℤ, nat_abs, ◌<ℤ◌}
use Rattle.integer.specs.Integer.{◌⊖◌, ◌⊗◌}
use Rattle.geometry.specs.declared.Line.{Line}
use Rattle.geometry.specs.Limit.{OnGrid, det_bound, numer_bound, product_bound}

unfoldable pub dx : Line → ℤ
dx l = l.x2 ⊖ l.x1

unfoldable pub dy : Line → ℤ
dy l = l.y2 ⊖ l.y1

unfoldable pub offset : Line → ℤ
offset l = l.y1 ⊗ l.x2 ⊖ l.y2 ⊗ l.x1

pub record IsLine (l : Line) : Type 0 where
  pub rightward : l.x1 <ℤ l.x2

-- two lines have equal heights at x where det·x = numer
unfoldable pub det : Line → Line → ℤ
det l m = dy l ⊗ dx m ⊖ dy m ⊗ dx l

unfoldable pub numer : Line → Line → ℤ
numer l m = dx l ⊗ offset m ⊖ dx m ⊗ offset l

-- the magnitudes, over any limit (proofs/Magnitudes.antt: `meeting_within`, `product_within`)
abbrev pub MeetingWithin : Type 0
MeetingWithin = (L : ℕ) (l m : Line) → OnGrid L l → OnGrid L m → (nat_abs (det l m) ≤ det_bound L) × (nat_abs (numer l m) ≤ numer_bound L)

abbrev pub ProductWithin : Type 0
ProductWithin = (L : ℕ) (a b : ℤ) → nat_abs a ≤ numer_bound L → nat_abs b ≤ det_bound L → nat_abs (a ⊗ b) ≤ product_bound L
