-- Lines and numbers of edges in slices: what is written is read, and what is before it stays.
use mathlib.Core.Path.{◌≡◌, sym, ◌∙◌, ap, ap₂, subst}
use mathlib.Core.List.{List, [], ◌∷◌}
use Prim.Native.Nat.{ℕ, ◌+◌, ◌*◌, ◌<◌, ◌≤◌}
use native.Mathlib.Numerals.{add-one, add-two, add-three}
use native.Mathlib.Omega.{arith}
use lib.ListN.{length, get_or, set}
use lib.Seq.{sets}
use lib.IntN.{ℤ, pos}
use Rattle.lists.proofs.Sets.{sets_before, sets_at}
use Rattle.geometry.specs.declared.Line.{Line}
use Rattle.geometry.specs.declared.Coefficients.{Coefficients}
use Rattle.geometry.specs.Trapezoids.{line_words}
use Rattle.geometry_code.specs.Code.{CoefficientsOf}
use Rattle.polygon_edges_code.specs.Edges.{line_number, terms_number, direction_number, EdgePut}

at_start : (s : List ℤ) (a : ℕ) → get_or s a (pos 0) ≡ get_or s (a + 0) (pos 0)
at_start s a = let e : a ≡ a + 0 = omega arith in ap (λ (n : ℕ). get_or s n (pos 0)) e

same_line : {l m : Line} → l.x1 ≡ m.x1 → l.y1 ≡ m.y1 → l.x2 ≡ m.x2 → l.y2 ≡ m.y2 → l ≡ m
same_line a b c d = λ j. record { x1 = a j; y1 = b j; x2 = c j; y2 = d j }

pub same_terms : {k m : Coefficients} → k.dx.v ≡ m.dx.v → k.dy.v ≡ m.dy.v → k.offset.v ≡ m.offset.v → k ≡ m
same_terms a b c = λ j. record { dx = record { v = a j }; dy = record { v = b j }; offset = record { v = c j } }

module _ (ls : List ℤ) (n : ℕ) (l : Line) where
  line_written : 4 * n + 4 ≤ length ls → line_number (sets ls (4 * n) (line_words l)) n ≡ l
  unfolding line_number
  line_written h =
      same_line
      (at_start (sets ls (4 * n) (line_words l)) (4 * n) ∙ sets_at (line_words l) ls (4 * n) 0 h (omega arith))
      (sets_at (line_words l) ls (4 * n) 1 h (omega arith))
      (sets_at (line_words l) ls (4 * n) 2 h (omega arith))
      (sets_at (line_words l) ls (4 * n) 3 h (omega arith))

  line_kept : (k : ℕ) → k < n → line_number (sets ls (4 * n) (line_words l)) k ≡ line_number ls k
  unfolding line_number
  line_kept k h =
      same_line
      (sets_before (line_words l) ls (4 * n) (4 * k) (omega (arith, h)))
      (sets_before (line_words l) ls (4 * n) (4 * k + 1) (omega (arith, h)))
      (sets_before (line_words l) ls (4 * n) (4 * k + 2) (omega (arith, h)))
      (sets_before (line_words l) ls (4 * n) (4 * k + 3) (omega (arith, h)))

-- the numbers of an edge
abbrev words : Coefficients → ℤ → List ℤ
words c d = c.dx.v ∷ c.dy.v ∷ c.offset.v ∷ d ∷ []

module _ (ts : List ℤ) (n : ℕ) (c : Coefficients) (d : ℤ) where
  four_sets : {t₀ t₁ t₂ t₃ : List ℤ} → t₀ ≡ set ts (4 * n) c.dx.v → t₁ ≡ set t₀ (4 * n + 1) c.dy.v → t₂ ≡ set t₁ (4 * n + 2) c.offset.v → t₃ ≡ set t₂ (4 * n + 3) d → t₃ ≡ sets ts (4 * n) (words c d)
  four_sets e₀ e₁ e₂ e₃ =
      let put : ℤ → List ℤ → ℕ → List ℤ = λ w x i. set x i w in
      e₃ ∙ ap₂ (put d) (e₂ ∙ ap₂ (put c.offset.v) (e₁ ∙ ap₂ (put c.dy.v) e₀ (add-one (4 * n))) (add-two (4 * n))) (add-three (4 * n))

  terms_written : 4 * n + 4 ≤ length ts → terms_number (sets ts (4 * n) (words c d)) n ≡ c
  unfolding terms_number
  terms_written h =
      same_terms
      (at_start (sets ts (4 * n) (words c d)) (4 * n) ∙ sets_at (words c d) ts (4 * n) 0 h (omega arith))
      (sets_at (words c d) ts (4 * n) 1 h (omega arith))
      (sets_at (words c d) ts (4 * n) 2 h (omega arith))

  direction_written : 4 * n + 4 ≤ length ts → direction_number (sets ts (4 * n) (words c d)) n ≡ d
  direction_written h = sets_at (words c d) ts (4 * n) 3 h (omega arith)

  terms_kept : (k : ℕ) → k < n → terms_number (sets ts (4 * n) (words c d)) k ≡ terms_number ts k
  unfolding terms_number
  terms_kept k h =
      same_terms
      (sets_before (words c d) ts (4 * n) (4 * k) (omega (arith, h)))
      (sets_before (words c d) ts (4 * n) (4 * k + 1) (omega (arith, h)))
      (sets_before (words c d) ts (4 * n) (4 * k + 2) (omega (arith, h)))

  direction_kept : (k : ℕ) → k < n → direction_number (sets ts (4 * n) (words c d)) k ≡ direction_number ts k
  direction_kept k h = sets_before (words c d) ts (4 * n) (4 * k + 3) (omega (arith, h))

  pub edge_put : (ls : List ℤ) (l : Line) → length ls ≡ 128 → length ts ≡ 128 → n < 32 → CoefficientsOf l c → (ls' : List ℤ) → ls' ≡ sets ls (4 * n) (line_words l)
      → {t₀ t₁ t₂ t₃ : List ℤ} → t₀ ≡ set ts (4 * n) c.dx.v → t₁ ≡ set t₀ (4 * n + 1) c.dy.v → t₂ ≡ set t₁ (4 * n + 2) c.offset.v → t₃ ≡ set t₂ (4 * n + 3) d → EdgePut n l d ls ts ls' t₃
  edge_put ls l hl ht lt k ls' el e₀ e₁ e₂ e₃ =
      let et = four_sets e₀ e₁ e₂ e₃ in
      rw (el, et)
      (record {
        line = line_written ls n l (omega (arith, hl, lt));
        terms = subst (CoefficientsOf l) (sym (terms_written (omega (arith, ht, lt)))) k;
        direction = direction_written (omega (arith, ht, lt));
        kept_line = line_kept ls n l;
        kept_terms = terms_kept;
        kept_direction = direction_kept;
      })
