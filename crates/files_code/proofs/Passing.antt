-- Row 7 of a polygon file: the loop over a polygon's vertices, and the loop over the polygons.
use mathlib.Core.Path.{◌≡◌, refl, sym, ap, ◌∙◌}
use mathlib.Core.Bool.{Bool, true, false, ◌&&◌}
use mathlib.Core.List.{List, ◌∷◌}
use Prim.Native.Nat.{ℕ, zero, suc, ◌+◌, ◌*◌, ◌-◌, ◌/◌, ◌<◌, ◌≤◌}
use native.Mathlib.Omega.{arith}
use lib.ListN.{length, take, drop, length-drop}
use lib.Seq.{drop-drop}
use lib.IntN.{ℤ}
use Rattle.std.specs.List.{list_all, range_with_len}
use Rattle.lists.specs.Lists.{cut}
use Rattle.lists.specs.Tests.{all}
use Rattle.records.specs.Records.{record_at, records_from}
use Rattle.geometry.specs.Limit.{on_grid}
use Rattle.geometry.specs.declared.Vertex.{Vertex}
use Rattle.geometry.specs.Polygons.{vertex_on_grid}
use Rattle.files.specs.declared.Edition.{Edition}
use Rattle.files.specs.Formats.{word_at, polygon_file}
use Rattle.files.specs.Directory.{pairs_from, HasPairs, right_with}
use Rattle.files.specs.Pairs.{amount_of, count_in, body_of, length_read, length_at}
use Rattle.files.specs.Contents.{lengths_from, units_of, vertex_codec, polygons_of}
use Rattle.files.specs.Rows.{first_off_grid}
use Rattle.files.proofs.Reading.{drop_from, take_from}
use Rattle.files.proofs.Walk.{pair}
use Rattle.files.proofs.Right.{Next, Ends, next, ends, right, count_in_lem}
use Rattle.files.proofs.Polygons.{vertex-at}
use Rattle.std.specs.Prelude.{Ok}
use Rattle.geometry.specs.Refusals.{refused_by}

-- ---- the vertices with these numbers pass
pub all_range : (t : Vertex → Bool) (ws : List ℤ) (n from : ℕ) → list_all (λ (i : ℕ). t (record_at vertex_codec ws i)) (range_with_len from n) ≡ all t (records_from vertex_codec n ws from)
unfolding records_from
all_range t ws zero from = refl
all_range t ws (suc n) from = ap (λ (b : Bool). t (record_at vertex_codec ws from) && b) (all_range t ws n (from + 1))

-- ---- the polygons up to number i, of `from` vertices, pass, and the rest decides
pub record Cutting (edition : Edition) (L : ℕ) (ws : List ℤ) (n i from : ℕ) : Type 0 where
  pub total : ℕ
  pub same : first_off_grid L 0 (polygons_of edition ws) ≡ first_off_grid L i (cut (lengths_from (polygon_file edition) ws (n - i) i) (drop from (units_of vertex_codec ws)))
  pub walk : pairs_from (polygon_file edition) ws (n - i) i from ≡ right_with n total
  pub start : count_in ws ≡ n
  pub upto : i ≤ n
  pub units : from ≤ 2048

pub cut_start : (edition : Edition) (L : ℕ) (ws : List ℤ) (n : ℕ) → HasPairs (polygon_file edition) ws n → Cutting edition L ws n 0 0
cut_start edition L ws n h =
    let r = right (polygon_file edition) ws h.is in
    let e : n ≡ n - 0 = omega arith in
    record {
      total = h.total;
      same = ap (λ (k : ℕ). first_off_grid L 0 (cut (lengths_from (polygon_file edition) ws k 0) (units_of vertex_codec ws))) (count_in_lem r ∙ e);
      walk = ap (λ (k : ℕ). pairs_from (polygon_file edition) ws k 0 0) (sym e) ∙ r.walk;
      start = count_in_lem r;
      upto = omega arith;
      units = omega arith;
    }

module _ {edition : Edition} {L : ℕ} {ws : List ℤ} {n i from : ℕ} (h : Cutting edition L ws n i from) where
  module _ (l : i < n) where
    steps : n - i ≡ suc (n - (i + 1))
    steps = omega arith

    following : Next (polygon_file edition) ws (n - (i + 1)) i from n h.total
    following = next (polygon_file edition) ws (n - (i + 1)) i from (ap (λ (k : ℕ). pairs_from (polygon_file edition) ws k i from) (sym steps) ∙ h.walk)

    is_length : length_at (polygon_file edition) ws i ≡ following.size
    is_length = ap amount_of (pair (polygon_file edition) from (word_at ws (2 * i + 1)) (length_read (polygon_file edition) ws i) following.found).is

    past : pairs_from (polygon_file edition) ws (n - (i + 1)) (i + 1) (from + length_at (polygon_file edition) ws i) ≡ right_with n h.total
    past = ap (λ (k : ℕ). pairs_from (polygon_file edition) ws (n - (i + 1)) (i + 1) (from + k)) is_length ∙ following.rest

    within : from + length_at (polygon_file edition) ws i ≤ 2048
    within = omega (arith, is_length, (pair (polygon_file edition) from (word_at ws (2 * i + 1)) (length_read (polygon_file edition) ws i) following.found).total)

    ending : Ends (polygon_file edition) ws (n - (i + 1)) (i + 1) (from + length_at (polygon_file edition) ws i) n h.total
    ending = ends (polygon_file edition) ws (n - (i + 1)) (i + 1) (from + length_at (polygon_file edition) ws i) within past

    -- the polygon lies in the body
    pub in_body : 2 * (from + length_at (polygon_file edition) ws i) ≤ length (body_of ws)
    in_body = omega (arith, length-drop (2 * count_in ws + 1) ws, h.start, ending.end, ending.more)

    pub in_units : from + length_at (polygon_file edition) ws i ≤ 2048
    in_units = within

    -- and its vertices are those that were looked at
    module _ {to : ℕ} (p : to ≡ from + length_at (polygon_file edition) ws i) {body : List ℤ} (q : body ≡ body_of ws) where
      vertices : take (length_at (polygon_file edition) ws i) (drop from (units_of vertex_codec ws)) ≡ records_from vertex_codec (to - from) body from
      vertices =
          let e : to - from ≡ length_at (polygon_file edition) ws i = omega arith in
          let f : 0 + from ≡ from = omega arith in
          let g : length_at (polygon_file edition) ws i ≤ length (body_of ws) / 2 - from = omega (arith, in_body) in
          ap (take (length_at (polygon_file edition) ws i)) (drop_from vertex_codec from (length (body_of ws) / 2) (body_of ws) 0)
          ∙ take_from vertex_codec (length_at (polygon_file edition) ws i) (length (body_of ws) / 2 - from) (body_of ws) (0 + from) g
          ∙ rw (e, f, q)

      opened : first_off_grid L 0 (polygons_of edition ws) ≡ first_off_grid L i (records_from vertex_codec (to - from) body from ∷ cut (lengths_from (polygon_file edition) ws (n - (i + 1)) (i + 1)) (drop to (units_of vertex_codec ws)))
      unfolding lengths_from cut
      opened =
          h.same ∙ ap (λ (k : ℕ). first_off_grid L i (cut (lengths_from (polygon_file edition) ws k i) (drop from (units_of vertex_codec ws)))) steps
          ∙ rw (vertices, drop-drop (length_at (polygon_file edition) ws i) from (units_of vertex_codec ws), p)

      pub cut_turn : all (vertex_on_grid L) (records_from vertex_codec (to - from) body from) ≡ true → Cutting edition L ws n (i + 1) to
      unfolding first_off_grid
      cut_turn e =
          record {
            total = h.total;
            same = opened ∙ rw e;
            walk = ap (pairs_from (polygon_file edition) ws (n - (i + 1)) (i + 1)) p ∙ past;
            start = h.start;
            upto = omega arith;
            units = omega (arith, within);
          }

      pub cut_off : all (vertex_on_grid L) (records_from vertex_codec (to - from) body from) ≡ false → refused_by 7 i ≡ first_off_grid L 0 (polygons_of edition ws)
      unfolding first_off_grid
      cut_off e = sym (opened ∙ rw e)

  pub cut_stop : n ≤ i → (Ok tt) ≡ first_off_grid L 0 (polygons_of edition ws)
  unfolding first_off_grid cut lengths_from
  cut_stop l = let e : n - i ≡ 0 = omega arith in sym (h.same ∙ ap (λ (k : ℕ). first_off_grid L i (cut (lengths_from (polygon_file edition) ws k i) (drop from (units_of vertex_codec ws)))) e)

-- ---- one vertex, of its words as they were read
module _ (L : ℕ) (ws : List ℤ) (i : ℕ) {x : ℤ} (p : x ≡ word_at ws (2 * i)) where
  pub vertex_off : on_grid L x ≡ false → false ≡ vertex_on_grid L (record_at vertex_codec ws i)
  unfolding vertex_on_grid
  vertex_off e = rw (vertex-at ws i, ← p, e)

  pub vertex_by : on_grid L x ≡ true → {y : ℤ} → y ≡ word_at ws (2 * i + 1) → on_grid L y ≡ vertex_on_grid L (record_at vertex_codec ws i)
  unfolding vertex_on_grid
  vertex_by e q = rw (vertex-at ws i, ← p, e, ← q)
