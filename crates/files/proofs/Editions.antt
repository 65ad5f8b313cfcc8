-- Polygon files of the two editions: which pass, what both readers say of one file, and a file with its lengths written in.
use Rattle.std.specs.Prelude.{Option, Some, None, Ok}
use mathlib.Core.Path.{◌≡◌, refl, sym, ap, ◌∙◌, subst}
use mathlib.Core.Bool.{true}
use mathlib.Core.List.{List, [], ◌∷◌, ◌++◌}
use mathlib.Core.Logic.{◌⊎◌, inl, inr}
use Prim.Native.Nat.{ℕ, zero, suc, ◌+◌, ◌*◌, ◌-◌, ◌<◌, ◌≤◌}
use native.Mathlib.Nat.{eq-or-lt_of_le, not-suc-le-zero}
use native.Mathlib.Omega.{arith}
use lib.ListN.{length, drop, get_or, length-append, length-drop}
use lib.Seq.{drop_at}
use lib.IntN.{ℤ, pos, negsuc}
use Rattle.lists.specs.Lists.{All, cut}
use Rattle.lists.proofs.Tests.{true_is, is_true}
use Rattle.lists.proofs.Lists.{all_append, all_drop}
use Rattle.records.specs.Records.{words_of, records}
use Rattle.records.specs.Words.{Word, word_codec}
use Rattle.records.proofs.Records.{records_words}
use Rattle.records.proofs.Words.{words_faithful}
use Rattle.files.specs.declared.Edition.{Edition}
use Rattle.files.specs.declared.Edition.TheVariants.{First, New}
use Rattle.files.specs.Formats.{file_sized, file_words, word_at, polygon_file}
use Rattle.files.specs.Pairs.{amount_of, count_in, body_of, offset_at, length_read, length_at}
use Rattle.files.specs.Directory.{number_from, count_of, length_by, pair_length, after_pair, end_of, pairs_from, directory_by, directory_of, wrong_by}
use Rattle.files.specs.Contents.{lengths_from, vertex_codec, polygons_of}
use Rattle.files.specs.Form.{CountRight, end_before, PairRight, HasForm, WrongAt}
use Rattle.files.specs.Rows.{size_row, directory_rows, first_off_grid, polygon_file_checked}
use Rattle.files.specs.Editions.{
  Accepted,
  AcceptedExact,
  LeftOut,
  AllPresent,
  FirstLeftOut,
  SamePolygons,
  ReadsAsBefore,
  RefusedByOlder,
  OlderRefuses,
  pairs_filled_in,
  filled_in,
  file_filled_in,
  FilledInReads,
}
use Rattle.files.proofs.Lengths.{length_written, length_there}
use Rattle.files.proofs.Reading.{length_file, file_words_legal}
use Rattle.files.proofs.Walk.{count_is, directory_none}
use Rattle.files.proofs.Right.{right, count_in_lem}
use Rattle.files.proofs.Polygons.{polygon_file_passes, polygons_right, polygons_wrong}
use Rattle.files.proofs.Calls.{length_bytes}
use Rattle.files.proofs.RoundTrip.{whole}
use Rattle.files.proofs.Form.{directory_exact, pair_place_exact}
use Rattle.files.proofs.Grid.{grid_exact}

-- ---- which files pass
pub accepted_exact : AcceptedExact
accepted_exact edition L bs = (there, back)
  where
    there : polygon_file_checked edition L bs ≡ Ok tt → Accepted edition L bs
    there e =
        let h = polygon_file_passes edition L bs e in
        record {
          size = is_true h.size;
          pairs = h.pairs;
          form = (directory_exact (polygon_file edition) (file_words bs) h.pairs).0 (record { total = h.total; is = h.found });
          grid = (grid_exact L 0 (polygons_of edition (file_words bs))).0 h.grid;
        }

    back : Accepted edition L bs → polygon_file_checked edition L bs ≡ Ok tt
    back h =
        let p = (directory_exact (polygon_file edition) (file_words bs) h.pairs).1 h.form in
        polygons_right edition L bs (true_is h.size) p.is ((grid_exact L 0 (polygons_of edition (file_words bs))).1 h.grid)

-- ---- words that one edition reads as the other reads others
record Alike (d : Edition) (vs : List ℤ) (e : Edition) (ws : List ℤ) : Type 0 where
  first : word_at vs 0 ≡ word_at ws 0
  long : length vs ≡ length ws
  offsets : (i : ℕ) → i < count_in ws → word_at vs (2 * i + 1) ≡ word_at ws (2 * i + 1)
  lengths : (i : ℕ) → i < count_in ws → length_read (polygon_file d) vs i ≡ length_read (polygon_file e) ws i
  body : body_of vs ≡ body_of ws

pair_same : (d e : Edition) (before : ℕ) (offset n : ℤ) → pair_length (polygon_file d) before offset n ≡ pair_length (polygon_file e) before offset n
unfolding pair_length
pair_same d e before offset n = go (number_from before before offset) (number_from 3 32 n)
  where
    go : (a b : Option ℕ) → length_by (polygon_file d) before a b ≡ length_by (polygon_file e) before a b
    go (Some o) (Some k) = refl
    go (Some o) None = refl
    go None b = refl

module _ {d : Edition} {vs : List ℤ} {e : Edition} {ws : List ℤ} (h : Alike d vs e ws) where
  walk_same : (m i before : ℕ) → i + m ≤ count_in ws → pairs_from (polygon_file d) vs m i before ≡ pairs_from (polygon_file e) ws m i before
  unfolding pairs_from end_of
  walk_same zero i before l = rw h.long
  walk_same (suc m) i before l =
      let o = h.offsets i (omega arith) in
      let n = h.lengths i (omega arith) in
      let p = pair_same d e before (word_at vs (2 * i + 1)) (length_read (polygon_file d) vs i) ∙ (λ j. pair_length (polygon_file e) before (o j) (n j)) in
      let r : (k : ℕ) → pairs_from (polygon_file d) vs m (i + 1) (before + k) ≡ pairs_from (polygon_file e) ws m (i + 1) (before + k) = λ k. walk_same m (i + 1) (before + k) (omega arith) in
      λ j. after_pair (p j) i (λ (k : ℕ). r k j)

  directory_same : directory_of (polygon_file d) vs ≡ directory_of (polygon_file e) ws
  unfolding directory_of count_of
  directory_same = ap (directory_by (polygon_file d) vs) count_same ∙ go (count_of (polygon_file e) ws) refl
    where
      count_same : count_of (polygon_file d) vs ≡ count_of (polygon_file e) ws
      count_same = rw (h.first, h.long)

      go : (k : Option ℕ) → count_of (polygon_file e) ws ≡ k → directory_by (polygon_file d) vs k ≡ directory_by (polygon_file e) ws k
      go (Some n) p = let c = ap amount_of (count_is (polygon_file e) ws p).0.is in walk_same n 0 0 (omega (arith, c))
      go None p = refl

  lengths_same : (m i : ℕ) → i + m ≤ count_in ws → lengths_from (polygon_file d) vs m i ≡ lengths_from (polygon_file e) ws m i
  unfolding lengths_from
  lengths_same zero i l = refl
  lengths_same (suc m) i l = λ j. amount_of (h.lengths i (omega arith) j) ∷ lengths_same m (i + 1) (omega arith) j

  polygons_same : polygons_of d vs ≡ polygons_of e ws
  polygons_same =
      ap (λ (n : ℕ). cut (lengths_from (polygon_file d) vs n 0) (records vertex_codec (body_of vs))) (ap amount_of h.first)
      ∙ (λ j. cut (lengths_same (count_in ws) 0 (omega arith) j) (records vertex_codec (h.body j)))

-- every length present: both editions read it
present_alike : (ws : List ℤ) → ((i : ℕ) → i < count_in ws → LeftOut ws i → ⊥) → Alike New ws First ws
present_alike ws h =
    record {
      first = refl;
      long = refl;
      offsets = λ i l. refl;
      lengths = λ i l. length_there (polygon_file New) ws i (h i l) ∙ sym (length_written (polygon_file First) ws i refl);
      body = refl;
    }

-- ---- the two readers
pub same_polygons : SamePolygons
same_polygons L M bs e g =
    let a = (accepted_exact First L bs).0 e in
    let c = ap amount_of a.form.count.is in
    polygons_same (present_alike (file_words bs) (λ i l z.
    let p = a.form.pairs i (omega (arith, l, c)) in
    let n : length_at (polygon_file First) (file_words bs) i ≡ 0 = ap amount_of (length_written (polygon_file First) (file_words bs) i refl ∙ z) in
    omega (arith, p.least, n)))

pub reads_as_before : ReadsAsBefore
unfolding polygon_file_checked
reads_as_before L bs h = go (count_of (polygon_file First) (file_words bs)) refl
  where
    go : (k : Option ℕ) → count_of (polygon_file First) (file_words bs) ≡ k
        → size_row (file_sized (length bs)) (directory_rows (directory_of (polygon_file New) (file_words bs)) (first_off_grid L 0 (polygons_of New (file_words bs))))
        ≡ size_row (file_sized (length bs)) (directory_rows (directory_of (polygon_file First) (file_words bs)) (first_off_grid L 0 (polygons_of First (file_words bs))))
    go (Some n) p =
        let c = count_is (polygon_file First) (file_words bs) p in
        let m = ap amount_of c.0.is in
        let a = present_alike (file_words bs) (λ i l z. h i l (omega (arith, l, m, c.1)) z) in
        λ j. size_row (file_sized (length bs)) (directory_rows (directory_same a j) (first_off_grid L 0 (polygons_same a j)))
    go None p =
        let a = directory_none (polygon_file New) (file_words bs) (unfold count_of in p) in
        let b = directory_none (polygon_file First) (file_words bs) p in
        rw (← a, ← b)

-- ---- the first pair that carries length 0
zero_or_not : (z : ℤ) → (z ≡ pos 0) ⊎ (z ≡ pos 0 → ⊥)
zero_or_not (pos zero) = inl refl
zero_or_not (pos (suc n)) = inr (λ e. let z = ap amount_of e in omega (arith, z))
zero_or_not (negsuc n) = inr (λ e. let z : ◌≡◌ {A = ℕ} 0 1 = cc in omega arith)

module _ (ws : List ℤ) where
  none_more : (m : ℕ) → ((j : ℕ) → j < m → LeftOut ws j → ⊥) → (LeftOut ws m → ⊥) → (j : ℕ) → j < suc m → LeftOut ws j → ⊥
  none_more m h g j l = elim (eq-or-lt_of_le (let k : j ≤ m = omega arith in k)) [ inl e ↦ subst (λ (i : ℕ). LeftOut ws i → ⊥) (sym e) g | inr k ↦ h j k ]

  first_or_none : (m : ℕ) → m ≤ count_in ws → ((i : ℕ) × FirstLeftOut ws i) ⊎ ((j : ℕ) → j < m → LeftOut ws j → ⊥)
  first_or_none zero l = inr (λ j k. absurd (not-suc-le-zero k))
  first_or_none (suc m) l =
      elim (first_or_none m (omega arith)) [
        | inl found ↦ inl found
        | inr none ↦ elim (zero_or_not (word_at ws (2 * m + 2))) [ inl z ↦ inl (m, record { within = omega arith; here = z; earlier = none }) | inr g ↦ inr (none_more m none g) ]
      ]

-- ---- the older reader's refusal
module _ (ws : List ℤ) {n i : ℕ} (h : HasForm (polygon_file New) ws n) (g : FirstLeftOut ws i) where
  -- before that pair both editions read the same
  length_before : (j : ℕ) → j < i → length_read (polygon_file New) ws j ≡ length_read (polygon_file First) ws j
  length_before j l = length_there (polygon_file New) ws j (g.earlier j l) ∙ sym (length_written (polygon_file First) ws j refl)

  end_before_lem : (j : ℕ) → j ≤ i → end_before (polygon_file New) ws j ≡ end_before (polygon_file First) ws j
  end_before_lem zero l = refl
  end_before_lem (suc j) l = ap (λ (z : ℤ). offset_at ws j + amount_of z) (length_before j l)

  right_before : (j : ℕ) → j < i → PairRight (polygon_file First) ws j
  right_before j l =
      let c = ap amount_of h.count.is in
      let p = h.pairs j (omega (arith, c, g.within)) in
      let s = length_before j l in
      let t = ap amount_of s in
      let b = end_before_lem j (omega arith) in
      record {
        offset = p.offset ∙ ap pos b;
        size = sym s ∙ p.size ∙ ap pos t;
        least = omega (arith, p.least, t);
        most = omega (arith, p.most, t);
        total = omega (arith, p.total, t, b);
      }

  older_wrong : directory_of (polygon_file First) ws ≡ wrong_by 6 i
  older_wrong =
      let c = ap amount_of h.count.is in
      (pair_place_exact (polygon_file First) ws i).1 (record {
        pairs = n;
        count = record { is = h.count.is; most = h.count.most; complete = h.count.complete };
        earlier = right_before;
        here = inl (omega (arith, c, g.within), λ p. let z = ap amount_of (length_written (polygon_file First) ws i refl ∙ g.here) in omega (arith, p.least, z));
      })

pub older_refuses : OlderRefuses
older_refuses L M bs i e l z =
    let h = (accepted_exact New M bs).0 e in
    elim (first_or_none (file_words bs) (count_in (file_words bs)) (omega arith)) [
      | inl found ↦ record { place = found.0; first = found.1; is = polygons_wrong First L bs (true_is h.size) (older_wrong (file_words bs) h.form found.1) }
      | inr none ↦ absurd (none i l z)
    ]

-- ---- a file with its lengths written in
module _ (ws : List ℤ) where
  filled_length : (n i : ℕ) → length (pairs_filled_in ws n i) ≡ 2 * n
  unfolding pairs_filled_in
  filled_length zero i = refl
  filled_length (suc n) i = omega (arith, filled_length n (i + 1))

  filled_offset : (n i j : ℕ) (rest : List ℤ) → j < n → word_at (pairs_filled_in ws n i ++ rest) (2 * j) ≡ word_at ws (2 * (i + j) + 1)
  unfolding pairs_filled_in
  filled_offset zero i j rest l = absurd (not-suc-le-zero l)
  filled_offset (suc n) i zero rest l = let e : i ≡ i + 0 = omega arith in ap (λ (k : ℕ). word_at ws (2 * k + 1)) e
  filled_offset (suc n) i (suc j) rest l =
      let e : i + 1 + j ≡ i + suc j = omega arith in
      let s : 2 * suc j ≡ suc (suc (2 * j)) = omega arith in
      rw (s, ← e) (filled_offset n (i + 1) j rest (omega arith))

  filled_size : (n i j : ℕ) (rest : List ℤ) → j < n → word_at (pairs_filled_in ws n i ++ rest) (2 * j + 1) ≡ length_read (polygon_file New) ws (i + j)
  unfolding pairs_filled_in
  filled_size zero i j rest l = absurd (not-suc-le-zero l)
  filled_size (suc n) i zero rest l = let e : i ≡ i + 0 = omega arith in ap (length_read (polygon_file New) ws) e
  filled_size (suc n) i (suc j) rest l =
      let e : i + 1 + j ≡ i + suc j = omega arith in
      let s : 2 * suc j + 1 ≡ suc (suc (2 * j + 1)) = omega arith in
      rw (s, ← e) (filled_size n (i + 1) j rest (omega arith))

  offset_filled : (i : ℕ) → i < count_in ws → word_at (filled_in ws) (2 * i + 1) ≡ word_at ws (2 * i + 1)
  unfolding filled_in
  offset_filled i l =
      let s : 2 * i + 1 ≡ suc (2 * i) = omega arith in
      let z : 0 + i ≡ i = omega arith in
      ap (word_at (filled_in ws)) s ∙ filled_offset (count_in ws) 0 i (body_of ws) l ∙ ap (λ (k : ℕ). word_at ws (2 * k + 1)) z

  size_filled : (i : ℕ) → i < count_in ws → word_at (filled_in ws) (2 * i + 2) ≡ length_read (polygon_file New) ws i
  unfolding filled_in
  size_filled i l =
      let s : 2 * i + 2 ≡ suc (2 * i + 1) = omega arith in
      let z : 0 + i ≡ i = omega arith in
      ap (word_at (filled_in ws)) s ∙ filled_size (count_in ws) 0 i (body_of ws) l ∙ ap (length_read (polygon_file New) ws) z

  body_filled : body_of (filled_in ws) ≡ body_of ws
  unfolding filled_in
  body_filled =
      let s : 2 * count_in ws + 1 ≡ suc (2 * count_in ws) = omega arith in
      ap (λ (k : ℕ). drop k (filled_in ws)) s ∙ drop_at (pairs_filled_in ws (count_in ws) 0) (body_of ws) (2 * count_in ws) (filled_length (count_in ws) 0)

  long_filled : 2 * count_in ws + 1 ≤ length ws → length (filled_in ws) ≡ length ws
  unfolding filled_in
  long_filled l = omega (arith, length-append (pairs_filled_in ws (count_in ws) 0) (body_of ws), filled_length (count_in ws) 0, length-drop (2 * count_in ws + 1) ws)

  -- both editions read in it what the new one reads in the file as it was
  module _ {n : ℕ} (h : HasForm (polygon_file New) ws n) where
    count_form : count_in ws ≡ n
    count_form = ap amount_of h.count.is

    filled_alike : (edition : Edition) → Alike edition (filled_in ws) New ws
    filled_alike edition =
        record {
          first = unfold filled_in in refl;
          long = long_filled (omega (arith, h.count.complete, count_form));
          offsets = offset_filled;
          lengths = λ i l.
              let p = h.pairs i (omega (arith, l, count_form)) in
              length_there (polygon_file edition) (filled_in ws) i (λ z. let k = ap amount_of (sym (size_filled i l) ∙ z) in omega (arith, p.least, k)) ∙ size_filled i l;
          body = body_filled;
        }

    -- its words are 32-bit words
    module _ (g : All Word ws) where
      word_legal : (vs : List ℤ) (i : ℕ) → All Word vs → Word (word_at vs i)
      word_legal [] i a = omega arith
      word_legal (v ∷ vs) zero a = a.0
      word_legal (v ∷ vs) (suc i) a = word_legal vs i a.1

      pairs_legal : (m i : ℕ) → i + m ≤ n → All Word (pairs_filled_in ws m i)
      unfolding pairs_filled_in
      pairs_legal zero i l = tt
      pairs_legal (suc m) i l = let p = h.pairs i (omega arith) in (word_legal ws (2 * i + 1) g, (rw p.size (omega (arith, p.most)), pairs_legal m (i + 1) (omega arith)))

      filled_legal : All Word (filled_in ws)
      unfolding filled_in
      filled_legal = (word_legal ws 0 g, all_append Word (pairs_filled_in ws (count_in ws) 0) (body_of ws) (pairs_legal (count_in ws) 0 (omega (arith, count_form))) (all_drop Word (2 * count_in ws + 1) ws g))

pub filled_in_reads : FilledInReads
unfolding file_filled_in
filled_in_reads L bs bytes e edition =
    let ws = file_words bs in
    let p = polygon_file_passes New L bs e in
    let h = (accepted_exact New L bs).0 e in
    let a = filled_alike ws h.form edition in
    let back : file_words (file_filled_in bs) ≡ filled_in ws = records_words word_codec words_faithful.readable (filled_in ws) (filled_legal ws h.form (file_words_legal bs bytes)) in
    let shown : polygons_of edition (file_words (file_filled_in bs)) ≡ polygons_of New ws = ap (polygons_of edition) back ∙ polygons_same a in
    let long : length (file_filled_in bs) ≡ length bs = omega (arith, length_bytes (filled_in ws), a.long, length_file bs, whole bs p.size) in (
      polygons_right edition L (file_filled_in bs) (ap file_sized long ∙ p.size) (ap (directory_of (polygon_file edition)) back ∙ directory_same a ∙ p.found) (ap (first_off_grid L 0) shown ∙ p.grid),
      shown,
    )
