-- What a directory that rows 5 and 6 let pass says.
use Rattle.std.specs.Prelude.{Option, Some, None}
use mathlib.Core.Path.{◌≡◌, refl, sym, ap, ◌∙◌}
use mathlib.Core.List.{List}
use mathlib.Core.Bool.{Bool, true, false}
use Prim.Native.Nat.{ℕ, zero, suc, ◌+◌, ◌*◌, ◌-◌, ◌/◌, ◌≤◌}
use native.Mathlib.Omega.{arith}
use lib.Dec.{eqb}
use lib.ListN.{length, drop}
use lib.IntN.{ℤ, pos}
use borrow.Author.Tests.{eqb-true}
use borrow.Rule.Slice.PartMut.{mid_of}
use Rattle.lists.proofs.Parts.{mid_tail}
use Rattle.files.specs.declared.Format.{Format}
use Rattle.files.specs.Formats.{word_at, file_words}
use Rattle.files.specs.Directory.{count_of, pair_length, at_end, after_pair, end_of, pairs_from, directory_by, directory_of, right_with}
use Rattle.files.specs.Pairs.{amount_of, count_in, body_of, length_read}
use Rattle.files.proofs.Reading.{length_file, body_words}
use Rattle.files.proofs.Walk.{pair, count_is}
use Rattle.files.proofs.Same.{right_same}

-- ---- the pairs from number i on
pub record Ends (f : Format) (ws : List ℤ) (m i before n total : ℕ) : Type 0 where
  pub pairs : i + m ≡ n
  pub more : before ≤ total
  pub units : total ≤ f.total
  pub end : 2 * n + 1 + f.unit * total ≡ length ws

-- the next pair, and the pairs past it
pub record Next (f : Format) (ws : List ℤ) (m i before n total : ℕ) : Type 0 where
  pub size : ℕ
  pub found : pair_length f before (word_at ws (2 * i + 1)) (length_read f ws i) ≡ Some size
  pub rest : pairs_from f ws m (i + 1) (before + size) ≡ right_with n total

module _ (f : Format) (ws : List ℤ) where
  at_end_lem : (t : Bool) (i before : ℕ) {n total : ℕ} → at_end t i before ≡ right_with n total → (t ≡ true) × (i ≡ n) × (before ≡ total)
  at_end_lem true i before {n} {total} e = let k = right_same {m = i} {t = before} {n = n} {u = total} e in (refl, k.0, k.1)
  at_end_lem false i before e = let z : ◌≡◌ {A = ℕ} 0 1 = cc in absurd (omega arith)

  -- past the last pair
  pub stops : (i before : ℕ) {n total : ℕ} → pairs_from f ws 0 i before ≡ right_with n total → before ≡ total
  unfolding pairs_from end_of
  stops i before e = (at_end_lem (eqb (2 * i + 1 + f.unit * before) (length ws)) i before e).2

  pub next : (m i before : ℕ) {n total : ℕ} → pairs_from f ws (suc m) i before ≡ right_with n total → Next f ws m i before n total
  unfolding pairs_from
  next m i before {n} {total} e = go (pair_length f before (word_at ws (2 * i + 1)) (length_read f ws i)) refl e
    where
      go : (k : Option ℕ) → pair_length f before (word_at ws (2 * i + 1)) (length_read f ws i) ≡ k
          → after_pair k i (λ (s : ℕ). pairs_from f ws m (i + 1) (before + s)) ≡ right_with n total → Next f ws m i before n total
      go (Some s) p e = record { size = s; found = p; rest = e }
      go None p e = let z : ◌≡◌ {A = ℕ} 0 1 = cc in absurd (omega arith)

  pub ends : (m i before : ℕ) {n total : ℕ} → before ≤ f.total → pairs_from f ws m i before ≡ right_with n total → Ends f ws m i before n total
  unfolding pairs_from end_of
  ends zero i before {n} {total} h e =
      let u = at_end_lem (eqb (2 * i + 1 + f.unit * before) (length ws)) i before e in
      let v = eqb-true (2 * i + 1 + f.unit * before) (length ws) u.0 in
      record { pairs = omega (arith, u.1); more = omega (arith, u.2); units = omega (arith, u.2); end = rw (← u.1, ← u.2) v }
  ends (suc m) i before h e =
      let k = next m i before e in
      let p = pair f before (word_at ws (2 * i + 1)) (length_read f ws i) k.found in
      let r = ends m (i + 1) (before + k.size) p.total k.rest in
      record { pairs = omega (arith, r.pairs); more = omega (arith, r.more); units = r.units; end = r.end }

-- ---- the whole directory
pub record IsRight (f : Format) (ws : List ℤ) (n total : ℕ) : Type 0 where
  pub first : word_at ws 0 ≡ pos n
  pub most : n ≤ f.count
  pub fit : 2 * n + 1 ≤ length ws
  pub walk : pairs_from f ws n 0 0 ≡ right_with n total
  pub units : total ≤ f.total
  pub end : 2 * n + 1 + f.unit * total ≡ length ws

pub right : (f : Format) (ws : List ℤ) {n total : ℕ} → directory_of f ws ≡ right_with n total → IsRight f ws n total
unfolding directory_of
right f ws {n} {total} e = go (count_of f ws) refl e
  where
    go : (k : Option ℕ) → count_of f ws ≡ k → directory_by f ws k ≡ right_with n total → IsRight f ws n total
    go (Some m) p e =
        let c = count_is f ws p in
        let r = ends f ws m 0 0 (omega arith) e in
        let s : m ≡ n = omega (arith, r.pairs) in
        record {
          first = c.0.is ∙ ap pos s;
          most = omega (arith, c.0.high);
          fit = omega (arith, c.1);
          walk = ap (λ (k : ℕ). pairs_from f ws k 0 0) (sym s) ∙ e;
          units = r.units;
          end = r.end;
        }
    go None p e = let z : ◌≡◌ {A = ℕ} 0 1 = cc in absurd (omega arith)

-- the count that the body starts after
pub count_in_lem : {f : Format} {ws : List ℤ} {n total : ℕ} → IsRight f ws n total → count_in ws ≡ n
count_in_lem h = ap amount_of h.first

-- ---- in a file's bytes: the directory, and the part past it
module _ {f : Format} (bs : List ℕ) {n total : ℕ} (h : IsRight f (file_words bs) n total) where
  pub in_file : 2 * n + 1 ≤ length bs / 4
  in_file = omega (arith, h.fit, length_file bs)

  pub file_body : file_words (mid_of (4 * (2 * n + 1)) (length bs - 4 * (2 * n + 1)) bs) ≡ body_of (file_words bs)
  file_body = ap file_words (mid_tail (4 * (2 * n + 1)) bs) ∙ body_words bs (2 * n + 1) ∙ ap (λ (k : ℕ). drop (2 * k + 1) (file_words bs)) (sym (count_in_lem h))
