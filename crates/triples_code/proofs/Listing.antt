-- Triples written behind others: one, and those of a loop's numbers in turn.
use Rattle.std.specs.Prelude.{Option, Some, None}
use Rattle.std.specs.Option.{is_some}
use mathlib.Core.Path.{◌≡◌, refl, sym, ◌∙◌, ap}
use mathlib.Core.Bool.{true, cond}
use mathlib.Core.List.{List, [], ◌∷◌, ◌++◌, append_assoc, append-nil}
use mathlib.Core.Logic.{inl, inr}
use Prim.Native.Nat.{ℕ, zero, suc, ◌+◌, ◌*◌, ◌-◌, ◌<◌, ◌≤◌}
use native.Mathlib.Numerals.{add-one, add-two}
use native.Mathlib.Omega.{arith}
use lib.Dec.{eqb}
use lib.ListN.{length, get_or, set, take, drop, length-append}
use lib.Seq.{sets-eq, drop-drop}
use borrow.Author.Tests.{eq-eqb, ne_eqb}
use borrow.Rule.Slice.PartMut.{mid_of}
use Rattle.lists.specs.Lists.{each}
use Rattle.lists.proofs.Lists.{all_of}
use Rattle.lists.proofs.Parts.{put_tail, mid_tail}
use Rattle.records.specs.Records.{records_from, image, Blank}
use Rattle.records.proofs.Records.{length_from}
use Rattle.records.proofs.Buffer.{image_none, image_records, image_one, tail_length, tail_blank, tail_back}
use Rattle.connectivity.specs.Components.{own_numbers}
use Rattle.connectivity.proofs.Joining.{same_or_not}
use Rattle.extraction.specs.Extraction.{Triple, triple_words, triple_if, triple_codec}
use Rattle.extraction.proofs.Codec.{triples_readable}
use Rattle.lists.proofs.Each.{each_append}
use Rattle.triples_code.specs.Code.{emitter_triples, leading_triples, HoldsTriples, TriplesAdded, TriplesFilled}

-- ---- one triple
pub put_holds : (d : List ℕ) (n : ℕ) (t : Triple) → HoldsTriples d n → 3 * (n + 1) ≤ length d
    → set (set (set d (3 * n) t.collector) (3 * n + 1) t.base) (3 * n + 2) t.emitter ≡ image triple_codec (length d) (leading_triples d n ++ (t ∷ []))
put_holds d n t h w =
    let a = leading_triples d n in
    let full : n ≡ length a = sym (length_from triple_codec n d 0) in
    let mid = mid_of (3 * n) (length d - 3 * n) d in
    let ys = triple_words t ++ drop 3 mid in
    let e : drop (3 * n + 3) d ≡ drop 3 mid = sym (drop-drop 3 (3 * n) d) ∙ ap (drop 3) (sym (mid_tail (3 * n) d)) in
    let l : length mid ≡ length d - 3 * n = tail_length triple_codec triples_readable (length d) n d a h.is full h.wide in
    let y : ys ≡ image triple_codec (length d - 3 * n) (t ∷ [])
    = image_one triple_codec triples_readable t mid (tail_blank triple_codec triples_readable (length d) n d a h.is full h.wide) ∙ ap (λ (k : ℕ). image triple_codec k (t ∷ [])) l in
    rw (add-one, add-two) (sets-eq (triple_words t) d (3 * n) (omega arith))
    ∙ append_assoc (take (3 * n) d) (triple_words t) (drop (3 * n + 3) d)
    ∙ ap (λ (r : List ℕ). take (3 * n) d ++ (triple_words t ++ r)) e
    ∙ sym (put_tail (3 * n) d ys h.wide)
    ∙ tail_back triple_codec triples_readable (length d) n d a h.is full h.wide ys (t ∷ []) y

-- a blank list holds none
pub holds-blank : (d : List ℕ) → Blank 0 d → HoldsTriples d 0
unfolding records_from
holds-blank d z = record { is = z ∙ sym (image_none triple_codec triples_readable (length d)); wide = omega arith }

-- ---- what a function makes of the numbers 0 to n − 1, one after the other
module _ {A : Type 0} where
  each_next : (f : ℕ → List A) (k : ℕ) → each f (own_numbers (k + 1)) ≡ each f (own_numbers k) ++ f k
  unfolding own_numbers each
  each_next f k = rw add-one (each_append f (own_numbers k) (k ∷ []) ∙ ap (λ (t : List A). each f (own_numbers k) ++ t) (append-nil (f k)))

  next_length : (f : ℕ → List A) (k : ℕ) → length (each f (own_numbers (k + 1))) ≡ length (each f (own_numbers k)) + length (f k)
  next_length f k = ap length (each_next f k) ∙ length-append (each f (own_numbers k)) (f k)

  each_few : (f : ℕ → List A) (k n : ℕ) → k ≤ n → length (each f (own_numbers k)) ≤ length (each f (own_numbers n))
  each_few f k zero h = let e : k ≡ 0 = omega arith in rw e (omega arith)
  each_few f k (suc n) h =
      elim (same_or_not k (suc n)) [
        | inl e ↦ rw e (omega arith)
        | inr d ↦ (let i = each_few f k n (omega arith) in omega (arith, rw add-one at (next_length f n)))
      ]

-- ---- the loops: of l numbers, the triples of the first i stand behind the n that the list d₀ held; it holds m now
pub record Listing (f : ℕ → List Triple) (l : ℕ) (d₀ : List ℕ) (n i m : ℕ) (d : List ℕ) : Type 0 where
  pub upto : i ≤ l
  pub many : m ≡ n + length (each f (own_numbers i))
  pub wide : 3 * m ≤ length d₀
  pub is : d ≡ image triple_codec (length d₀) (leading_triples d₀ n ++ each f (own_numbers i))
  pub long : length d ≡ length d₀

module _ (f : ℕ → List Triple) (l : ℕ) where
  pub listing_start : {d : List ℕ} {n : ℕ} → HoldsTriples d n → Listing f l d n 0 n d
  unfolding own_numbers each
  listing_start {d} {n} h = record { upto = omega arith; many = omega arith; wide = h.wide; is = h.is ∙ ap (image triple_codec (length d)) (sym (append-nil (leading_triples d n))); long = refl }

module _ {f : ℕ → List Triple} {l : ℕ} {d₀ : List ℕ} {n i m : ℕ} {d : List ℕ} (h : Listing f l d₀ n i m d) where
  held_length : m ≡ length (leading_triples d₀ n ++ each f (own_numbers i))
  held_length = omega (arith, h.many, length-append (leading_triples d₀ n) (each f (own_numbers i)), length_from triple_codec n d₀ 0)

  held : leading_triples d m ≡ leading_triples d₀ n ++ each f (own_numbers i)
  held =
      let a = leading_triples d₀ n ++ each f (own_numbers i) in
      ap (λ (s : List ℕ). leading_triples s m) h.is
      ∙ ap (leading_triples (image triple_codec (length d₀) a)) held_length
      ∙ image_records triple_codec triples_readable (length d₀) a (all_of (λ (t : Triple). Unit {0}) (λ t. tt) a)

  pub listing_holds : HoldsTriples d m
  listing_holds = record { is = h.is ∙ rw (h.long, held); wide = omega (arith, h.wide, h.long) }

  -- the triples ts of number i are added
  pub listing_turn : {ts : List Triple} → f i ≡ ts → i < l → {k k' : ℕ} {e e' : List ℕ} → k' ≡ k → e' ≡ e → TriplesAdded d m ts (Some k) e → length e ≡ length d
      → Listing f l d₀ n (i + 1) k' e'
  listing_turn {ts} t b {k} {k'} {e} {e'} q u g s =
      record {
        upto = omega arith;
        many = omega (arith, g.0, h.many, next_length f i, ap length t);
        wide = omega (arith, g.1, h.long, q);
        is = u ∙ g.2 ∙ rw (h.long, held, ← t, append_assoc (leading_triples d₀ n) (each f (own_numbers i)) (f i), ← each_next f i);
        long = ap length u ∙ s ∙ h.long;
      }

  -- it has none
  pub listing_pass : f i ≡ [] → i < l → {k : ℕ} {e : List ℕ} → k ≡ m → e ≡ d → Listing f l d₀ n (i + 1) k e
  listing_pass t b p q =
      let z : each f (own_numbers (i + 1)) ≡ each f (own_numbers i) = each_next f i ∙ rw (t, append-nil (each f (own_numbers i))) in
      record { upto = omega arith; many = rw z (p ∙ h.many); wide = omega (arith, p, h.wide); is = rw z (q ∙ h.is); long = ap length q ∙ h.long }

  -- they have no room, and so have all together
  pub listing_full : {ts : List Triple} → f i ≡ ts → i < l → length d < 3 * (m + length ts) → length d₀ < 3 * (n + length (each f (own_numbers l)))
  listing_full t b g = omega (arith, h.many, h.long, next_length f i, each_few f (i + 1) l (omega arith), ap length t)

  pub listing_stop : l ≤ i → TriplesAdded d₀ n (each f (own_numbers l)) (Some m) d
  listing_stop b = let e : i ≡ l = omega (arith, h.upto) in (rw (← e) h.many, h.wide, rw (← e) h.is)

-- ---- an emitter, by its mark
module _ (es : List ℕ) (c b e : ℕ) where
  pub emitter_yes : get_or es e 0 ≡ b → triple_if (eqb (get_or es e 0) b) c b e ≡ record { collector = c; base = b; emitter = e } ∷ []
  emitter_yes h = rw (eq-eqb (get_or es e 0) b h)

  pub emitter_no : (get_or es e 0 ≡ b → ⊥) → triple_if (eqb (get_or es e 0) b) c b e ≡ []
  emitter_no h = rw (ne_eqb (get_or es e 0) b h)

-- ---- a base
module _ (ds es : List ℕ) (c b : ℕ) where
  pub base_yes : get_or ds b 0 ≡ c → cond (eqb (get_or ds b 0) c) (emitter_triples es c b) [] ≡ emitter_triples es c b
  base_yes h = rw (eq-eqb (get_or ds b 0) c h)

  pub base_no : (get_or ds b 0 ≡ c → ⊥) → cond (eqb (get_or ds b 0) c) (emitter_triples es c b) [] ≡ []
  base_no h = rw (ne_eqb (get_or ds b 0) c h)

-- ---- all triples, in a list that held none
pub filled_all : (d₀ : List ℕ) (ts : List Triple) (r : Option ℕ) (d : List ℕ) → is_some r ≡ true → TriplesAdded d₀ 0 ts r d → TriplesFilled (length d₀) ts r d
unfolding records_from
filled_all d₀ ts None d p h = cc
filled_all d₀ ts (Some m) d p h = (omega (arith, h.0), h.1, h.2)
