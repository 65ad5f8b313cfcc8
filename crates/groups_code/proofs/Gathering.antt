-- The groups of a column put into the arrays, from the last edge to the first.
use mathlib.Core.Path.{◌≡◌, refl, sym, ◌∙◌, ap, subst}
use mathlib.Core.Bool.{Bool, true, false, cond}
use mathlib.Core.List.{List, [], ◌∷◌}
use Prim.Native.Nat.{ℕ, zero, suc, ◌+◌, ◌-◌, ◌<◌, ◌≤◌, zero-le}
use native.Mathlib.Omega.{arith}
use native.Mathlib.Nat.{le_refl}
use lib.ListN.{length, take, length-map}
use lib.Seq.{length-take-le}
use lib.IntN.{ℤ, nat_abs}
use Rattle.lists.specs.Lists.{All}
use Rattle.lists.specs.Tests.{keep}
use Rattle.lists.proofs.Lists.{all_map}
use Rattle.lists.proofs.Kept.{keep_all}
use Rattle.lists.proofs.Tests.{cond_cases}
use Rattle.integer.specs.Fraction.{Fraction}
use Rattle.integer.proofs.Magnitude.{add_magnitude}
use Rattle.levels.proofs.Laws.{levels_length}
use Rattle.sweep.specs.Segments.{spans, spanning}
use Rattle.sweep.specs.Columns.{lower}
use Rattle.sorting.specs.Sorted.{merged}
use Rattle.sorting.specs.Weighed.{Weighed, item_of, joined, lighter, weighed}
use Rattle.sorting.proofs.Weighing.{items_weighed}
use Rattle.fracture.specs.Polygons.{Edge, line_of, direction_of, segment}
use Rattle.polygon_edges_code.specs.Edges.{line_number, edge_number, numbered, edges_from_number, EdgesHeld}
use Rattle.polygon_edges_code.proofs.Numbers.{from_length, from_next, from_last}
use Rattle.polygon_events_code.specs.Code.{line_segment}
use Rattle.groups_code.specs.Groups.{groups_in, EdgeHeld, Held, alone, Widened, groups_from, Gathered}
use Rattle.groups_code.proofs.Adding.{gathered_length, gathered_weights}

-- ---- how many, how heavy
keep_few : {A : Type 0} (f : A → Bool) (xs : List A) → length (keep f xs) ≤ length xs
unfolding keep
keep_few f [] = zero-le
keep_few {A} f (x ∷ xs) = let h = keep_few f xs in cond_cases (λ (ys : List A). length ys ≤ suc (length xs)) (f x) (x ∷ keep f xs) (keep f xs) (λ t. omega arith) (λ t. omega arith)

module _ {A : Type 0} (less : A → A → Bool) where
  abbrev Light : ℕ → Weighed A → Type 0
  Light b g = nat_abs g.weight ≤ b

  merged_light : (b : ℕ) (x : Weighed A) (gs : List (Weighed A)) → Light 1 x → All (Light b) gs → All (Light (suc b)) (merged (lighter less) joined x gs)
  unfolding merged
  merged_light b x [] l h = (omega arith, tt)
  merged_light b x (g ∷ gs) l h =
      let more = all_map {P = Light b} {Q = Light (suc b)} (λ y k. omega arith) gs h.1 in
      let later = merged_light b x gs l h.1 in
      let here : Light (suc b) g = omega (arith, h.0) in
      cond_cases (All (Light (suc b))) (less x.item g.item) (x ∷ g ∷ gs) (cond (less g.item x.item) (g ∷ merged (lighter less) joined x gs) (joined x g ∷ gs))
      (λ t. (omega arith, (here, more)))
      (λ t. cond_cases (All (Light (suc b))) (less g.item x.item) (g ∷ merged (lighter less) joined x gs) (joined x g ∷ gs) (λ s. (here, later)) (λ s. (omega (arith, add_magnitude x.weight g.weight, h.0), more)))

  weighed_light : (weight : A → ℤ) (xs : List A) → All (λ (x : A). nat_abs (weight x) ≤ 1) xs → All (Light (length xs)) (weighed less weight xs)
  unfolding weighed
  weighed_light weight [] h = tt
  weighed_light weight (x ∷ xs) h = merged_light (length xs) (record { item = x; weight = weight x }) (weighed less weight xs) h.0 (weighed_light weight xs h.1)

  weighed_few : (weight : A → ℤ) (xs : List A) → length (weighed less weight xs) ≤ length xs
  weighed_few weight xs = let a = levels_length less xs in let b = ap length (items_weighed less weight xs) in let c = length-map (weighed less weight xs) item_of in omega (arith, a, b, c)

all-numbered : (P : Edge → Type 0) (edge : ℕ → Edge) (n m i : ℕ) → i + m ≤ n → ((k : ℕ) → k < n → P (edge k)) → All P (numbered edge m i)
unfolding numbered
all-numbered P edge n zero i l h = tt
all-numbered P edge n (suc m) i l h = (h i (omega arith), all-numbered P edge n m (i + 1) (omega arith) h)

-- ---- all of them
pub edge-held : {n : ℕ} {ls ts : List ℤ} → EdgesHeld n ls ts → (k : ℕ) → k < n → EdgeHeld ls ts k
edge-held h k l = record { within = omega (arith, l, h.lines.few); grid = h.lines.grid k l; terms = h.terms k l; light = h.light k l }

-- the groups of the edges from number i on are there
pub record Gathering (n : ℕ) (ls ts : List ℤ) (x : Fraction) (i m : ℕ) (ks : List ℕ) (ws : List ℤ) : Type 0 where
  pub so_far : Gathered n ls ts x i m ks ws
  pub high : i ≤ n
  pub edges : EdgesHeld n ls ts

module _ {n : ℕ} {ls ts : List ℤ} (x : Fraction) (w : EdgesHeld n ls ts) where
  pub gathering_start : (ks : List ℕ) (ws : List ℤ) → length ks ≡ 32 → length ws ≡ 32 → Gathering n ls ts x n 0 ks ws
  unfolding weighed keep
  gathering_start ks ws lk lw =
      record {
        so_far = record { is = rw (from_last (edge_number ls ts) n n (le_refl n)); numbered = record { upto = zero-le; all = tt }; keys = lk; weights = lw };
        high = le_refl n;
        edges = w;
      }

  module _ {i m : ℕ} {ks : List ℕ} {ws : List ℤ} (g : Gathered n ls ts x i m ks ws) (high : i ≤ n) where
    abbrev es : List Edge
    es = edges_from_number (edge_number ls ts) n i

    g_k : length (take m ks) ≡ m
    g_k = length-take-le m ks g.numbered.upto

    g_w : length (take m ws) ≡ m
    g_w = length-take-le m ws (omega (arith, g.numbered.upto, g.keys, g.weights))

    span_few : length (spanning segment x es) ≤ n - i
    span_few = omega (arith, keep_few (λ (e : Edge). spans x (segment e)) es, from_length (edge_number ls ts) n i)

    pub groups_few : m ≤ n - i
    groups_few = omega (arith, span_few, weighed_few (lower line_of x) direction_of (spanning segment x es), ap length g.is, gathered_length ls ts (take m ks) (take m ws) (g_k ∙ sym g_w), g_k)

    directions : All (λ (e : Edge). nat_abs (direction_of e) ≤ 1) (spanning segment x es)
    directions = keep_all (λ (e : Edge). spans x (segment e)) (λ e h t. h) es (all-numbered (λ (e : Edge). nat_abs (direction_of e) ≤ 1) (edge_number ls ts) n (n - i) i (omega (arith, high)) w.light)

    pub gathered_held : Held ls ts m ks ws
    gathered_held =
        let heavy : All (λ (y : Weighed Edge). nat_abs y.weight ≤ 64) (groups_in ls ts m ks ws) = rw g.is (all_map (λ y k. omega (arith, k, span_few, w.lines.few)) (groups_from n ls ts x i) (weighed_light (lower line_of x) direction_of (spanning segment x es) directions)) in
        record {
          lines = w.lines.long;
          terms = w.long;
          numbered = g.numbered;
          keys = g.keys;
          weights = g.weights;
          light = gathered_weights ls ts (λ (z : ℤ). nat_abs z ≤ 64) (take m ks) (take m ws) (g_k ∙ sym g_w) heavy;
        }

  module _ {i m : ℕ} {ks : List ℕ} {ws : List ℤ} (h : Gathering n ls ts x i m ks ws) (l : 0 < i) where
    pub gathering_asks : EdgeHeld ls ts (i - 1) × Held ls ts m ks ws × (m < 32)
    gathering_asks = (edge-held w (i - 1) (omega (arith, h.high)), gathered_held h.so_far h.high, omega (arith, groups_few h.so_far h.high, h.high, w.lines.few))

    from_here : groups_from n ls ts x (i - 1) ≡ cond (spans x (line_segment (line_number ls (i - 1)))) (merged (lighter (lower line_of x)) joined (alone ls ts (i - 1)) (groups_from n ls ts x i)) (groups_from n ls ts x i)
    unfolding weighed keep
    from_here = let e : i - 1 + 1 ≡ i = omega arith in rw (from_next (edge_number ls ts) n (i - 1) (omega (arith, h.high)), e) (either (spans x (line_segment (line_number ls (i - 1)))))
      where
        either : (t : Bool) → weighed (lower line_of x) direction_of (cond t (edge_number ls ts (i - 1) ∷ spanning segment x (edges_from_number (edge_number ls ts) n i)) (spanning segment x (edges_from_number (edge_number ls ts) n i)))
            ≡ cond t (merged (lighter (lower line_of x)) joined (alone ls ts (i - 1)) (groups_from n ls ts x i)) (groups_from n ls ts x i)
        either true = refl
        either false = refl

    pub gathering_next : (r : ℕ) (ks' : List ℕ) (ws' : List ℤ) → length ks' ≡ length ks → length ws' ≡ length ws → Widened ls ts x (i - 1) m ks ws r ks' ws' → Gathering n ls ts x (i - 1) r ks' ws'
    gathering_next r ks' ws' lk lw g =
        record {
          so_far = record {
            is = g.is ∙ ap (λ (gs : List (Weighed Edge)). cond (spans x (line_segment (line_number ls (i - 1)))) (merged (lighter (lower line_of x)) joined (alone ls ts (i - 1)) gs) gs) h.so_far.is ∙ sym from_here;
            numbered = g.numbered;
            keys = lk ∙ h.so_far.keys;
            weights = lw ∙ h.so_far.weights;
          };
          high = omega (arith, h.high);
          edges = w;
        }

pub gathering_end : {n : ℕ} {ls ts : List ℤ} {x : Fraction} {i m : ℕ} {ks : List ℕ} {ws : List ℤ} → Gathering n ls ts x i m ks ws → i ≤ 0 → Gathered n ls ts x 0 m ks ws
gathering_end {n} {ls} {ts} {x} {i} {m} {ks} {ws} h l = let e : i ≡ 0 = omega arith in subst (λ (j : ℕ). Gathered n ls ts x j m ks ws) e h.so_far
