-- Two chains from the same layers are one chain.
use mathlib.Core.Path.{◌≡◌, refl, sym, ◌∙◌, ap}
use mathlib.Core.Bool.{Bool, true, false}
use mathlib.Core.List.{List, [], ◌∷◌, ◌++◌, map, append_assoc, append-nil}
use Prim.Native.Nat.{ℕ, ◌<◌}
use native.Mathlib.Omega.{arith}
use lib.ListN.{length, drop, length-append, get_or-append}
use lib.Seq.{drop-append_seam}
use Rattle.chains.specs.Chains.{Layer, layer_at, Step, outcome_of, called, succeeds, added, result_of, stepped, run, Told, told_of, told, entry_at, said, evaluate, raised, renumbered_step}
use Rattle.chains.proofs.Raised.{added_append, raised_at, raised_in}
use Rattle.chains.proofs.Steps.{found, run_kept}
use Rattle.chains.proofs.Points.{evaluate-length}

-- ---- the steps of one list after those of another
run_append : (layers : List Layer) (ss ts : List Step) → run layers (ss ++ ts) ≡ run (run layers ss) ts
unfolding run
run_append layers [] ts = refl
run_append layers (s ∷ ss) ts = run_append (stepped layers s) ss ts

told_append : (layers : List Layer) (ss ts : List Step) → told layers (ss ++ ts) ≡ told layers ss ++ told (run layers ss) ts
unfolding run told
told_append layers [] ts = refl
told_append layers (s ∷ ss) ts = ap (λ (us : List Told). told_of s (succeeds layers s) ∷ us) (told_append (stepped layers s) ss ts)

evaluate_append : (entries : List Bool) (ss ts : List Told) → evaluate entries (ss ++ ts) ≡ evaluate (evaluate entries ss) ts
unfolding evaluate
evaluate_append entries [] ts = refl
evaluate_append entries (s ∷ ss) ts = evaluate_append (added s.success entries (said entries s)) ss ts

-- ---- steps, alone and with the layers `other` put in after the starting layers
module _ (start other : List Layer) where
  abbrev pub joined : List Layer → List Layer
  joined more = (start ++ other) ++ more

  abbrev pub renamed : Step → Step
  renamed s = renumbered_step (length start) (length other) s

  pub renamed_called : (more : List Layer) (s : Step) → called (joined more) (renamed s) ≡ called (start ++ more) s
  unfolding called
  renamed_called more s = rw (raised_in start other more s.first, raised_in start other more s.second) refl

  pub renamed_outcome : (more : List Layer) (s : Step) → outcome_of (joined more) (renamed s) ≡ outcome_of (start ++ more) s
  unfolding outcome_of
  renamed_outcome more s = rw (raised_at start other more s.first [], raised_at start other more s.second []) refl

  -- what a step adds
  abbrev after : List Layer → Step → List Layer
  after more s = added (succeeds (start ++ more) s) more (result_of (start ++ more) s)

  renamed_stepped : (more : List Layer) (s : Step) → stepped (joined more) (renamed s) ≡ joined (after more s)
  renamed_stepped more s =
      rw (renamed_called more s, renamed_outcome more s) (added_append (succeeds (start ++ more) s) (start ++ other) more (result_of (start ++ more) s))

  alone_stepped : (more : List Layer) (s : Step) → stepped (start ++ more) s ≡ start ++ after more s
  alone_stepped more s = added_append (succeeds (start ++ more) s) start more (result_of (start ++ more) s)

  record Adds (more : List Layer) (steps : List Step) : Type 0 where
    all : List Layer
    with_other : run (joined more) (map renamed steps) ≡ joined all
    alone : run (start ++ more) steps ≡ start ++ all

  adds : (more : List Layer) (steps : List Step) → Adds more steps
  unfolding run
  adds more [] = record { all = more; with_other = refl; alone = refl }
  adds more (s ∷ steps) =
      let k = adds (after more s) steps in
      record {
        all = k.all;
        with_other = ap (λ (layers : List Layer). run layers (map renamed steps)) (renamed_stepped more s) ∙ k.with_other;
        alone = ap (λ (layers : List Layer). run layers steps) (alone_stepped more s) ∙ k.alone;
      }

-- ---- the evaluation, alone and with entries put in after those fed
abbrev raised_told : ℕ → ℕ → Told → Told
raised_told starting count t =
    record { code = t.code; first = raised starting count t.first; second = raised starting count t.second; success = t.success }

told_renamed : (start other more : List Layer) (steps : List Step)
    → told (joined start other more) (map (renamed start other) steps) ≡ map (raised_told (length start) (length other)) (told (start ++ more) steps)
unfolding told
told_renamed start other more [] = refl
told_renamed start other more (s ∷ steps) =
    rw (renamed_called start other more s, renamed_outcome start other more s, added_append (succeeds (start ++ more) s) (start ++ other) more (result_of (start ++ more) s), alone_stepped start other more s)
    (ap (λ (ts : List Told). told_of (renamed start other s) (succeeds (start ++ more) s) ∷ ts) (told_renamed start other (after start other more s) steps))

module _ (fed_ones others : List Bool) where
  record Entries (more : List Bool) (ts : List Told) : Type 0 where
    all : List Bool
    with_others : evaluate ((fed_ones ++ others) ++ more) (map (raised_told (length fed_ones) (length others)) ts) ≡ (fed_ones ++ others) ++ all
    alone : evaluate (fed_ones ++ more) ts ≡ fed_ones ++ all

  entries : (more : List Bool) (ts : List Told) → Entries more ts
  unfolding evaluate
  entries more [] = record { all = more; with_others = refl; alone = refl }
  entries more (t ∷ ts) =
      let y = said (fed_ones ++ more) t in
      let k = entries (added t.success more y) ts in
      let d : added t.success ((fed_ones ++ others) ++ more) (said ((fed_ones ++ others) ++ more) (raised_told (length fed_ones) (length others) t)) ≡ (fed_ones ++ others) ++ added t.success more y
      = rw (raised_at fed_ones others more t.first false, raised_at fed_ones others more t.second false) (added_append t.success (fed_ones ++ others) more y) in
      record {
        all = k.all;
        with_others = ap (λ (e : List Bool). evaluate e (map (raised_told (length fed_ones) (length others)) ts)) d ∙ k.with_others;
        alone = ap (λ (e : List Bool). evaluate e ts) (added_append t.success fed_ones more y) ∙ k.alone;
      }

-- the entries fed stay
record Grows (fed_ones now : List Bool) : Type 0 where
  more : List Bool
  is : now ≡ fed_ones ++ more

evaluate_grows : (fed_ones : List Bool) (ts : List Told) → Grows fed_ones (evaluate fed_ones ts)
unfolding evaluate
evaluate_grows ys [] = record { more = []; is = sym (append-nil ys) }
evaluate_grows ys (t ∷ ts) = go t.success (λ b. evaluate_grows (added b ys (said ys t)) ts)
  where
    go : (b : Bool) → ((d : Bool) → Grows (added d ys (said ys t)) (evaluate (added d ys (said ys t)) ts)) → Grows ys (evaluate (added b ys (said ys t)) ts)
    go true g = record { more = said ys t ∷ (g true).more; is = (g true).is ∙ append_assoc ys (said ys t ∷ []) (g true).more }
    go false g = g false

-- ---- two chains
module _ (start : List Layer) (one two : List Step) where
  abbrev other : List Layer
  other = found start one

  abbrev pub merged_steps : List Step
  merged_steps = one ++ map (renamed start other) two

  k : Adds start other [] two
  k = adds start other [] two

  after_one : run start one ≡ joined start other []
  after_one = run_kept start one ∙ sym (append-nil (start ++ other))

  both : run start merged_steps ≡ joined start other k.all
  both =
      run_append start one (map (renamed start other) two)
      ∙ ap (λ (layers : List Layer). run layers (map (renamed start other) two)) after_one
      ∙ k.with_other

  alone : run start two ≡ start ++ k.all
  alone = ap (λ (layers : List Layer). run layers two) (sym (append-nil start)) ∙ k.alone

  added_are : found start two ≡ k.all
  added_are = ap (drop (length start)) alone ∙ drop-append_seam start k.all

  pub merged_holds : run start merged_steps ≡ run start one ++ found start two
  merged_holds =
      both
      ∙ ap (λ (layers : List Layer). layers ++ k.all) (sym (run_kept start one))
      ∙ ap (λ (more : List Layer). run start one ++ more) (sym added_are)

  pub first_layer : (n : ℕ) → n < length (run start one) → layer_at (run start merged_steps) n ≡ layer_at (run start one) n
  first_layer n h = ap (λ (layers : List Layer). layer_at layers n) merged_holds ∙ get_or-append (run start one) (found start two) [] n h

  pub second_layer : (n : ℕ) → layer_at (run start merged_steps) (raised (length start) (length (found start one)) n) ≡ layer_at (run start two) n
  second_layer n =
      ap (λ (layers : List Layer). layer_at layers (raised (length start) (length other) n)) both
      ∙ raised_at start other k.all n []
      ∙ ap (λ (layers : List Layer). layer_at layers n) (sym alone)

  -- ---- their tallies
  module _ (ys : List Bool) (e : length ys ≡ length start) where
    g : Grows ys (evaluate ys (told start one))
    g = evaluate_grows ys (told start one)

    as_many : length g.more ≡ length other
    as_many =
        let a = ap length g.is in
        let b = ap length (run_kept start one) in
        let c = evaluate-length ys start one e in
        omega (arith, length-append ys g.more, length-append start other)

    told_two : told (run start one) (map (renamed start other) two) ≡ map (raised_told (length ys) (length g.more)) (told start two)
    told_two =
        ap (λ (layers : List Layer). told layers (map (renamed start other) two)) after_one
        ∙ told_renamed start other [] two
        ∙ ap (λ (layers : List Layer). map (raised_told (length start) (length other)) (told layers two)) (append-nil start)
        ∙ ap (λ (n : ℕ). map (raised_told n (length other)) (told start two)) (sym e)
        ∙ ap (λ (n : ℕ). map (raised_told (length ys) n) (told start two)) (sym as_many)

    i : Entries ys g.more [] (told start two)
    i = entries ys g.more [] (told start two)

    both_told : evaluate ys (told start merged_steps) ≡ (ys ++ g.more) ++ i.all
    both_told =
        ap (evaluate ys) (told_append start one (map (renamed start other) two))
        ∙ evaluate_append ys (told start one) (told (run start one) (map (renamed start other) two))
        ∙ ap (evaluate (evaluate ys (told start one))) told_two
        ∙ ap (λ (now : List Bool). evaluate now (map (raised_told (length ys) (length g.more)) (told start two))) (g.is ∙ sym (append-nil (ys ++ g.more)))
        ∙ i.with_others

    alone_told : evaluate ys (told start two) ≡ ys ++ i.all
    alone_told = ap (λ (now : List Bool). evaluate now (told start two)) (sym (append-nil ys)) ∙ i.alone

    pub first_entry : (n : ℕ) → n < length (run start one) → entry_at (evaluate ys (told start merged_steps)) n ≡ entry_at (evaluate ys (told start one)) n
    first_entry n h =
        let l = evaluate-length ys start one e in
        let a = ap length g.is in
        let m : n < length (ys ++ g.more) = omega arith in
        ap (λ (now : List Bool). entry_at now n) both_told ∙ get_or-append (ys ++ g.more) i.all false n m ∙ ap (λ (now : List Bool). entry_at now n) (sym g.is)

    pub second_entry : (n : ℕ)
        → entry_at (evaluate ys (told start merged_steps)) (raised (length start) (length (found start one)) n) ≡ entry_at (evaluate ys (told start two)) n
    second_entry n =
        ap (λ (now : List Bool). entry_at now (raised (length start) (length other) n)) both_told
        ∙ ap (λ (j : ℕ). entry_at ((ys ++ g.more) ++ i.all) (raised j (length other) n)) (sym e)
        ∙ ap (λ (j : ℕ). entry_at ((ys ++ g.more) ++ i.all) (raised (length ys) j n)) (sym as_many)
        ∙ raised_at ys g.more i.all n false
        ∙ ap (λ (now : List Bool). entry_at now n) (sym alone_told)
