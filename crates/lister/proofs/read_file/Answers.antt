-- What a read gives joins what came before it; where it fails, or gives nothing, what came stays.
use Rattle.std.proofs.Common.{rules, arith, ◌≡◌, ℕ, ◌+◌, ◌-◌, ◌≤◌, List, ◌++◌, length, take, slice_range, Result, Ok, Err, OnErr, refl, sym, ap, ◌∙◌, subst, le_refl, drop_at, length-take-le, append-nil}
use Rattle.std.proofs.lemmas.Slice.{take-put_mid_below}
use Rattle.std.specs.Io.KnownBytes.{Consumes}
use Rattle.std.proofs.KnownBytes.{Consumes-nil, Consumes-trans, Consumes-kept}
use borrow.Rule.Slice.PartMut.{put_mid, post_of}
use lib.Seq.{take-add, take-append-le}
use Rattle.lister.proofs.read_file.Goals as goal

on_err : {A E P : Type 0} (r : Result A E) → P → OnErr r P
on_err (Ok x) p = tt
on_err (Err e) p = p

take_split : (a b : ℕ) (old new : List ℕ) → a ≤ b → take a new ≡ take a old → take a old ++ slice_range new a b ≡ take b new
take_split a b old new h front =
    let same : a + (b - a) ≡ b = omega arith in
    ap (λ l. l ++ slice_range new a b) (sym front) ∙ sym (take-add a (b - a) new) ∙ ap (λ n. take n new) same

slice_range-put_mid : (a k n : ℕ) (xs ys : List ℕ) → a ≤ length xs → n ≤ length ys → slice_range (put_mid a k xs ys) a (a + n) ≡ take n ys
slice_range-put_mid a k n xs ys within fits =
    let same : (a + n) - a ≡ n = omega arith in
    let after = post_of a k xs in
    ap (take ((a + n) - a)) (drop_at (take a xs) (ys ++ after) a (length-take-le a xs within)) ∙ ap (λ m. take m (ys ++ after)) same ∙ take-append-le n ys after fits

pub loop-at-init : goal.loop-at-init
loop-at-init g c = (refl, search rules, Consumes-nil _)

pub returns-in_err-n-clause-err : goal.returns-in_err-n-clause-err
returns-in_err-n-clause-err g c =
    let h = c.loop-at.invariant in
    let kept = take-put_mid_below _ _ _ _ _ (le_refl _) h.1 in
    let new = put_mid c.loop-at.at (length c.loop-at.file - c.loop-at.at) c.loop-at.file c.read.new.buf in
    let came : (k : ℕ) × (k ≤ length new) × Consumes (g.R.Read.remaining c.args.input.now) (g.R.Read.remaining c.read.new.self) (take k new)
    = (c.loop-at.at, search rules, subst (Consumes _ _) (sym kept) (Consumes-kept _ _ _ _ h.2 c.in_err-n.ensures.bytes)) in
    on_err _ came

pub returns-then-n-eq0-clause-came : goal.returns-then-n-eq0-clause-came
returns-then-n-eq0-clause-came g c =
    let h = c.loop-at.invariant in
    let none = subst (λ (n : ℕ). Consumes (g.R.Read.remaining c.loop-at.input) (g.R.Read.remaining c.read.new.self) (take n c.read.new.buf)) c.if-n-eq0.true c.in_ok-n.ensures.bytes.0 in
    let kept = take-put_mid_below _ _ _ _ _ (le_refl _) h.1 in
    subst (Consumes _ _) (append-nil (take c.loop-at.at c.loop-at.file) ∙ sym kept) (Consumes-trans _ _ _ _ _ h.2 none)

pub loop-at-preserved : goal.loop-at-preserved
loop-at-preserved g c =
    let from = c.loop-at.at in
    let room = length c.loop-at.file - from in
    let within = c.loop-at.invariant.1 in
    let part = slice_range-put_mid from room c.in_ok-n.n c.loop-at.file c.read.new.buf within c.in_ok-n.ensures.bound.0 in
    let joined = take_split from (from + c.in_ok-n.n) c.loop-at.file (put_mid from room c.loop-at.file c.read.new.buf) (omega arith) (take-put_mid_below _ _ _ _ _ (le_refl _) within) in
    (search rules, search rules, subst (Consumes _ _) (ap (λ l. take from c.loop-at.file ++ l) (sym part) ∙ joined) (Consumes-trans _ _ _ _ _ c.loop-at.invariant.2 c.in_ok-n.ensures.bytes.0))

pub returns-clause-within : goal.returns-clause-within
returns-clause-within g c = c.loop-at.invariant.1

pub returns-clause-came : goal.returns-clause-came
returns-clause-came g c = c.loop-at.invariant.2
