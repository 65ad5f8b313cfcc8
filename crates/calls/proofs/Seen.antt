-- What is seen of a call from C, by what its contract says of the answer and the words that it left.
use mathlib.Core.Path.{◌≡◌, ap, ◌∙◌}
use mathlib.Core.List.{List}
use Prim.Native.Nat.{ℕ}
use lib.IntN.{ℤ}
use Rattle.files.specs.Outcomes as files
use Rattle.calls.specs.Outcomes.{Outcome, observed}
use Rattle.calls.specs.Transistors.{TransistorsOutcome, observed_transistors}
use Rattle.calls.specs.Packed.{packed}
use Rattle.calls.specs.Promises.{SeenFromC, FileSeenFromC}

pub seen : {A : Type 0} (pack : A → ℕ) {o : Outcome A} {answer : A} {out scratch : List ℤ} → observed answer out scratch ≡ o → {n : ℕ} → n ≡ pack answer → SeenFromC pack o n out scratch
seen {A} pack e h = (h ∙ ap (λ (x : Outcome A). pack x.answer) e, ap (λ (x : Outcome A). x.out) e, ap (λ (x : Outcome A). x.scratch) e)

pub file_seen : {W : Type 0} {o : files.FileOutcome W} {answer : files.Answer} {out : List W} → files.observed_file answer out ≡ o → {n : ℕ} → n ≡ packed answer → FileSeenFromC o n out
file_seen {W} e h = (h ∙ ap (λ (x : files.FileOutcome W). packed x.answer) e, ap (λ (x : files.FileOutcome W). x.out) e)

pub transistors_seen : {o : TransistorsOutcome} {answer : files.Answer} {list : List ℕ} {out scratch : List ℤ} → observed_transistors answer list out scratch ≡ o → {n : ℕ} → n ≡ packed answer
    → (n ≡ packed o.answer) × (list ≡ o.list) × (out ≡ o.out) × (scratch ≡ o.scratch)
transistors_seen e h =
    (h ∙ ap (λ (x : TransistorsOutcome). packed x.answer) e, ap (λ (x : TransistorsOutcome). x.list) e, ap (λ (x : TransistorsOutcome). x.out) e, ap (λ (x : TransistorsOutcome). x.scratch) e)
