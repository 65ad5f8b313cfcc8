use mathlib.Core.Path.{refl, ◌∙◌, ap}
use native.Mathlib.Omega.{arith}
use Prim.Native.Nat.{ℕ, ◌-◌, ◌/◌}
use lib.ListN.{length}
use Rattle.geometry.specs.Trapezoids.{trapezoid_codec}
use Rattle.files.proofs.Bounds.{units_count}
use Rattle.layer_files_code.proofs.Whole.{word_sizes}
use Rattle.layer_files_code.proofs.words_trapezoids.Goals as goal

pub body_start-requires : goal.body_start-requires
body_start-requires c = let z = word_sizes c.args.words.now c.requires refl in (omega (arith, z.words), omega (arith, z.few))

pub overflow_sub-result : goal.overflow_sub-result
overflow_sub-result c = omega (arith, (word_sizes c.args.words.now c.requires c.body_start.ensures).words)

pub returns : goal.returns
returns c =
    let ws = c.args.words.now in
    ap (λ (k : ℕ). (length ws - k) / 25) c.body_start.ensures ∙ units_count trapezoid_codec ws refl refl
