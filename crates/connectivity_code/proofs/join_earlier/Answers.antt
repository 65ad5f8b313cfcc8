use mathlib.Core.Path.{◌≡◌, ◌∙◌, ap}
use mathlib.Core.List.{List}
use Prim.Native.Nat.{ℕ, ◌<◌}
use native.Mathlib.Omega.{arith}
use lib.IntN.{ℤ}
use Rattle.records.specs.Records.{record_at, count}
use Rattle.geometry.specs.declared.Trapezoid.{Trapezoid}
use Rattle.geometry.specs.Trapezoids.{trapezoid_codec, layer_of}
use Rattle.connectivity.specs.Touching.{touches}
use Rattle.connectivity.specs.Components.{touching_at}
use Rattle.boxes.specs.declared.Box.{Box}
use Rattle.boxes.specs.Boxes.{box_of, boxes_apart}
use Rattle.boxes_code.specs.Code.{NextBox, BoxesOf}
use Rattle.connectivity_code.specs.Code.{Numbering}
use Rattle.connectivity_code.proofs.Layers.{touching_record, apart_record}
use Rattle.connectivity_code.proofs.Loops.{Earlier, earlier_start, earlier_turn, earlier_agree, earlier_skip}
use Rattle.connectivity_code.proofs.join_earlier.Goals as goal
use Rattle.connectivity_code.proofs.join_earlier.Goals.{then-numbers-i+then-touching_at, else-numbers-i, else-numbers-i-via-then-numbers-i+else-touching_at, else-numbers-i-via-else-numbers-i}

-- those whose boxes are apart are passed over
passed : (s b : List ℤ) (i : ℕ) {e : Box} {j r : ℕ} {ns d₀ d : List ℕ} → Numbering s ns × BoxesOf s b → i < count trapezoid_codec s → e ≡ box_of (record_at trapezoid_codec s i)
    → Earlier (touching_at (layer_of s)) i d₀ d j → NextBox boxes_apart e b j i r → Earlier (touching_at (layer_of s)) i d₀ d r
passed s b i h l f inv n =
    let m = n.skipped in
    earlier_skip (touching_at (layer_of s)) inv m.from m.upto (λ k u v. apart_record s b i k h.0.fit l (omega (arith, v, m.upto)) f h.1 (m.passed k u v))

pub loop-j-init : goal.loop-j-init
loop-j-init c =
    let s = c.args in
    let h = c.requires in
    passed s.layer.now s.boxes.now s.i h.numbering h.i_bound.0 h.i_bound.2 (earlier_start (touching_at (layer_of s.layer.now)) s.i s.numbers.now) c.next_near-j.ensures

pub loop-j-preserved : goal.loop-j-preserved
loop-j-preserved c =
    let s = c.args in
    let h = c.requires in
    let inv = c.loop-j.invariant in
    let j = c.loop-j.j in
    let l = c.loop-j-test.true in
    let test = touching_at (layer_of s.layer.now) in
    let t : touches s.a.shape (record_at trapezoid_codec s.layer.now j) ≡ test s.i j
    = ap (λ (u : Trapezoid). touches u (record_at trapezoid_codec s.layer.now j)) h.i_bound.1.shape ∙ touching_record s.layer.now s.i j h.i_bound.0 (omega (arith, h.i_bound.0, l)) in
    passed
    s.layer.now
    s.boxes.now
    s.i
    h.numbering
    h.i_bound.0
    h.i_bound.2
    (elim c.if-numbers-i.branch [
      | then-numbers-i+then-touching_at w ↦ earlier_turn test inv l (w.if-touching_at.ensures ∙ t) (w.numbers-is ∙ w.join.ensures)
      | else-numbers-i w ↦ elim w.else-numbers-i.branch [
        | else-numbers-i-via-then-numbers-i+else-touching_at v ↦ earlier_turn test inv l (v.if-touching_at.ensures ∙ t) w.numbers-is
        | else-numbers-i-via-else-numbers-i v ↦ earlier_agree test inv l v.if-numbers-i.false w.numbers-is
      ]
    ])
    c.next_near-j-in-loop-j.ensures
