use mathlib.Core.Path.{sym}
use native.Mathlib.Nat.{mul-le-mul}
use native.Mathlib.Omega.{arith}
use Rattle.enclosure_code.proofs.Answers.{apart_full, apart_no}
use Rattle.enclosure_code.proofs.enclosure.Goals as goal

pub returns-then-room-m-clause-enclosure_is : goal.returns-then-room-m-clause-enclosure_is
returns-then-room-m-clause-enclosure_is c =
    let a = c.args in
    let h = c.requires.boxed_layer in
    apart_full a.shape.now a.shape_boxes.now a.other.now a.other_boxes.now h.0 h.1 (sym c.if-all_disjoint.ensures) a.room c.if-room-m.true

pub returns-then-all_disjoint-clause-enclosure_is : goal.returns-then-all_disjoint-clause-enclosure_is
returns-then-all_disjoint-clause-enclosure_is c =
    let a = c.args in
    let h = c.requires.boxed_layer in
    apart_no a.shape.now a.shape_boxes.now a.other.now a.other_boxes.now h.0 h.1 (sym c.if-all_disjoint.ensures) a.room c.if-room-m.false c.requires.shape_nonzero.1

pub returns-then-all_disjoint-clause-enclosure_within : goal.returns-then-all_disjoint-clause-enclosure_within
returns-then-all_disjoint-clause-enclosure_within c =
    let h = c.requires.boxed_layer in
    omega (arith, mul-le-mul h.1.layer.few h.0.layer.few)
