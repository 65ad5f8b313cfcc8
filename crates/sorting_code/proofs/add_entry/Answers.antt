use mathlib.Core.Path.{refl, ◌∙◌, ap}
use native.Mathlib.Omega.{arith}
use lib.IntN.{ℤ}
use lib.ListN.{take}
use mir.Syntax.{w64}
use mir.Facts.{to_z-of_z}
use borrow.Author.Rules.{rules}
use Rattle.sorting.specs.Sorted.{inserted}
use Rattle.sorting_code.proofs.Entries.{before_within, level_within, grown_before, grown_level}
use Rattle.sorting_code.proofs.add_entry.Goals as goal

pub insert-requires : goal.insert-requires
insert-requires c =
    let s = c.args in
    (before_within s.n s.num.now s.den.now s.name.now s.p s.m c.requires.0 c.requires.2 c.in-Err.i c.in-Err.ensures, c.requires.2.nums)

pub insert-requires-in-Err : goal.insert-requires-in-Err
insert-requires-in-Err c =
    let s = c.args in
    (before_within s.n s.num.now s.den.now s.name.now s.p s.m c.requires.0 c.requires.2 c.in-Err.i c.in-Err.ensures, c.requires.2.dens)

pub insert-requires-in-Err-2 : goal.insert-requires-in-Err-2
insert-requires-in-Err-2 c =
    let s = c.args in
    (before_within s.n s.num.now s.den.now s.name.now s.p s.m c.requires.0 c.requires.2 c.in-Err.i c.in-Err.ensures, c.requires.2.names)

pub put_number-requires : goal.put_number-requires
put_number-requires c =
    let s = c.args in
    let w = level_within s.n s.num.now s.den.now s.name.now s.p s.m c.requires.0 c.requires.2 c.in-Ok.i c.in-Ok.ensures in
    omega (arith, w, c.requires.2.nums)

pub put_number-requires-in-Ok : goal.put_number-requires-in-Ok
put_number-requires-in-Ok c =
    let s = c.args in
    let w = level_within s.n s.num.now s.den.now s.name.now s.p s.m c.requires.0 c.requires.2 c.in-Ok.i c.in-Ok.ensures in
    omega (arith, w, c.requires.2.dens)

pub offset_bounds-name-i : goal.offset_bounds-name-i
offset_bounds-name-i c =
    let s = c.args in
    let w = level_within s.n s.num.now s.den.now s.name.now s.p s.m c.requires.0 c.requires.2 c.in-Ok.i c.in-Ok.ensures in
    omega (arith, w, c.requires.2.names, c.well_formed.1.1.0)

pub bounds-name-i : goal.bounds-name-i
bounds-name-i c =
    let s = c.args in
    let w = level_within s.n s.num.now s.den.now s.name.now s.p s.m c.requires.0 c.requires.2 c.in-Ok.i c.in-Ok.ensures in
    omega (arith, w, c.requires.2.names)

pub returns-in-Err : goal.returns-in-Err
returns-in-Err c =
    let s = c.args in
    let i = c.in-Err.i in
    grown_before s.n s.num.now s.den.now s.name.now s.p s.m c.requires.0 c.requires.2 i c.in-Err.ensures _ _ _
    (c.insert.ensures ∙ ap (λ (z : ℤ). inserted i z (take s.n s.num.now)) (to_z-of_z {w = w64} {z = s.p.num.v} (search rules)))
    (c.insert-in-Err.ensures ∙ ap (λ (z : ℤ). inserted i z (take s.n s.den.now)) (to_z-of_z {w = w64} {z = s.p.den.v} (search rules)))
    c.insert-in-Err-2.ensures

pub returns-in-Ok : goal.returns-in-Ok
returns-in-Ok c =
    let s = c.args in
    grown_level s.n s.num.now s.den.now s.name.now s.p s.m c.requires.0 c.requires.2 c.in-Ok.i c.in-Ok.ensures _ _ _ c.put_number.ensures c.put_number-in-Ok.ensures refl
