use mathlib.Core.List.{[], ◌∷◌, ◌++◌}
use lib.IntN.{pos}
use lib.Seq.{sets-eq}
use Rattle.geometry.specs.Trapezoids.{trapezoid_words}
use Rattle.trapezoids_code.proofs.store.Goals as goal

pub returns : goal.returns
unfolding trapezoid_words
returns c =
    rw (c.store_line-6.ensures, c.store_line-5.ensures, c.store_line-4.ensures, c.store_line-3.ensures, c.store_line-2.ensures, c.store_line.ensures)
    (sets-eq (trapezoid_words c.args.t ++ (pos 0 ∷ [])) c.args.s.now 0 c.requires)
