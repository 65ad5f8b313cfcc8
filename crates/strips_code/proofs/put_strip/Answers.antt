use Rattle.std.specs.Prelude.{Some}
use mathlib.Core.Path.{◌≡◌}
use mathlib.Core.Bool.{Bool, false}
use mathlib.Core.List.{List, []}
use Prim.Native.Nat.{ℕ}
use lib.ListN.{length}
use lib.IntN.{ℤ}
use Rattle.geometry.specs.declared.Trapezoid.{Trapezoid}
use Rattle.trapezoids_code.specs.Tails.{in_front, Borrowed, FilledAs}
use Rattle.trapezoids_code.proofs.Writing.{fill_nothing}
use Rattle.strips_code.proofs.put_strip.Goals as goal

not_wanted : {yes : Bool} (t : Trapezoid) (room : ℕ) (d : List ℤ) → yes ≡ false → Borrowed d room → FilledAs (length d) room (in_front yes t []) (Some 0) d
not_wanted t room d e h = rw e (fill_nothing d room h)

pub returns-else-yes : goal.returns-else-yes
returns-else-yes c = not_wanted _ c.args.room c.args.out.now c.if-yes.false c.requires
