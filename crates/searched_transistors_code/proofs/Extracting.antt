-- The outcome of `transistors` once rows 1 to 11 have let it pass, way out by way out.
use Rattle.std.specs.Prelude.{Option, Some, None}
use mathlib.Core.Path.{◌≡◌, subst}
use mathlib.Core.List.{List}
use Prim.Native.Nat.{ℕ}
use native.Mathlib.Omega.{arith}
use lib.ListN.{length}
use lib.IntN.{ℤ}
use Rattle.geometry.specs.Trapezoids.{layer_of}
use Rattle.extraction.specs.declared.Listed.{Listed}
use Rattle.files.specs.Outcomes.{refused, done, SmallAnswer}
use Rattle.calls.specs.Outcomes.{zeros, room_of}
use Rattle.calls.specs.Transistors.{three_disjoint, observed_transistors}
use Rattle.calls.proofs.Transistors.{searched, transistors_no_room, transistors_done}
use Rattle.extraction_code.specs.Code.{ListedAs, ListedWithin}
use Rattle.std.specs.Prelude.{Ok}

module _ (c b e : List ℤ) (list : List ℕ) (out scratch : List ℤ) (p : three_disjoint c b e ≡ Ok tt)
    (f : Option Listed) (m : ℕ) (d : List ℕ) (o s : List ℤ) (h : ListedAs (room_of out) (layer_of c) (layer_of b) (layer_of e) m f d) (n : m ≡ length list)
    (y : o ≡ zeros (length out)) (z : s ≡ zeros (length scratch)) where
  as_listed : {g : Option Listed} → f ≡ g → ListedAs (room_of out) (layer_of c) (layer_of b) (layer_of e) (length list) g d
  as_listed {g} q =
      subst (λ (g : Option Listed). ListedAs (room_of out) (layer_of c) (layer_of b) (layer_of e) (length list) g d) q
      (subst (λ (m : ℕ). ListedAs (room_of out) (layer_of c) (layer_of b) (layer_of e) m f d) n h)

  pub listed_no_room : f ≡ None → observed_transistors (refused 12 0) d o s ≡ searched c b e list out scratch
  listed_no_room q = let k = as_listed q in transistors_no_room c b e list out scratch p d o s y z k.0 k.1

  pub listed_done : {l : Listed} → f ≡ Some l → observed_transistors (done l.triples l.overlays) d o s ≡ searched c b e list out scratch
  listed_done q = let k = as_listed q in transistors_done c b e list out scratch p d o s y z k.0 k.1 k.2 k.3

pub small_listed : {f : Option Listed} {l : Listed} → ListedWithin f → f ≡ Some l → SmallAnswer (done l.triples l.overlays)
small_listed {f} {l} w q = let k = subst ListedWithin q w in (k.0, omega (arith, k.1))
