-- A conjunction as a chain of branches computes it, and its parts.
use mathlib.Core.Path.{◌≡◌, refl, sym, ◌∙◌}
use mathlib.Core.Bool.{Bool, true, false, ◌&&◌, and-true, false≢true}

-- the first part holds, and the answer is that of the rest
pub holds : {a x r : Bool} → a ≡ true → r ≡ x → r ≡ a && x
holds e f = rw e f

-- the first part fails
pub fails : {a : Bool} (x : Bool) → a ≡ false → false ≡ a && x
fails x e = rw e

pub last : {r f : Bool} → r ≡ f → r ≡ f && true
last {r} {f} e = e ∙ sym (and-true f)

-- the rest fails
pub rest_fails : (a b : Bool) → b ≡ false → a && b ≡ false
rest_fails true b e = e
rest_fails false b e = refl

-- ---- each part of one that holds
pub and_left : (a b : Bool) → a && b ≡ true → a ≡ true
and_left true b e = refl
and_left false b e = e

pub and_right : (a b : Bool) → a && b ≡ true → b ≡ true
and_right true b e = e
and_right false b e = absurd (false≢true e)
