-- What a reader of a directory answered, as the directory's definition says it.
use Rattle.std.specs.Prelude.{◌≡◌, List, ℕ, ℤ, Ok, Err, Result}
use mathlib.Core.Path.{sym, ◌∙◌, ap}
use Rattle.geometry.specs.declared.Refusal.{Refusal}
use Rattle.files.specs.declared.Format.{Format}
use Rattle.files.specs.Directory.{directory_of, wrong_by, right_with}
use Rattle.files.proofs.Right.{IsRight, right}
use Rattle.files.specs.declared.Directory.{Directory}

-- f is what the format g is computed as
module _ {f : Format} (g : Format) (ws : List ℤ) (e : f ≡ g) where
  pub pairs_found : {d : Directory} → Ok d ≡ directory_of f ws → directory_of g ws ≡ right_with d.count d.total
  pairs_found k = sym (k ∙ ap (λ (h : Format). directory_of h ws) e)

  pub pairs_right : {d : Directory} → Ok d ≡ directory_of f ws → IsRight g ws d.count d.total
  pairs_right k = right g ws (pairs_found k)

  pub pairs_refused : {r : Refusal} → Err r ≡ directory_of f ws → directory_of g ws ≡ wrong_by r.number r.place
  pairs_refused k = sym (k ∙ ap (λ (h : Format). directory_of h ws) e)
