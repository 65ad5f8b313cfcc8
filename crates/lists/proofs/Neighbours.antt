-- Laws of neighbours in a list.
use mathlib.Core.List.{List, [], ◌∷◌}
use Rattle.lists.specs.Lists.{All, Pairs, Neighbours}
use Rattle.lists.proofs.Lists.{all_map}

module _ {A : Type 0} where
  -- of each x what holds of each two neighbours: of each two neighbours what holds of each x
  pub neighbours_all : {B : Type 0} (R : B → A → A → Type 0) (xs : List B) (ss : List A) → All (λ (x : B). Neighbours (R x) ss) xs → Neighbours (λ (p q : A). All (λ (x : B). R x p q) xs) ss
  neighbours_all R xs [] h = tt
  neighbours_all R xs (p ∷ []) h = tt
  neighbours_all R xs (p ∷ q ∷ qs) h = (all_map (λ x k. k.0) xs h, neighbours_all R xs (q ∷ qs) (all_map (λ x k. k.1) xs h))

  pub neighbours_map : {R Q : A → A → Type 0} → ((p q : A) → R p q → Q p q) → (ss : List A) → Neighbours R ss → Neighbours Q ss
  neighbours_map f [] h = tt
  neighbours_map f (p ∷ []) h = tt
  neighbours_map {R} {Q} f (p ∷ q ∷ qs) h = (f p q h.0, neighbours_map {R = R} {Q = Q} f (q ∷ qs) h.1)

  pub neighbours_of : (P : A → Type 0) (ss : List A) → All P ss → Neighbours (λ (p q : A). P p × P q) ss
  neighbours_of P [] h = tt
  neighbours_of P (p ∷ []) h = tt
  neighbours_of P (p ∷ q ∷ qs) h = ((h.0, h.1.0), neighbours_of P (q ∷ qs) h.1)

  pub neighbours_both : (R Q : A → A → Type 0) (ss : List A) → Neighbours R ss → Neighbours Q ss → Neighbours (λ (p q : A). R p q × Q p q) ss
  neighbours_both R Q [] h k = tt
  neighbours_both R Q (p ∷ []) h k = tt
  neighbours_both R Q (p ∷ q ∷ qs) h k = ((h.0, k.0), neighbours_both R Q (q ∷ qs) h.1 k.1)

  pub neighbours_every : (R : A → A → Type 0) → ((p q : A) → R p q) → (ss : List A) → Neighbours R ss
  neighbours_every R f [] = tt
  neighbours_every R f (p ∷ []) = tt
  neighbours_every R f (p ∷ q ∷ qs) = (f p q, neighbours_every R f (q ∷ qs))

  pub pairs_neighbours : (R : A → A → Type 0) (ss : List A) → Pairs R ss → Neighbours R ss
  pairs_neighbours R [] r = tt
  pairs_neighbours R (p ∷ []) r = tt
  pairs_neighbours R (p ∷ q ∷ qs) r = (r.0.0, pairs_neighbours R (q ∷ qs) r.1)
