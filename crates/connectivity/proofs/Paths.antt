-- Laws of paths.
use mathlib.Core.Path.{◌≡◌, refl, sym, ◌∙◌, ap, subst}
use mathlib.Core.List.{List, [], ◌∷◌, ◌++◌}
use Prim.Native.Nat.{ℕ}
use Rattle.connectivity.specs.Paths.{Leads, Reachable}

module _ (R : ℕ → ℕ → Type 0) where
  leads_on : (i j k : ℕ) (js ks : List ℕ) → Leads R i js j → Leads R j ks k → Leads R i (js ++ ks) k
  leads_on i j k [] ks e l = subst (λ (x : ℕ). Leads R x ks k) (sym e) l
  leads_on i j k (x ∷ js) ks h l = (h.0, leads_on x j k js ks h.1 l)

  -- what related ones have in common, ones reached have
  leads_same : (f : ℕ → ℕ) → ((i j : ℕ) → R i j → f i ≡ f j) → (i k : ℕ) (js : List ℕ) → Leads R i js k → f i ≡ f k
  leads_same f same i k [] e = ap f e
  leads_same f same i k (j ∷ js) h = same i j h.0 ∙ leads_same f same j k js h.1

  -- and what is kept from one to the next holds at the end
  leads_keeps : (P : ℕ → Type 0) → ((i j : ℕ) → R i j → P j) → (i k : ℕ) (js : List ℕ) → Leads R i js k → P i → P k
  leads_keeps P keep i k [] e h = subst P e h
  leads_keeps P keep i k (j ∷ js) l h = leads_keeps P keep j k js l.1 (keep i j l.0)

pub chain_here : (R : ℕ → ℕ → Type 0) (i : ℕ) → Reachable R i i
chain_here R i = record { through = []; leads = refl }

pub chain_one : (R : ℕ → ℕ → Type 0) (i j : ℕ) → R i j → Reachable R i j
chain_one R i j r = record { through = j ∷ []; leads = (r, refl) }

pub chain_on : {R : ℕ → ℕ → Type 0} {i j k : ℕ} → Reachable R i j → Reachable R j k → Reachable R i k
chain_on {R} {i} {j} {k} c d = record { through = c.through ++ d.through; leads = leads_on R i j k c.through d.through c.leads d.leads }

leads_back : (R : ℕ → ℕ → Type 0) → ((i j : ℕ) → R i j → R j i) → (i k : ℕ) (js : List ℕ) → Leads R i js k → Reachable R k i
leads_back R turn i k [] e = record { through = []; leads = sym e }
leads_back R turn i k (j ∷ js) h = chain_on (leads_back R turn j k js h.1) (chain_one R j i (turn i j h.0))

pub chain_back : {R : ℕ → ℕ → Type 0} → ((i j : ℕ) → R i j → R j i) → {i k : ℕ} → Reachable R i k → Reachable R k i
chain_back {R} turn {i} {k} c = leads_back R turn i k c.through c.leads

pub chain_same : {R : ℕ → ℕ → Type 0} (f : ℕ → ℕ) → ((i j : ℕ) → R i j → f i ≡ f j) → {i k : ℕ} → Reachable R i k → f i ≡ f k
chain_same {R} f same {i} {k} c = leads_same R f same i k c.through c.leads

pub chain_keeps : {R : ℕ → ℕ → Type 0} (P : ℕ → Type 0) → ((i j : ℕ) → R i j → P j) → {i k : ℕ} → Reachable R i k → P i → P k
chain_keeps {R} P keep {i} {k} c h = leads_keeps R P keep i k c.through c.leads h
