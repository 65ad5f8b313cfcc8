-- Positions with names, in order: numerators, denominators and names, each in an array of its own.
use Rattle.std.specs.Prelude.{◌≡◌, Bool, List, [], ◌∷◌, map, ℕ, ◌+◌, ◌<◌, ◌≤◌, length, get_or, take, ℤ, pos, nat_abs}
use Rattle.integer.specs.Fraction.{Fraction, Proper, before}
use Rattle.lists.specs.Lists.{All}
use Rattle.levels.specs.Levels.{insert, levels}
use Rattle.sweep.specs.Sweep.{earlier}
use Rattle.geometry.specs.declared.Position.{Position}
use Rattle.geometry.specs.Limit.{coordinate_limit, det_bound, numer_bound}

pub record Entry : Type 0 where
  pub num : ℤ
  pub den : ℤ
  pub name : ℕ

abbrev pub key_of : Entry → Fraction
key_of e = record { num = e.num; den = e.den }

abbrev pub entry_of : Position → ℕ → Entry
entry_of p m = record { num = p.num.v; den = p.den.v; name = m }

abbrev pub sooner : Entry → Entry → Bool
sooner e f = before (key_of e) (key_of f)

abbrev pub fractions : List ℤ → List ℤ → List Fraction
fractions [] b = []
fractions (n ∷ a) [] = []
fractions (n ∷ a) (d ∷ b) = record { num = n; den = d } ∷ fractions a b

abbrev pub zipped : List ℤ → List ℤ → List ℕ → List Entry
zipped [] b c = []
zipped (n ∷ a) [] c = []
zipped (n ∷ a) (d ∷ b) [] = []
zipped (n ∷ a) (d ∷ b) (m ∷ c) = record { num = n; den = d; name = m } ∷ zipped a b c

-- the first n
abbrev pub stored : ℕ → List ℤ → List ℤ → List ℕ → List Entry
stored n a b c = zipped (take n a) (take n b) (take n c)

-- entry number i
abbrev pub entry_at : List ℤ → List ℤ → List ℕ → ℕ → Entry
entry_at a b c i = record { num = get_or a i (pos 0); den = get_or b i (pos 0); name = get_or c i 0 }

-- `SmallPosition` of a position that stands for x
pub record SmallKey (x : Fraction) : Type 0 where
  pub num_small : nat_abs x.num ≤ numer_bound coordinate_limit
  pub den_small : nat_abs x.den ≤ det_bound coordinate_limit
  pub proper : Proper x

-- there are n, and they are comparable
pub record Stored (n : ℕ) (a b : List ℤ) : Type 0 where
  pub nums : n ≤ length a
  pub dens : n ≤ length b
  pub small : All SmallKey (fractions (take n a) (take n b))

-- there is room for one more
pub record Room (n : ℕ) (a b : List ℤ) (c : List ℕ) : Type 0 where
  pub nums : n < length a
  pub dens : n < length b
  pub names : n < length c

-- ---- entries that name events, or anything else that has a position
module _ {K : Type 0} (position : K → Fraction) (name : Entry → K) where
  -- e stands where what it names does
  pub record Stands (e : Entry) : Type 0 where
    pub is : key_of e ≡ position (name e)
    pub small : SmallKey (key_of e)

  -- the first n name the levels of ks
  pub record Names (ks : List K) (n : ℕ) (a b : List ℤ) (c : List ℕ) : Type 0 where
    pub is : map name (stored n a b c) ≡ levels (earlier position) ks
    pub stand : All Stands (stored n a b c)

-- ---- one more
-- r are there after e has been put in
pub record Grown (n : ℕ) (a b : List ℤ) (c : List ℕ) (e : Entry) (r : ℕ) (a' b' : List ℤ) (c' : List ℕ) : Type 0 where
  pub is : stored r a' b' c' ≡ insert sooner e (stored n a b c)
  pub upto : r ≤ n + 1
