-- The table of the point question (paper 02, request (iii)): "a printed table of five codes by four memberships", and what is claimed of it. The table itself is
-- `ANSWERS` in crates/point_code/src/lib.rt.
use Rattle.std.specs.Prelude.{◌≡◌, Bool, true, false, ◌&&◌, List, [], ◌∷◌, ◌++◌, ◌↔◌, ℕ, zero, suc, ◌<◌, T, length, get_or}
use Rattle.std.specs.Bool.{beq}
use Rattle.boolean.specs.Operations.{codes, code_at, says}
use Rattle.chains.specs.Chains.{Told, entry_at, evaluate}

-- whether a point lies in A, and whether it lies in B
pub record Membership : Type 0 where
  pub first : Bool
  pub second : Bool

-- "four memberships", by the numbers of the columns: in neither, in A only, in B only, in both
abbrev pub memberships : List Membership
memberships = record { first = false; second = false } ∷ record { first = true; second = false } ∷ record { first = false; second = true } ∷ record { first = true; second = true } ∷ []

-- the membership with the number n
abbrev pub membership_at : ℕ → Membership
membership_at n = get_or memberships n (record { first = true; second = true })

-- the entry in the row of a code and the column of a membership
abbrev pub table_entry : List (List Bool) → ℕ → ℕ → Bool
table_entry rows code column = get_or (get_or rows code []) column false

-- "the one the tally would add": after whatever entries, a success with this code adds it, where the entries at the success's two numbers are this membership
abbrev pub Adds : ℕ → Membership → Bool → Type 0
Adds code m entry =
    (entries : List Bool) (t : Told) → T t.success → t.code ≡ code → entry_at entries t.first ≡ m.first → entry_at entries t.second ≡ m.second
    → evaluate entries (t ∷ []) ≡ entries ++ (entry ∷ [])

-- "each of its twenty entries is the one the tally would add"
pub record IsAnswerTable (rows : List (List Bool)) : Type 0 where
  pub adds : (code column : ℕ) → code < length codes → column < length memberships → Adds code (membership_at column) (table_entry rows code column)

-- ---- the test
-- what the set words say of a point with this membership
abbrev pub says_for : ℕ → Membership → Bool
says_for code m = says (code_at code) m.first m.second

-- the n numbers from 0 on pass
abbrev pub all_below : ℕ → (ℕ → Bool) → Bool
all_below zero f = true
all_below (suc n) f = f 0 && all_below n (λ i. f (suc i))

abbrev pub is_entry : List (List Bool) → ℕ → ℕ → Bool
is_entry rows code column = beq (table_entry rows code column) (says_for code (membership_at column))

abbrev pub is_answer_table : List (List Bool) → Bool
is_answer_table rows = all_below (length codes) (λ code. all_below (length memberships) (is_entry rows code))

-- ---- what is proved, each under its name in lower case in proofs/Memberships.antt
-- the evaluation adds an entry exactly if the set words say it
abbrev pub AddsExact : Type 0
AddsExact = (code : ℕ) (m : Membership) (entry : Bool) → Adds code m entry ↔ (entry ≡ says_for code m)

-- the test over the whole table tells of each entry
abbrev pub AnswerTableExact : Type 0
AnswerTableExact = (rows : List (List Bool)) → T (is_answer_table rows) ↔ IsAnswerTable rows
