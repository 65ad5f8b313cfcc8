-- How two whole numbers stand to each other, as a case of the enum `Ordering`: the meaning, and the test that computes it.
use Rattle.std.specs.Prelude.{◌≡◌, Bool, true, false, ◌↔◌, ℤ, ◌<ℤ◌}
use Rattle.std.specs.Int.Signed.{lt_z}
use Rattle.std.specs.declared.cmp.Ordering.{Ordering}
use Rattle.std.specs.declared.cmp.Ordering.TheVariants.{Less, Equal, Greater}

abbrev pub HasOrder : Ordering → ℤ → ℤ → Type 0
HasOrder Less a b = a <ℤ b
HasOrder Equal a b = a ≡ b
HasOrder Greater a b = b <ℤ a

-- of the tests a < b and b < a
abbrev pub order_by : Bool → Bool → Ordering
order_by true t = Less
order_by false true = Greater
order_by false false = Equal

unfoldable pub order_of : ℤ → ℤ → Ordering
order_of a b = order_by (lt_z a b) (lt_z b a)

-- the test answers a case exactly if that case holds (proofs/Tests.antt: `order_exact`)
abbrev pub OrderExact : Type 0
OrderExact = (o : Ordering) (a b : ℤ) → (order_of a b ≡ o) ↔ HasOrder o a b
