-- Numbers as text: std's decimal text is the listing's.
use Rattle.std.proofs.Common.{◌≡◌, ℕ, suc, ◌+◌, ◌/◌, ◌%◌, ◌<◌, ◌≤◌, List, [], ◌∷◌, ◌++◌, arith, sym, ap, ◌∙◌}
use Rattle.std.proofs.lemmas.Fmt.{decimal_by_steps}
use Rattle.std.specs.Fmt.{decimal as std_decimal, signed_decimal}
use lib.IntN.{ℤ, pos, negsuc}
use lib.Signed.{mag}
use mir.Syntax.{w32}
use mir.Val.{SFits, to_z, of_z}
use mir.Facts.{to_z-of_z}
use Rattle.listing.specs.Listing.{decimal, decimal_word}
use Rattle.listing.proofs.Decimal.{decimal_small, decimal_large}

pub same_decimal : (n : ℕ) → n < 18446744073709551616 → std_decimal n ≡ decimal n
same_decimal = decimal_by_steps (λ (n : ℕ) (ds : List ℕ). ds ≡ decimal n)
    (λ (n : ℕ) (l : n < 10). sym (decimal_small n l))
    (λ (n : ℕ) (ds : List ℕ) (l : 10 ≤ n) (h : ds ≡ decimal (n / 10)). ap (λ (x : List ℕ). x ++ ((48 + n % 10) ∷ [])) h ∙ sym (decimal_large n l))

pub same_word : (z : ℤ) → mag z < 2147483648 → signed_decimal z ≡ decimal_word z
unfolding decimal_word
same_word (pos n) l = same_decimal n (omega arith)
same_word (negsuc n) l = ap (λ (t : List ℕ). 45 ∷ t) (same_decimal (suc n) (omega arith))

-- a word that a call takes
pub same_read : (z : ℤ) → SFits w32 z → signed_decimal (to_z w32 (of_z w32 z)) ≡ decimal_word z
same_read z f = ap signed_decimal (to_z-of_z f) ∙ same_word z f.sfits
