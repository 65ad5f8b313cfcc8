-- The trapezoids of a layer file's body, as they would stand in memory.
use mathlib.Core.Path.{◌≡◌, sym, ap, ◌∙◌}
use mathlib.Core.List.{List}
use Prim.Native.Nat.{ℕ, ◌/◌, ◌<◌}
use native.Mathlib.Nat.{zero-add}
use native.Mathlib.Omega.{arith}
use lib.ListN.{length, get_or}
use lib.IntN.{ℤ}
use Rattle.lists.proofs.Lists.{all_of}
use Rattle.records.specs.Limits.{file_width}
use Rattle.records.specs.Records.{record_at, records, count, words_of}
use Rattle.records.proofs.Records.{records_words, length_from}
use Rattle.geometry.specs.declared.Trapezoid.{Trapezoid}
use Rattle.geometry.specs.Trapezoids.{trapezoid_codec, layer_of}
use Rattle.geometry.proofs.Trapezoids.{trapezoid_readable}
use Rattle.files.specs.Formats.{file_words}
use Rattle.files.specs.Contents.{file_codec}
use Rattle.files.proofs.Reading.{at_from, length_file}

abbrev pub in_memory : List ℕ → List ℤ
in_memory bs = words_of trapezoid_codec (records file_codec (file_words bs))

module _ (bs : List ℕ) where
  pub layer_is : layer_of (in_memory bs) ≡ records file_codec (file_words bs)
  layer_is = records_words trapezoid_codec trapezoid_readable (records file_codec (file_words bs)) (all_of (λ (t : Trapezoid). Unit {0}) (λ t. tt) (records file_codec (file_words bs)))

  pub count_is : count trapezoid_codec (in_memory bs) ≡ length bs / 4 / file_width
  count_is =
      sym (length_from trapezoid_codec (count trapezoid_codec (in_memory bs)) (in_memory bs) 0) ∙ ap length layer_is
      ∙ length_from file_codec (count file_codec (file_words bs)) (file_words bs) 0 ∙ ap (λ (n : ℕ). n / file_width) (length_file bs)

  pub at_is : (i : ℕ) → i < length bs / 4 / file_width → record_at trapezoid_codec (in_memory bs) i ≡ record_at file_codec (file_words bs) i
  at_is i l =
      let z = record_at file_codec (file_words bs) 0 in
      let n : length (file_words bs) / file_width ≡ length bs / 4 / file_width = ap (λ (k : ℕ). k / file_width) (length_file bs) in
      sym (at_from trapezoid_codec (count trapezoid_codec (in_memory bs)) (in_memory bs) 0 i z (omega (arith, count_is)) ∙ ap (record_at trapezoid_codec (in_memory bs)) (zero-add i))
      ∙ ap (λ (ts : List Trapezoid). get_or ts i z) layer_is ∙ at_from file_codec (count file_codec (file_words bs)) (file_words bs) 0 i z (omega (arith, n)) ∙ ap (record_at file_codec (file_words bs)) (zero-add i)
