-- From what was sent to what is on file.
use mathlib.Core.Path.{◌≡◌, sym, ◌∙◌, ap, subst}
use mathlib.Core.Bool.{Bool}
use mathlib.Core.List.{List, [], ◌∷◌, ◌++◌, map}
use Prim.Native.Nat.{ℕ, zero, suc, ◌*◌, ◌<◌, ◌≤◌}
use native.Mathlib.Omega.{arith}
use lib.Dec.{T}
use lib.IntN.{ℤ}
use lib.ListN.{length, take, get_or, length-map}
use Rattle.lists.specs.Lists.{All}
use Rattle.geometry.specs.declared.Trapezoid.{Trapezoid}
use Rattle.geometry.specs.Trapezoids.{layer_of, LiesInLayer, Disjoint}
use Rattle.sources.specs.Sets.{empty}
use Rattle.sources.specs.Sourced.{shapes, bearing}
use Rattle.sources.proofs.Sourced.{shapes_of}
use Rattle.boolean.specs.Statements.{IsYes}
use Rattle.files.specs.Formats.{file_words}
use Rattle.files.specs.Contents.{layers_of, sourced_layers_of, memory_words, written_words}
use Rattle.files.specs.Outcomes as files
use Rattle.files.specs.Statements.{bytes_written, words_read, WordsHold}
use Rattle.files.proofs.RoundTrip.{written_reads}
use Rattle.files.proofs.Words.{layers_back}
use Rattle.chains.specs.Chains.{Layer, layer_at, held, results, entry_at, evaluation}
use Rattle.chains.specs.Statements.{DisjointLayer}
use Rattle.chains.proofs.Chains.{every_chain}
use Rattle.chains.proofs.Disjoint.{layer_disjoint}
use Rattle.archive.specs.Calls.{WriteCall, WriteAccepted, bytes_by, ReadCall, ReadRight, ReadAccepted, words_by}
use Rattle.archive.specs.Archive.{layer_from, sent, chosen}
use Rattle.archive.specs.Statements.{ArchiveExact}
use Rattle.archive.proofs.Sources.{starting_disjoint, sources_fed}

-- ---- written and read back
module _ (w : WriteCall) (hold : WordsHold w.limit) (written : WriteAccepted w) (r : ReadCall) (more : w.limit ≤ r.limit) (file : r.file ≡ bytes_by w) (kept : ReadRight r) (room : length w.words ≤ length r.out) where
  file_is : r.file ≡ bytes_written w.limit w.words w.out
  file_is = file ∙ ap (λ (o : files.FileOutcome ℕ). take (4 * length (written_words w.words)) o.out) written.kept

  write_done : T (files.is_done (files.write_layers w.limit w.words w.out).answer)
  write_done = subst (λ (o : files.FileOutcome ℕ). T (files.is_done o.answer)) written.kept written.accepted

  read_is : files.observed_file (files.read_answer r.answer) r.out_then ≡ files.read_layers r.limit (bytes_written w.limit w.words w.out) r.out
  read_is = kept ∙ ap (λ (bytes : List ℕ). files.read_layers r.limit bytes r.out) file_is

  back_accepted : ReadAccepted r
  back_accepted =
      let e = ap (λ (o : files.FileOutcome ℤ). o.answer) read_is ∙ (written_reads w.limit r.limit hold more w.words w.out r.out write_done room).0 in
      record { kept = kept; accepted = subst (λ (a : files.Answer). T (files.is_done a)) (sym e) write_done }

  back_words : words_by r ≡ words_read r.limit (bytes_written w.limit w.words w.out) r.out
  back_words =
      ap (λ (o : files.FileOutcome ℤ). take (length (memory_words (file_words r.file))) o.out) read_is
      ∙ ap (λ (bytes : List ℕ). take (length (memory_words (file_words bytes))) (files.read_layers r.limit (bytes_written w.limit w.words w.out) r.out).out) file_is

  back_layers : layers_of (words_by r) ≡ layers_of w.words
  back_layers = ap layers_of back_words ∙ (written_reads w.limit r.limit hold more w.words w.out r.out write_done room).2

  back_sets : sourced_layers_of (words_by r) ≡ map (bearing empty) (layers_of w.words)
  back_sets = ap sourced_layers_of back_words ∙ (written_reads w.limit r.limit hold more w.words w.out r.out write_done room).3

-- ---- the layers chosen
chosen_at : (layers : List Layer) (numbers : List ℕ) (i : ℕ) → i < length numbers → get_or (map shapes (chosen layers numbers)) i [] ≡ layer_of (layer_at layers (get_or numbers i 0))
chosen_at layers [] i h = absurd (omega arith)
chosen_at layers (n ∷ numbers) zero h = shapes_of (layer_at layers n)
chosen_at layers (n ∷ numbers) (suc i) h = chosen_at layers numbers i (omega arith)

-- a layer past the starting ones, or one of those, is disjoint
held_disjoint : (start more : List Layer) → All DisjointLayer more → (n : ℕ) → (n < length start → DisjointLayer (layer_at start n)) → DisjointLayer (layer_at (start ++ more) n)
held_disjoint [] more h n f = layer_disjoint more h n
held_disjoint (A ∷ start) more h zero f = f (omega arith)
held_disjoint (A ∷ start) more h (suc n) f = held_disjoint start more h n (λ l. f (omega (arith, l)))

pub archive_exact : ArchiveExact
archive_exact sources accepted calls contracts numbers w hold words written r more file kept room =
    let start = map layer_from sources in
    let p = (every_chain start).0 calls contracts in
    let lent : layers_of w.words ≡ map shapes (chosen (held start calls) numbers) = ap layers_of words ∙ (layers_back (chosen (held start calls) numbers)).1 in
    let layers : layers_of (words_by r) ≡ map shapes (chosen (held start calls) numbers) = back_layers w hold written r more file kept room ∙ lent in
    record {
      read = back_accepted w hold written r more file kept room;
      layers = layers;
      sets = back_sets w hold written r more file kept room ∙ ap (map (bearing empty)) lent;
      points = λ P hP i h.
          subst (λ (ts : List Trapezoid). IsYes (entry_at (evaluation (map (sent P) sources) start calls) (get_or numbers i 0)) (LiesInLayer P ts))
          (sym (ap (λ (tss : List (List Trapezoid)). get_or tss i []) layers ∙ chosen_at (held start calls) numbers i h))
          (subst (λ (ys : List Bool). IsYes (entry_at (evaluation ys start calls) (get_or numbers i 0)) (LiesInLayer P (layer_of (layer_at (held start calls) (get_or numbers i 0)))))
          (sources_fed P hP sources accepted)
          (p.points P hP (get_or numbers i 0)));
      disjoint = λ i h k.
          let n = get_or numbers i 0 in
          subst Disjoint (sym (ap (λ (tss : List (List Trapezoid)). get_or tss i []) layers ∙ chosen_at (held start calls) numbers i h))
          (subst (λ (now : List Layer). DisjointLayer (layer_at now n)) (sym p.unchanged)
          (held_disjoint start (results start calls) p.disjoint n (λ l. starting_disjoint sources accepted n (k (subst (λ (m : ℕ). n < m) (length-map sources layer_from) l)))));
    }
