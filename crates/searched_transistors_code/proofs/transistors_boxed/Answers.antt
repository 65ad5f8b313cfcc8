use mathlib.Core.Path.{sym, ◌∙◌}
use lib.ListN.{length}
use lib.IntN.{pos}
use Rattle.records.proofs.Buffer.{blank_of}
use Rattle.calls.specs.Transistors.{three_disjoint}
use Rattle.calls.proofs.Checks.{Buffers, buffers_ready}
use Rattle.calls.proofs.Overlaps.{small_three}
use Rattle.calls.proofs.Transistors.{searched_refused}
use Rattle.rows_code.proofs.Cleared.{small_refused, cleared-length, cleared_borrowed}
use Rattle.disjoint_code.proofs.Rows.{layer_few}
use Rattle.searched_transistors_code.proofs.transistors_boxed.Goals as goal

pub returns-in-Err : goal.returns-in-Err
returns-in-Err c =
    let s = c.args in
    let h = c.requires.boxed_layer in
    let e = sym (c.in-Err.ensures ∙ (λ j. three_disjoint (c.new.ensures.0 j) (c.new-2.ensures.0 j) (c.new-3.ensures.0 j))) in
    record { transistors_searched = searched_refused s.collectors.now s.bases.now s.emitters.now s.list.now s.out.now s.scratch.now e; small = small_refused e (small_three s.collectors.now s.bases.now (layer_few h.0) (layer_few h.1) s.emitters.now (layer_few h.2)) }

pub extract_into-requires : goal.extract_into-requires
extract_into-requires c =
    let s = c.args in
    let buffers = buffers_ready (length s.out.now) (length s.scratch.now) c.requires.scratch_value in
    let h = c.requires.boxed_layer in
    let z = c.clear_both in
    let m = cleared-length z.new.out (length s.out.now) z.ensures.0 in
    let n = cleared-length z.new.scratch (length s.scratch.now) z.ensures.1 in
    record {
      boxed_layer = (h.0, h.1, h.2, blank_of 0 c.fill.new.self (length s.list.now) (c.fill.ensures.after (λ y h. h)));
      borrowed = (cleared_borrowed z.new.out (length s.out.now) z.ensures.0, buffers.few);
      scratch_for = (blank_of (pos 0) z.new.scratch (length s.scratch.now) z.ensures.1, n ∙ buffers.same ∙ sym m);
    }
