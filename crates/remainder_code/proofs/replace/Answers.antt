use Rattle.remainder_code.proofs.Moving.{remainder_fit, remainder_count, remainder_first, remainder_borrowed, remainder_folded, remainder_back}
use Rattle.remainder_code.proofs.replace.Goals as goal

pub minus_into-f-requires : goal.minus_into-f-requires
minus_into-f-requires c =
    let m = c.move_into in
    let a = c.args in
    record { all = (remainder_fit a.out.now a.scratch.now m.new.out m.new.scratch a.n a.room c.requires.placed_as.1 c.requires.scratch_for.0 c.requires.scratch_for.1 m.ensures.out_after m.ensures.scratch_after, remainder_count a.out.now a.scratch.now m.new.out m.new.scratch a.n a.room c.requires.placed_as.1 c.requires.scratch_for.0 c.requires.scratch_for.1 m.ensures.out_after m.ensures.scratch_after); placed_as = (c.requires.placed_as.0, remainder_borrowed a.out.now a.scratch.now m.new.out m.new.scratch a.n a.room c.requires.placed_as.1 c.requires.scratch_for.0 c.requires.scratch_for.1 m.ensures.out_after m.ensures.scratch_after); first_placed = remainder_first a.out.now a.scratch.now m.new.out m.new.scratch a.n a.room c.requires.placed_as.1 c.requires.scratch_for.0 c.requires.scratch_for.1 m.ensures.out_after m.ensures.scratch_after _ a.first c.requires.first_placed }

pub returns : goal.returns
returns c =
    let m = c.move_into in
    let a = c.args in
    let f = c.minus_into-f in
    record { minus_written = remainder_folded a.out.now a.scratch.now m.new.out m.new.scratch a.n a.room c.requires.placed_as.1 c.requires.scratch_for.0 c.requires.scratch_for.1 m.ensures.out_after m.ensures.scratch_after a.b.shape f.result f.new.out f.ensures; blank = remainder_back a.out.now a.scratch.now m.new.out m.new.scratch a.n a.room c.requires.placed_as.1 c.requires.scratch_for.0 c.requires.scratch_for.1 m.ensures.out_after m.ensures.scratch_after c.fill.new.self (c.fill.ensures.after (λ y h. h)) }
