use mathlib.Core.Path.{◌≡◌, refl}
use mathlib.Core.List.{[], ◌∷◌}
use Prim.Native.Nat.{◌+◌}
use native.Mathlib.Omega.{arith}
use lib.IntN.{pos}
use lib.ListN.{get_or}
use lib.Seq.{slice}
use mir.Syntax.{w32}
use mir.Val.{SFits}
use borrow.Author.Rules.{rules}
use Rattle.listing.specs.Listing.{decimal_word, separator, field}
use Rattle.listing_code.proofs.Texts.{begin, room_of, further, room_last, complete, field_is, blank_after, newline_after}
use Rattle.listing_code.proofs.Numbers.{same_read}
use Rattle.listing_code.proofs.Sizes.{field-length}
use Rattle.listing_code.proofs.put_field.Goals as goal
use Rattle.listing_code.proofs.put_field.Goals.{then-j-end, else-j-end}

pub put_number-next-requires : goal.put_number-next-requires
put_number-next-requires c =
    let s = c.args.words.now in
    let fits : SFits w32 (get_or s c.args.j (pos 0)) = search rules in
    let h = begin c.args.out.now c.args.at (field s c.args.j c.args.end) (omega (arith, field-length s c.args.j c.args.end fits.sfits, c.requires.2)) in
    rw (same_read (get_or s c.args.j (pos 0)) fits) (room_of (decimal_word (get_or s c.args.j (pos 0))) (separator (slice (c.args.j + 1) c.args.end s) ∷ []) h (field_is s c.args.j c.args.end _ refl))

pub put_text-requires : goal.put_text-requires
put_text-requires c =
    let s = c.args.words.now in
    let fits : SFits w32 (get_or s c.args.j (pos 0)) = search rules in
    let e : c.if-j-end.put_text.now ≡ separator (slice (c.args.j + 1) c.args.end s) ∷ [] =
    elim c.if-j-end.branch [ then-j-end w ↦ let b = blank_after s c.args.j c.args.end w.if-j-end.true c.requires.1 in cc | else-j-end w ↦ let b = newline_after s c.args.j c.args.end c.requires.0 w.if-j-end.false in cc ] in
    let h = begin c.args.out.now c.args.at (field s c.args.j c.args.end) (omega (arith, field-length s c.args.j c.args.end fits.sfits, c.requires.2)) in
    room_last (further (decimal_word (get_or s c.args.j (pos 0))) c.if-j-end.put_text.now h (field_is s c.args.j c.args.end _ e) (rw (same_read (get_or s c.args.j (pos 0)) fits) at c.put_number-next.ensures))

pub returns : goal.returns
returns c =
    let s = c.args.words.now in
    let fits : SFits w32 (get_or s c.args.j (pos 0)) = search rules in
    let e : c.if-j-end.put_text.now ≡ separator (slice (c.args.j + 1) c.args.end s) ∷ [] =
    elim c.if-j-end.branch [ then-j-end w ↦ let b = blank_after s c.args.j c.args.end w.if-j-end.true c.requires.1 in cc | else-j-end w ↦ let b = newline_after s c.args.j c.args.end c.requires.0 w.if-j-end.false in cc ] in
    let f = field-length s c.args.j c.args.end fits.sfits in
    let h = begin c.args.out.now c.args.at (field s c.args.j c.args.end) (omega (arith, f, c.requires.2)) in
    let w = complete (further (decimal_word (get_or s c.args.j (pos 0))) c.if-j-end.put_text.now h (field_is s c.args.j c.args.end _ e) (rw (same_read (get_or s c.args.j (pos 0)) fits) at c.put_number-next.ensures)) c.put_text.ensures in
    record { wrote = w; within = omega (arith, w.0, f) }
