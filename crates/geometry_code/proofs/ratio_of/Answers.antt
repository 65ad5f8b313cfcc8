use mathlib.Core.Logic.{◌⊎◌, inl, inr}
use lib.IntN.{pos}
use lib.Signed.{◌<ℤ◌}
use Rattle.std.specs.declared.cmp.Ordering.TheVariants.{Less, Equal, Greater}
use Rattle.integer.proofs.Linear.{zarith}
use Rattle.geometry_code.proofs.Branches.{ratio-at, ratio_nowhere, sign_is}
use Rattle.geometry_code.proofs.ratio_of.Goals as goal

pub returns-in-Equal : goal.returns-in-Equal
returns-in-Equal c =
    let s = c.args in
    ratio_nowhere s.l s.m c.meeting_of-k.result c.meeting_of-k.ensures (sign_is Equal c.meeting_of-k.result.det.v c.of.ensures.v_value c.compare.ensures c.in-Equal.is)

pub returns-in-Less : goal.returns-in-Less
returns-in-Less c =
    let s = c.args in
    let d = c.meeting_of-k.result.det.v in
    let sign : (d <ℤ pos 0) ⊎ (pos 0 <ℤ d) = elim c.in-Less.is [
      | inl e ↦ inl (sign_is Less d c.of.ensures.v_value c.compare.ensures e)
      | inr e ↦ inr (sign_is Greater d c.of.ensures.v_value c.compare.ensures e)
    ] in
    ratio-at s.l s.m c.meeting_of-k.result c.meeting_of-k.ensures (λ e. elim sign [ inl h ↦ omega (zarith, e) | inr h ↦ omega (zarith, e) ])
