use mathlib.Core.Path.{◌∙◌, ap}
use lib.ListN.{length}
use lib.IntN.{ℤ}
use mir.Facts.{to_z-of_z}
use Rattle.overlay.specs.Overlay.{overlay, tagged}
use Rattle.overlay_code.proofs.Within.{of_both}
use Rattle.sources_code.specs.Code.{with_sources}
use Rattle.bearing_code.proofs.Bearing.{filled_bearing}
use Rattle.bearing_code.proofs.common_parts.Goals as goal

pub overlay_into-requires : goal.overlay_into-requires
overlay_into-requires c =
    let h = c.requires in
    (h.0, of_both, h.1)

pub returns : goal.returns
returns c =
    let a = c.args in
    let t = c.overlay_into.new.out in
    let k = filled_bearing a.sources (length a.out.now) a.room (tagged 3 (overlay a.a.shape a.b.shape)) c.in_ok-n.n t c.in_ok-n.ensures in
    (k.0, k.1, c.set_sources.ensures ∙ ap (λ (z : ℤ). with_sources z c.in_ok-n.n t) (to_z-of_z c.ranges.sources) ∙ k.2)
