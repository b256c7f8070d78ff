-- `rings::ring::ring_reply` meets its contract: the place that the winding number tells.
use mathlib.Core.Path.{◌∙◌, ap}
use Rattle.rules.specs.Plans.{corners_of}
use Rattle.rings.specs.Crossings.{ring_winding, place_by}
use Rattle.rings.specs.Parts.{part}
use Rattle.rings.proofs.Rounds.{on_grid, place_is}
use Rattle.rings.proofs.ring.ring_reply.Goals as goal

pub returns : goal.returns
returns c = let a = c.args in
    c.place_by.ensures ∙ ap place_by (c.ring_winding.ensures ∙ ap (λ ring. ring_winding ring a.p) (on_grid (part (corners_of a.coordinates.now) a.first a.end)))
    ∙ place_is (part (corners_of a.coordinates.now) a.first a.end) a.p
