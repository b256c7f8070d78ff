-- What the calls over a ring table of either form promise: on entries that fit the reply of item 4, and otherwise some place or 15.
use Rattle.std.specs.Prelude.{◌≡◌, Bool, cond, ◌⊎◌, List, map, ℕ, ◌/◌, ℤ, nat_abs, length, Err, Ok}
use Rattle.geom.specs.declared.Point.{Point}
use Rattle.rules.specs.declared.Location.{Location}
use Rattle.rules.specs.declared.Location.TheVariants.{Outside, Inside, OnBoundary}
use Rattle.rules.specs.Edges.{all_edges, on_edge}
use Rattle.rules.specs.Lists.{count_of, is_odd}
use Rattle.rules.specs.declared.Refusal.TheVariants.{Unsound}
use Rattle.outlines.specs.declared.rows.Form.{Form}
use Rattle.rules.specs.Plans.{corners_of}
use Rattle.rules.specs.Replies.{is_nonzero, crosses, list_reply, tree_reply}
use Rattle.rings.specs.Half.{near_doubled}
use Rattle.outlines.specs.Rows.{Within, parts_from}
use Rattle.rules.specs.Answering.{Reply}

-- a place or 15
abbrev pub Placed : Reply → Type 0
Placed r = ((location : Location) × (r ≡ Ok location)) ⊎ (r ≡ Err Unsound)

-- a place or 15, and this place where every entry fits
pub record Shown (form : Form) (limit start : ℕ) (table : List ℕ) (location : Location) (r : Reply) : Type 0 where
  pub placed : Placed r
  pub exact : Within form limit start table → r ≡ Ok location

-- the same of a list, whose polygon table cuts the rings
pub record ListShown (form : Form) (coordinates : List ℤ) (rings polygons : List ℕ) (p : Point) (r : Reply) : Type 0 where
  pub placed : Placed r
  pub exact : Within form (length coordinates / 2) 0 rings → Within form (length rings) 0 polygons
      → r ≡ Ok (list_reply (parts_from form (parts_from form (corners_of coordinates) 0 rings) 0 polygons) p)

-- item 7's reply, of corners doubled where they are in range
unfoldable pub half_near : List (List Point) → Point → Location
half_near rings p =
    cond (on_edge (all_edges (map (map near_doubled) rings)) p) OnBoundary
    (cond (is_odd (count_of (λ e. crosses e p) (all_edges (map (map near_doubled) rings)))) Inside Outside)

-- whether a ring with this winding number turns the parity over, on the half-grid or on the grid: `half_near` counts edges, and the winding
-- number is odd exactly if their number is
abbrev pub turns_over : Bool → ℤ → Bool
turns_over half winding = cond half (is_odd (nat_abs winding)) (is_nonzero winding)

-- the half-grid's reply, or that of a tree
abbrev pub parity_place : Bool → List (List Point) → Point → Location
parity_place half rings p = cond half (half_near rings p) (tree_reply rings p)
