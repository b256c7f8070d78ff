-- The holes of a polygon, one after another: none so far decides, or one does and no later one is looked at. Assumes nothing.
use Rattle.std.specs.Prelude.{IsErrAnd, Err, Ok}
use mathlib.Core.Path.{◌≡◌, refl, sym, ◌∙◌, ap, subst}
use mathlib.Core.Bool.{true, false}
use mathlib.Core.Logic.{inl}
use mathlib.Core.List.{List}
use Prim.Native.Nat.{ℕ, ◌+◌, ◌*◌, ◌/◌, ◌≤◌, ◌<◌}
use native.Mathlib.Omega.{arith}
use lib.IntN.{ℤ}
use lib.ListN.{length, drop, get_or}
use Rattle.geom.specs.declared.Point.{Point}
use Rattle.rules.specs.declared.Location.{Location}
use Rattle.rules.specs.declared.Location.TheVariants.{Inside}
use Rattle.rules.specs.declared.Refusal.TheVariants.{Unsound}
use Rattle.rules.specs.Plans.{corners_of}
use Rattle.rules.specs.Replies.{ring_reply, by_hole, holes_reply}
use Rattle.rings.specs.Parts.{part}
use Rattle.rings.specs.Places.{is_inside}
use Rattle.rings.proofs.Parts.{part_none}
use Rattle.rings.specs.Crossings.{place_by}
use Rattle.rings.proofs.Rounds.{empty, place_is}
use Rattle.outlines.specs.declared.rows.Form.{Form}
use Rattle.outlines.specs.Rows.{parts_from, EndSays}
use Rattle.outlines.specs.Shapes.{Shown}
use Rattle.outlines.proofs.Progress.{misfit_shown, Reached, begun, refused, over, ahead, onward}
use Rattle.outlines.proofs.Steps.{Undecided, hole_passed, hole_decides, no_hole, only_inside}
use Rattle.rules.specs.Answering.{Reply}

module _ (form : Form) (coordinates : List ℤ) (rings : List ℕ) (start : ℕ) (p : Point) where
  abbrev pub Open : ℕ → ℕ → Type 0
  Open at k = Reached form (length coordinates / 2) start (corners_of coordinates) rings at k (Undecided (parts_from form (corners_of coordinates) start rings) p)

  -- the holes before k leave the point inside
  pub record Passed (place : Location) (at k : ℕ) : Type 0 where
    pub still : place ≡ Inside
    pub reached : Open at k

  -- what the answer says
  abbrev pub HolesSay : Reply → Type 0
  HolesSay r = Shown form (length coordinates / 2) start rings (holes_reply (parts_from form (corners_of coordinates) start rings) p) r

  pub none_passed : 2 * start ≤ length coordinates → Passed Inside start 0
  none_passed h = record { still = refl; reached = begun form (length coordinates / 2) start (corners_of coordinates) rings (Undecided (parts_from form (corners_of coordinates) start rings) p) (omega arith) refl }

  module _ (place : Location) (at k : ℕ) (g : Passed place at k) where
    pub misfit_refused : (r : Reply) → IsErrAnd r (λ e. e ≡ Unsound) → k < length rings → EndSays form (get_or rings k 0) at (length coordinates / 2) (Err (record {})) → HolesSay r
    misfit_refused r is h says = misfit_shown _ _ _ _ _ r is (refused form (length coordinates / 2) start (corners_of coordinates) rings at k (Undecided (parts_from form (corners_of coordinates) start rings) p) g.reached h says)

    pub all_passed : length rings ≤ k → HolesSay (Ok place)
    all_passed h =
        record {
          placed = inl (place, refl);
          exact = λ w. ap Ok (g.still ∙ no_hole (parts_from form (corners_of coordinates) start rings) p (over form (length coordinates / 2) start (corners_of coordinates) rings at k (Undecided (parts_from form (corners_of coordinates) start rings) p) g.reached h w));
        }

    -- hole k ends at `end`, and leaves the point at `next`
    module _ (end : ℕ) (h : k < length rings) (says : EndSays form (get_or rings k 0) at (length coordinates / 2) (Ok end)) where
      module _ (next : Location) (is : next ≡ by_hole (ring_reply (part (corners_of coordinates) at end) p) Inside) where
        pub passed : is_inside next ≡ true → Passed next end (k + 1)
        passed inside =
            record {
              still = only_inside next inside;
              reached = onward form (length coordinates / 2) start (corners_of coordinates) rings at k (Undecided (parts_from form (corners_of coordinates) start rings) p) g.reached end h says (Undecided (parts_from form (corners_of coordinates) start rings) p) (λ later. hole_passed (parts_from form (corners_of coordinates) start rings) p (part (corners_of coordinates) at end) later (ap is_inside (sym is) ∙ inside));
            }

        pub decided : is_inside next ≡ false → HolesSay (Ok next)
        decided away =
            record {
              placed = inl (next, refl);
              exact = λ w. ap Ok (is ∙ hole_decides (parts_from form (corners_of coordinates) start rings) p (part (corners_of coordinates) at end) (parts_from form (corners_of coordinates) end (drop (k + 1) rings)) (ap is_inside (sym is) ∙ away) (ahead form (length coordinates / 2) start (corners_of coordinates) rings at k (Undecided (parts_from form (corners_of coordinates) start rings) p) g.reached end h says w));
            }

      -- a hole of no corners
      pub none_there : at ≡ end → Passed place at (k + 1)
      none_there e =
          record {
            still = g.still;
            reached = subst (λ n. Open n (k + 1)) (sym e) (passed Inside (ap (λ l. by_hole l Inside) (ap place_by (empty (part (corners_of coordinates) at end) p (ap (part (corners_of coordinates) at) (sym e) ∙ part_none (corners_of coordinates) at)) ∙ place_is (part (corners_of coordinates) at end) p)) refl).reached;
          }
