-- Item 4's rules, one ring or polygon at a time. Assumes nothing.
use Rattle.std.specs.Prelude.{Err, Ok}
use mathlib.Core.Path.{◌≡◌, refl, sym, ◌∙◌, ap, subst}
use mathlib.Core.Bool.{Bool, true, false, not, cond, ◌||◌}
use mathlib.Core.List.{List, [], ◌∷◌}
use Prim.Native.Nat.{suc}
use lib.Dec.{T}
use Rattle.geom.specs.declared.Point.{Point}
use Rattle.rules.specs.declared.Location.{Location}
use Rattle.rules.specs.declared.Location.TheVariants.{Outside, Inside, OnBoundary}
use Rattle.rules.specs.declared.Refusal.{Refusal}
use Rattle.rules.specs.Edges.{edges_of, winding, on_edge}
use Rattle.rules.specs.Lists.{any_of, count_of, is_odd, xor}
use Rattle.rules.specs.Replies.{is_nonzero, ring_reply, by_hole, holes_reply, within_outer, polygon_reply, stronger, list_reply, tree_reply}
use Rattle.rules.proofs.Flags.{xor_none}
use Rattle.rules.proofs.FourRays.{odd_suc}
use Rattle.rings.specs.Places.{is_inside, is_boundary, flipped_by}
use Rattle.rules.specs.Answering.{Reply}

-- ---- holes
-- no hole so far decided
abbrev pub Undecided : List (List Point) → Point → List (List Point) → Type 0
Undecided holes p later = holes_reply holes p ≡ holes_reply later p

-- a hole that leaves the point inside passes it on
passes : (l later : Location) → is_inside (by_hole l Inside) ≡ true → by_hole l later ≡ later
passes Outside later e = refl
passes Inside later e = absurd (subst T (sym e) tt)
passes OnBoundary later e = absurd (subst T (sym e) tt)

decides : (l later : Location) → is_inside (by_hole l Inside) ≡ false → by_hole l later ≡ by_hole l Inside
decides Outside later e = absurd (subst T e tt)
decides Inside later e = refl
decides OnBoundary later e = refl

pub hole_passed : (holes : List (List Point)) (p : Point) (hole : List Point) (later : List (List Point)) → is_inside (by_hole (ring_reply hole p) Inside) ≡ true → Undecided holes p (hole ∷ later) → Undecided holes p later
unfolding holes_reply
hole_passed holes p hole later inside u = u ∙ passes (ring_reply hole p) (holes_reply later p) inside

pub hole_decides : (holes : List (List Point)) (p : Point) (hole : List Point) (later : List (List Point)) → is_inside (by_hole (ring_reply hole p) Inside) ≡ false → Undecided holes p (hole ∷ later) → by_hole (ring_reply hole p) Inside ≡ holes_reply holes p
unfolding holes_reply
hole_decides holes p hole later decided u = sym (u ∙ decides (ring_reply hole p) (holes_reply later p) decided)

pub no_hole : (holes : List (List Point)) (p : Point) → Undecided holes p [] → Inside ≡ holes_reply holes p
unfolding holes_reply
no_hole holes p u = sym u

-- ---- polygons and lists
pub none_polygon : (p : Point) (rings : List (List Point)) → rings ≡ [] → Outside ≡ polygon_reply rings p
unfolding polygon_reply
none_polygon p rings e = sym (ap (λ r. polygon_reply r p) e)

pub outer_first : (p : Point) (rings : List (List Point)) (outer : List Point) (holes : List (List Point)) → rings ≡ outer ∷ holes → polygon_reply rings p ≡ within_outer (ring_reply outer p) (holes_reply holes p)
unfolding polygon_reply
outer_first p rings outer holes e = ap (λ r. polygon_reply r p) e

pub outer_decides : (outer holes : Location) → is_inside outer ≡ false → within_outer outer holes ≡ outer
outer_decides Outside holes e = refl
outer_decides Inside holes e = absurd (subst T e tt)
outer_decides OnBoundary holes e = refl

pub outer_inside : (outer holes : Location) → is_inside outer ≡ true → within_outer outer holes ≡ holes
outer_inside Outside holes e = absurd (subst T (sym e) tt)
outer_inside Inside holes e = refl
outer_inside OnBoundary holes e = absurd (subst T (sym e) tt)

-- the strongest reply so far, and the polygons still to come
abbrev pub Weighed : List (List (List Point)) → Point → Location → List (List (List Point)) → Type 0
Weighed polygons p best later = list_reply polygons p ≡ stronger best (list_reply later p)

stronger_assoc : (a b c : Location) → stronger a (stronger b c) ≡ stronger (stronger a b) c
stronger_assoc Outside b c = refl
stronger_assoc Inside b c = refl
stronger_assoc OnBoundary Outside c = refl
stronger_assoc OnBoundary Inside c = refl
stronger_assoc OnBoundary OnBoundary Outside = refl
stronger_assoc OnBoundary OnBoundary Inside = refl
stronger_assoc OnBoundary OnBoundary OnBoundary = refl

pub polygon_weighed : (polygons : List (List (List Point))) (p : Point) (best : Location) (polygon : List (List Point)) (later : List (List (List Point))) → Weighed polygons p best (polygon ∷ later) → Weighed polygons p (stronger best (polygon_reply polygon p)) later
unfolding list_reply
polygon_weighed polygons p best polygon later w = w ∙ stronger_assoc best (polygon_reply polygon p) (list_reply later p)

stronger_none : (a : Location) → stronger a Outside ≡ a
stronger_none Outside = refl
stronger_none Inside = refl
stronger_none OnBoundary = refl

pub all_weighed : (polygons : List (List (List Point))) (p : Point) (best : Location) → Weighed polygons p best [] → best ≡ list_reply polygons p
unfolding list_reply
all_weighed polygons p best w = sym (w ∙ stronger_none best)

pub only_inside : (l : Location) → is_inside l ≡ true → l ≡ Inside
only_inside Outside e = absurd (subst T (sym e) tt)
only_inside Inside e = refl
only_inside OnBoundary e = absurd (subst T (sym e) tt)

pub inside_wins : (polygons : List (List (List Point))) (p : Point) (best : Location) (later : List (List (List Point))) → is_inside best ≡ true → Weighed polygons p best later → Inside ≡ list_reply polygons p
inside_wins polygons p best later e w = sym (w ∙ ap (λ l. stronger l (list_reply later p)) (only_inside best e))

-- ---- replies
pub same_place : (a b : Location) → ◌≡◌ {A = Reply} (Ok a) (Ok b) → a ≡ b
same_place a b e = (cc)

pub at_refused : (a : Location) (r : Refusal) → ◌≡◌ {A = Reply} (Ok a) (Err r) → ⊥
at_refused a r e = (cc)

pub same_refused : (r s : Refusal) → ◌≡◌ {A = Reply} (Err r) (Err s) → r ≡ s
same_refused r s e = (cc)
