-- The search for an edge by a walk that enters only boxes that hold it: the state of the loop, and what its ends say. Assumes nothing.
use mathlib.Core.Path.{◌≡◌, refl, sym, ap, ◌∙◌}
use mathlib.Core.Bool.{true, cond}
use mathlib.Core.List.{List, [], ◌∷◌}
use Prim.Native.Nat.{ℕ, suc, ◌-◌, ◌<◌}
use native.Mathlib.Omega.{arith}
use borrow.Author.Tests.{ne_eqb}
use lib.Dec.{eqb}
use lib.IntN.{ℤ}
use lib.ListN.{length, get_or}
use Rattle.std.specs.Prelude.{Result, Ok, Err}
use Rattle.geom.specs.declared.Rect.{Rect}
use Rattle.geom.specs.Boxes.{rect_of, holds_rect}
use Rattle.geom.proofs.Boxes.{rect_proper, holds_itself}
use Rattle.rules.specs.declared.Unsound.{Unsound}
use Rattle.rules.specs.Edges.{Edge}
use Rattle.rules.specs.Lists.{count_of}
use Rattle.rules.specs.Nodes.{node_count}
use Rattle.boxes.specs.Boxes.{edge_box}
use Rattle.boxes.specs.Rings.{edge_of, RingEnds}
use Rattle.index.proofs.Soundness.{edge_once}
use Rattle.walk.specs.declared.Cursor.{Cursor}
use Rattle.walk.specs.declared.Query.TheVariants.{Holding}
use Rattle.walk.specs.declared.Step.{Step}
use Rattle.walk.specs.declared.edges.Edge as Found
use Rattle.walk.specs.Edges.{EdgeFound}
use Rattle.walk.specs.Places.{StandsAt, IndexReach, WalkedTo, PlaceSays}
use Rattle.walk.specs.Steps.{WalkSound, Begun, Never, Yields, Ends}
use Rattle.walk.specs.Walks.{Walked}
use Rattle.walk.proofs.Walked.{begun, stepped, never_unsound, all_met}

-- an edge's box holds itself
own_box : (corners : List ℤ) (rings : List ℕ) (e : ℕ) → holds_rect (edge_box corners rings e) (edge_box corners rings e) ≡ true
unfolding edge_box
own_box corners rings e = holds_itself (edge_box corners rings e) (rect_proper (edge_of corners rings e).0 (edge_of corners rings e).1)

-- the box of the two end points found is the edge's
pub found_box : (n count : ℕ) (corners : List ℤ) (rings : List ℕ) (e : ℕ) (found : Found.Edge) → EdgeFound n count corners rings e found → RingEnds n count rings → edge_box corners rings e ≡ rect_of found.from found.to
unfolding edge_box
found_box n count corners rings e found F R = ap (λ (s : Edge). rect_of s.0 s.1) (sym (F.edge_is R))

module _ (n : ℕ) (boxes : List (List ℤ)) (parts : List (List ℕ)) (edges : List ℕ) (wanted : Rect) (e : ℕ) where
  -- on sound tables a walk that has not come to the edge
  pub record Sought (corners : List ℤ) (rings : List ℕ) (stack : List ℕ) (cursor : Cursor) : Type 0 where
    pub came : List ℕ
    pub walked : Walked n corners rings parts edges (Holding wanted) stack cursor came
    pub without : count_of (λ x. eqb x e) came ≡ 0

  pub record Seeking (stack : List ℕ) (cursor : Cursor) : Type 0 where
    pub room : length stack ≡ 18
    pub nodes : cursor.nodes ≡ node_count n
    pub sought : (corners : List ℤ) (rings : List ℕ) → WalkSound n corners rings boxes parts edges → Sought corners rings stack cursor

  pub seeking_start : (stack : List ℕ) (c : Cursor) → length stack ≡ 18 → get_or stack 0 0 ≡ 0 → Begun n c → Seeking stack c
  unfolding count_of
  seeking_start stack c room root B = record {
    room = room;
    nodes = B.nodes;
    sought = λ corners rings T. record { came = []; walked = begun n corners rings boxes parts edges T (Holding wanted) stack c (omega arith) root B; without = refl };
  }

  module _ (stack : List ℕ) (c : Cursor) (S : Seeking stack c) where
    pub seeking_on : (stack' : List ℕ) (step : Step) → length stack' ≡ 18 → Yields n boxes parts edges (Holding wanted) stack c stack' step → (step.edge ≡ e → ⊥) → Seeking stack' step.after
    unfolding count_of
    seeking_on stack' step room Y d = record {
      room = room;
      nodes = Y.same ∙ S.nodes;
      sought = λ corners rings T.
          let s = S.sought corners rings T in
          record {
            came = step.edge ∷ s.came;
            walked = stepped n corners rings boxes parts edges T (Holding wanted) stack c s.came s.walked stack' step Y;
            without = ap (λ b. cond b (suc (count_of (λ y. eqb y e) s.came)) (count_of (λ y. eqb y e) s.came)) (ne_eqb step.edge e d) ∙ s.without;
          };
    }

    -- the edge has come: it stands at the place before the cursor's
    pub seeking_found : (stack' : List ℕ) (step : Step) → Yields n boxes parts edges (Holding wanted) stack c stack' step → step.edge ≡ e → IndexReach n (length boxes) (length parts) (length edges) × StandsAt n edges e (step.after.at - 1)
    seeking_found stack' step Y q =
        let at : step.after.at - 1 ≡ Y.place = omega (arith, Y.next) in
        let here = ap (λ (k : ℕ). get_or edges k 0) at ∙ Y.read ∙ q in (
          record {
            boxes_reach = omega (arith, Y.lent.boxes_reach, S.nodes);
            parts_reach = omega (arith, Y.lent.parts_reach, S.nodes);
            edges_reach = Y.lent.edges_reach;
          },
          record {
            one = omega (arith, Y.edge, q);
            inside = omega (arith, Y.inside);
            edge = here;
            only = λ corners rings boxes parts I j l f. edge_once n corners rings boxes parts edges I j (step.after.at - 1) l (omega (arith, Y.inside)) (f ∙ sym here);
          },
        )

    pub seeking_never : Never n boxes parts edges stack c → (corners : List ℤ) (rings : List ℕ) → WalkSound n corners rings boxes parts edges → e < n → edge_box corners rings e ≡ wanted → ⊥
    seeking_never f corners rings T h q = let s = S.sought corners rings T in never_unsound n corners rings boxes parts edges T (Holding wanted) stack c s.came s.walked f

    -- a walk does not end without an edge whose box it enters
    pub seeking_ended : (stack' : List ℕ) → Ends n boxes parts edges (Holding wanted) stack c stack' → (corners : List ℤ) (rings : List ℕ) → WalkSound n corners rings boxes parts edges → e < n → edge_box corners rings e ≡ wanted → ⊥
    seeking_ended stack' E corners rings T h q =
        let s = S.sought corners rings T in
        let enters = ap (λ r. holds_rect (edge_box corners rings e) r) (sym q) ∙ own_box corners rings e in
        omega (arith, s.without, (all_met n corners rings boxes parts edges T (Holding wanted) stack c s.came s.walked stack' E).all e h enters)

-- the walk to the box of the edge found answers for the edge
pub walked_says : (n count : ℕ) (corners : List ℤ) (rings : List ℕ) (boxes : List (List ℤ)) (parts : List (List ℕ)) (edges : List ℕ) (e : ℕ) (found : Found.Edge) → EdgeFound n count corners rings e found
    → (wanted : Rect) → wanted ≡ rect_of found.from found.to → (r : Result ℕ Unsound) → WalkedTo n boxes parts edges wanted e r → PlaceSays n count corners rings boxes parts edges e r
walked_says n count corners rings boxes parts edges e found F wanted q (Ok k) w = record { number = refl; plan = record { corners_reach = F.reach; rings_reach = F.rings_reach }; index = w.0; stands = w.1 }
walked_says n count corners rings boxes parts edges e found F wanted q (Err _) w =
    record { number = refl; never = λ S. w corners rings S.walk F.one (found_box n count corners rings e found F S.edge.ends ∙ sym q) }
