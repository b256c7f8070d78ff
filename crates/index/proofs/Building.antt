-- The builder's loop: its state, its turns and its end, on lists alone. Assumes nothing.
use mathlib.Core.Path.{◌≡◌, refl, sym, ap, ◌∙◌, subst}
use mathlib.Core.List.{List, []}
use Prim.Native.Nat.{ℕ, ◌+◌, ◌-◌, ◌*◌, ◌/◌, ◌≤◌, ◌<◌}
use native.Mathlib.Omega.{arith}
use lib.IntN.{ℤ}
use lib.ListN.{length, get_or, set, length-set}
use lib.Seq.{get_or-set_same, get_or-set_other}
use Rattle.geom.specs.declared.Rect.{Rect}
use Rattle.rules.specs.Nodes.{node_count}
use Rattle.boxes.specs.Boxes.{box_of, rect_at, row_of, Names, NearRect}
use Rattle.boxes.specs.Rings.{RingEnds, CornersNear}
use Rattle.boxes.proofs.Leasts.{box_near}
use Rattle.cut.proofs.Shuffles.{shuffled_length, shuffled_after}
use Rattle.index.specs.Parts.{first_at, count_at, part_row, Laid, cut_edges}
use Rattle.index.specs.Sound.{Smallest}
use Rattle.index.specs.Build.{Numbered, Two, NodeCut, Cuts, BuildReads, Built}
use Rattle.index.proofs.Counts.{node_count_some}
use Rattle.index.proofs.Growth.{Grows, grows}
use Rattle.index.proofs.Shaping.{Shaping, shaping_start, shaping_leaf, shaping_cut, shaped, taken_below, room_for_two, stack_room}
use Rattle.index.proofs.Readings.{Reading, reading_cut, cut_levels}
use Rattle.index.proofs.Ordering.{Ordering, ordering_start, ordering_leaf, ordering_cut, ordered, rect_read}

-- what is not written
pub record Frame (n : ℕ) (boxes₀ : List (List ℤ)) (parts₀ : List (List ℕ)) (edges₀ : List ℕ) (boxes : List (List ℤ)) (parts : List (List ℕ)) (edges : List ℕ) (free : ℕ) : Type 0 where
  pub boxes_long : length boxes ≡ length boxes₀
  pub parts_long : length parts ≡ length parts₀
  pub edges_long : length edges ≡ length edges₀
  pub boxes_rest : (q : ℕ) → free ≤ q → get_or boxes q [] ≡ get_or boxes₀ q []
  pub parts_rest : (q : ℕ) → free ≤ q → get_or parts q [] ≡ get_or parts₀ q []
  pub edges_rest : (k : ℕ) → n ≤ k → get_or edges k 0 ≡ get_or edges₀ k 0

-- the state, with room for all nodes
pub record Building (n : ℕ) (corners : List ℤ) (rings : List ℕ) (boxes₀ : List (List ℤ)) (parts₀ : List (List ℕ)) (edges₀ : List ℕ) (boxes : List (List ℤ)) (parts : List (List ℕ)) (edges waiting : List ℕ) (top free : ℕ) : Type 0 where
  pub boxes_reach : node_count n ≤ length boxes
  pub parts_reach : node_count n ≤ length parts
  pub shaping : Shaping n parts waiting top free
  pub ordering : Ordering n corners rings boxes parts edges waiting top free
  pub frame : Frame n boxes₀ parts₀ edges₀ boxes parts edges free

-- the tables at the loop's start hold the root alone
pub record Rooted (n : ℕ) (corners : List ℤ) (rings : List ℕ) (boxes₀ : List (List ℤ)) (parts₀ : List (List ℕ)) (edges₀ : List ℕ) (boxes : List (List ℤ)) (parts : List (List ℕ)) (edges : List ℕ) : Type 0 where
  pub boxes_reach : node_count n ≤ length boxes₀
  pub parts_reach : node_count n ≤ length parts₀
  pub edges_reach : n ≤ length edges₀
  pub numbers : Numbered n edges₀ edges
  pub boxes_are : boxes ≡ set boxes₀ 0 (row_of (box_of corners rings edges 0 n))
  pub parts_are : parts ≡ set parts₀ 0 (part_row 0 n 0)

module _ (n : ℕ) (corners : List ℤ) (rings : List ℕ) (boxes₀ : List (List ℤ)) (parts₀ : List (List ℕ)) (edges₀ : List ℕ) (boxes : List (List ℤ)) (parts : List (List ℕ)) (edges : List ℕ) (R : Rooted n corners rings boxes₀ parts₀ edges₀ boxes parts edges) where
  -- what these leave of the tables lent
  pub rooted_frame : Frame n boxes₀ parts₀ edges₀ boxes parts edges 1
  rooted_frame =
      let row = row_of (box_of corners rings edges 0 n) in
      record {
        boxes_long = ap length R.boxes_are ∙ length-set boxes₀ 0 row;
        parts_long = ap length R.parts_are ∙ length-set parts₀ 0 (part_row 0 n 0);
        edges_long = R.numbers.long;
        boxes_rest = λ q l. ap (λ t. get_or t q []) R.boxes_are ∙ get_or-set_other boxes₀ 0 q row [] (omega arith);
        parts_rest = λ q l. ap (λ t. get_or t q []) R.parts_are ∙ get_or-set_other parts₀ 0 q (part_row 0 n 0) [] (omega arith);
        edges_rest = R.numbers.after;
      }

  pub building_start : (waiting : List ℕ) → n ≤ 1048576 → length waiting ≡ 18 → get_or waiting 0 0 ≡ 0 → Building n corners rings boxes parts edges boxes parts edges waiting 1 1
  building_start waiting few long w0 =
      let some = node_count_some n in
      let whole = row_of (box_of corners rings edges 0 n) in
      let row : get_or parts 0 [] ≡ part_row 0 n 0 = ap (λ t. get_or t 0 []) R.parts_are ∙ get_or-set_same parts₀ 0 (part_row 0 n 0) [] (omega (arith, R.parts_reach)) in
      let box : get_or boxes 0 [] ≡ whole = ap (λ t. get_or t 0 []) R.boxes_are ∙ get_or-set_same boxes₀ 0 whole [] (omega (arith, R.boxes_reach)) in
      record {
        boxes_reach = omega (arith, R.boxes_reach, rooted_frame.boxes_long);
        parts_reach = omega (arith, R.parts_reach, rooted_frame.parts_long);
        shaping = shaping_start n parts waiting few long w0 (ap (λ t. get_or t 0 0) row) (ap (λ t. get_or t 1 0) row) (ap (λ t. get_or t 2 0) row);
        ordering = ordering_start n corners rings boxes parts edges₀ edges waiting R.edges_reach R.numbers w0 (ap (λ t. get_or t 0 0) row) (ap (λ t. get_or t 1 0) row) box;
        frame = record { boxes_long = refl; parts_long = refl; edges_long = refl; boxes_rest = λ q l. refl; parts_rest = λ q l. refl; edges_rest = λ k l. refl };
      }

module _ (n : ℕ) (corners : List ℤ) (rings : List ℕ) (boxes₀ : List (List ℤ)) (parts₀ : List (List ℕ)) (edges₀ : List ℕ) where
  module _ (boxes : List (List ℤ)) (parts : List (List ℕ)) (edges waiting : List ℕ) (top free : ℕ) (B : Building n corners rings boxes₀ parts₀ edges₀ boxes parts edges waiting top free) where
    module _ (h : 0 < top) where
      abbrev q : ℕ
      q = get_or waiting (top - 1) 0

      -- the node that is taken off the stack is one of the table
      pub turn_inside : (q < free) × (free ≤ node_count n)
      turn_inside = (taken_below n parts waiting top free B.shaping h, omega (arith, B.shaping.room))

      pub building_leaf : count_at parts q ≤ 8 → Building n corners rings boxes₀ parts₀ edges₀ boxes parts edges waiting (top - 1) free
      building_leaf small = record {
        boxes_reach = B.boxes_reach;
        parts_reach = B.parts_reach;
        shaping = shaping_leaf n parts waiting top free B.shaping h small;
        ordering = ordering_leaf n corners rings boxes parts edges waiting top free B.shaping B.ordering h small;
        frame = B.frame;
      }

      module _ (big : 8 < count_at parts q) where
        -- what the cut of that node asks
        pub turn_room : (free + 2 ≤ node_count n) × (top < 18)
        turn_room = (room_for_two n parts waiting top free B.shaping h big, stack_room n parts waiting top free B.shaping h big)

        pub turn_part : first_at parts q + count_at parts q ≤ n
        turn_part = B.shaping.within q turn_inside.0

        pub turn_names : Names n edges (first_at parts q) (count_at parts q)
        turn_names = record { inside = omega (arith, turn_part, B.ordering.names.inside); each = λ k a b. B.ordering.names.each k (omega arith) (omega (arith, turn_part)) }

        pub turn_near : (count : ℕ) → CornersNear n corners → RingEnds n count rings → NearRect (rect_at boxes q)
        unfolding Smallest
        turn_near count C R =
            subst NearRect (sym (rect_read boxes q (box_of corners rings edges (first_at parts q) (count_at parts q)) (B.ordering.small q turn_inside.0)))
            (box_near n count corners rings C R edges (first_at parts q) (count_at parts q) turn_names (omega arith))

        module _ (boxes' : List (List ℤ)) (parts' : List (List ℕ)) (edges' waiting' : List ℕ) (reads : ℕ) (C : NodeCut corners rings boxes parts edges q free boxes' parts' edges' reads) (K : Two waiting (top - 1) free (free + 1) waiting') where
          abbrev left : Rect
          left = box_of corners rings edges' (first_at parts q) (count_at parts q / 2)

          abbrev right : Rect
          right = box_of corners rings edges' (first_at parts q + count_at parts q / 2) (count_at parts q - count_at parts q / 2)

          grown : Grows boxes parts q free left right boxes' parts'
          grown = grows boxes parts q free left right turn_inside.0 (omega (arith, turn_room.0, B.boxes_reach)) (omega (arith, turn_room.0, B.parts_reach)) boxes' parts' C.grown

          pub building_cut : Building n corners rings boxes₀ parts₀ edges₀ boxes' parts' edges' waiting' (top - 1 + 2) (free + 2)
          building_cut =
              let G = grown in
              record {
                boxes_reach = omega (arith, G.boxes_long, B.boxes_reach);
                parts_reach = omega (arith, G.parts_long, B.parts_reach);
                shaping = shaping_cut n parts waiting top free B.shaping h boxes left right boxes' parts' waiting' big G K;
                ordering = ordering_cut n corners rings boxes parts edges waiting top free B.shaping B.ordering h left right boxes' parts' edges' waiting' reads big G K C.cut refl refl;
                frame = record {
                  boxes_long = G.boxes_long ∙ B.frame.boxes_long;
                  parts_long = G.parts_long ∙ B.frame.parts_long;
                  edges_long = shuffled_length C.cut.moved ∙ B.frame.edges_long;
                  boxes_rest = λ k l. G.boxes_rest k l ∙ B.frame.boxes_rest k (omega arith);
                  parts_rest = λ k l. G.parts_rest k l ∙ B.frame.parts_rest k (omega arith);
                  edges_rest = λ k l. shuffled_after C.cut.moved k (omega (arith, turn_part)) ∙ B.frame.edges_rest k l;
                };
              }

          pub reading_more : (read : ℕ) → Reading corners rings boxes₀ parts₀ edges₀ boxes parts edges waiting top free read → Reading corners rings boxes₀ parts₀ edges₀ boxes' parts' edges' waiting' (top - 1 + 2) (free + 2) (read + reads)
          reading_more read R = reading_cut corners rings boxes₀ parts₀ edges₀ n boxes parts edges waiting top free read B.shaping R h left right boxes' parts' edges' waiting' reads big grown K C

-- ---- the end: what the loop leaves of the tables that hold the root, and what these left of the tables lent
module _ (n : ℕ) (corners : List ℤ) (rings : List ℕ) (boxes₀ : List (List ℤ)) (parts₀ : List (List ℕ)) (edges₀ : List ℕ) (boxes₁ : List (List ℤ)) (parts₁ : List (List ℕ)) (edges₁ : List ℕ) (T : Rooted n corners rings boxes₀ parts₀ edges₀ boxes₁ parts₁ edges₁)
    (boxes : List (List ℤ)) (parts : List (List ℕ)) (edges waiting : List ℕ) (top free reads : ℕ) (B : Building n corners rings boxes₁ parts₁ edges₁ boxes parts edges waiting top free) (R : Reading corners rings boxes₁ parts₁ edges₁ boxes parts edges waiting top free reads) where
  build_reads : BuildReads n corners rings boxes₀ parts₀ edges₀ boxes parts edges free reads
  build_reads = record {
    numbered = edges₁;
    numbers = T.numbers;
    cuts = subst (λ t. Cuts corners rings t (set parts₀ 0 (part_row 0 n 0)) edges₁ boxes parts edges free reads) T.boxes_are (subst (λ t. Cuts corners rings boxes₁ t edges₁ boxes parts edges free reads) T.parts_are R.cuts);
  }

  pub built : n ≤ 1048576 → top ≤ 0 → Built n corners rings boxes₀ parts₀ edges₀ boxes parts edges free reads
  built few h =
      let S = shaped n parts waiting top free B.shaping h in
      let e : free ≡ node_count n = S.0 in
      let F = rooted_frame n corners rings boxes₀ parts₀ edges₀ boxes₁ parts₁ edges₁ T in
      let some = node_count_some n in
      let places = subst (Laid parts 0 1) e S.2 in
      let cut : reads ≤ 65 * cut_edges parts (node_count n) = omega (arith, R.most, ap (cut_edges parts) e) in
      record {
        counted = e;
        sound = record {
          boxes_reach = B.boxes_reach;
          parts_reach = B.parts_reach;
          edges_reach = omega (arith, B.ordering.names.inside);
          places = places;
          root_first = B.shaping.root_first;
          root_count = B.shaping.root_count;
          halves = λ p l. S.1 p (omega arith);
          each_once = B.ordering.once;
          smallest = λ p l. B.ordering.small p (omega arith);
        };
        cut_rule = λ p l. ordered n corners rings boxes parts edges waiting top free B.ordering h p (omega arith);
        leaves = λ p l. B.shaping.leaves p (omega arith);
        boxes_long = B.frame.boxes_long ∙ F.boxes_long;
        parts_long = B.frame.parts_long ∙ F.parts_long;
        edges_long = B.frame.edges_long ∙ F.edges_long;
        boxes_rest = λ p l. B.frame.boxes_rest p (omega arith) ∙ F.boxes_rest p (omega arith);
        parts_rest = λ p l. B.frame.parts_rest p (omega arith) ∙ F.parts_rest p (omega arith);
        edges_rest = λ k l. B.frame.edges_rest k l ∙ F.edges_rest k l;
        read = build_reads;
        reads_cut = cut;
        reads_few = omega (arith, cut, cut_levels n parts few B.shaping.root_count (λ p l. S.1 p (omega arith)) places);
      }
