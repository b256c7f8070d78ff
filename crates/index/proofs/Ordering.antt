-- The turns of the builder that concern the edge list and the boxes, on lists alone. Assumes nothing.
use mathlib.Core.Path.{◌≡◌, refl, sym, ap, ◌∙◌, subst}
use mathlib.Core.Logic.{◌⊎◌, inl, inr, ⊎_elim}
use mathlib.Core.List.{List, []}
use Prim.Native.Nat.{ℕ, ◌+◌, ◌-◌, ◌/◌, ◌≤◌, ◌<◌}
use native.Mathlib.Decide.{ℕ_discrete, dec_lt}
use native.Mathlib.Omega.{arith}
use lib.Dec.{eqb}
use lib.IntN.{ℤ, pos}
use lib.ListN.{length, get_or, take}
use Rattle.geom.specs.declared.Rect.{Rect}
use Rattle.rules.specs.Lists.{count_of}
use Rattle.boxes.specs.Boxes.{box_of, rect_at, row_of, Names}
use Rattle.cut.specs.Keys.{axis_of, CutRule, CutPart}
use Rattle.cut.specs.Shuffle.{Shuffled}
use Rattle.cut.proofs.Shuffles.{shuffled_wider}
use Rattle.index.specs.Parts.{first_at, count_at}
use Rattle.index.specs.Sound.{Smallest}
use Rattle.index.specs.Build.{Numbered, Two}
use Rattle.index.proofs.Growth.{Grows}
use Rattle.index.proofs.Reordered.{Clear, clear_sub, rule_kept, box_kept, count_shuffled, once_numbered}
use Rattle.index.proofs.Shaping.{Shaping, On, up_two, taken_below, on_pop}
use Rattle.index.proofs.Tables.{names_shuffled}

-- the borders of the part f, m do not run through the part of the node at place q
abbrev Apart : List (List ℕ) → ℕ → ℕ → ℕ → Type 0
Apart parts f m q = Clear f (first_at parts q) (first_at parts q + count_at parts q) × Clear (f + m) (first_at parts q) (first_at parts q + count_at parts q)

-- what is known of a node that is done: if it is cut, its rule holds, and no part that is still to be cut lies across its middle
abbrev Done : List ℤ → List ℕ → List (List ℤ) → List (List ℕ) → List ℕ → ℕ → List ℕ → ℕ → Type 0
Done corners rings boxes parts waiting top edges p =
    8 < count_at parts p
    → CutRule corners rings (axis_of (rect_at boxes p)) (first_at parts p) (count_at parts p) edges
    × ((j : ℕ) → j < top → Clear (first_at parts p + count_at parts p / 2) (first_at parts (get_or waiting j 0)) (first_at parts (get_or waiting j 0) + count_at parts (get_or waiting j 0)))

pub record Ordering (n : ℕ) (corners : List ℤ) (rings : List ℕ) (boxes : List (List ℤ)) (parts : List (List ℕ)) (edges waiting : List ℕ) (top free : ℕ) : Type 0 where
  pub names : Names n edges 0 n
  pub once : (e : ℕ) → e < n → count_of (λ x. eqb x e) (take n edges) ≡ 1
  pub sorted : (j : ℕ) → j < top → (i : ℕ) → i < j → first_at parts (get_or waiting i 0) + count_at parts (get_or waiting i 0) ≤ first_at parts (get_or waiting j 0)
  pub apart : (p : ℕ) → p < free → (j : ℕ) → j < top → Apart parts (first_at parts p) (count_at parts p) (get_or waiting j 0)
  pub cuts : (p : ℕ) → p < free → On waiting top p ⊎ Done corners rings boxes parts waiting top edges p
  pub small : (p : ℕ) → p < free → Smallest corners rings edges parts boxes p

-- a row of smallest box, read as a box
pub rect_read : (boxes : List (List ℤ)) (p : ℕ) (r : Rect) → get_or boxes p [] ≡ row_of r → rect_at boxes p ≡ r
rect_read boxes p r e =
    λ i. record {
      min = record { x = get_or (e i) 0 (pos 0); y = get_or (e i) 1 (pos 0) };
      max = record { x = get_or (e i) 2 (pos 0); y = get_or (e i) 3 (pos 0) };
    }

-- and the other way: equal rows are equal boxes
rows_same : (boxes boxes' : List (List ℤ)) (p : ℕ) → get_or boxes' p [] ≡ get_or boxes p [] → rect_at boxes' p ≡ rect_at boxes p
rows_same boxes boxes' p e =
    λ i. record {
      min = record { x = get_or (e i) 0 (pos 0); y = get_or (e i) 1 (pos 0) };
      max = record { x = get_or (e i) 2 (pos 0); y = get_or (e i) 3 (pos 0) };
    }

module _ (n : ℕ) (corners : List ℤ) (rings : List ℕ) where
  pub ordering_start : (boxes : List (List ℤ)) (parts : List (List ℕ)) (xs edges waiting : List ℕ) → n ≤ length xs → Numbered n xs edges → get_or waiting 0 0 ≡ 0 → first_at parts 0 ≡ 0 → count_at parts 0 ≡ n
      → get_or boxes 0 [] ≡ row_of (box_of corners rings edges 0 n) → Ordering n corners rings boxes parts edges waiting 1 1
  unfolding Smallest
  ordering_start boxes parts xs edges waiting w N w0 f0 c0 row = record {
    names = record { inside = omega (arith, N.long); each = λ k a b. rw (N.inside k (omega arith)) (omega arith) };
    once = once_numbered n xs edges w N;
    sorted = λ j l i h. absurd (omega arith);
    apart = λ p l j u. let e : j ≡ 0 = omega arith in let d : p ≡ 0 = omega arith in rw (e, d, w0) (inl (omega arith), inr (omega arith));
    cuts = λ p l. let d : 0 ≡ p = omega arith in inl (0, omega arith, w0 ∙ d);
    small = λ p l. let d : p ≡ 0 = omega arith in rw (d, f0, c0) row;
  }

  module _ (boxes : List (List ℤ)) (parts : List (List ℕ)) (edges waiting : List ℕ) (top free : ℕ) (S : Shaping n parts waiting top free) (O : Ordering n corners rings boxes parts edges waiting top free) (h : 0 < top) where
    abbrev q : ℕ
    q = get_or waiting (top - 1) 0

    pub ordering_leaf : count_at parts q ≤ 8 → Ordering n corners rings boxes parts edges waiting (top - 1) free
    ordering_leaf small = record {
      names = O.names;
      once = O.once;
      sorted = λ j l. O.sorted j (omega arith);
      apart = λ p l j u. O.apart p l j (omega arith);
      cuts = λ p l. one p (ℕ_discrete p q) (O.cuts p l);
      small = O.small;
    }
      where
        one : (p : ℕ) → Dec (p ≡ q) → On waiting top p ⊎ Done corners rings boxes parts waiting top edges p → On waiting (top - 1) p ⊎ Done corners rings boxes parts waiting (top - 1) edges p
        one p (yes e) o = inr (λ big. absurd (not_both (rw e at big)))
          where
            not_both : 8 < count_at parts q → ⊥
            not_both g = omega arith
        one p (no d) (inl o) = inl (on_pop n parts waiting top free S h p d o)
        one p (no d) (inr i) = inr (λ big. ((i big).0, λ j l. (i big).1 j (omega arith)))

    module _ (left right : Rect) (boxes' : List (List ℤ)) (parts' : List (List ℕ)) (edges' waiting' : List ℕ) (reads : ℕ) (big : 8 < count_at parts q)
        (G : Grows boxes parts q free left right boxes' parts') (K : Two waiting (top - 1) free (free + 1) waiting') (A : CutPart corners rings (axis_of (rect_at boxes q)) (first_at parts q) (count_at parts q) edges edges' reads)
        (is_left_lem : left ≡ box_of corners rings edges' (first_at parts q) (count_at parts q / 2)) (is_right : right ≡ box_of corners rings edges' (first_at parts q + count_at parts q / 2) (count_at parts q - count_at parts q / 2)) where
      below : q < free
      below = taken_below n parts waiting top free S h

      part : first_at parts q + count_at parts q ≤ n
      part = S.within q below

      wide : n ≤ length edges
      wide = omega (arith, O.names.inside)

      low : (j : ℕ) → j < top - 1 → get_or waiting j 0 < free
      low j l = S.below j (omega arith)

      -- the part before the one that is cut
      before : (j : ℕ) → j < top - 1 → first_at parts (get_or waiting j 0) + count_at parts (get_or waiting j 0) ≤ first_at parts q
      before j l = O.sorted (top - 1) (omega arith) j l

      -- the parts on the new stack, from what is known of those on the old one and of the two new ones
      stacked : (P : ℕ → ℕ → Type 0) → ((j : ℕ) → j < top - 1 → P (first_at parts (get_or waiting j 0)) (first_at parts (get_or waiting j 0) + count_at parts (get_or waiting j 0)))
          → P (first_at parts q) (first_at parts q + count_at parts q / 2) → P (first_at parts q + count_at parts q / 2) (first_at parts q + count_at parts q / 2 + (count_at parts q - count_at parts q / 2))
          → (j : ℕ) → j < top - 1 + 2 → P (first_at parts' (get_or waiting' j 0)) (first_at parts' (get_or waiting' j 0) + count_at parts' (get_or waiting' j 0))
      stacked P o x y = up_two (λ j. P (first_at parts' (get_or waiting' j 0)) (first_at parts' (get_or waiting' j 0) + count_at parts' (get_or waiting' j 0))) (top - 1)
          (λ j l. rw (K.before j l, G.first_old (get_or waiting j 0) (low j l), G.count_old (get_or waiting j 0) (low j l)) (o j l))
          (rw (K.at, G.left_first, G.left_count) x) (rw (K.next, G.right_first, G.right_count) y)

      -- a border that was clear of the part is clear of its halves
      clear_halves : (x : ℕ) → ((j : ℕ) → j < top → Clear x (first_at parts (get_or waiting j 0)) (first_at parts (get_or waiting j 0) + count_at parts (get_or waiting j 0)))
          → (j : ℕ) → j < top - 1 + 2 → Clear x (first_at parts' (get_or waiting' j 0)) (first_at parts' (get_or waiting' j 0) + count_at parts' (get_or waiting' j 0))
      clear_halves x c = stacked (Clear x) (λ j l. c j (omega arith))
          (clear_sub x (first_at parts q) (first_at parts q + count_at parts q) _ _ (omega arith) (omega arith) (c (top - 1) (omega arith)))
          (clear_sub x (first_at parts q) (first_at parts q + count_at parts q) _ _ (omega arith) (omega arith) (c (top - 1) (omega arith)))

      -- the three borders of the part are clear of everything on the new stack
      clear_own : (x : ℕ) → (x ≡ first_at parts q) ⊎ ((x ≡ first_at parts q + count_at parts q / 2) ⊎ (x ≡ first_at parts q + count_at parts q))
          → (j : ℕ) → j < top - 1 + 2 → Clear x (first_at parts' (get_or waiting' j 0)) (first_at parts' (get_or waiting' j 0) + count_at parts' (get_or waiting' j 0))
      clear_own x (inl e) = stacked (Clear x) (λ j l. inr (omega (arith, before j l))) (inl (omega arith)) (inl (omega arith))
      clear_own x (inr (inl e)) = stacked (Clear x) (λ j l. inr (omega (arith, before j l))) (inr (omega arith)) (inl (omega arith))
      clear_own x (inr (inr e)) = stacked (Clear x) (λ j l. inr (omega (arith, before j l))) (inr (omega arith)) (inr (omega arith))

      apart' : (p : ℕ) → p < free + 2 → (j : ℕ) → j < top - 1 + 2 → Apart parts' (first_at parts' p) (count_at parts' p) (get_or waiting' j 0)
      apart' = up_two (λ p. (j : ℕ) → j < top - 1 + 2 → Apart parts' (first_at parts' p) (count_at parts' p) (get_or waiting' j 0)) free
          (λ p l j u. rw (G.first_old p l, G.count_old p l) (clear_halves (first_at parts p) (λ i v. (O.apart p l i v).0) j u, clear_halves (first_at parts p + count_at parts p) (λ i v. (O.apart p l i v).1) j u))
          (λ j u. (clear_own (first_at parts' free) (inl G.left_first) j u, clear_own (first_at parts' free + count_at parts' free) (inr (inl (let a = G.left_first in let b = G.left_count in omega arith))) j u))
          (λ j u. (clear_own (first_at parts' (free + 1)) (inr (inl G.right_first)) j u, clear_own (first_at parts' (free + 1) + count_at parts' (free + 1)) (inr (inr (let a = G.right_first in let b = G.right_count in omega arith))) j u))

      -- a node's row stays, and so the axis of its cut
      same_axis : (p : ℕ) → p < free → (f m : ℕ) → CutRule corners rings (axis_of (rect_at boxes p)) f m edges' → CutRule corners rings (axis_of (rect_at boxes' p)) f m edges'
      same_axis p l f m rule = subst (λ r. CutRule corners rings (axis_of r) f m edges') (sym (rows_same boxes boxes' p (G.row_old p l))) rule

      old : (p : ℕ) → p < free → Dec (p ≡ q) → On waiting top p ⊎ Done corners rings boxes parts waiting top edges p → On waiting' (top - 1 + 2) p ⊎ Done corners rings boxes' parts' waiting' (top - 1 + 2) edges' p
      old p l (yes e) o = inr (λ b. rw (e, G.first_old q below, G.count_old q below) (same_axis q below (first_at parts q) (count_at parts q) A.rule, clear_own (first_at parts q + count_at parts q / 2) (inr (inl refl))))
      old p l (no d) (inl o) =
          let w = on_pop n parts waiting top free S h p d o in
          inl (w.0, omega (arith, w.1), K.before w.0 w.1 ∙ w.2)
      old p l (no d) (inr i) = inr (λ b.
          let z = i (rw (G.count_old p l) at b) in
          let c = O.apart p l (top - 1) (omega arith) in
          rw (G.first_old p l, G.count_old p l) (
            same_axis p l (first_at parts p) (count_at parts p) (rule_kept corners rings (axis_of (rect_at boxes p)) (first_at parts p) (count_at parts p) A.moved (omega (arith, S.within p l, wide)) c.0 (z.1 (top - 1) (omega arith)) c.1 z.0),
            clear_halves (first_at parts p + count_at parts p / 2) z.1,
          ))

      small' : (p : ℕ) → p < free + 2 → Smallest corners rings edges' parts' boxes' p
      unfolding Smallest
      small' = up_two (λ p. get_or boxes' p [] ≡ row_of (box_of corners rings edges' (first_at parts' p) (count_at parts' p))) free
          (λ p l.
          let c = O.apart p l (top - 1) (omega arith) in
          rw (G.first_old p l, G.count_old p l) (G.row_old p l ∙ O.small p l ∙ ap row_of (sym (box_kept corners rings (first_at parts p) (count_at parts p) A.moved (omega (arith, S.within p l, wide)) c.0 c.1))))
          (rw (G.left_first, G.left_count) (G.left_row ∙ ap row_of is_left_lem))
          (rw (G.right_first, G.right_count) (G.right_row ∙ ap row_of is_right))

      last : (i : ℕ) → Dec (i < top - 1) → i < top - 1 + 1 → first_at parts' (get_or waiting' i 0) + count_at parts' (get_or waiting' i 0) ≤ first_at parts q + count_at parts q / 2
      last i (yes l) u = rw (K.before i l, G.first_old (get_or waiting i 0) (low i l), G.count_old (get_or waiting i 0) (low i l)) (omega (arith, before i l))
      last i (no l) u = let e : i ≡ top - 1 = omega arith in rw (e, K.at, G.left_first, G.left_count) (omega arith)

      whole : Shuffled 0 (0 + n) edges edges'
      whole = shuffled_wider 0 (0 + n) (omega arith) (omega (arith, part)) O.names.inside A.moved

      pub ordering_cut : Ordering n corners rings boxes' parts' edges' waiting' (top - 1 + 2) (free + 2)
      ordering_cut = record {
        names = names_shuffled n edges edges' 0 n 0 n O.names whole (omega arith) (omega arith);
        once = λ e l. count_shuffled (λ x. eqb x e) n A.moved part wide ∙ O.once e l;
        sorted = up_two (λ j. (i : ℕ) → i < j → first_at parts' (get_or waiting' i 0) + count_at parts' (get_or waiting' i 0) ≤ first_at parts' (get_or waiting' j 0)) (top - 1)
            (λ j l i u. rw (K.before j l, K.before i (omega arith), G.first_old (get_or waiting j 0) (low j l), G.first_old (get_or waiting i 0) (low i (omega arith)), G.count_old (get_or waiting i 0) (low i (omega arith))) (O.sorted j (omega arith) i u))
            (λ i u. rw (K.at, K.before i u, G.first_old (get_or waiting i 0) (low i u), G.count_old (get_or waiting i 0) (low i u), G.left_first) (before i u))
            (λ i u. rw (K.next, G.right_first) (last i (dec_lt i (top - 1)) u));
        apart = apart';
        cuts = up_two (λ p. On waiting' (top - 1 + 2) p ⊎ Done corners rings boxes' parts' waiting' (top - 1 + 2) edges' p) free (λ p l. old p l (ℕ_discrete p q) (O.cuts p l)) (inl (top - 1, omega arith, K.at)) (inl (top - 1 + 1, omega arith, K.next));
        small = small';
      }

-- at the end every cut node obeys the rule
pub ordered : (n : ℕ) (corners : List ℤ) (rings : List ℕ) (boxes : List (List ℤ)) (parts : List (List ℕ)) (edges waiting : List ℕ) (top free : ℕ) → Ordering n corners rings boxes parts edges waiting top free → top ≤ 0
    → (p : ℕ) → p < free → 8 < count_at parts p → CutRule corners rings (axis_of (rect_at boxes p)) (first_at parts p) (count_at parts p) edges
ordered n corners rings boxes parts edges waiting top free O h p l big = ⊎_elim (λ o. absurd (none o)) (λ i. (i big).0) (O.cuts p l)
  where
    none : On waiting top p → ⊥
    none o = omega (arith, o.1)
