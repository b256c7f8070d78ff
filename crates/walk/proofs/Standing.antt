-- Where a walk of sound tables stands, and how it stands after one node, on lists alone. Assumes nothing.
use mathlib.Core.Path.{◌≡◌, refl, sym, ap, ◌∙◌}
use mathlib.Core.List.{List}
use Prim.Native.Nat.{ℕ, zero, suc, ◌+◌, ◌-◌, ◌/◌, ◌^◌, ◌≤◌, ◌<◌}
use native.Mathlib.Numerals.{add-one}
use native.Mathlib.Nat.{two-pow-succ}
use native.Mathlib.Decide.{ℕ_discrete, dec_lt}
use native.Mathlib.Omega.{arith}
use lib.IntN.{ℤ}
use lib.ListN.{length, get_or}
use Rattle.rules.specs.Nodes.{node_count}
use Rattle.rules.proofs.Nodes.{node_count_cut}
use Rattle.index.specs.Parts.{first_at, count_at, child_at, Halves}
use Rattle.index.specs.Build.{Two}
use Rattle.index.proofs.Counts.{node_count_some}
use Rattle.index.proofs.Soundness.{children_later, part_inside}
use Rattle.walk.specs.declared.Cursor.{Cursor}
use Rattle.walk.specs.Steps.{Inside, after_node, WalkSound, begin, owed, Walking, Begun, at_place}

-- what holds below u, at u and next to it
up_two : (P : ℕ → Type 0) (u : ℕ) → ((j : ℕ) → j < u → P j) → P u → P (u + 1) → (j : ℕ) → j < u + 2 → P j
up_two P u f a b j l = go (dec_lt j u) (ℕ_discrete j u)
  where
    go : Dec (j < u) → Dec (j ≡ u) → P j
    go (yes h) d = f j h
    go (no h) (yes e) = rw e a
    go (no h) (no d) = let e : j ≡ u + 1 = omega arith in rw e b

-- one place up the stack, half the count
half_power : (j : ℕ) → j < 20 → 2 ^ (20 - j) ≡ 2 ^ (20 - (j + 1)) + 2 ^ (20 - (j + 1))
half_power j h = let e : 20 - j ≡ suc (20 - (j + 1)) = omega arith in ap (λ k. 2 ^ k) e ∙ two-pow-succ (20 - (j + 1))

-- ---- where the parts of nodes waiting begin, and how many nodes are below them
module _ (parts : List (List ℕ)) where
  begin_zero : (stack : List ℕ) (n : ℕ) → begin parts stack n 0 ≡ n
  unfolding begin
  begin_zero stack n = refl

  begin_one : (stack : List ℕ) (n j : ℕ) → begin parts stack n (j + 1) ≡ first_at parts (get_or stack j 0)
  unfolding begin
  begin_one stack n j = rw add-one

  begin_same : (stack stack' : List ℕ) (n s j : ℕ) → ((i : ℕ) → i < s → get_or stack' i 0 ≡ get_or stack i 0) → j ≤ s → begin parts stack' n j ≡ begin parts stack n j
  unfolding begin
  begin_same stack stack' n s zero f h = refl
  begin_same stack stack' n s (suc j) f h = ap (λ p. first_at parts p) (f j h)

  owed_zero : (stack : List ℕ) → owed parts stack 0 ≡ 0
  unfolding owed
  owed_zero stack = refl

  owed_one : (stack : List ℕ) (j : ℕ) → owed parts stack (j + 1) ≡ owed parts stack j + node_count (count_at parts (get_or stack j 0))
  unfolding owed
  owed_one stack j = rw add-one

  owed_same : (stack stack' : List ℕ) (s : ℕ) → ((i : ℕ) → i < s → get_or stack' i 0 ≡ get_or stack i 0) → owed parts stack' s ≡ owed parts stack s
  unfolding owed
  owed_same stack stack' zero f = refl
  owed_same stack stack' (suc s) f =
      let ih = owed_same stack stack' s (λ i l. f i (omega arith)) in
      let e = ap (λ (p : ℕ). node_count (count_at parts p)) (f s (omega arith)) in
      omega arith

module _ (n : ℕ) (corners : List ℤ) (rings : List ℕ) (boxes : List (List ℤ)) (parts : List (List ℕ)) (edges : List ℕ) (T : WalkSound n corners rings boxes parts edges) where
  -- the root alone waits
  pub walking_start : (stack : List ℕ) (c : Cursor) → 18 ≤ length stack → get_or stack 0 0 ≡ 0 → Begun n c → Walking n parts stack c
  walking_start stack c room root B = record {
    room = room;
    all = B.nodes;
    few = omega (arith, B.waiting);
    below = λ j l. rw (only j l, root) (omega (arith, B.nodes, node_count_some n));
    seam = λ j l. rw (only j l, root, T.index.root_first, T.index.root_count, begin_zero parts stack n) (omega arith);
    small = λ j l. rw (only j l, root, T.index.root_count) (omega (arith, T.few, power));
    owes = rw B.waiting (omega (arith, B.met, B.nodes, owed_one parts stack 0, owed_zero parts stack, ap (λ (p : ℕ). node_count (count_at parts p)) root, ap node_count T.index.root_count));
    from = ap (begin parts stack n) B.waiting ∙ begin_one parts stack n 0 ∙ ap (λ (p : ℕ). first_at parts p) root ∙ T.index.root_first ∙ sym B.to;
    here = omega (arith, B.at);
    inside = omega (arith, B.to);
  }
    where
      only : (j : ℕ) → j < c.waiting → j ≡ 0
      only j l = omega (arith, B.waiting)

      power : 2 ^ (20 - 0) ≡ 1048576
      power = refl

  module _ (stack : List ℕ) (c : Cursor) (S : Walking n parts stack c) where
    -- a further place of the leaf in hand
    pub walking_at : (at : ℕ) → at ≤ c.to → Walking n parts stack (at_place c at)
    walking_at at l = record { room = S.room; all = S.all; few = S.few; below = S.below; seam = S.seam; small = S.small; owes = S.owes; from = S.from; here = l; inside = S.inside }

    -- nothing waits and the leaf is passed: the walk stands at the end
    pub walking_end : c.waiting ≡ 0 → c.to ≤ c.at → c.at ≡ n
    walking_end z e = omega (arith, S.here, S.from, ap (begin parts stack n) z, begin_zero parts stack n)

    module _ (h : 0 < c.waiting) (e : c.to ≤ c.at) where
      abbrev s : ℕ
      s = c.waiting - 1

      abbrev top : ℕ
      top = get_or stack s 0

      pub top_below : top < c.nodes
      top_below = S.below (c.waiting - 1) (omega arith)

      top_node : top < node_count n
      top_node = omega (arith, top_below, S.all)

      begin_top : begin parts stack n c.waiting ≡ first_at parts top
      begin_top = let q : c.waiting ≡ c.waiting - 1 + 1 = omega arith in ap (begin parts stack n) q ∙ begin_one parts stack n (c.waiting - 1)

      owed_top : owed parts stack c.waiting ≡ owed parts stack (c.waiting - 1) + node_count (count_at parts top)
      owed_top = let q : c.waiting ≡ c.waiting - 1 + 1 = omega arith in ap (owed parts stack) q ∙ owed_one parts stack (c.waiting - 1)

      top_seam : first_at parts top + count_at parts top ≡ begin parts stack n (c.waiting - 1)
      top_seam = S.seam (c.waiting - 1) (omega arith)

      -- the top's part starts where the walk stands
      pub top_first : first_at parts top ≡ c.at
      top_first = omega (arith, begin_top, S.from, S.here)

      pub not_all_met : c.met < c.nodes
      not_all_met = omega (arith, owed_top, node_count_some (count_at parts top), S.owes)

      top_reach : first_at parts top + count_at parts top ≤ n
      top_reach = part_inside n corners rings boxes parts edges T.index top top_node

      pub top_inside : Inside parts n c.nodes top
      top_inside = (top_below, top_reach, λ big. omega (arith, (children_later n corners rings boxes parts edges T.index top top_node big).1, S.all))

      pub top_deep : 8 < count_at parts top → c.waiting - 1 ≤ 16
      top_deep big = go (ℕ_discrete (c.waiting - 1) 17)
        where
          eight : 2 ^ (20 - 17) ≡ 8
          eight = refl

          go : Dec (c.waiting - 1 ≡ 17) → c.waiting - 1 ≤ 16
          go (yes q) = absurd (omega (arith, S.small (c.waiting - 1) (omega arith), ap (λ (j : ℕ). 2 ^ (20 - j)) q, eight))
          go (no d) = omega (arith, S.few)

      -- the top comes off, and its part is the leaf in hand, from f on
      pub walking_off : (f : ℕ) → f ≤ first_at parts top + count_at parts top → Walking n parts stack (after_node c (c.waiting - 1) f (first_at parts top + count_at parts top))
      walking_off f l = record {
        room = S.room;
        all = S.all;
        few = omega (arith, S.few);
        below = λ j u. S.below j (omega arith);
        seam = λ j u. S.seam j (omega arith);
        small = λ j u. S.small j (omega arith);
        owes = omega (arith, owed_top, node_count_some (count_at parts top), S.owes);
        from = sym top_seam;
        here = l;
        inside = top_reach;
      }

      -- the top gives way to its two children
      pub walking_cut : (stack' : List ℕ) → 8 < count_at parts top → Two stack (c.waiting - 1) (child_at parts top + 1) (child_at parts top) stack'
          → Walking n parts stack' (after_node c (c.waiting - 1 + 2) (first_at parts top) (first_at parts top))
      walking_cut stack' big K = record {
        room = omega (arith, S.room, K.long);
        all = S.all;
        few = omega (arith, top_deep big);
        below = up_two (λ j. get_or stack' j 0 < c.nodes) s (λ j l. rw (K.before j l) (S.below j (omega arith))) (rw K.at (top_inside.2 big)) (rw K.next (omega (arith, top_inside.2 big)));
        seam = up_two (λ j. first_at parts (get_or stack' j 0) + count_at parts (get_or stack' j 0) ≡ begin parts stack' n j) s
            (λ j l. rw (K.before j l, same j (omega arith)) (S.seam j (omega arith)))
            (rw (K.at, H.right_first, H.right_count, same s (omega arith)) (omega (arith, top_seam)))
            (rw (K.next, H.left_first, H.left_count, begin_right) (omega arith));
        small = up_two (λ j. count_at parts (get_or stack' j 0) ≤ 2 ^ (20 - j)) s
            (λ j l. rw (K.before j l) (S.small j (omega arith)))
            (rw (K.at, H.right_count) (omega (arith, least)))
            (rw (K.next, H.left_count) (omega (arith, least, half_power s (omega (arith, top_deep big)))));
        owes = omega (arith, owed_both, owed_right, owed_same parts stack stack' s K.before, owed_top, node_count_cut (count_at parts top) big, S.owes);
        from = begin_left;
        here = omega arith;
        inside = omega (arith, top_reach);
      }
        where
          H : Halves parts top
          H = T.index.halves top top_node big

          least : count_at parts top ≤ 2 ^ (20 - s)
          least = S.small s (omega arith)

          same : (j : ℕ) → j ≤ s → begin parts stack' n j ≡ begin parts stack n j
          same j l = begin_same parts stack stack' n s j K.before l

          begin_right : begin parts stack' n (s + 1) ≡ first_at parts top + count_at parts top / 2
          begin_right = begin_one parts stack' n s ∙ rw K.at H.right_first

          begin_left : begin parts stack' n (s + 2) ≡ first_at parts top
          begin_left =
              let q : s + 2 ≡ s + 1 + 1 = omega arith in
              ap (begin parts stack' n) q ∙ begin_one parts stack' n (s + 1) ∙ rw K.next H.left_first

          owed_right : owed parts stack' (s + 1) ≡ owed parts stack' s + node_count (count_at parts top - count_at parts top / 2)
          owed_right = owed_one parts stack' s ∙ rw (K.at, H.right_count)

          owed_both : owed parts stack' (s + 2) ≡ owed parts stack' (s + 1) + node_count (count_at parts top / 2)
          owed_both =
              let q : s + 2 ≡ s + 1 + 1 = omega arith in
              ap (owed parts stack') q ∙ owed_one parts stack' (s + 1) ∙ rw (K.next, H.left_count)
