-- The turns of the builder that concern the node table and the stack, on lists alone. Assumes nothing.
use mathlib.Core.Path.{◌≡◌, refl, sym, ap, ◌∙◌}
use mathlib.Core.Logic.{◌⊎◌, inl, inr, ⊎_elim}
use mathlib.Core.List.{List}
use Prim.Native.Nat.{ℕ, zero, suc, ◌+◌, ◌-◌, ◌/◌, ◌^◌, ◌≤◌, ◌<◌}
use native.Mathlib.Nat.{two-pow-succ}
use native.Mathlib.Numerals.{add-one, add-two}
use native.Mathlib.Decide.{ℕ_discrete, dec_lt}
use native.Mathlib.Omega.{arith}
use lib.IntN.{ℤ}
use lib.ListN.{length, get_or}
use Rattle.geom.specs.declared.Rect.{Rect}
use Rattle.rules.specs.Nodes.{node_count}
use Rattle.rules.proofs.Nodes.{node_count_cut, node_count_leaf}
use Rattle.index.specs.Parts.{first_at, count_at, child_at, Halves, Laid}
use Rattle.index.specs.Parts.Laid.{leaf, node}
use Rattle.index.specs.Build.{Two}
use Rattle.index.proofs.Counts.{node_count_some, node_count_three}
use Rattle.index.proofs.Growth.{Grows}

-- ---- what the nodes on the stack will still add, by what a node of so many edges adds
pub owed : (ℕ → ℕ) → List (List ℕ) → List ℕ → ℕ → ℕ
owed adds parts waiting zero = 0
owed adds parts waiting (suc s) = owed adds parts waiting s + adds (count_at parts (get_or waiting s 0))

module _ (adds : ℕ → ℕ) where
  pub owed_same : (parts parts' : List (List ℕ)) (waiting waiting' : List ℕ) (s : ℕ) → ((j : ℕ) → j < s → count_at parts' (get_or waiting' j 0) ≡ count_at parts (get_or waiting j 0)) → owed adds parts' waiting' s ≡ owed adds parts waiting s
  unfolding owed
  owed_same parts parts' waiting waiting' zero f = refl
  owed_same parts parts' waiting waiting' (suc s) f =
      let e = ap adds (f s (omega arith)) in
      let ih = owed_same parts parts' waiting waiting' s (λ j l. f j (omega arith)) in
      omega arith

  pub owed_none : (parts : List (List ℕ)) (waiting : List ℕ) → owed adds parts waiting 0 ≡ 0
  unfolding owed
  owed_none parts waiting = refl

  pub owed_one : (parts : List (List ℕ)) (waiting : List ℕ) (s : ℕ) → owed adds parts waiting (s + 1) ≡ owed adds parts waiting s + adds (count_at parts (get_or waiting s 0))
  unfolding owed
  owed_one parts waiting s = rw add-one

  pub owed_two : (parts : List (List ℕ)) (waiting : List ℕ) (s : ℕ) → owed adds parts waiting (s + 2) ≡ owed adds parts waiting s + adds (count_at parts (get_or waiting s 0)) + adds (count_at parts (get_or waiting (s + 1) 0))
  unfolding owed
  owed_two parts waiting s = rw (add-two, add-one)

  -- the last of them
  pub owed_pop : (parts : List (List ℕ)) (waiting : List ℕ) (s : ℕ) → 0 < s → owed adds parts waiting s ≡ owed adds parts waiting (s - 1) + adds (count_at parts (get_or waiting (s - 1) 0))
  owed_pop parts waiting s some = let back : s ≡ s - 1 + 1 = omega arith in ap (owed adds parts waiting) back ∙ owed_one parts waiting (s - 1)

-- the nodes below a node of so many edges
abbrev pub nodes_below : ℕ → ℕ
nodes_below m = node_count m - 1

-- ---- what holds below u, at u and next to it
pub up_two : (P : ℕ → Type 0) (u : ℕ) → ((p : ℕ) → p < u → P p) → P u → P (u + 1) → (p : ℕ) → p < u + 2 → P p
up_two P u f a b p l = go (dec_lt p u) (ℕ_discrete p u)
  where
    go : Dec (p < u) → Dec (p ≡ u) → P p
    go (yes h) d = f p h
    go (no h) (yes e) = rw e a
    go (no h) (no d) = let e : p ≡ u + 1 = omega arith in rw e b

-- p is on the stack
abbrev pub On : List ℕ → ℕ → ℕ → Type 0
On waiting top p = (j : ℕ) × (j < top) × (get_or waiting j 0 ≡ p)

-- ---- depth: the stack's place j holds a node of at most 2^(20 − j) edges
eight : (k : ℕ) → k ≤ 3 → 2 ^ k ≤ 8
eight zero h = omega arith
eight (suc zero) h = omega arith
eight (suc (suc zero)) h = omega arith
eight (suc (suc (suc zero))) h = omega arith
eight (suc (suc (suc (suc k)))) h = absurd (omega arith)

-- a node that is cut stands below place 17
pub shallow : (j m : ℕ) → 8 < m → m ≤ 2 ^ (20 - j) → j < 17
shallow j m big h = go (dec_lt j 17)
  where
    go : Dec (j < 17) → j < 17
    go (yes l) = l
    go (no l) = absurd (omega (arith, eight (20 - j) (omega arith)))

pub halved : (j m : ℕ) → j < 17 → m ≤ 2 ^ (20 - j) → m - m / 2 ≤ 2 ^ (20 - (j + 1))
halved j m l h =
    let e : 20 - j ≡ suc (20 - (j + 1)) = omega arith in
    let w : 2 ^ (20 - j) ≡ 2 ^ (20 - (j + 1)) + 2 ^ (20 - (j + 1)) = ap (λ (k : ℕ). 2 ^ k) e ∙ two-pow-succ (20 - (j + 1)) in
    omega arith

-- ---- the nodes on the stack, from the top down, are laid one after the other, from u to w
pub Chain : List (List ℕ) → List ℕ → ℕ → ℕ → ℕ → Type 0
Chain parts waiting zero u w = u ≡ w
Chain parts waiting (suc s) u w = (v : ℕ) × Laid parts (get_or waiting s 0) u v × Chain parts waiting s v w

chain_none : (parts : List (List ℕ)) (waiting : List ℕ) (u : ℕ) → Chain parts waiting 0 u u
unfolding Chain
chain_none parts waiting u = refl

chain_push : (parts : List (List ℕ)) (waiting : List ℕ) (s u v w : ℕ) → Laid parts (get_or waiting s 0) u v → Chain parts waiting s v w → Chain parts waiting (s + 1) u w
unfolding Chain
chain_push parts waiting s u v w l k = rw add-one (v, l, k)

chain_pop : (parts : List (List ℕ)) (waiting : List ℕ) (s u w : ℕ) → Chain parts waiting (s + 1) u w → (v : ℕ) × Laid parts (get_or waiting s 0) u v × Chain parts waiting s v w
unfolding Chain
chain_pop parts waiting s u w k = rw add-one at k

chain_end : (parts : List (List ℕ)) (waiting : List ℕ) (u w : ℕ) → Chain parts waiting 0 u w → u ≡ w
unfolding Chain
chain_end parts waiting u w k = k

chain_same : (parts : List (List ℕ)) (waiting waiting' : List ℕ) (s u w : ℕ) → ((i : ℕ) → i < s → get_or waiting' i 0 ≡ get_or waiting i 0) → Chain parts waiting' s u w → Chain parts waiting s u w
unfolding Chain
chain_same parts waiting waiting' zero u w f k = k
chain_same parts waiting waiting' (suc s) u w f k = (k.0, rw (f s (omega arith)) at k.1, chain_same parts waiting waiting' s k.0 w (λ i l. f i (omega arith)) k.2)

-- tables that the loop may still come to: the counts stay, and so does the child of each node that is done
pub record Extends (parts : List (List ℕ)) (waiting : List ℕ) (top free : ℕ) (parts' : List (List ℕ)) : Type 0 where
  pub counts : (p : ℕ) → p < free → count_at parts' p ≡ count_at parts p
  pub kids : (p : ℕ) → p < free → On waiting top p ⊎ (child_at parts' p ≡ child_at parts p)

-- a cut node whose children stand in the first `free` rows
pub record Inner (parts : List (List ℕ)) (free p : ℕ) : Type 0 where
  pub fits : child_at parts p + 1 < free
  pub halves : Halves parts p

-- the loop's state
pub record Shaping (n : ℕ) (parts : List (List ℕ)) (waiting : List ℕ) (top free : ℕ) : Type 0 where
  pub some : 0 < free
  pub stack : length waiting ≡ 18
  pub room : free + owed nodes_below parts waiting top ≡ node_count n
  pub deep : (j : ℕ) → j < top → count_at parts (get_or waiting j 0) ≤ 2 ^ (20 - j)
  pub shallow_stack : top ≤ 18
  pub root_first : first_at parts 0 ≡ 0
  pub root_count : count_at parts 0 ≡ n
  pub below : (j : ℕ) → j < top → get_or waiting j 0 < free
  pub rising : (j : ℕ) → j < top → (i : ℕ) → i < j → get_or waiting i 0 < get_or waiting j 0
  pub within : (p : ℕ) → p < free → first_at parts p + count_at parts p ≤ n
  pub leaves : (p : ℕ) → p < free → count_at parts p ≤ 8 → child_at parts p ≡ 0
  pub inner : (p : ℕ) → p < free → On waiting top p ⊎ (8 < count_at parts p → Inner parts free p)
  pub laid : (parts' : List (List ℕ)) (w : ℕ) → Extends parts waiting top free parts' → Chain parts' waiting top free w → Laid parts' 0 1 w

-- at the start the root waits
pub shaping_start : (n : ℕ) (parts : List (List ℕ)) (waiting : List ℕ) → n ≤ 1048576 → length waiting ≡ 18 → get_or waiting 0 0 ≡ 0 → first_at parts 0 ≡ 0 → count_at parts 0 ≡ n → child_at parts 0 ≡ 0 → Shaping n parts waiting 1 1
shaping_start n parts waiting few long w0 f0 c0 k0 = record {
  some = omega arith;
  stack = long;
  room = omega (arith, owed1, node_count_some n);
  deep = λ j l. rw (the0 j l, w0, c0) few;
  shallow_stack = omega arith;
  root_first = f0;
  root_count = c0;
  below = λ j l. rw (the0 j l, w0) (omega arith);
  rising = λ j l i h. absurd (omega arith);
  within = λ p l. rw (the0 p l, f0, c0) (omega arith);
  leaves = λ p l s. rw (the0 p l) k0;
  inner = λ p l. inl (0, omega arith, w0 ∙ sym (the0 p l));
  laid = λ parts' w x k. one parts' w (chain_pop parts' waiting 0 1 w k);
}
  where
    the0 : (p : ℕ) → p < 1 → p ≡ 0
    the0 p l = omega arith

    one : (parts' : List (List ℕ)) (w : ℕ) → (v : ℕ) × Laid parts' (get_or waiting 0 0) 1 v × Chain parts' waiting 0 v w → Laid parts' 0 1 w
    one parts' w k = rw (chain_end parts' waiting k.0 w k.2, w0) at k.1

    owed1 : owed nodes_below parts waiting 1 ≡ node_count n - 1
    owed1 = owed_one nodes_below parts waiting 0 ∙ rw (w0, c0) (let e : owed nodes_below parts waiting 0 + (node_count n - 1) ≡ node_count n - 1 = omega (arith, owed_none nodes_below parts waiting) in e)

-- a node's rule stands where the tables agree at the node and at its children
inner_same : (parts parts' : List (List ℕ)) (free free' p : ℕ) → free ≤ free'
    → ((q : ℕ) → q < free → first_at parts' q ≡ first_at parts q) → ((q : ℕ) → q < free → count_at parts' q ≡ count_at parts q) → child_at parts' p ≡ child_at parts p
    → p < free → Inner parts free p → Inner parts' free' p
inner_same parts parts' free free' p more f c k l I = record {
  fits = rw k (omega (arith, I.fits));
  halves = record {
    left_first = rw (k, f (child_at parts p) (omega (arith, I.fits)), f p l) I.halves.left_first;
    left_count = rw (k, c (child_at parts p) (omega (arith, I.fits)), c p l) I.halves.left_count;
    right_first = rw (k, f (child_at parts p + 1) I.fits, f p l, c p l) I.halves.right_first;
    right_count = rw (k, c (child_at parts p + 1) I.fits, c p l) I.halves.right_count;
  };
}

module _ (n : ℕ) (parts : List (List ℕ)) (waiting : List ℕ) (top free : ℕ) (S : Shaping n parts waiting top free) (h : 0 < top) where
  -- the node that is taken off the stack
  abbrev pub taken : ℕ
  taken = get_or waiting (top - 1) 0

  pub taken_below : taken < free
  taken_below = S.below (top - 1) (omega arith)

  -- there is room for two more where it is cut
  pub room_for_two : 8 < count_at parts taken → free + 2 ≤ node_count n
  room_for_two big = omega (arith, S.room, owed_pop nodes_below parts waiting top h, node_count_three (count_at parts taken) big)

  pub stack_room : 8 < count_at parts taken → top < 18
  stack_room big = let d = shallow (top - 1) (count_at parts taken) big (S.deep (top - 1) (omega arith)) in omega arith

  -- a node on the stack is the one taken, or lies below it
  pub on_pop : (p : ℕ) → (p ≡ taken → ⊥) → On waiting top p → On waiting (top - 1) p
  on_pop p d o = go (dec_lt o.0 (top - 1))
    where
      go : Dec (o.0 < top - 1) → On waiting (top - 1) p
      go (yes l) = (o.0, l, o.2)
      go (no l) =
          let e : o.0 ≡ top - 1 = omega (arith, o.1) in
          absurd (d (sym o.2 ∙ ap (λ (j : ℕ). get_or waiting j 0) e))

  chain_on : (parts' : List (List ℕ)) (u v w : ℕ) → Laid parts' taken u v → Chain parts' waiting (top - 1) v w → Chain parts' waiting top u w
  chain_on parts' u v w l k = let e : top - 1 + 1 ≡ top = omega arith in rw e at (chain_push parts' waiting (top - 1) u v w l k)

  pub shaping_leaf : count_at parts taken ≤ 8 → Shaping n parts waiting (top - 1) free
  shaping_leaf small = record {
    some = S.some;
    stack = S.stack;
    room = omega (arith, S.room, owed_pop nodes_below parts waiting top h, lone);
    deep = λ j l. S.deep j (omega arith);
    shallow_stack = omega (arith, S.shallow_stack);
    root_first = S.root_first;
    root_count = S.root_count;
    below = λ j l. S.below j (omega arith);
    rising = λ j l. S.rising j (omega arith);
    within = S.within;
    leaves = S.leaves;
    inner = λ p l. one p (ℕ_discrete p taken) (S.inner p l);
    laid = λ parts' w x k. S.laid parts' w (back parts' x) (chain_on parts' free free w (leaf (rw (x.counts taken taken_below) small)) k);
  }
    where
      lone : node_count (count_at parts taken) ≡ 1
      lone = node_count_leaf (count_at parts taken) small

      back : (parts' : List (List ℕ)) → Extends parts waiting (top - 1) free parts' → Extends parts waiting top free parts'
      back parts' x = record { counts = x.counts; kids = λ p l. ⊎_elim (λ o. inl (o.0, omega (arith, o.1), o.2)) inr (x.kids p l) }

      one : (p : ℕ) → Dec (p ≡ taken) → On waiting top p ⊎ (8 < count_at parts p → Inner parts free p) → On waiting (top - 1) p ⊎ (8 < count_at parts p → Inner parts free p)
      one p (yes e) o = inr (λ big. absurd (not_both (rw e at big)))
        where
          not_both : 8 < count_at parts taken → ⊥
          not_both g = omega arith
      one p (no d) (inl o) = inl (on_pop p d o)
      one p (no d) (inr i) = inr i

  module _ (boxes : List (List ℤ)) (left right : Rect) (boxes' : List (List ℤ)) (parts' : List (List ℕ)) (waiting' : List ℕ) (big : 8 < count_at parts taken)
      (G : Grows boxes parts taken free left right boxes' parts') (K : Two waiting (top - 1) free (free + 1) waiting') where
    -- what stands on the new stack
    pub on_new : (p : ℕ) → p < free → On waiting' (top - 1 + 2) p → On waiting (top - 1) p
    on_new p l o = go (dec_lt o.0 (top - 1)) (ℕ_discrete o.0 (top - 1))
      where
        go : Dec (o.0 < top - 1) → Dec (o.0 ≡ top - 1) → On waiting (top - 1) p
        go (yes u) d = (o.0, u, sym (K.before o.0 u) ∙ o.2)
        go (no u) (yes e) = let q : free ≡ p = sym K.at ∙ ap (λ (j : ℕ). get_or waiting' j 0) (sym e) ∙ o.2 in absurd (omega arith)
        go (no u) (no d) =
            let e : o.0 ≡ top - 1 + 1 = omega (arith, o.1) in
            let q : free + 1 ≡ p = sym K.next ∙ ap (λ (j : ℕ). get_or waiting' j 0) (sym e) ∙ o.2 in
            absurd (omega arith)

    pub owed_rest : (adds : ℕ → ℕ) → owed adds parts' waiting' (top - 1) ≡ owed adds parts waiting (top - 1)
    owed_rest adds = owed_same adds parts parts' waiting waiting' (top - 1) (λ j l. rw (K.before j l) (G.count_old (get_or waiting j 0) (S.below j (omega arith))))

    pub left_on : count_at parts' (get_or waiting' (top - 1) 0) ≡ count_at parts taken / 2
    left_on = rw K.at G.left_count

    pub right_on : count_at parts' (get_or waiting' (top - 1 + 1) 0) ≡ count_at parts taken - count_at parts taken / 2
    right_on = rw K.next G.right_count

    room' : free + 2 + owed nodes_below parts' waiting' (top - 1 + 2) ≡ node_count n
    room' =
        let e₁ = ap node_count left_on in
        let e₂ = ap node_count right_on in
        omega (arith, S.room, owed_pop nodes_below parts waiting top h, owed_two nodes_below parts' waiting' (top - 1), owed_rest nodes_below, node_count_cut (count_at parts taken) big, node_count_some (count_at parts taken / 2), node_count_some (count_at parts taken - count_at parts taken / 2))

    at_most : count_at parts taken ≤ 2 ^ (20 - (top - 1))
    at_most = S.deep (top - 1) (omega arith)

    low : top - 1 < 17
    low = shallow (top - 1) (count_at parts taken) big at_most

    deep' : (j : ℕ) → j < top - 1 + 2 → count_at parts' (get_or waiting' j 0) ≤ 2 ^ (20 - j)
    deep' = up_two (λ j. count_at parts' (get_or waiting' j 0) ≤ 2 ^ (20 - j)) (top - 1)
        (λ j l. rw (K.before j l, G.count_old (get_or waiting j 0) (S.below j (omega arith))) (S.deep j (omega arith)))
        (omega (arith, left_on, at_most))
        (omega (arith, right_on, halved (top - 1) (count_at parts taken) low at_most))

    made : Inner parts' (free + 2) taken
    made = record {
      fits = rw G.child_here (omega arith);
      halves = record {
        left_first = rw (G.child_here, G.first_old taken taken_below) G.left_first;
        left_count = rw (G.child_here, G.count_old taken taken_below) G.left_count;
        right_first = rw (G.child_here, G.first_old taken taken_below, G.count_old taken taken_below) G.right_first;
        right_count = rw (G.child_here, G.count_old taken taken_below) G.right_count;
      };
    }

    old : (p : ℕ) → p < free → Dec (p ≡ taken) → On waiting top p ⊎ (8 < count_at parts p → Inner parts free p) → On waiting' (top - 1 + 2) p ⊎ (8 < count_at parts' p → Inner parts' (free + 2) p)
    old p l (yes e) o = inr (λ b. rw e made)
    old p l (no d) (inl o) = let q = on_pop p d o in inl (q.0, omega (arith, q.1), K.before q.0 q.1 ∙ q.2)
    old p l (no d) (inr i) = inr (λ b. inner_same parts parts' free (free + 2) p (omega arith) G.first_old G.count_old (G.child_old p l d) l (i (rw (G.count_old p l) at b)))

    back : (parts'' : List (List ℕ)) → Extends parts' waiting' (top - 1 + 2) (free + 2) parts'' → Extends parts waiting top free parts''
    back parts'' x = record { counts = λ p l. x.counts p (omega arith) ∙ G.count_old p l; kids = λ p l. kid p l (ℕ_discrete p taken) (x.kids p (omega arith)) }
      where
        kid : (p : ℕ) → p < free → Dec (p ≡ taken) → On waiting' (top - 1 + 2) p ⊎ (child_at parts'' p ≡ child_at parts' p) → On waiting top p ⊎ (child_at parts'' p ≡ child_at parts p)
        kid p l (yes e) o = inl (top - 1, omega arith, sym e)
        kid p l (no d) (inl o) = let q = on_new p l o in inl (q.0, omega (arith, q.1), q.2)
        kid p l (no d) (inr e) = inr (e ∙ G.child_old p l d)

    never : On waiting (top - 1) taken → ⊥
    never q = let r = S.rising (top - 1) (omega arith) q.0 q.1 in omega (arith, q.2)

    mine : (parts'' : List (List ℕ)) → Extends parts' waiting' (top - 1 + 2) (free + 2) parts'' → child_at parts'' taken ≡ free
    mine parts'' x = ⊎_elim (λ o. absurd (never (on_new taken taken_below o))) (λ e. e ∙ G.child_here) (x.kids taken (omega (arith, taken_below)))

    whole : (parts'' : List (List ℕ)) (w : ℕ) → Extends parts' waiting' (top - 1 + 2) (free + 2) parts'' → Chain parts'' waiting' (top - 1 + 2) (free + 2) w → Chain parts'' waiting top free w
    whole parts'' w x k =
        let e : top - 1 + 2 ≡ top - 1 + 1 + 1 = omega arith in
        let a = chain_pop parts'' waiting' (top - 1 + 1) (free + 2) w (rw e at k) in
        let b = chain_pop parts'' waiting' (top - 1) a.0 w a.2 in
        chain_on parts'' free b.0 w
        (node (rw (x.counts taken (omega (arith, taken_below)), G.count_old taken taken_below) big) (mine parts'' x) (rw K.next at a.1) (rw K.at at b.1))
        (chain_same parts'' waiting waiting' (top - 1) b.0 w K.before b.2)

    last : (i : ℕ) → Dec (i < top - 1) → i < top - 1 + 1 → get_or waiting' i 0 < free + 1
    last i (yes l) u = rw (K.before i l) (omega (arith, S.below i (omega arith)))
    last i (no l) u = let e : i ≡ top - 1 = omega arith in rw (e, K.at) (omega arith)

    pub shaping_cut : Shaping n parts' waiting' (top - 1 + 2) (free + 2)
    shaping_cut = record {
      some = omega arith;
      stack = K.long ∙ S.stack;
      room = room';
      deep = deep';
      shallow_stack = omega (arith, low);
      root_first = G.first_old 0 S.some ∙ S.root_first;
      root_count = G.count_old 0 S.some ∙ S.root_count;
      below = up_two (λ j. get_or waiting' j 0 < free + 2) (top - 1) (λ j l. rw (K.before j l) (omega (arith, S.below j (omega arith)))) (rw K.at (omega arith)) (rw K.next (omega arith));
      rising = up_two (λ j. (i : ℕ) → i < j → get_or waiting' i 0 < get_or waiting' j 0) (top - 1)
          (λ j l i u. rw (K.before j l, K.before i (omega arith)) (S.rising j (omega arith) i u))
          (λ i u. rw (K.at, K.before i u) (S.below i (omega arith)))
          (λ i u. rw K.next (last i (dec_lt i (top - 1)) u));
      within = up_two (λ p. first_at parts' p + count_at parts' p ≤ n) free (λ p l. rw (G.first_old p l, G.count_old p l) (S.within p l)) (rw (G.left_first, G.left_count) (omega (arith, S.within taken taken_below))) (rw (G.right_first, G.right_count) (omega (arith, S.within taken taken_below)));
      leaves = up_two (λ p. count_at parts' p ≤ 8 → child_at parts' p ≡ 0) free (λ p l. leaf_old p l (ℕ_discrete p taken)) (λ s. G.left_child) (λ s. G.right_child);
      inner = up_two (λ p. On waiting' (top - 1 + 2) p ⊎ (8 < count_at parts' p → Inner parts' (free + 2) p)) free (λ p l. old p l (ℕ_discrete p taken) (S.inner p l)) (inl (top - 1, omega arith, K.at)) (inl (top - 1 + 1, omega arith, K.next));
      laid = λ parts'' w x k. S.laid parts'' w (back parts'' x) (whole parts'' w x k);
    }
      where
        leaf_old : (p : ℕ) → p < free → Dec (p ≡ taken) → count_at parts' p ≤ 8 → child_at parts' p ≡ 0
        leaf_old p l (yes e) s = absurd (over (rw (e, G.count_old taken taken_below) at s))
          where
            over : count_at parts taken ≤ 8 → ⊥
            over t = omega arith
        leaf_old p l (no d) s = G.child_old p l d ∙ S.leaves p l (rw (G.count_old p l) at s)

-- at the end nothing waits
pub shaped : (n : ℕ) (parts : List (List ℕ)) (waiting : List ℕ) (top free : ℕ) → Shaping n parts waiting top free → top ≤ 0
    → (free ≡ node_count n) × ((p : ℕ) → p < free → 8 < count_at parts p → Halves parts p) × Laid parts 0 1 free
shaped n parts waiting top free S h =
    let e : top ≡ 0 = omega arith in (
      omega (arith, S.room, ap (owed nodes_below parts waiting) e, owed_none nodes_below parts waiting),
      λ p l big. ⊎_elim (λ o. absurd (none o)) (λ i. (i big).halves) (S.inner p l),
      S.laid parts free (record { counts = λ p l. refl; kids = λ p l. inr refl }) (rw e (chain_none parts waiting free)),
    )
  where
    none : {p : ℕ} → On waiting top p → ⊥
    none o = omega (arith, o.1)
