-- Whole walks of sound tables: what a caller's loop carries from `start` through the steps to the end, and that what it adds up over the
-- edges yielded is what all edges in plan order give. Assumes nothing.
use mathlib.Core.Path.{◌≡◌, refl, sym, ap, ◌∙◌, subst}
use mathlib.Core.Bool.{Bool, true, false, cond, ◌&&◌, ◌||◌}
use Rattle.std.specs.Prelude.{Option, Some, None, Result, Ok, Err}
use mathlib.Core.List.{List, [], ◌∷◌}
use Prim.Native.Nat.{ℕ, zero, suc, ◌+◌, ◌-◌, ◌≤◌, ◌<◌}
use native.Mathlib.Decide.{ℕ_discrete, dec_lt}
use native.Mathlib.Omega.{arith}
use borrow.Author.Tests.{eq-eqb, ne_eqb, eqb-true}
use lib.Dec.{eqb, ltb}
use lib.IntN.{ℤ, pos, ◌+ℤ◌, +ℤ_idr, +ℤ_comm}
use lib.ListN.{length, get_or}
use Rattle.integers.proofs.Tests.{and_none, or_none, not_both}
use Rattle.rules.specs.Lists.{sum_of, count_of, any_of}
use Rattle.rules.proofs.Indexed.{bit, sum_to, count_to, any_to}
use Rattle.boxes.specs.Boxes.{edge_box}
use Rattle.boxes.specs.Rings.{start_of, in_ring}
use Rattle.index.proofs.Soundness.{edge_in, edge_place, edge_once, edges_counted}
use Rattle.rules.specs.declared.Unsound.{Unsound}
use Rattle.walk.specs.declared.Cursor.{Cursor}
use Rattle.walk.specs.declared.Query.{Query}
use Rattle.walk.specs.declared.Step.{Step}
use Rattle.walk.specs.Steps.{step_number, enters, WalkSound, Begun, Over, Never, Yields, Ends, Says}
use Rattle.walk.specs.Walks.{Yielded, Walked, SomeEdges, AllMet}
use Rattle.walk.specs.Walks.Yielded.{none, over, edge}
use Rattle.walk.proofs.Standing.{walking_start}
use Rattle.walk.proofs.Sums.{sum_reordered, any_count, of_ring, sum_ring, count_ring, any_ring}

or_comm : (a b : Bool) → a || b ≡ b || a
or_comm true true = refl
or_comm true false = refl
or_comm false true = refl
or_comm false false = refl

-- ---- what is added up over the edges yielded is what the places behind the walk give, where a missed edge adds nothing
module _ (corners : List ℤ) (rings edges : List ℕ) (query : Query) where
  -- a weight that is 0 where the edge's box is not one to enter, and a test that fails there
  abbrev pub Weightless : (ℕ → ℤ) → Type 0
  Weightless w = (e : ℕ) → enters query (edge_box corners rings e) ≡ false → w e ≡ pos 0

  abbrev pub Fails : (ℕ → Bool) → Type 0
  Fails test = (e : ℕ) → enters query (edge_box corners rings e) ≡ false → test e ≡ false

  pub sum_yielded : (w : ℕ → ℤ) → Weightless w → (at : ℕ) (es : List ℕ) → Yielded corners rings edges query at es → sum_of w es ≡ sum_to (λ k. w (get_or edges k 0)) at
  unfolding sum_of sum_to
  sum_yielded w z _ _ none = refl
  sum_yielded w z _ _ (over {at = at} {es = es} Y m) = sum_yielded w z at es Y ∙ sym (ap (λ x. sum_to (λ k. w (get_or edges k 0)) at +ℤ x) (z (get_or edges at 0) m) ∙ +ℤ_idr (sum_to (λ k. w (get_or edges k 0)) at))
  sum_yielded w z _ _ (edge {at = at} {es = es} Y) = ap (λ x. w (get_or edges at 0) +ℤ x) (sum_yielded w z at es Y) ∙ +ℤ_comm (w (get_or edges at 0)) (sum_to (λ k. w (get_or edges k 0)) at)

  count_cons : (test : ℕ → Bool) (x : ℕ) (es : List ℕ) → count_of test (x ∷ es) ≡ count_of test es + bit (test x)
  unfolding count_of
  count_cons test x es = go (test x)
    where
      go : (b : Bool) → cond b (suc (count_of test es)) (count_of test es) ≡ count_of test es + bit b
      go true = omega arith
      go false = omega arith

  pub count_yielded : (test : ℕ → Bool) → Fails test → (at : ℕ) (es : List ℕ) → Yielded corners rings edges query at es → count_of test es ≡ count_to (λ k. test (get_or edges k 0)) at
  unfolding count_of count_to
  count_yielded test z _ _ none = refl
  count_yielded test z _ _ (over {at = at} {es = es} Y m) = let r = count_yielded test z at es Y in omega (arith, ap bit (z (get_or edges at 0) m))
  count_yielded test z _ _ (edge {at = at} {es = es} Y) = let r = count_yielded test z at es Y in omega (arith, count_cons test (get_or edges at 0) es)

  pub any_yielded : (test : ℕ → Bool) → Fails test → (at : ℕ) (es : List ℕ) → Yielded corners rings edges query at es → any_of test es ≡ any_to (λ k. test (get_or edges k 0)) at
  unfolding any_of any_to
  any_yielded test z _ _ none = refl
  any_yielded test z _ _ (over {at = at} {es = es} Y m) = any_yielded test z at es Y ∙ sym (ap (λ b. any_to (λ k. test (get_or edges k 0)) at || b) (z (get_or edges at 0) m) ∙ or_none (any_to (λ k. test (get_or edges k 0)) at))
  any_yielded test z _ _ (edge {at = at} {es = es} Y) = ap (λ b. test (get_or edges at 0) || b) (any_yielded test z at es Y) ∙ or_comm (test (get_or edges at 0)) (any_to (λ k. test (get_or edges k 0)) at)

  -- any test counts no more among the edges yielded than among the places
  count_most : (test : ℕ → Bool) (at : ℕ) (es : List ℕ) → Yielded corners rings edges query at es → count_of test es ≤ count_to (λ k. test (get_or edges k 0)) at
  unfolding count_of count_to
  count_most test _ _ none = omega arith
  count_most test _ _ (over {at = at} {es = es} Y m) = let r = count_most test at es Y in omega arith
  count_most test _ _ (edge {at = at} {es = es} Y) = let r = count_most test at es Y in omega (arith, count_cons test (get_or edges at 0) es)

  pub length_most : (at : ℕ) (es : List ℕ) → Yielded corners rings edges query at es → length es ≤ at
  length_most _ _ none = omega arith
  length_most _ _ (over {at = at} {es = es} Y m) = let r = length_most at es Y in omega arith
  length_most _ _ (edge {at = at} {es = es} Y) = let r = length_most at es Y in omega arith

  -- places passed over leave the edges yielded as they are
  pub over_to : (at to : ℕ) (es : List ℕ) → at ≤ to → Yielded corners rings edges query at es → Over corners rings edges query at to → Yielded corners rings edges query to es
  over_to at zero es l Y O = let e : at ≡ 0 = omega arith in subst (λ (k : ℕ). Yielded corners rings edges query k es) e Y
  over_to at (suc to) es l Y O = go (ℕ_discrete at (suc to)) (over_to at to es)
    where
      go : Dec (at ≡ suc to) → (at ≤ to → Yielded corners rings edges query at es → Over corners rings edges query at to → Yielded corners rings edges query to es) → Yielded corners rings edges query (suc to) es
      go (yes e) ih = subst (λ (k : ℕ). Yielded corners rings edges query k es) e Y
      go (no d) ih = over (ih (omega arith) Y (λ k a b. O k a (omega arith))) (O to (omega arith) (omega arith))

count_longer : (test : ℕ → Bool) (m n : ℕ) → m ≤ n → count_to test m ≤ count_to test n
unfolding count_to
count_longer test m zero h = let e : m ≡ 0 = omega arith in rw e (omega arith)
count_longer test m (suc n) h = go (dec_lt n m) (count_longer test m n)
  where
    go : Dec (n < m) → (m ≤ n → count_to test m ≤ count_to test n) → count_to test m ≤ count_to test n + bit (test n)
    go (yes l) ih = let e : m ≡ suc n = omega arith in rw e (omega arith)
    go (no l) ih = let r = ih (omega arith) in omega arith

-- how often a number stands among the numbers below n
numbered_none : (e n : ℕ) → n ≤ e → count_to (λ k. eqb k e) n ≡ 0
unfolding count_to
numbered_none e zero h = refl
numbered_none e (suc n) h = omega (arith, numbered_none e n (omega arith), ap bit (ne_eqb n e (omega arith)))

numbered_once : (e n : ℕ) → e < n → count_to (λ k. eqb k e) n ≡ 1
unfolding count_to
numbered_once e zero h = absurd (omega arith)
numbered_once e (suc n) h = go (ℕ_discrete n e) (numbered_once e n)
  where
    go : Dec (n ≡ e) → (e < n → count_to (λ k. eqb k e) n ≡ 1) → count_to (λ k. eqb k e) n + bit (eqb n e) ≡ 1
    go (yes q) ih = omega (arith, numbered_none e n (omega arith), ap bit (eq-eqb n e q))
    go (no d) ih = let r = ih (omega arith) in omega (arith, ap bit (ne_eqb n e d))

module _ (n : ℕ) (corners : List ℤ) (rings : List ℕ) (boxes : List (List ℤ)) (parts : List (List ℕ)) (edges : List ℕ) (T : WalkSound n corners rings boxes parts edges) (query : Query) where
  -- ---- from start to end
  pub begun : (stack : List ℕ) (c : Cursor) → 18 ≤ length stack → get_or stack 0 0 ≡ 0 → Begun n c → Walked n corners rings parts edges query stack c []
  begun stack c room root B =
      record {
        walking = walking_start n corners rings boxes parts edges T stack c room root B;
        yielded = subst (λ (k : ℕ). Yielded corners rings edges query k []) (sym B.at) none;
      }

  module _ (stack : List ℕ) (c : Cursor) (es : List ℕ) (W : Walked n corners rings parts edges query stack c es) where
    pub stepped : (stack' : List ℕ) (step : Step) → Yields n boxes parts edges query stack c stack' step → Walked n corners rings parts edges query stack' step.after (step.edge ∷ es)
    stepped stack' step Y =
        let g = Y.went corners rings T W.walking in
        let far = over_to corners rings edges query c.at Y.place es g.on W.yielded g.over in
        let to : suc Y.place ≡ step.after.at = omega (arith, Y.next) in
        record {
          walking = g.walking;
          yielded =
              subst (λ (x : ℕ). Yielded corners rings edges query step.after.at (x ∷ es)) Y.read
              (subst (λ (k : ℕ). Yielded corners rings edges query k (get_or edges Y.place 0 ∷ es)) to (edge far));
        }

    behind : c.at ≤ n
    behind = omega (arith, W.walking.here, W.walking.inside)

    pub ended : (stack' : List ℕ) → Ends n boxes parts edges query stack c stack' → Yielded corners rings edges query n es
    ended stack' E = over_to corners rings edges query c.at n es behind W.yielded (E.over corners rings T W.walking)

    -- sound tables never get 15
    pub never_unsound : Never n boxes parts edges stack c → ⊥
    never_unsound f = f corners rings T W.walking

    pub never_refused : (stack' : List ℕ) (r : Result (Option Step) Unsound) → Says n boxes parts edges query stack c stack' r → step_number r ≡ 0
    never_refused stack' (Ok (Some step)) s = s.number
    never_refused stack' (Ok None) s = s.number
    never_refused stack' (Err _) s = absurd (never_unsound s.never)

    -- at any time: edge numbers, none of them twice
    pub some_edges : SomeEdges n es
    some_edges = some_by c.at behind W.yielded
      where
        some_by : (at : ℕ) → at ≤ n → Yielded corners rings edges query at es → SomeEdges n es
        some_by at l Y =
            record {
              inside = λ e a. let m = most e in omega (arith, numbered_none e n a);
              once = λ e. let m = most e in split e (dec_lt e n) m;
              few = omega (arith, length_most corners rings edges query at es Y);
            }
          where
            most : (e : ℕ) → count_of (λ x. eqb x e) es ≤ count_to (λ k. eqb k e) n
            most e =
                omega (arith, count_most corners rings edges query (λ x. eqb x e) at es Y, count_longer (λ k. eqb (get_or edges k 0) e) at n l, edges_counted n corners rings boxes parts edges T.index (λ x. eqb x e))

            split : (e : ℕ) → Dec (e < n) → count_of (λ x. eqb x e) es ≤ count_to (λ k. eqb k e) n → count_of (λ x. eqb x e) es ≤ 1
            split e (yes h) m = omega (arith, numbered_once e n h)
            split e (no h) m = omega (arith, numbered_none e n (omega arith))

  -- ---- a walk that has ended
  module _ (es : List ℕ) (Y : Yielded corners rings edges query n es) where
    -- each edge whose box is one to enter has come
    pub met_yielded : (e : ℕ) → e < n → enters query (edge_box corners rings e) ≡ true → count_of (λ x. eqb x e) es ≡ 1
    met_yielded e h m =
        count_yielded corners rings edges query (λ x. eqb x e) fails n es Y ∙ edges_counted n corners rings boxes parts edges T.index (λ x. eqb x e) ∙ numbered_once e n h
      where
        fails : (x : ℕ) → enters query (edge_box corners rings x) ≡ false → eqb x e ≡ false
        fails x f = not_both (eqb x e) (λ q. omega (arith, ap bit (sym m ∙ ap (λ k. enters query (edge_box corners rings k)) (sym (eqb-true x e q)) ∙ f)))

    -- a sum over the edges yielded is the sum over all edges in plan order; so are a count and a flag
    pub sum_all : (w : ℕ → ℤ) → Weightless corners rings edges query w → sum_of w es ≡ sum_to w n
    sum_all w z =
        sum_yielded corners rings edges query w z n es Y
        ∙ sum_reordered (λ k. get_or edges k 0) n (edge_in n corners rings boxes parts edges T.index) (edge_place n corners rings boxes parts edges T.index) (edge_once n corners rings boxes parts edges T.index) w

    pub count_all : (test : ℕ → Bool) → Fails corners rings edges query test → count_of test es ≡ count_to test n
    count_all test z = count_yielded corners rings edges query test z n es Y ∙ edges_counted n corners rings boxes parts edges T.index test

    pub any_all : (test : ℕ → Bool) → Fails corners rings edges query test → any_of test es ≡ any_to test n
    any_all test z =
        any_yielded corners rings edges query test z n es Y ∙ any_count (λ k. test (get_or edges k 0)) n ∙ ap (ltb 0) (edges_counted n corners rings boxes parts edges T.index test) ∙ sym (any_count test n)

    -- ring by ring: over the edges of ring r alone, as the ring's own edges give it
    module _ (r : ℕ) (rise : start_of rings r ≤ get_or rings r 0) (reach : get_or rings r 0 ≤ n) where
      pub sum_of_ring : (w : ℕ → ℤ) → Weightless corners rings edges query w → sum_of (of_ring rings r w) es ≡ sum_to (λ i. w (start_of rings r + i)) (get_or rings r 0 - start_of rings r)
      sum_of_ring w z = sum_all (of_ring rings r w) (λ e m. none_of (in_ring rings r e) (w e) (z e m)) ∙ sum_ring rings r w n rise reach
        where
          none_of : (b : Bool) (x : ℤ) → x ≡ pos 0 → cond b x (pos 0) ≡ pos 0
          none_of true x e = e
          none_of false x e = refl

      fails_too : (test : ℕ → Bool) → Fails corners rings edges query test → Fails corners rings edges query (λ e. in_ring rings r e && test e)
      fails_too test z e m = ap (λ b. in_ring rings r e && b) (z e m) ∙ and_none (in_ring rings r e)

      pub count_of_ring : (test : ℕ → Bool) → Fails corners rings edges query test → count_of (λ e. in_ring rings r e && test e) es ≡ count_to (λ i. test (start_of rings r + i)) (get_or rings r 0 - start_of rings r)
      count_of_ring test z = count_all (λ e. in_ring rings r e && test e) (fails_too test z) ∙ count_ring rings r test n rise reach

      pub any_of_ring : (test : ℕ → Bool) → Fails corners rings edges query test → any_of (λ e. in_ring rings r e && test e) es ≡ any_to (λ i. test (start_of rings r + i)) (get_or rings r 0 - start_of rings r)
      any_of_ring test z = any_all (λ e. in_ring rings r e && test e) (fails_too test z) ∙ any_ring rings r test n rise reach

  -- the whole of it
  pub all_met : (stack : List ℕ) (c : Cursor) (es : List ℕ) → Walked n corners rings parts edges query stack c es → (stack' : List ℕ) → Ends n boxes parts edges query stack c stack' → AllMet n corners rings query es
  all_met stack c es W stack' E = record { some = some_edges stack c es W; all = met_yielded es (ended stack c es W stack' E) }
