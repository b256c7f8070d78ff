-- The tests that a refit makes first: what passes for each number below a bound, a node's two children below a length, ring ends that rise, a part
-- that names edges, and with these two what the box of a part is made of. Assumes nothing.
use mathlib.Core.Path.{◌≡◌, refl, sym, ap, ◌∙◌, subst}
use mathlib.Core.Bool.{Bool, true, false, ◌&&◌}
use mathlib.Core.List.{List}
use Prim.Native.Nat.{ℕ, zero, suc, ◌+◌, ◌-◌, ◌*◌, ◌≤◌, ◌<◌}
use native.Mathlib.Decide.{ℕ_discrete}
use native.Mathlib.Numerals.{add-one}
use native.Mathlib.Omega.{arith}
use borrow.Author.Tests.{lt-ltb, le-leb, lt-leb, eq-eqb, leb-true, ltb-true, eqb-true}
use lib.Dec.{T, leb, ltb, eqb}
use lib.IntN.{ℤ}
use lib.ListN.{length, get_or}
use Rattle.std.specs.Prelude.{take, drop}
use Rattle.std.specs.List.{IsAllAdjacentAnswer, AllAdjacentBelow, list_all}
use Rattle.std.proofs.lemmas.List.{get_or-take, get_or-drop}
use Rattle.std.proofs.lemmas.List.Folds.{list_all_more}
use Rattle.std.proofs.lemmas.List.Sorted.{non_decreasing_from_is_sorted, all_adjacent_from_non_decreasing}
use Rattle.std.proofs.Common.{is_le, nat_cmp, length-drop, length-take-le}
use Rattle.integers.proofs.Tests.{T_true, and_true}
use Rattle.boxes.specs.Boxes.{Names}
use Rattle.boxes.specs.Rings.{start_of, RingEnds}
use Rattle.boxes.proofs.Rings.{start_zero, start_suc}
use Rattle.nodes.specs.declared.Node.{Node}
use Rattle.nodes.specs.Nodes.{Fits}
use Rattle.nodes.specs.Answers.{each_below, ends_rise, names_edges, is_fit, has_children}

-- ---- a test of each number below m
module _ (passes : ℕ → Bool) where
  pub each_holds : (m : ℕ) → each_below passes m ≡ true → (k : ℕ) → k < m → passes k ≡ true
  unfolding each_below
  each_holds zero e k l = absurd (omega arith)
  each_holds (suc m) e k l = go (ℕ_discrete k m) (λ b. each_holds m (and_true (each_below passes m) (passes m) e).0 k b)
    where
      go : Dec (k ≡ m) → (k < m → passes k ≡ true) → passes k ≡ true
      go (yes same) before = ap passes same ∙ (and_true (each_below passes m) (passes m) e).1
      go (no other) before = before (omega arith)

  pub each_fails : (m k : ℕ) → k < m → passes k ≡ false → each_below passes m ≡ false
  each_fails m k l e = go (each_below passes m) refl
    where
      go : (b : Bool) → each_below passes m ≡ b → b ≡ false
      go true all = sym (each_holds m all k l) ∙ e
      go false all = refl

  pub each_made : (m : ℕ) → ((k : ℕ) → k < m → passes k ≡ true) → each_below passes m ≡ true
  unfolding each_below
  each_made zero f = refl
  each_made (suc m) f = λ i. each_made m (λ k l. f k (omega arith)) i && f m (omega arith) i

-- ---- a node is cut and both its children's places are below a length
module _ (m : Node) (len : ℕ) where
  pub children_below : T (has_children m len) → m.part.child + 1 < len
  children_below t = ltb-true (m.part.child + 1) len (and_true (ltb 8 m.part.count) (ltb (m.part.child + 1) len) (T_true (has_children m len) t)).1

-- ---- ring ends that rise to n
abbrev rises : List ℕ → ℕ → Bool
rises rings r = leb (start_of rings r) (get_or rings r 0)

-- what the library's `is_sorted` says of the first `count` ends
pub rise_told : (rings : List ℕ) (count : ℕ) → count ≤ length rings → (sorted : Bool) → IsAllAdjacentAnswer (λ x y b. is_le (nat_cmp x y) ≡ b) (take count rings) sorted → sorted ≡ each_below (rises rings) count
rise_told rings count long true h = sym (each_made (rises rings) count (λ r l. le-leb (start_of rings r) (get_or rings r 0) (step r l)))
  where
    up : AllAdjacentBelow (λ x y. x ≤ y) (take count rings) (length (take count rings))
    up = all_adjacent_from_non_decreasing (λ x. x) (take count rings) (non_decreasing_from_is_sorted (take count rings) true h)

    step : (r : ℕ) → r < count → start_of rings r ≤ get_or rings r 0
    step zero l = omega (arith, start_zero rings)
    step (suc r) l =
        let up₀ = up r 0 (omega (arith, length-take-le count rings long)) in
        let e : r + 1 ≡ suc r = omega arith in
        omega (arith, start_suc rings r, ap (start_of rings) e, ap (λ k. get_or rings k 0) e, get_or-take count rings r 0 (omega arith), get_or-take count rings (r + 1) 0 (omega arith))
rise_told rings count long false h =
    let down = non_decreasing_from_is_sorted (take count rings) false h in
    let r = down.0 in
    let l : r + 1 < count = omega (arith, down.1, length-take-le count rings long) in
    sym (each_fails (rises rings) count (r + 1) l
    (lt-leb (start_of rings (r + 1)) (get_or rings (r + 1) 0)
    (omega (arith, down.2 0, start_suc rings r, get_or-take count rings r 0 (omega arith), get_or-take count rings (r + 1) 0 l))))

module _ (rings : List ℕ) (n count : ℕ) where
  pub rings_short : length rings < count → false ≡ ends_rise n count rings
  rings_short l = rw (lt-leb count (length rings) l) refl

  pub rise_breaks : count ≤ length rings → false ≡ each_below (rises rings) count → false ≡ ends_rise n count rings
  rise_breaks long down = rw (le-leb count (length rings) long, sym down) refl

  pub rise_done : count ≤ length rings → true ≡ each_below (rises rings) count → (start : ℕ) → start ≡ start_of rings count → eqb start n ≡ ends_rise n count rings
  rise_done long up start last = rw (le-leb count (length rings) long, sym up) (ap (λ k. eqb k n) last)

  pub ends_of : ends_rise n count rings ≡ true → RingEnds n count rings
  ends_of e =
      let long = and_true (leb count (length rings)) (each_below (rises rings) count && eqb (start_of rings count) n) e in
      let rest = and_true (each_below (rises rings) count) (eqb (start_of rings count) n) long.1 in
      record {
        reach = leb-true count (length rings) long.0;
        rise = λ r l. leb-true (start_of rings r) (get_or rings r 0) (each_holds (rises rings) count rest.0 r l);
        all = eqb-true (start_of rings count) n rest.1;
      }

  pub ends_test : RingEnds n count rings → ends_rise n count rings ≡ true
  ends_test ends =
      rw (
        le-leb count (length rings) ends.reach,
        each_made (rises rings) count (λ r l. le-leb (start_of rings r) (get_or rings r 0) (ends.rise r l)),
        eq-eqb (start_of rings count) n ends.all,
      )
      refl

-- ---- a part that names edges
abbrev names : ℕ → List ℕ → ℕ → ℕ → Bool
names n edges f k = ltb (get_or edges (f + k) 0) n

module _ (n : ℕ) (edges : List ℕ) (f m : ℕ) where
  -- what the library's `all` asks of the part, place by place
  pub names_told : f + m ≤ length edges → (k : ℕ) → k ≤ m → list_all (λ e. ltb e n) (take k (drop f edges)) ≡ each_below (names n edges f) k
  unfolding each_below
  names_told long zero h = refl
  names_told long (suc k) h =
      let here : k < length (drop f edges) = omega (arith, length-drop f edges) in
      ap (λ j. list_all (λ e. ltb e n) (take j (drop f edges))) (sym (add-one k)) ∙ list_all_more (λ e. ltb e n) (drop f edges) k 0 here
      ∙ (λ i. names_told long k (omega arith) i && ltb (get_or-drop f edges k 0 i) n)

  pub names_done : f + m ≤ length edges → list_all (λ e. ltb e n) (take (f + m - f) (drop f edges)) ≡ names_edges n edges f m
  names_done long =
      let size : f + m - f ≡ m = omega arith in
      ap (λ j. list_all (λ e. ltb e n) (take j (drop f edges))) size ∙ rw (le-leb (f + m) (length edges) long) (names_told long m (omega arith))

  pub names_of : names_edges n edges f m ≡ true → Names n edges f m
  names_of e =
      let both = and_true (leb (f + m) (length edges)) (each_below (names n edges f) m) e in
      record {
        inside = leb-true (f + m) (length edges) both.0;
        each = λ k from to.
            let at : f + (k - f) ≡ k = omega arith in
            let below = ltb-true (get_or edges (f + (k - f)) 0) n (each_holds (names n edges f) m both.1 (k - f) (omega arith)) in
            subst (λ (j : ℕ). get_or edges j 0 < n) at below;
      }

  pub names_test : Names n edges f m → names_edges n edges f m ≡ true
  names_test ok =
      rw (le-leb (f + m) (length edges) ok.inside, each_made (names n edges f) m (λ k l. lt-ltb (get_or edges (f + k) 0) n (ok.each (f + k) (omega arith) (omega arith)))) refl

-- ---- what the box of a node's part is made of
module _ (n count : ℕ) (corners : List ℤ) (rings edges : List ℕ) (m : Node) where
  pub fits_of : is_fit n count corners rings edges m ≡ true → Fits n count corners rings edges m
  fits_of e =
      let long = and_true (leb (2 * n) (length corners)) (ends_rise n count rings && names_edges n edges m.part.first m.part.count) e in
      let rest = and_true (ends_rise n count rings) (names_edges n edges m.part.first m.part.count) long.1 in
      record { corners_reach = leb-true (2 * n) (length corners) long.0; ends = ends_of rings n count rest.0; names = names_of n edges m.part.first m.part.count rest.1 }

  pub fits_test : Fits n count corners rings edges m → is_fit n count corners rings edges m ≡ true
  fits_test fits = λ i. le-leb (2 * n) (length corners) fits.corners_reach i && (ends_test rings n count fits.ends i && names_test n edges m.part.first m.part.count fits.names i)
