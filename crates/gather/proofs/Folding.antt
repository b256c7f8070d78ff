-- A fold over slots takes in every ring: those with a slot one by one, and those without, which the point is outside of, between them.
-- Assumes nothing.
use mathlib.Core.Path.{◌≡◌}
use mathlib.Core.List.{List}
use Prim.Native.Nat.{ℕ, ◌+◌, ◌≤◌, ◌<◌}
use native.Mathlib.Decide.{ℕ_discrete, dec_lt}
use native.Mathlib.Omega.{arith}
use lib.IntN.{ℤ, pos}
use lib.ListN.{get_or}
use Rattle.rules.specs.declared.Kind.{Kind}
use Rattle.rules.specs.declared.Location.{Location}
use Rattle.rules.specs.declared.Location.TheVariants.{Outside}
use Rattle.fold.specs.declared.Fold.{Fold}
use Rattle.fold.specs.Regions.{region_place}
use Rattle.fold.specs.Folds.{begun, place_of, Folding, Fits, Folds}
use Rattle.fold.proofs.Foldings.{begins, met, rest}
use Rattle.gather.specs.declared.tally.Layout.{Layout}
use Rattle.gather.specs.declared.tally.Layout.TheVariants.{Listed, EachRing}
use Rattle.gather.specs.Slots as Slots
use Rattle.gather.specs.Tallies.{ring_at, size_of, Room}
use Rattle.gather.specs.Regions.{Listable, SlotsPlace}

-- the rings below r are taken in: those of the first k slots are, and those of the others are not
pub record FoldedTo (kind : Kind) (places : ℕ → Location) (polygons : List ℕ) (m count : ℕ) (layout : Layout) (listed : List ℕ) (k : ℕ) (fold : Fold) : Type 0 where
  pub r : ℕ
  pub most : r ≤ count
  pub behind : (i : ℕ) → i < k → ring_at layout listed i < r
  pub ahead : (i : ℕ) → k ≤ i → i < size_of count layout → r ≤ ring_at layout listed i
  pub folding : Folding kind places polygons m r fold

pub folded_none : (kind : Kind) (places : ℕ → Location) (polygons : List ℕ) (m count : ℕ) (layout : Layout) (listed : List ℕ) → FoldedTo kind places polygons m count layout listed 0 (begun kind)
folded_none kind places polygons m count layout listed =
    record { r = 0; most = omega arith; behind = λ i h. absurd (omega arith); ahead = λ i h l. omega arith; folding = begins kind places polygons m }

module _ (kind : Kind) (places : ℕ → Location) (polygons : List ℕ) (m count : ℕ) (fits : Fits kind count m polygons) (layout : Layout) (listed : List ℕ) (slots : List ℤ) (S : SlotsPlace places count layout listed slots) (k : ℕ) (fold : Fold) (F : FoldedTo kind places polygons m count layout listed k fold) where
  abbrev ring : ℕ → ℕ
  ring i = ring_at layout listed i

  -- a ring from r on, below that of slot k, has no slot
  between : k < size_of count layout → (j : ℕ) → F.r ≤ j → j < ring k → places j ≡ Outside
  between h j a b = S.rest j (omega (arith, S.inside k h)) (λ i l e. go i l e (dec_lt i k) (ℕ_discrete i k))
    where
      go : (i : ℕ) → i < size_of count layout → ring i ≡ j → Dec (i < k) → Dec (i ≡ k) → ⊥
      go i l e (yes c) d = absurd (omega (arith, F.behind i c))
      go i l e (no c) (yes d) = absurd (omega (arith, let s : ring k ≡ j = rw d at e in s))
      go i l e (no c) (no d) = absurd (omega (arith, S.rise k i (omega arith) l))

  pub folded_more : k < size_of count layout → (next : Fold) → Folds polygons m fold (ring k) (Slots.place_of (get_or slots k (pos 0))) next → FoldedTo kind places polygons m count layout listed (k + 1) next
  folded_more h next step =
      record {
        r = ring k + 1;
        most = omega (arith, S.inside k h);
        behind = λ i l. go i l (ℕ_discrete i k);
        ahead = λ i l u. omega (arith, S.rise k i (omega arith) u);
        folding = met kind places polygons count m fits F.r fold F.folding (ring k) (F.ahead k (omega arith) h) (S.inside k h) (between h) (Slots.place_of (get_or slots k (pos 0))) (S.each k h) next step;
      }
    where
      go : (i : ℕ) → i < k + 1 → Dec (i ≡ k) → ring i < ring k + 1
      go i l (yes d) = rw d (omega arith)
      go i l (no d) = omega (arith, S.rise i k (omega arith) h)

  pub folded_all : size_of count layout ≤ k → place_of fold ≡ region_place kind places polygons m count
  folded_all h = rest kind places polygons count m fits F.r fold F.folding F.most (λ j a b. S.rest j b (λ i l e. absurd (omega (arith, F.behind i (omega arith)))))

-- ---- every slot that counts stands in its array
pub size_fits : (count : ℕ) (layout : Layout) (listed slots : ℕ) → count ≤ 65536 → Room layout listed slots → size_of count layout ≤ slots
size_fits count (Listed used) listed slots h R = omega (arith, R.0, R.2)
size_fits count EachRing listed slots h R = omega arith

pub slot_listed : (count : ℕ) (layout : Layout) (listed slots k : ℕ) → Room layout listed slots → k < size_of count layout → Listable layout k listed
slot_listed count (Listed used) listed slots k R h = omega (arith, R.0, R.1)
slot_listed count EachRing listed slots k R h = tt
