-- What slots say of the edges met, ring by ring (document 01, items 3 and 4).
use Rattle.std.specs.Prelude.{◌≡◌, Bool, true, false, cond, ◌&&◌, List, ◌∷◌, ℕ, ◌+◌, ◌≤◌, ◌<◌, ◌^◌, eqb, ℤ, pos, length, get_or, Option, Some, None}
use Rattle.rules.specs.Lists.{sum_of, any_of}
use Rattle.rings.specs.declared.crossings.Crossing.{Crossing}
use Rattle.rings.specs.Crossings.{is_on, weight_of}
use Rattle.boxes.specs.Rings.{start_of}
use Rattle.gather.specs.declared.tally.Layout.{Layout}
use Rattle.gather.specs.declared.tally.Layout.TheVariants.{Listed, EachRing}
use Rattle.gather.specs.Slots.{slot_of}

-- an edge met: its ring, and how it counts
abbrev pub Met : Type 0
Met = ℕ × Crossing

-- what the edges met give for ring r: their winding, and whether the point is on one of them
unfoldable pub winding_in : List Met → ℕ → ℤ
winding_in met r = sum_of (λ m. cond (eqb m.0 r) (weight_of m.1) (pos 0)) met

unfoldable pub on_in : List Met → ℕ → Bool
on_in met r = any_of (λ m. eqb m.0 r && is_on m.1) met

-- the ring of slot k, and how many slots count
abbrev pub ring_at : Layout → List ℕ → ℕ → ℕ
ring_at (Listed used) listed k = get_or listed k 0
ring_at EachRing listed k = k

abbrev pub size_of : ℕ → Layout → ℕ
size_of count (Listed used) = used
size_of count EachRing = count

abbrev pub is_listed : Layout → Bool
is_listed (Listed used) = true
is_listed EachRing = false

-- list and slots are long enough
abbrev pub Room : Layout → ℕ → ℕ → Type 0
Room (Listed used) listed slots = (used ≤ 128) × (128 ≤ listed) × (128 ≤ slots)
Room EachRing listed slots = 65536 ≤ slots

-- rings by rising number, each slot with what the edges met give for its ring, and no edge of any other ring says anything
pub record Tallied (count : ℕ) (met : List Met) (layout : Layout) (listed : List ℕ) (slots : List ℤ) : Type 0 where
  pub rise : (i j : ℕ) → i < j → j < size_of count layout → ring_at layout listed i < ring_at layout listed j
  pub inside : (k : ℕ) → k < size_of count layout → ring_at layout listed k < count
  pub told : (k : ℕ) → k < size_of count layout → get_or slots k (pos 0) ≡ slot_of (winding_in met (ring_at layout listed k)) (on_in met (ring_at layout listed k))
  pub rest : (r : ℕ) → r < count → ((k : ℕ) → k < size_of count layout → ring_at layout listed k ≡ r → ⊥) → (winding_in met r ≡ pos 0) × (on_in met r ≡ false)

-- the first k of the rings listed are not higher than this one, and the rest are higher
pub record Reaching (listed : List ℕ) (used ring k : ℕ) : Type 0 where
  pub few : k ≤ used
  pub before : start_of listed k ≤ ring
  pub after : k < used → ring < get_or listed k 0

-- x put at place k in front of the elements from there to `used`
pub record Inserted {A : Type 0} (d : A) (xs : List A) (used k : ℕ) (x : A) (ys : List A) : Type 0 where
  pub long : length ys ≡ length xs
  pub before : (i : ℕ) → i < k → get_or ys i d ≡ get_or xs i d
  pub at : get_or ys k d ≡ x
  pub after : (i : ℕ) → k ≤ i → i < used → get_or ys (i + 1) d ≡ get_or xs i d

-- one edge more is counted, whatever was met before: there are fewer edges than a slot can count
pub record Counts (layout : Layout) (listed : List ℕ) (slots : List ℤ) (ring : ℕ) (crossing : Crossing) (layout' : Layout) (listed' : List ℕ) (slots' : List ℤ) : Type 0 where
  pub room : Room layout' (length listed') (length slots')
  pub same : is_listed layout' ≡ is_listed layout
  pub tallied : (count : ℕ) (met : List Met) → ring < count → length met < 2 ^ 61 → Tallied count met layout listed slots → Tallied count ((ring, crossing) ∷ met) layout' listed' slots'

-- only a list can be full
abbrev pub AddSays : Layout → List ℕ → List ℤ → ℕ → Crossing → List ℕ → List ℤ → Option Layout → Type 0
AddSays layout listed slots ring crossing listed' slots' (Some layout') = Counts layout listed slots ring crossing layout' listed' slots'
AddSays layout listed slots ring crossing listed' slots' None = is_listed layout ≡ true
