-- What is written is a text of the grammar that spells the polygons. Assumes nothing.
use mathlib.Core.Path.{◌≡◌, refl, ap, subst}
use mathlib.Core.Bool.{true}
use mathlib.Core.List.{List, [], ◌∷◌, ◌++◌}
use Prim.Native.Nat.{ℕ}
use Rattle.fields.specs.Decimals.{fits_word}
use Rattle.geom.specs.declared.Point.{Point}
use Rattle.grammar.specs.Words.{multipolygon}
use Rattle.grammar.specs.Grammar.{Ring, Polygon, none, more, round, Pair, pair, Rest, close, next, Bracketed, bracketed, RingText, Member, full, kept, Text, many, many_empty}
use Rattle.grammar.specs.Spellings.{spells}
use Rattle.grammar.specs.Scans.{spelling}
use Rattle.grammar.specs.Texts.{after, in_brackets, pair_text, ring_text, polygon_text, wkt_text, closed, drop_last}
use Rattle.grammar.proofs.Means.{means, means_one}

abbrev pub All : {A : Type 0} → (A → Type 0) → List A → Type 0
All P [] = Unit {0}
All P (item ∷ items) = P item × All P items

-- one at least, and all of them so
abbrev pub Some : {A : Type 0} → (A → Type 0) → List A → Type 0
Some P [] = ⊥
Some P (item ∷ items) = P item × All P items

abbrev pub Fits : Point → Type 0
Fits p = (fits_word p.x ≡ true) × (fits_word p.y ≡ true)

-- polygons of rings of corners of 64 bits, none of them empty
abbrev pub Writable : List Polygon → Type 0
Writable polygons = All (Some (Some Fits)) polygons

module _ (A : Type 0) (L : A → List ℕ → Type 0) (P : A → Type 0) (text : A → List ℕ) (is : (item : A) → P item → L item (text item)) where
  after_is : (items : List A) → All P items → Rest A L items (after text items)
  unfolding after
  after_is [] h = close (round none none)
  after_is (item ∷ items) h = next (round none (more none)) (is item h.0) (after_is items h.1)

  brackets_is : (items : List A) → Some P items → Bracketed A L items (in_brackets text items)
  unfolding in_brackets
  brackets_is [] h = absurd h
  brackets_is (item ∷ items) h = bracketed (round none none) (is item h.0) (after_is items h.1)

  -- with a space before
  spaced_is : (items : List A) → Some P items → Bracketed A L items (32 ∷ in_brackets text items)
  unfolding in_brackets
  spaced_is [] h = absurd h
  spaced_is (item ∷ items) h = bracketed (round (more none) none) (is item h.0) (after_is items h.1)

pair_is : (p : Point) → Fits p → Pair p (pair_text p)
pair_is p h = pair p.x p.y h.0 h.1 none

ring_is : (ring : Ring) → Some Fits ring → RingText ring (ring_text ring)
ring_is = brackets_is Point Pair Fits pair_text pair_is

polygon_is : (rings : Polygon) → Some (Some Fits) rings → Member rings (polygon_text rings)
polygon_is rings h = full (brackets_is Ring RingText (Some Fits) ring_text ring_is rings h)

all_kept : (polygons : List Polygon) → Writable polygons → kept polygons ≡ polygons
unfolding kept
all_kept [] h = refl
all_kept ([] ∷ polygons) h = absurd h.0
all_kept ((ring ∷ rings) ∷ polygons) h = ap (λ ps. (ring ∷ rings) ∷ ps) (all_kept polygons h.1)

written_text : (polygons : List Polygon) → Writable polygons → Text polygons (wkt_text polygons)
unfolding wkt_text
written_text [] h = many_empty none
written_text (rings ∷ polygons) h = subst (λ ps. Text ps (multipolygon ++ (32 ∷ in_brackets polygon_text (rings ∷ polygons)))) (all_kept (rings ∷ polygons) h) (many (spaced_is Polygon Member (Some (Some Fits)) polygon_text polygon_is (rings ∷ polygons) h))

-- read again, it is what it came from
pub read_again : (polygons : List Polygon) → Writable polygons → spelling (wkt_text polygons) ≡ spells polygons
read_again polygons h = means_one (wkt_text polygons) (spelling (wkt_text polygons)) (spells polygons) (means (wkt_text polygons)) (written_text polygons h)

pub drop_last_lem : (ring : Ring) (p : Point) → drop_last (ring ++ (p ∷ [])) ≡ ring
unfolding drop_last
drop_last_lem [] p = refl
drop_last_lem (q ∷ []) p = refl
drop_last_lem (q ∷ r ∷ ring) p = ap (λ s. q ∷ s) (drop_last_lem (r ∷ ring) p)

-- the repeated corner is dropped again
pub opened_again : (ring : Ring) → drop_last (closed ring) ≡ ring
unfolding closed
opened_again [] = unfold drop_last in refl
opened_again (p ∷ ring) = drop_last_lem (p ∷ ring) p
