-- The node table: parts of the edge list and places of children (document 01, item 5).
use Rattle.std.specs.Prelude.{◌≡◌, cond, List, [], ◌∷◌, ℕ, zero, suc, ◌+◌, ◌-◌, ◌/◌, ◌≤◌, ◌<◌, leb, get_or, Option, Some, None, Result, Ok, Err}
use Rattle.rules.specs.declared.Unsound.{Unsound}
use Rattle.index.specs.declared.parts.Part.{Part}

-- a node's part of the edge list, and the place of its left child; its right child stands next to that
abbrev pub first_at : List (List ℕ) → ℕ → ℕ
first_at parts p = get_or (get_or parts p []) 0 0

abbrev pub count_at : List (List ℕ) → ℕ → ℕ
count_at parts p = get_or (get_or parts p []) 1 0

abbrev pub child_at : List (List ℕ) → ℕ → ℕ
child_at parts p = get_or (get_or parts p []) 2 0

abbrev pub part_row : ℕ → ℕ → ℕ → List ℕ
part_row first count child = first ∷ count ∷ child ∷ []

-- a cut node's two parts, side by side and left first, fill its own: floor(n / 2) edges and the rest
pub record Halves (parts : List (List ℕ)) (p : ℕ) : Type 0 where
  pub left_first : first_at parts (child_at parts p) ≡ first_at parts p
  pub left_count : count_at parts (child_at parts p) ≡ count_at parts p / 2
  pub right_first : first_at parts (child_at parts p + 1) ≡ first_at parts p + count_at parts p / 2
  pub right_count : count_at parts (child_at parts p + 1) ≡ count_at parts p - count_at parts p / 2

-- the nodes below c take the places from u on up to w, which is the next free one and not theirs. A node of 8 edges or fewer is a
-- leaf. The two parts of a larger one take the next two free places, left first; the right part is cut first, so the nodes below it
-- come next, and then those below the left part
pub data Laid (parts : List (List ℕ)) : ℕ → ℕ → ℕ → Type 0 where
  leaf : {c u : ℕ} → count_at parts c ≤ 8 → Laid parts c u u
  node : {c u v w : ℕ} → 8 < count_at parts c → child_at parts c ≡ u → Laid parts (u + 1) (u + 2) v → Laid parts u v w → Laid parts c u w

-- the edges of a node of m that are cut: none of a leaf's, else all
unfoldable pub cut_size : ℕ → ℕ
cut_size m = cond (leb m 8) 0 m

-- the counts of the cut nodes among the first k of the table, together
unfoldable pub cut_edges : List (List ℕ) → ℕ → ℕ
cut_edges parts zero = 0
cut_edges parts (suc k) = cut_edges parts k + cut_size (count_at parts k)

-- ---- one node, on any tables

-- a row of the table as a part
abbrev pub part_of_row : List ℕ → Part
part_of_row row = record { first = get_or row 0 0; count = get_or row 1 0; child = get_or row 2 0 }

-- node p is one of the first `nodes`, and its part ends within the n edges
abbrev pub Inside : List (List ℕ) → ℕ → ℕ → ℕ → Type 0
Inside parts n nodes p = (p < nodes) × (first_at parts p + count_at parts p ≤ n)

abbrev pub PartSays : List (List ℕ) → ℕ → ℕ → ℕ → Result Part Unsound → Type 0
PartSays parts n nodes p (Ok part) = Inside parts n nodes p × (part ≡ part_of_row (get_or parts p []))
PartSays parts n nodes p (Err _) = Inside parts n nodes p → ⊥

-- a part of more than 8 edges is cut: `None` is a leaf's child
abbrev pub ChildSays : ℕ → Part → Result (Option ℕ) Unsound → Type 0
ChildSays nodes part (Ok None) = part.count ≤ 8
ChildSays nodes part (Ok (Some child)) = (8 < part.count) × (child ≡ part.child) × (child + 1 < nodes)
ChildSays nodes part (Err _) = (8 < part.count) × (nodes ≤ part.child + 1)
