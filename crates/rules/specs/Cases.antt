-- Document 01's cases P1 to P13 ("Trays to try"), all their replies, as one list.
use Rattle.std.specs.Prelude.{List, [], ◌∷◌, ◌++◌, ℕ, ◌+◌, ◌^◌, ℤ, pos, negsuc}
use Rattle.geom.specs.declared.Point.{Point}
use Rattle.rules.specs.declared.Kind.TheVariants.{Polygons, Tree}
use Rattle.rules.specs.Numbers.{reply_number}
use Rattle.rules.specs.Plans.{Plan, plan_verdict, plan_reply, plan_half_reply, answer}
use Rattle.rules.specs.Nodes.{node_count}

-- a case: what the definitions give, and what document 01 says, each as its number (item 11)
pub record Case : Type 0 where
  pub given : ℤ
  pub said : ℤ

abbrev outside : ℤ
outside = pos 0

abbrev inside : ℤ
inside = pos 1

abbrev boundary : ℤ
boundary = pos 2

abbrev at : ℤ → ℤ → Point
at x y = record { x = x; y = y }

abbrev located : Plan → ℤ → ℤ → ℤ → Case
located plan x y said = record { given = reply_number (answer (plan_verdict plan) (plan_reply plan (at x y))); said = said }

abbrev halved : Plan → ℤ → ℤ → ℤ → Case
halved plan x y said = record { given = reply_number (answer (plan_verdict plan) (plan_half_reply plan (at x y))); said = said }

abbrev counted : ℕ → ℕ → Case
counted n said = record { given = pos (node_count n); said = pos said }

-- ---- the rings, as coordinates
abbrev S : List ℤ
S = pos 0 ∷ pos 0 ∷ pos 10 ∷ pos 0 ∷ pos 10 ∷ pos 10 ∷ pos 0 ∷ pos 10 ∷ []

abbrev H : List ℤ
H = pos 4 ∷ pos 4 ∷ pos 6 ∷ pos 4 ∷ pos 6 ∷ pos 6 ∷ pos 4 ∷ pos 6 ∷ []

abbrev K : List ℤ
K = pos 5 ∷ pos 4 ∷ pos 8 ∷ pos 4 ∷ pos 8 ∷ pos 6 ∷ pos 5 ∷ pos 6 ∷ []

abbrev T : List ℤ
T = pos 5 ∷ pos 0 ∷ pos 15 ∷ pos 0 ∷ pos 15 ∷ pos 10 ∷ pos 5 ∷ pos 10 ∷ []

-- a list of one polygon with these rings
abbrev polygon : List ℤ → List ℕ → ℕ → Plan
polygon coordinates lengths rings = record { kind = Polygons; coordinates = coordinates; lengths = lengths; counts = rings ∷ [] }

abbrev triangle : ℤ → Plan
triangle x = polygon (pos 0 ∷ pos 0 ∷ x ∷ pos 0 ∷ pos 0 ∷ pos (2 ^ 40) ∷ []) (3 ∷ []) 1

unfoldable pub cases : List Case
cases =
    -- P1
    located (polygon S (4 ∷ []) 1) (pos 5) (pos 5) inside
    ∷ located (polygon S (4 ∷ []) 1) (pos 10) (pos 10) boundary
    ∷ located (polygon S (4 ∷ []) 1) (pos 11) (pos 10) outside
    -- P2, P3
    ∷ located (polygon [] (0 ∷ []) 1) (pos 0) (pos 0) outside
    ∷ located (polygon (pos 3 ∷ pos 3 ∷ []) (1 ∷ []) 1) (pos 3) (pos 3) boundary
    -- P4
    ∷ located (polygon (pos 0 ∷ pos 0 ∷ pos 4 ∷ pos 4 ∷ []) (2 ∷ []) 1) (pos 2) (pos 2) boundary
    ∷ located (polygon (pos 0 ∷ pos 0 ∷ pos 4 ∷ pos 4 ∷ []) (2 ∷ []) 1) (pos 2) (pos 1) outside
    -- P5, P6
    ∷ located (polygon (S ++ H) (4 ∷ 4 ∷ []) 2) (pos 5) (pos 5) outside
    ∷ located (polygon (S ++ H) (4 ∷ 4 ∷ []) 2) (pos 4) (pos 5) boundary
    ∷ located (polygon S (0 ∷ 4 ∷ []) 2) (pos 5) (pos 5) outside
    -- P7
    ∷ located (polygon (S ++ H ++ K) (4 ∷ 4 ∷ 4 ∷ []) 3) (pos 5) (pos 5) outside
    ∷ located (polygon (S ++ K ++ H) (4 ∷ 4 ∷ 4 ∷ []) 3) (pos 5) (pos 5) boundary
    -- P8, P9
    ∷ located (record { kind = Polygons; coordinates = S ++ T; lengths = 4 ∷ 4 ∷ []; counts = 1 ∷ 1 ∷ [] }) (pos 10) (pos 5) inside
    ∷ located (record { kind = Tree; coordinates = S ++ T; lengths = 4 ∷ 4 ∷ []; counts = [] }) (pos 10) (pos 5) boundary
    -- P10
    ∷ located (polygon (S ++ S) (8 ∷ []) 1) (pos 5) (pos 5) inside
    ∷ halved (polygon (S ++ S) (8 ∷ []) 1) (pos 10) (pos 10) outside
    -- P11
    ∷ halved (polygon S (4 ∷ []) 1) (pos 1) (pos 1) inside
    ∷ halved (polygon S (4 ∷ []) 1) (pos 0) (pos 1) boundary
    ∷ halved (polygon S (4 ∷ []) 1) (negsuc 0) (pos 1) outside
    -- P12
    ∷ located (triangle (pos (2 ^ 40))) (pos 1) (pos 1) inside
    ∷ located (triangle (pos (2 ^ 40 + 1))) (pos 1) (pos 1) outside
    -- P13
    ∷ counted 8 1
    ∷ counted 9 3
    ∷ counted 17 5
    ∷ counted 18 7
    ∷ []
