-- What the calls over a list of node records answer, and the list that they leave, for every place and all tables (document 01,
-- refusal 15).
use Rattle.std.specs.Prelude.{◌≡◌, Bool, cond, true, ◌&&◌, List, ℕ, zero, suc, ◌+◌, ◌*◌, leb, ltb, eqb, ℤ, length, get_or, Result, Ok, Err}
use Rattle.rules.specs.declared.Refusal as Refusal
use Rattle.rules.specs.declared.Unsound.{Unsound}
use Rattle.rules.specs.Numbers.{refusal_number}
use Rattle.boxes.specs.Rings.{start_of}
use Rattle.nodes.specs.Nodes.{no_node}
use Rattle.nodes.specs.declared.Node.{Node}

-- 0 for a node, or the refusal
abbrev pub read_number : Result Node Unsound → ℕ
read_number (Ok m) = 0
read_number (Err _) = refusal_number Refusal.TheVariants.Unsound

-- 0 for a node that was written, or the refusal
abbrev pub written_number : Result Unit Unsound → ℕ
written_number (Ok _) = 0
written_number (Err _) = refusal_number Refusal.TheVariants.Unsound

-- ---- what leads outside its table

-- each number below m passes
unfoldable pub each_below : (ℕ → Bool) → ℕ → Bool
each_below passes zero = true
each_below passes (suc m) = each_below passes m && passes m

-- the first `count` ring ends stand in the table, rise, and come to n
abbrev pub ends_rise : ℕ → ℕ → List ℕ → Bool
ends_rise n count rings = leb count (length rings) && (each_below (λ r. leb (start_of rings r) (get_or rings r 0)) count && eqb (start_of rings count) n)

-- the m places from f on stand in the edge list, and each names one of n edges
abbrev pub names_edges : ℕ → List ℕ → ℕ → ℕ → Bool
names_edges n edges f m = leb (f + m) (length edges) && each_below (λ k. ltb (get_or edges (f + k) 0) n) m

-- all that the box of a node's part is made of lies in its table
abbrev pub is_fit : ℕ → ℕ → List ℤ → List ℕ → List ℕ → Node → Bool
is_fit n count corners rings edges m = leb (2 * n) (length corners) && (ends_rise n count rings && names_edges n edges m.part.first m.part.count)

-- a node is cut, that is, its part has more than 8 edges (item 5), and both its children's places are below `len`
abbrev pub has_children : Node → ℕ → Bool
has_children m len = ltb 8 m.part.count && ltb (m.part.child + 1) len

-- the list has a place p
abbrev pub is_listed : List Node → ℕ → Bool
is_listed nodes p = ltb p (length nodes)

-- it has, and the node there can be given the box of its part, or the union of its two children's boxes
abbrev pub leaf_sound : ℕ → ℕ → List ℤ → List ℕ → List ℕ → List Node → ℕ → Bool
leaf_sound n count corners rings edges nodes p = is_listed nodes p && is_fit n count corners rings edges (get_or nodes p no_node)

abbrev pub cut_sound : List Node → ℕ → Bool
cut_sound nodes p = is_listed nodes p && has_children (get_or nodes p no_node) (length nodes)

-- ---- the answers

-- a read: the node at place p, or 15 where the list has no such place
pub record Reads (nodes : List Node) (p : ℕ) (r : Result Node Unsound) : Type 0 where
  pub answer : r ≡ cond (is_listed nodes p) (Ok (get_or nodes p no_node)) (Err (record {}))
  pub number : read_number r ≡ cond (is_listed nodes p) 0 15

-- a call that writes where `sound`, and gets 15 and writes nothing where not: `written` is the list that it is to leave
pub record Writes (sound : Bool) (written nodes : List Node) (r : Result Unit Unsound) (nodes' : List Node) : Type 0 where
  pub answer : r ≡ cond sound (Ok tt) (Err (record {}))
  pub number : written_number r ≡ cond sound 0 15
  pub list : nodes' ≡ cond sound written nodes
