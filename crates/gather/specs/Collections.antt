-- One walk along a ray, its edges counted ring by ring (document 01, items 3, 6 and 9, refusal 15).
use Rattle.std.specs.Prelude.{◌≡◌, true, cond, ◌&&◌, List, [], ℕ, ◌*◌, ◌≤◌, ◌<◌, ℤ, pos, length, get_or, Result, Ok, Err}
use Rattle.geom.specs.declared.Point.{Point}
use Rattle.rules.specs.declared.Ray.{Ray}
use Rattle.rules.specs.Lists.{sum_of, any_of}
use Rattle.rings.specs.declared.crossings.Crossing.{Crossing}
use Rattle.rings.specs.Crossings.{is_on, weight_of}
use Rattle.rays.specs.Numbered.{crossing_at}
use Rattle.boxes.specs.Rings.{in_ring, RingAt, RingEnds}
use Rattle.walk.specs.declared.LentPlan.{LentPlan}
use Rattle.walk.specs.declared.Query.{Query}
use Rattle.walk.specs.Steps.{WalkSound}
use Rattle.walk.specs.Walks.{Yielded}
use Rattle.walk.specs.Edges.{EdgeSound}
use Rattle.gather.specs.declared.tally.Layout.{Layout}
use Rattle.gather.specs.declared.collect.Noted.{Noted}
use Rattle.gather.specs.declared.collect.Stopped.{Stopped}
use Rattle.gather.specs.declared.collect.Stopped.TheVariants.{TooMany, Unsound}
use Rattle.gather.specs.Tallies as T
use Rattle.gather.specs.Tallies.{winding_in, on_in, is_listed, Room, Tallied, Counts}

-- soundness as far as a look-up's walk rests on it
pub record WalkedSound (n count : ℕ) (corners : List ℤ) (rings : List ℕ) (boxes : List (List ℤ)) (parts : List (List ℕ)) (edges : List ℕ) : Type 0 where
  pub walk : WalkSound n corners rings boxes parts edges
  pub reach : 2 * n ≤ length corners
  pub ends : RingEnds n count rings

-- ---- one edge, by how edges count
pub record MetFound (n count : ℕ) (rings : List ℕ) (crossings : ℕ → Crossing) (e ring : ℕ) (crossing : Crossing) : Type 0 where
  pub holds : RingAt rings count e ring
  pub crossing_is : RingEnds n count rings → crossing ≡ crossings e

-- it is counted in the slot of its ring
pub record NotedTo (n count : ℕ) (corners : List ℤ) (rings : List ℕ) (ray : Ray) (p : Point) (e : ℕ) (layout : Layout) (listed : List ℕ) (slots : List ℤ) (listed' : List ℕ) (slots' : List ℤ) (layout' : Layout) (ring : ℕ) : Type 0 where
  pub crossing : Crossing
  pub found : MetFound n count rings (crossing_at n corners rings ray p) e ring crossing
  pub counts : Counts layout listed slots ring crossing layout' listed' slots'

abbrev pub NoteSays : ℕ → ℕ → List ℤ → List ℕ → Ray → Point → ℕ → Layout → List ℕ → List ℤ → List ℕ → List ℤ → Result Noted Stopped → Type 0
NoteSays n count corners rings ray p e layout listed slots listed' slots' (Ok noted) = NotedTo n count corners rings ray p e layout listed slots listed' slots' noted.layout noted.ring
NoteSays n count corners rings ray p e layout listed slots listed' slots' (Err TooMany) = is_listed layout ≡ true
NoteSays n count corners rings ray p e layout listed slots listed' slots' (Err Unsound) = EdgeSound n count corners rings e → ⊥

-- ---- a walk

-- the edges yielded are those counted: what slots say of a ring is what the ring's edges among them give
pub record Told (n count : ℕ) (corners : List ℤ) (rings : List ℕ) (ray : Ray) (p : Point) (yielded : List ℕ) (layout : Layout) (listed : List ℕ) (slots : List ℤ) : Type 0 where
  pub met : List T.Met
  pub same : length met ≡ length yielded
  pub winding : (r : ℕ) → r < count → winding_in met r ≡ sum_of (λ e. cond (in_ring rings r e) (weight_of (crossing_at n corners rings ray p e)) (pos 0)) yielded
  pub on : (r : ℕ) → r < count → on_in met r ≡ any_of (λ e. in_ring rings r e && is_on (crossing_at n corners rings ray p e)) yielded
  pub tallied : Tallied count met layout listed slots

-- every place of the edge list below this one is behind the walk, and what the slots say is what the edges yielded give
pub record ToldTo (n count : ℕ) (corners : List ℤ) (rings edges : List ℕ) (ray : Ray) (query : Query) (p : Point) (place : ℕ) (layout : Layout) (listed : List ℕ) (slots : List ℤ) : Type 0 where
  pub yielded : List ℕ
  pub behind : Yielded corners rings edges query place yielded
  pub told : Told n count corners rings ray p yielded layout listed slots

-- the edges of a leaf are counted, whatever the walk looks for
pub record NotedAll (n count : ℕ) (corners : List ℤ) (rings edges : List ℕ) (ray : Ray) (p : Point) (at to : ℕ) (layout : Layout) (listed : List ℕ) (slots : List ℤ) (listed' : List ℕ) (slots' : List ℤ) (layout' : Layout) : Type 0 where
  pub room : Room layout' (length listed') (length slots')
  pub same : is_listed layout' ≡ is_listed layout
  pub told : (query : Query) → n ≤ 1048576 → to ≤ n → RingEnds n count rings → ToldTo n count corners rings edges ray query p at layout listed slots → ToldTo n count corners rings edges ray query p to layout' listed' slots'

abbrev pub LeafNoted : ℕ → ℕ → List ℤ → List ℕ → List ℕ → Ray → Point → ℕ → ℕ → Layout → List ℕ → List ℤ → List ℕ → List ℤ → Result Noted Stopped → Type 0
LeafNoted n count corners rings edges ray p at to layout listed slots listed' slots' (Ok noted) = NotedAll n count corners rings edges ray p at to layout listed slots listed' slots' noted.layout
LeafNoted n count corners rings edges ray p at to layout listed slots listed' slots' (Err TooMany) = is_listed layout ≡ true
LeafNoted n count corners rings edges ray p at to layout listed slots listed' slots' (Err Unsound) = ((k : ℕ) → at ≤ k → k < to → EdgeSound n count corners rings (get_or edges k 0)) → ⊥

-- a whole walk: every place of the edge list is behind it
pub record ToldAll (n count : ℕ) (corners : List ℤ) (rings edges : List ℕ) (ray : Ray) (query : Query) (p : Point) (layout : Layout) (listed : List ℕ) (slots : List ℤ) : Type 0 where
  pub yielded : List ℕ
  pub few : length yielded ≤ n
  pub whole : Yielded corners rings edges query n yielded
  pub told : Told n count corners rings ray p yielded layout listed slots

pub record Gathered (n count : ℕ) (corners : List ℤ) (rings : List ℕ) (boxes : List (List ℤ)) (parts : List (List ℕ)) (edges : List ℕ) (ray : Ray) (query : Query) (p : Point) (layout : Layout) (listed : List ℕ) (slots : List ℤ) (listed' : List ℕ) (slots' : List ℤ) (layout' : Layout) : Type 0 where
  pub room : Room layout' (length listed') (length slots')
  pub told : WalkedSound n count corners rings boxes parts edges → Tallied count [] layout listed slots → ToldAll n count corners rings edges ray query p layout' listed' slots'

abbrev pub CollectSays : ℕ → ℕ → List ℤ → List ℕ → List (List ℤ) → List (List ℕ) → List ℕ → Ray → Query → Point → Layout → List ℕ → List ℤ → List ℕ → List ℤ → Result Layout Stopped → Type 0
CollectSays n count corners rings boxes parts edges ray query p layout listed slots listed' slots' (Ok layout') = Gathered n count corners rings boxes parts edges ray query p layout listed slots listed' slots' layout'
CollectSays n count corners rings boxes parts edges ray query p layout listed slots listed' slots' (Err TooMany) = is_listed layout ≡ true
CollectSays n count corners rings boxes parts edges ray query p layout listed slots listed' slots' (Err Unsound) = WalkedSound n count corners rings boxes parts edges → Tallied count [] layout listed slots → ⊥

-- ---- of a plan that is lent
abbrev pub NoteIn : LentPlan → Ray → Point → ℕ → Layout → List ℕ → List ℤ → List ℕ → List ℤ → Result Noted Stopped → Type 0
NoteIn plan = NoteSays plan.n plan.count plan.corners.now plan.rings.now

abbrev pub LeafIn : LentPlan → Ray → Point → ℕ → ℕ → Layout → List ℕ → List ℤ → List ℕ → List ℤ → Result Noted Stopped → Type 0
LeafIn plan = LeafNoted plan.n plan.count plan.corners.now plan.rings.now plan.edges.now

abbrev pub CollectIn : LentPlan → Ray → Query → Point → Layout → List ℕ → List ℤ → List ℕ → List ℤ → Result Layout Stopped → Type 0
CollectIn plan = CollectSays plan.n plan.count plan.corners.now plan.rings.now plan.boxes.now plan.parts.now plan.edges.now
