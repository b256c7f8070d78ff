-- One walk along a ray on the half-grid: one parity over all edges (document 01, items 7 and 9, refusal 15).
use Rattle.std.specs.Prelude.{◌≡◌, Bool, true, false, List, ℕ, ◌≤◌, ◌<◌, ℤ, get_or, Option, Some, None, Result, Ok, Err}
use Rattle.rules.specs.declared.Unsound.{Unsound}
use Rattle.rules.specs.Lists.{any_of, count_of, is_odd, xor}
use Rattle.rings.specs.declared.crossings.Crossing.{Crossing}
use Rattle.rings.specs.Crossings.{is_on}
use Rattle.rays.specs.Along.{is_crossed}
use Rattle.boxes.specs.Rings.{RingEnds}
use Rattle.geom.specs.declared.Point.{Point}
use Rattle.rules.specs.declared.Ray.{Ray}
use Rattle.rays.specs.Numbered.{half_crossing_at}
use Rattle.walk.specs.declared.LentPlan.{LentPlan}
use Rattle.walk.specs.declared.Query.{Query}
use Rattle.walk.specs.Walks.{Yielded}
use Rattle.walk.specs.Edges.{EdgeSound}
use Rattle.gather.specs.declared.half.Crossed.{Crossed}
use Rattle.gather.specs.Collections.{WalkedSound}

-- edge e, which the point is not on, is counted
pub record CrossedTo (n count : ℕ) (rings : List ℕ) (crossings : ℕ → Crossing) (odd : Bool) (e : ℕ) (odd' : Bool) : Type 0 where
  pub off : RingEnds n count rings → is_on (crossings e) ≡ false
  pub parity : RingEnds n count rings → odd' ≡ xor odd (is_crossed (crossings e))

abbrev pub CrossSays : ℕ → ℕ → List ℤ → List ℕ → (ℕ → Crossing) → Bool → ℕ → Result (Option Crossed) Unsound → Type 0
CrossSays n count corners rings crossings odd e (Ok (Some further)) = CrossedTo n count rings crossings odd e further.odd
CrossSays n count corners rings crossings odd e (Ok None) = RingEnds n count rings → is_on (crossings e) ≡ true
CrossSays n count corners rings crossings odd e (Err _) = EdgeSound n count corners rings e → ⊥

-- every place of the edge list below this one is behind the walk, the point is on none of the edges yielded, and they are counted
pub record ParityTo (place : ℕ) (corners : List ℤ) (rings edges : List ℕ) (query : Query) (crossings : ℕ → Crossing) (odd : Bool) : Type 0 where
  pub yielded : List ℕ
  pub behind : Yielded corners rings edges query place yielded
  pub off : any_of (λ e. is_on (crossings e)) yielded ≡ false
  pub parity : odd ≡ is_odd (count_of (λ e. is_crossed (crossings e)) yielded)

-- the edges of a leaf are counted, whatever the walk looks for; or the point is on one of them
abbrev pub LeafCrossed : ℕ → ℕ → List ℤ → List ℕ → List ℕ → (ℕ → Crossing) → Bool → ℕ → ℕ → Result (Option Crossed) Unsound → Type 0
LeafCrossed n count corners rings edges crossings odd at to (Ok (Some further)) = (query : Query) → RingEnds n count rings → ParityTo at corners rings edges query crossings odd → ParityTo to corners rings edges query crossings further.odd
LeafCrossed n count corners rings edges crossings odd at to (Ok None) = (k : ℕ) × (k < to) × (RingEnds n count rings → is_on (crossings (get_or edges k 0)) ≡ true)
LeafCrossed n count corners rings edges crossings odd at to (Err _) = ((k : ℕ) → at ≤ k → k < to → EdgeSound n count corners rings (get_or edges k 0)) → ⊥

-- an edge that the point is on
pub record OnOne (n : ℕ) (crossings : ℕ → Crossing) : Type 0 where
  pub edge : ℕ
  pub inside : edge < n
  pub on : is_on (crossings edge) ≡ true

abbrev pub ParitySays : ℕ → ℕ → List ℤ → List ℕ → List (List ℤ) → List (List ℕ) → List ℕ → Query → (ℕ → Crossing) → Result (Option Bool) Unsound → Type 0
ParitySays n count corners rings boxes parts edges query crossings (Ok (Some odd)) = WalkedSound n count corners rings boxes parts edges → ParityTo n corners rings edges query crossings odd
ParitySays n count corners rings boxes parts edges query crossings (Ok None) = WalkedSound n count corners rings boxes parts edges → OnOne n crossings
ParitySays n count corners rings boxes parts edges query crossings (Err _) = WalkedSound n count corners rings boxes parts edges → ⊥

-- ---- of a plan that is lent, along a ray
abbrev pub crossings_in : LentPlan → Ray → Point → ℕ → Crossing
crossings_in plan ray p = half_crossing_at plan.n plan.corners.now plan.rings.now ray p

abbrev pub CrossIn : LentPlan → Ray → Point → Bool → ℕ → Result (Option Crossed) Unsound → Type 0
CrossIn plan ray p = CrossSays plan.n plan.count plan.corners.now plan.rings.now (crossings_in plan ray p)

abbrev pub LeafCrossedIn : LentPlan → Ray → Point → Bool → ℕ → ℕ → Result (Option Crossed) Unsound → Type 0
LeafCrossedIn plan ray p = LeafCrossed plan.n plan.count plan.corners.now plan.rings.now plan.edges.now (crossings_in plan ray p)

abbrev pub ParityIn : LentPlan → Ray → Point → Query → Result (Option Bool) Unsound → Type 0
ParityIn plan ray p query = ParitySays plan.n plan.count plan.corners.now plan.rings.now plan.boxes.now plan.parts.now plan.edges.now query (crossings_in plan ray p)
