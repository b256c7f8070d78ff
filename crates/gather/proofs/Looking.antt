-- What one walk or two say, as a reply. Assumes nothing.
use mathlib.Core.Path.{◌≡◌, refl, ap}
use mathlib.Core.Bool.{Bool, false}
use mathlib.Core.Logic.{inl, inr}
use Rattle.std.specs.Prelude.{Result, Ok, Err}
use mathlib.Core.List.{List, []}
use Prim.Native.Nat.{ℕ, ◌<◌}
use native.Mathlib.Omega.{arith}
use lib.IntN.{ℤ}
use lib.ListN.{length}
use Rattle.geom.specs.declared.Point.{Point}
use Rattle.rules.specs.declared.Ray.{Ray}
use Rattle.walk.specs.declared.Query.{Query}
use Rattle.rules.specs.declared.Kind.{Kind}
use Rattle.rules.specs.declared.Kind.TheVariants.{Polygons, Tree}
use Rattle.rules.specs.declared.Location.{Location}
use Rattle.rules.specs.declared.Refusal.TheVariants.{Unsound}
use Rattle.rules.specs.declared.State.{State}
use Rattle.rules.specs.Tables.{polygons_in}
use Rattle.rules.proofs.Indexed.{bit}
use Rattle.gather.specs.declared.tally.Layout.{Layout}
use Rattle.gather.specs.declared.collect.Stopped.{Stopped}
use Rattle.gather.specs.declared.collect.Stopped as Stopped
use Rattle.gather.specs.Tallies.{is_listed, Tallied}
use Rattle.gather.specs.Collections.{WalkedSound, CollectSays}
use Rattle.gather.specs.Regions.{FoldSays, Enough, LookSound, RegionSays, reply_of, LookedUp}
use Rattle.gather.proofs.Placing.{rings_few}
use Rattle.rules.specs.Answering.{Reply}

-- a tree's fold looks at no polygon
pub fold_stated : (kind : Kind) (m : ℕ) (polygons : List ℕ) (count : ℕ) (layout : Layout) (listed : List ℕ) (slots : List ℤ) (location : Location) → FoldSays kind polygons (polygons_in kind m) count layout listed slots location → FoldSays kind polygons m count layout listed slots location
fold_stated Polygons m polygons count layout listed slots location F = F
fold_stated Tree m polygons count layout listed slots location F = F

-- a premise that holds
pub region_from : (few : Bool) (A B : Type 0) (place : Location) (r : Result Location Stopped) → B → RegionSays few (A × B) place r → RegionSays few A place r
region_from few A B place (Ok location) b says = λ a. says (a, b)
region_from few A B place (Err Stopped.TheVariants.TooMany) b says = says
region_from few A B place (Err Stopped.TheVariants.Unsound) b says = λ a. says (a, b)

-- a walk that stops: only a list can be full, and no sound tables get 15
pub region_stopped : (n count : ℕ) (corners : List ℤ) (rings : List ℕ) (boxes : List (List ℤ)) (parts : List (List ℕ)) (edges : List ℕ) (ray : Ray) (query : Query) (p : Point) (layout : Layout) (listed : List ℕ) (slots : List ℤ) (listed' : List ℕ) (slots' : List ℤ) (A : Type 0) (place : Location)
    → (A → WalkedSound n count corners rings boxes parts edges × Tallied count [] layout listed slots) → (stopped : Stopped)
    → CollectSays n count corners rings boxes parts edges ray query p layout listed slots listed' slots' (Err stopped) → RegionSays (is_listed layout) A place (Err stopped)
region_stopped n count corners rings boxes parts edges ray query p layout listed slots listed' slots' A place sound Stopped.TheVariants.TooMany says = says
region_stopped n count corners rings boxes parts edges ray query p layout listed slots listed' slots' A place sound Stopped.TheVariants.Unsound says = λ a. says (sound a).0 (sound a).1

module _ (state : State) (corners : List ℤ) (rings polygons : List ℕ) (boxes : List (List ℤ)) (parts : List (List ℕ)) (edges : List ℕ) (place : Location) where
  abbrev Sound : Type 0
  Sound = LookSound state corners rings polygons boxes parts edges

  abbrev Long : Type 0
  Long = Enough state (length corners) (length rings) (length polygons) (length boxes) (length parts) (length edges)

  abbrev Looked : Reply → Type 0
  Looked = LookedUp state corners rings polygons boxes parts edges place

  -- 15, where sound tables never come
  pub looked_never : (Sound → ⊥) → Looked (Err Unsound)
  looked_never f = record { short = λ l. refl; placed = inr refl; exact = λ S. absurd (f S) }

  pub looked_beyond : 65536 < state.rings → Looked (Err Unsound)
  looked_beyond h = looked_never (λ S. absurd (omega (arith, rings_few state corners rings polygons boxes parts edges S)))

  pub looked_at : Long → (location : Location) → (Sound → location ≡ place) → Looked (Ok location)
  looked_at long location is = record { short = λ f. absurd (f long); placed = inl (location, refl); exact = λ S. ap Ok (is S) }

  pub looked_all : Long → (r : Result Location Stopped) → RegionSays false Sound place r → Looked (reply_of r)
  looked_all long (Ok location) says = looked_at long location says
  looked_all long (Err Stopped.TheVariants.TooMany) says = absurd (omega (arith, ap bit says))
  looked_all long (Err Stopped.TheVariants.Unsound) says = looked_never says
