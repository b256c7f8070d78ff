-- Wrong ways that the contract rules out, whatever the code is: on tables too short, and on sound tables. Assumes nothing.
use mathlib.Core.Path.{◌≡◌}
use Rattle.std.specs.Prelude.{Result, Ok, Err}
use mathlib.Core.List.{List}
use Prim.Native.Nat.{ℕ, ◌≤◌, ◌<◌}
use native.Mathlib.Omega.{arith}
use lib.IntN.{ℤ}
use lib.ListN.{length, get_or}
use Rattle.rules.specs.declared.Unsound.{Unsound}
use Rattle.rules.specs.Nodes.{node_count}
use Rattle.refit.specs.Paths.{way_number, Holds, RefitSound, Lent, WaySays}
use Rattle.refit.proofs.Paths.{path_holds, path_whole}

module _ (n count : ℕ) (rings : List ℕ) (parts : List (List ℕ)) (edges : List ℕ) (k : ℕ) (path stops path' stops' : List ℕ) where
  -- a table, a path or stops that are too short, ring ends that end elsewhere, or no place k: 15
  pub short_refused : (Lent n count k (length path') (length stops') rings (length parts) (length edges) → ⊥) → (r : Result ℕ Unsound) → WaySays n count rings parts edges k path stops path' stops' r → way_number r ≡ 15
  short_refused f (Ok depth) s = absurd (f s.found.lent)
  short_refused f (Err _) s = s.number

  -- each of these by itself
  pub edges_refused : length edges < n → (r : Result ℕ Unsound) → WaySays n count rings parts edges k path stops path' stops' r → way_number r ≡ 15
  edges_refused h = short_refused (λ L. omega (arith, L.edges_reach))

  pub rings_refused : length rings < count → (r : Result ℕ Unsound) → WaySays n count rings parts edges k path stops path' stops' r → way_number r ≡ 15
  rings_refused h = short_refused (λ L. omega (arith, L.rings_reach))

  pub parts_refused : length parts < node_count n → (r : Result ℕ Unsound) → WaySays n count rings parts edges k path stops path' stops' r → way_number r ≡ 15
  parts_refused h = short_refused (λ L. omega (arith, L.parts_reach))

  -- a path written past its first 18 numbers, or stops past their first 8, whatever is found
  pub not_past_path : (j : ℕ) → 18 ≤ j → (get_or path' j 0 ≡ get_or path j 0 → ⊥) → (r : Result ℕ Unsound) → WaySays n count rings parts edges k path stops path' stops' r → ⊥
  not_past_path j past other (Ok depth) s = other (s.path_space.rest j past)
  not_past_path j past other (Err _) s = other (s.path_space.rest j past)

  pub not_past_stops : (j : ℕ) → 8 ≤ j → (get_or stops' j 0 ≡ get_or stops j 0 → ⊥) → (r : Result ℕ Unsound) → WaySays n count rings parts edges k path stops path' stops' r → ⊥
  not_past_stops j past other (Ok depth) s = other (s.stops_space.rest j past)
  not_past_stops j past other (Err _) s = other (s.stops_space.rest j past)

  module _ (corners : List ℤ) (boxes : List (List ℤ)) (T : RefitSound n count corners rings boxes parts edges) where
    -- on sound tables that have a place k, with room, there is a way
    pub not_refused : 18 ≤ length path → 8 ≤ length stops → k < n → (r : Result ℕ Unsound) → WaySays n count rings parts edges k path stops path' stops' r → way_number r ≡ 0
    not_refused room space place (Ok depth) s = s.found.number
    not_refused room space place (Err _) s = absurd (s.never room space place corners boxes T)

    -- a path with a node whose part does not hold the place
    pub not_off : (depth j : ℕ) → j < depth → (Holds parts (get_or path' j 0) k → ⊥) → WaySays n count rings parts edges k path stops path' stops' (Ok depth) → ⊥
    not_off depth j l f s = f (path_holds n corners rings boxes parts edges T.index k s.found.place path' depth s.found.path_to.leads j l).0

    -- a path without a node whose part holds it
    pub not_left_out : (depth p : ℕ) → p < node_count n → Holds parts p k → ((j : ℕ) → j < depth → get_or path' j 0 ≡ p → ⊥) → WaySays n count rings parts edges k path stops path' stops' (Ok depth) → ⊥
    not_left_out depth p l h f s = let (j, t, e) = path_whole n corners rings boxes parts edges T.index k s.found.place path' depth s.found.path_to p l h in f j t e
