-- The corners at which the edges of a leaf end, one edge after another, and with them the way to a place. Assumes nothing.
use mathlib.Core.Path.{◌≡◌, refl, sym, ap, ◌∙◌, subst}
use mathlib.Core.List.{List}
use Prim.Native.Nat.{ℕ, ◌+◌, ◌-◌, ◌≤◌, ◌<◌}
use native.Mathlib.Decide.{ℕ_discrete}
use native.Mathlib.Omega.{arith}
use lib.IntN.{ℤ}
use lib.ListN.{length, get_or, set}
use lib.Seq.{get_or-set_same, get_or-set_other}
use Rattle.boxes.specs.Rings.{start_of, next_in, next_corner, RingAt, RingEnds}
use Rattle.boxes.specs.Boxes.{Names}
use Rattle.boxes.proofs.Rings.{start_pred, searchable, next_of_ring, next_inside}
use Rattle.rules.specs.Nodes.{node_count}
use Rattle.index.specs.Build.{KeptFrom}
use Rattle.index.specs.Parts.{first_at, count_at}
use Rattle.index.proofs.Soundness.{part_names}
use Rattle.index.proofs.Tables.{kept_all}
use Rattle.refit.specs.Paths.{PathTo, Stops, RefitSound, Lent, Found, WayRefused}

module _ (n count : ℕ) (rings edges : List ℕ) (f : ℕ) where
  pub stops_none : (stops : List ℕ) → Stops n count rings edges f 0 stops
  stops_none stops = record { edge = λ j l. absurd (omega arith); inside = λ j l. absurd (omega arith); named = λ R j l. absurd (omega arith) }

  -- what is found in the ring of an edge is where the edge ends
  stop_named : RingEnds n count rings → (e r : ℕ) → RingAt rings count e r → (d : ℕ) → d ≡ next_in (start_of rings r) (get_or rings r 0) e → d ≡ next_corner rings e
  stop_named R e r A d q = q ∙ sym (next_of_ring n count rings R e r A)

  pub stops_more : (m : ℕ) (stops : List ℕ) → Stops n count rings edges f m stops → m < length stops → (r : ℕ) → RingAt rings count (get_or edges (f + m) 0) r → get_or edges (f + m) 0 < n
      → (d : ℕ) → d ≡ next_in (start_of rings r) (get_or rings r 0) (get_or edges (f + m) 0) → d < n → Stops n count rings edges f (m + 1) (set stops m d)
  stops_more m stops T room r A e d q h = record {
    edge = λ j l. edge j l (ℕ_discrete j m);
    inside = λ j l. inside j l (ℕ_discrete j m);
    named = λ R j l. named R j l (ℕ_discrete j m);
  }
    where
      edge : (j : ℕ) → j < m + 1 → Dec (j ≡ m) → get_or edges (f + j) 0 < n
      edge j l (yes s) = rw s e
      edge j l (no s) = T.edge j (omega arith)

      new : (j : ℕ) → j ≡ m → get_or (set stops m d) j 0 ≡ d
      new j s = ap (λ (x : ℕ). get_or (set stops m d) x 0) s ∙ get_or-set_same stops m d 0 room

      inside : (j : ℕ) → j < m + 1 → Dec (j ≡ m) → get_or (set stops m d) j 0 < n
      inside j l (yes s) = rw (new j s) h
      inside j l (no s) = rw (get_or-set_other stops m j d 0 s) (T.inside j (omega arith))

      named : RingEnds n count rings → (j : ℕ) → j < m + 1 → Dec (j ≡ m) → get_or (set stops m d) j 0 ≡ next_corner rings (get_or edges (f + j) 0)
      named R j l (yes s) = new j s ∙ stop_named R (get_or edges (f + m) 0) r A d q ∙ ap (λ (x : ℕ). next_corner rings (get_or edges (f + x) 0)) (sym s)
      named R j l (no s) = get_or-set_other stops m j d 0 s ∙ T.named R j (omega arith)

  -- on sound tables each edge ends at a corner
  pub stop_outside : (m j : ℕ) → j < m → (r : ℕ) → RingAt rings count (get_or edges (f + j) 0) r → (d : ℕ) → d ≡ next_in (start_of rings r) (get_or rings r 0) (get_or edges (f + j) 0) → n ≤ d → RingEnds n count rings → Names n edges f m → ⊥
  stop_outside m j l r A d q out R N = omega (arith, stop_named R (get_or edges (f + j) 0) r A d q, next_inside n count rings R (get_or edges (f + j) 0) (N.each (f + j) (omega arith) (omega arith)))

  pub edge_outside : (m j : ℕ) → j < m → n ≤ get_or edges (f + j) 0 → RingEnds n count rings → Names n edges f m → ⊥
  edge_outside m j l out R N = omega (arith, N.each (f + j) (omega arith) (omega arith))

-- ---- the way to a place
pub way_refused : (n count : ℕ) (rings : List ℕ) (parts : List (List ℕ)) (edges : List ℕ) (k : ℕ) (path stops path' stops' : List ℕ) → Lent n count k (length path) (length stops) rings (length parts) (length edges) → KeptFrom 18 path path' → KeptFrom 8 stops stops'
    → ((corners : List ℤ) (boxes : List (List ℤ)) → RefitSound n count corners rings boxes parts edges → ⊥) → WayRefused n count rings parts edges k path stops path' stops'
way_refused n count rings parts edges k path stops path' stops' L K J f = record { number = refl; never = λ room space place. f; path_space = K; stops_space = J; unlent = λ g. absurd (g L) }

module _ (n count : ℕ) (rings : List ℕ) (parts : List (List ℕ)) (edges : List ℕ) (k : ℕ) where
  -- sound tables are long enough
  sound_lent : (path stops : ℕ) → 18 ≤ path → 8 ≤ stops → k < n → (corners : List ℤ) (boxes : List (List ℤ)) → RefitSound n count corners rings boxes parts edges → Lent n count k path stops rings (length parts) (length edges)
  sound_lent path stops room space place corners boxes T =
      let asks = searchable n count rings T.ends k place in
      record {
        path_reach = room;
        stops_reach = space;
        some = asks.0;
        rings_reach = asks.1;
        last_end = sym (start_pred rings count asks.0) ∙ T.ends.all;
        parts_reach = T.index.parts_reach;
        edges_reach = T.index.edges_reach;
        place = place;
      }

  pub way_unlent : (path stops : List ℕ) → (Lent n count k (length path) (length stops) rings (length parts) (length edges) → ⊥) → WayRefused n count rings parts edges k path stops path stops
  way_unlent path stops f = record {
    number = refl;
    never = λ room space place corners boxes T. f (sound_lent (length path) (length stops) room space place corners boxes T);
    path_space = kept_all 18 path;
    stops_space = kept_all 8 stops;
    unlent = λ g. (refl, refl);
  }

  -- a path, and where the edges of its leaf end, make the way
  pub way_found : (path stops : List ℕ) (depth nodes : ℕ) → Lent n count k (length path) (length stops) rings (length parts) (length edges) → nodes ≡ node_count n → PathTo n parts nodes k path depth
      → Stops n count rings edges (first_at parts (get_or path (depth - 1) 0)) (count_at parts (get_or path (depth - 1) 0)) stops → Found n count rings parts edges k path stops depth
  way_found path stops depth nodes L all P T = record {
    number = refl;
    place = L.place;
    lent = L;
    fine = record {
      some = P.leads.some;
      path_reach = omega (arith, P.leads.few, L.path_reach);
      parts_reach = L.parts_reach;
      nodes = λ j l. inside j l (ℕ_discrete j (depth - 1));
      children = λ j l. let h = (P.leads.down j l).children in omega arith;
      spans = record { edges_reach = omega (arith, P.leaf.fits, L.edges_reach); stops_reach = omega (arith, P.leaf.small, L.stops_reach); start = T.edge; stop = T.inside };
    };
    path_to = subst (λ (m : ℕ). PathTo n parts m k path depth) all P;
    stops_are = T;
  }
    where
      inside : (j : ℕ) → j < depth → Dec (j ≡ depth - 1) → get_or path j 0 < node_count n
      inside j l (yes e) = let h = P.leaf.node in omega (arith, ap (λ (x : ℕ). get_or path x 0) e)
      inside j l (no d) = let h = (P.leads.down j (omega arith)).node in omega arith

  -- a leaf whose numbers are outside their tables is not found on sound tables
  pub never_stopped : (path : List ℕ) (depth nodes : ℕ) → nodes ≡ node_count n → PathTo n parts nodes k path depth → (RingEnds n count rings → Names n edges (first_at parts (get_or path (depth - 1) 0)) (count_at parts (get_or path (depth - 1) 0)) → ⊥)
      → (corners : List ℤ) (boxes : List (List ℤ)) → RefitSound n count corners rings boxes parts edges → ⊥
  never_stopped path depth nodes all P f corners boxes T =
      let here = P.leaf.node in
      f T.ends (part_names n corners rings boxes parts edges T.index (get_or path (depth - 1) 0) (omega arith))
