-- What slots say, with one edge more: of a ring that has a slot, of one that gets one, and one that says nothing. Assumes nothing.
use mathlib.Core.Path.{◌≡◌, refl, sym, ap, ap₂, ◌∙◌, subst}
use mathlib.Core.Bool.{true, false, ◌||◌}
use mathlib.Core.List.{List, [], ◌∷◌}
use Prim.Native.Nat.{ℕ, ◌+◌, ◌-◌, ◌≤◌, ◌<◌, ◌^◌}
use native.Mathlib.Decide.{ℕ_discrete, dec_lt}
use native.Mathlib.Omega.{arith}
use lib.IntN.{ℤ, pos, ◌+ℤ◌}
use lib.ListN.{length, get_or, set, length-set}
use lib.Seq.{get_or-set_same, get_or-set_other}
use Rattle.rings.specs.declared.crossings.Crossing.{Crossing}
use Rattle.rings.specs.Crossings.{is_on, weight_of}
use Rattle.boxes.proofs.Rings.{start_pred}
use Rattle.gather.specs.declared.tally.Layout.{Layout}
use Rattle.gather.specs.declared.tally.Layout.TheVariants.{Listed, EachRing}
use Rattle.gather.specs.Slots.{is_nothing, slot_of, counted_of}
use Rattle.gather.specs.Tallies.{Met, winding_in, on_in, ring_at, size_of, Room, Tallied, Reaching, Inserted, Counts}
use Rattle.gather.proofs.Counting.{counted_slot, winding_none, on_none, winding_own, on_own, winding_other, on_other, winding_nothing, on_nothing, winding_small}

-- ---- nothing met yet
pub listed_none : (count : ℕ) (listed : List ℕ) (slots : List ℤ) → Tallied count [] (Listed 0) listed slots
listed_none count listed slots =
    record {
      rise = λ i j l h. absurd (omega arith);
      inside = λ k h. absurd (omega arith);
      told = λ k h. absurd (omega arith);
      rest = λ r h f. (winding_none r, on_none r);
    }

pub each_none : (count : ℕ) (listed : List ℕ) (slots : List ℤ) → ((k : ℕ) → k < count → get_or slots k (pos 0) ≡ pos 0) → Tallied count [] EachRing listed slots
each_none count listed slots z =
    record {
      rise = λ i j l h. l;
      inside = λ k h. h;
      told = λ k h. z k h ∙ sym (ap₂ slot_of (winding_none k) (on_none k));
      rest = λ r h f. (winding_none r, on_none r);
    }

-- ---- an edge that says nothing
pub nothing_more : (layout : Layout) (listed : List ℕ) (slots : List ℤ) (ring : ℕ) (c : Crossing) → Room layout (length listed) (length slots) → is_nothing c ≡ true → Counts layout listed slots ring c layout listed slots
nothing_more layout listed slots ring c R e =
    record {
      room = R;
      same = refl;
      tallied = λ count met l few T.
          record {
            rise = T.rise;
            inside = T.inside;
            told = λ k h. T.told k h ∙ sym (ap₂ slot_of (winding_nothing met ring (ring_at layout listed k) c e) (on_nothing met ring (ring_at layout listed k) c e));
            rest = λ r h f. (winding_nothing met ring r c e ∙ (T.rest r h f).0, on_nothing met ring r c e ∙ (T.rest r h f).1);
          };
    }

-- ---- an edge of the ring of slot k
module _ (layout : Layout) (listed : List ℕ) (slots : List ℤ) (k : ℕ) (c : Crossing) (slots' : List ℤ) (e : slots' ≡ set slots k (counted_of (get_or slots k (pos 0)) c)) where
  slot_found : (count : ℕ) (met : List Met) → k < size_of count layout → k < length slots → length met < 2 ^ 61 → Tallied count met layout listed slots → Tallied count ((ring_at layout listed k, c) ∷ met) layout listed slots'
  slot_found count met l m few T =
      record {
        rise = T.rise;
        inside = T.inside;
        told = λ i h. ap (λ s. get_or s i (pos 0)) e ∙ go i h (ℕ_discrete i k);
        rest = λ r h f. (winding_other met (ring_at layout listed k) r c (f k l) ∙ (T.rest r h f).0, on_other met (ring_at layout listed k) r c (f k l) ∙ (T.rest r h f).1);
      }
    where
      go : (i : ℕ) → i < size_of count layout → Dec (i ≡ k) → get_or (set slots k (counted_of (get_or slots k (pos 0)) c)) i (pos 0) ≡ slot_of (winding_in ((ring_at layout listed k, c) ∷ met) (ring_at layout listed i)) (on_in ((ring_at layout listed k, c) ∷ met) (ring_at layout listed i))
      go i h (yes q) =
          ap (λ t. get_or (set slots k (counted_of (get_or slots k (pos 0)) c)) t (pos 0)) q
          ∙ get_or-set_same slots k (counted_of (get_or slots k (pos 0)) c) (pos 0) m
          ∙ ap (λ s. counted_of s c) (T.told k l)
          ∙ counted_slot (winding_in met (ring_at layout listed k)) (on_in met (ring_at layout listed k)) c (omega (arith, winding_small met (ring_at layout listed k)))
          ∙ sym (ap₂ slot_of (winding_own met (ring_at layout listed k) c) (on_own met (ring_at layout listed k) c))
          ∙ ap (λ t. slot_of (winding_in ((ring_at layout listed k, c) ∷ met) (ring_at layout listed t)) (on_in ((ring_at layout listed k, c) ∷ met) (ring_at layout listed t))) (sym q)
      go i h (no q) =
          get_or-set_other slots k i (counted_of (get_or slots k (pos 0)) c) (pos 0) q
          ∙ T.told i h
          ∙ sym (ap₂ slot_of (winding_other met (ring_at layout listed k) (ring_at layout listed i) c differ) (on_other met (ring_at layout listed k) (ring_at layout listed i) c differ))
        where
          apart : Dec (i < k) → ring_at layout listed k ≡ ring_at layout listed i → ⊥
          apart (yes b) s = absurd (omega (arith, T.rise i k b l))
          apart (no b) s = absurd (omega (arith, T.rise k i (omega arith) h))

          differ : ring_at layout listed k ≡ ring_at layout listed i → ⊥
          differ = apart (dec_lt i k)

pub each_more : (listed : List ℕ) (slots : List ℤ) (ring : ℕ) (c : Crossing) (slots' : List ℤ) → ring < 65536 → 65536 ≤ length slots → slots' ≡ set slots ring (counted_of (get_or slots ring (pos 0)) c) → Counts EachRing listed slots ring c EachRing listed slots'
each_more listed slots ring c slots' h long e =
    record {
      room = omega (arith, ap length e, length-set slots ring (counted_of (get_or slots ring (pos 0)) c));
      same = refl;
      tallied = λ count met l few T. slot_found EachRing listed slots ring c slots' e count met l (omega arith) few T;
    }

pub listed_more : (listed : List ℕ) (slots : List ℤ) (used ring k : ℕ) (c : Crossing) (slots' : List ℤ) → Room (Listed used) (length listed) (length slots) → k < used → get_or listed k 0 ≡ ring → slots' ≡ set slots k (counted_of (get_or slots k (pos 0)) c) → Counts (Listed used) listed slots ring c (Listed used) listed slots'
listed_more listed slots used ring k c slots' R h own e =
    record {
      room = (R.0, R.1, omega (arith, R.2, ap length e, length-set slots k (counted_of (get_or slots k (pos 0)) c)));
      same = refl;
      tallied = λ count met l few T. subst (λ (s : ℕ). Tallied count ((s, c) ∷ met) (Listed used) listed slots') own (slot_found (Listed used) listed slots k c slots' e count met h (omega (arith, R.0, R.2)) few T);
    }

-- ---- an edge of a ring that gets a slot
module _ (listed : List ℕ) (slots : List ℤ) (used ring k : ℕ) (c : Crossing) (listed' : List ℕ) (slots' : List ℤ) (P : Reaching listed used ring k) (apart : 0 < k → get_or listed (k - 1) 0 ≡ ring → ⊥) (L : Inserted 0 listed used k ring listed') (S : Inserted (pos 0) slots used k (counted_of (pos 0) c) slots') where
  module _ (count : ℕ) (met : List Met) (T : Tallied count met (Listed used) listed slots) where
    -- the rings before place k are lower, and those from there on are higher
    lower : (i : ℕ) → i < k → get_or listed i 0 < ring
    lower i h = go (ℕ_discrete (i + 1) k)
      where
        last : get_or listed (k - 1) 0 < ring
        last = omega (arith, P.before, start_pred listed k (omega arith), apart (omega arith))

        go : Dec (i + 1 ≡ k) → get_or listed i 0 < ring
        go (yes e) = subst (λ (t : ℕ). get_or listed t 0 < ring) (let e : k - 1 ≡ i = omega arith in e) last
        go (no e) = omega (arith, last, T.rise i (k - 1) (omega arith) (omega (arith, P.few)))

    higher : (i : ℕ) → k ≤ i → i < used → ring < get_or listed i 0
    higher i h m = go (ℕ_discrete i k)
      where
        go : Dec (i ≡ k) → ring < get_or listed i 0
        go (yes e) = subst (λ (t : ℕ). ring < get_or listed t 0) (sym e) (P.after (omega arith))
        go (no e) = omega (arith, P.after (omega arith), T.rise k i (omega arith) m)

    -- a place of the longer list is one before k, k itself, or one above a place from k on
    data Where (i : ℕ) : Type 0 where
      before : i < k → get_or listed' i 0 ≡ get_or listed i 0 → get_or slots' i (pos 0) ≡ get_or slots i (pos 0) → Where i
      here : i ≡ k → get_or listed' i 0 ≡ ring → get_or slots' i (pos 0) ≡ counted_of (pos 0) c → Where i
      after : k < i → get_or listed' i 0 ≡ get_or listed (i - 1) 0 → get_or slots' i (pos 0) ≡ get_or slots (i - 1) (pos 0) → Where i

    where_is : (i : ℕ) → i < used + 1 → Where i
    where_is i h = go (dec_lt i k) (ℕ_discrete i k)
      where
        go : Dec (i < k) → Dec (i ≡ k) → Where i
        go (yes l) d = before l (L.before i l) (S.before i l)
        go (no l) (yes e) = here e (ap (λ t. get_or listed' t 0) e ∙ L.at) (ap (λ t. get_or slots' t (pos 0)) e ∙ S.at)
        go (no l) (no d) =
            let t : i ≡ (i - 1) + 1 = omega arith in
            after (omega arith) (ap (λ t. get_or listed' t 0) t ∙ L.after (i - 1) (omega arith) (omega arith)) (ap (λ t. get_or slots' t (pos 0)) t ∙ S.after (i - 1) (omega arith) (omega arith))

    other : (i : ℕ) → i < used → ring ≡ get_or listed i 0 → ⊥
    other i h e = go (dec_lt i k)
      where
        go : Dec (i < k) → ⊥
        go (yes l) = absurd (omega (arith, lower i l))
        go (no l) = absurd (omega (arith, higher i (omega arith) h))

    grown_rise : (i j : ℕ) → i < j → Where i → Where j → j < used + 1 → get_or listed' i 0 < get_or listed' j 0
    grown_rise i j l (before a e _) (before b f _) h = omega (arith, e, f, T.rise i j l (omega (arith, P.few)))
    grown_rise i j l (before a e _) (here b f _) h = omega (arith, e, f, lower i a)
    grown_rise i j l (before a e _) (after b f _) h = omega (arith, e, f, T.rise i (j - 1) (omega arith) (omega arith))
    grown_rise i j l (here a e _) (before b f _) h = absurd (omega arith)
    grown_rise i j l (here a e _) (here b f _) h = absurd (omega arith)
    grown_rise i j l (here a e _) (after b f _) h = omega (arith, e, f, higher (j - 1) (omega arith) (omega arith))
    grown_rise i j l (after a e _) (before b f _) h = absurd (omega arith)
    grown_rise i j l (after a e _) (here b f _) h = absurd (omega arith)
    grown_rise i j l (after a e _) (after b f _) h = omega (arith, e, f, T.rise (i - 1) (j - 1) (omega arith) (omega arith))

    module _ (l : ring < count) where
      fresh : (winding_in met ring ≡ pos 0) × (on_in met ring ≡ false)
      fresh = T.rest ring l (λ i h e. other i h (sym e))

      grown_inside : (i : ℕ) → Where i → i < used + 1 → get_or listed' i 0 < count
      grown_inside i (before a e _) h = omega (arith, e, T.inside i (omega (arith, P.few)))
      grown_inside i (here a e _) h = omega (arith, e)
      grown_inside i (after a e _) h = omega (arith, e, T.inside (i - 1) (omega arith))

      -- the slot of a ring that had one
      kept : (i j : ℕ) → j < used → get_or listed' i 0 ≡ get_or listed j 0 → get_or slots' i (pos 0) ≡ get_or slots j (pos 0) → get_or slots' i (pos 0) ≡ slot_of (winding_in ((ring, c) ∷ met) (get_or listed' i 0)) (on_in ((ring, c) ∷ met) (get_or listed' i 0))
      kept i j h e f =
          f ∙ T.told j h
          ∙ sym (ap₂ slot_of (winding_other met ring (get_or listed j 0) c (other j h)) (on_other met ring (get_or listed j 0) c (other j h)))
          ∙ ap (λ r. slot_of (winding_in ((ring, c) ∷ met) r) (on_in ((ring, c) ∷ met) r)) (sym e)

      grown_told : (i : ℕ) → Where i → i < used + 1 → get_or slots' i (pos 0) ≡ slot_of (winding_in ((ring, c) ∷ met) (get_or listed' i 0)) (on_in ((ring, c) ∷ met) (get_or listed' i 0))
      grown_told i (before a e f) h = kept i i (omega (arith, P.few)) e f
      grown_told i (after a e f) h = kept i (i - 1) (omega arith) e f
      grown_told i (here a e f) h =
          f ∙ counted_slot (pos 0) false c (omega arith)
          ∙ sym (ap₂ slot_of (winding_own met ring c ∙ ap (λ w. weight_of c +ℤ w) fresh.0) (on_own met ring c ∙ ap (λ b. is_on c || b) fresh.1))
          ∙ ap (λ r. slot_of (winding_in ((ring, c) ∷ met) r) (on_in ((ring, c) ∷ met) r)) (sym e)

      grown_rest : (r : ℕ) → r < count → ((i : ℕ) → i < used + 1 → get_or listed' i 0 ≡ r → ⊥) → (winding_in ((ring, c) ∷ met) r ≡ pos 0) × (on_in ((ring, c) ∷ met) r ≡ false)
      grown_rest r h f = (winding_other met ring r c apart_from ∙ none.0, on_other met ring r c apart_from ∙ none.1)
        where
          apart_from : ring ≡ r → ⊥
          apart_from e = f k (omega (arith, P.few)) (L.at ∙ e)

          missing : (i : ℕ) → i < used → get_or listed i 0 ≡ r → Dec (i < k) → ⊥
          missing i m e (yes b) = f i (omega arith) (L.before i b ∙ e)
          missing i m e (no b) = f (i + 1) (omega arith) (L.after i (omega arith) m ∙ e)

          none : (winding_in met r ≡ pos 0) × (on_in met r ≡ false)
          none = T.rest r h (λ i m e. missing i m e (dec_lt i k))

      grown : Tallied count ((ring, c) ∷ met) (Listed (used + 1)) listed' slots'
      grown =
          record {
            rise = λ i j b h. grown_rise i j b (where_is i (omega arith)) (where_is j h) h;
            inside = λ i h. grown_inside i (where_is i h) h;
            told = λ i h. grown_told i (where_is i h) h;
            rest = grown_rest;
          }

  pub listed_new : Room (Listed used) (length listed) (length slots) → used < 128 → Counts (Listed used) listed slots ring c (Listed (used + 1)) listed' slots'
  listed_new R h =
      record {
        room = (omega arith, omega (arith, R.1, L.long), omega (arith, R.2, S.long));
        same = refl;
        tallied = λ count met l few T. grown count met T l;
      }
