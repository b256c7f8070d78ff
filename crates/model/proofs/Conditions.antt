-- Each refusal number of a call comes under its condition alone, on any tables, and sound tables never get 15. Assumes nothing.
use mathlib.Core.Path.{◌≡◌, refl, sym, ap, ◌∙◌}
use mathlib.Core.Bool.{Bool, true, false, cond, ◌&&◌, ◌||◌}
use mathlib.Core.Logic.{◌⊎◌, inl, inr, ⊎_elim}
use Prim.Native.Nat.{ℕ, ◌≤◌, ◌<◌}
use native.Mathlib.Omega.{arith}
use borrow.Author.Tests.{leb-true, eqb-true}
use lib.Dec.{leb, eqb}
use lib.ListN.{length}
use Rattle.integers.proofs.Tests.{and_true}
use Rattle.geom.specs.declared.Point.{Point}
use Rattle.geom.specs.Range.{in_range, in_doubled_range}
use Rattle.rules.specs.declared.Location.TheVariants.{Outside}
use Rattle.rules.specs.declared.Refusal.{Refusal}
use Rattle.rules.specs.declared.Refusal.TheVariants.{NoSuchCorner, PlaceOutOfRange, PlanOutOfRange, UndoFull, NothingToUndo, Unsound}
use Rattle.rules.specs.Numbers.{refusal_number}
use Rattle.rules.specs.Plans.{corner_at, plan_reply, plan_half_reply}
use Rattle.model.specs.declared.Answer.TheVariants.{At, Accepted, Refused}
use Rattle.model.specs.declared.Call.{Call}
use Rattle.model.specs.declared.Call.TheVariants.{Move, Undo, Locate, LocateDoubled}
use Rattle.model.specs.Entries.{is_recorded, is_full}
use Rattle.model.specs.Prepared.{Prepared, plan_held, Sound}
use Rattle.model.specs.Steps.{refusing, early, Step, Early, Open, Settled}
use Rattle.model.proofs.Ways.{accepted_refused, at_refused}

early_is : (call : Call) (d d' : Prepared) (refusal : Refusal) → (refusal ≡ Unsound → ⊥) → Step call d (Refused refusal) d' → early call d ≡ refusing refusal
early_is call d d' refusal not_15 s = ⊎_elim (λ e. e) (λ e. absurd (not_15 e)) (s.alone refusal refl)

-- the number that is settled early, and 0 where none is
number_of : Early → ℕ
number_of Open = 0
number_of (Settled (At location)) = 0
number_of (Settled Accepted) = 0
number_of (Settled (Refused refusal)) = refusal_number refusal

abbrev move_tests : Bool → Bool → Bool → Bool → Early
move_tests m p q r = cond m (refusing PlanOutOfRange) (cond p (refusing NoSuchCorner) (cond q (cond r (refusing UndoFull) Open) (refusing PlaceOutOfRange)))

abbrev move_number : Bool → Bool → Bool → Bool → ℕ
move_number m p q r = cond m 12 (cond p 5 (cond q (cond r 13 0) 6))

abbrev undo_number : Bool → Bool → ℕ
undo_number m p = cond m 12 (cond p 14 0)

-- which test a number comes from
move_test : (m p q r : Bool) → number_of (move_tests m p q r) ≡ move_number m p q r
unfolding number_of
move_test true p q r = refl
move_test false true q r = refl
move_test false false true true = refl
move_test false false true false = refl
move_test false false false r = refl

test_12 : (m p q r : Bool) → move_number m p q r ≡ 12 → m ≡ true
test_12 true p q r e = refl
test_12 false true q r e = absurd (let z : ⊥ = omega arith in z)
test_12 false false true true e = absurd (let z : ⊥ = omega arith in z)
test_12 false false true false e = absurd (let z : ⊥ = omega arith in z)
test_12 false false false r e = absurd (let z : ⊥ = omega arith in z)

test_5 : (m p q r : Bool) → move_number m p q r ≡ 5 → p ≡ true
test_5 true p q r e = absurd (let z : ⊥ = omega arith in z)
test_5 false true q r e = refl
test_5 false false true true e = absurd (let z : ⊥ = omega arith in z)
test_5 false false true false e = absurd (let z : ⊥ = omega arith in z)
test_5 false false false r e = absurd (let z : ⊥ = omega arith in z)

test_6 : (m p q r : Bool) → move_number m p q r ≡ 6 → q ≡ false
test_6 true p q r e = absurd (let z : ⊥ = omega arith in z)
test_6 false true q r e = absurd (let z : ⊥ = omega arith in z)
test_6 false false true true e = absurd (let z : ⊥ = omega arith in z)
test_6 false false true false e = absurd (let z : ⊥ = omega arith in z)
test_6 false false false r e = refl

test_13 : (m p q r : Bool) → move_number m p q r ≡ 13 → r ≡ true
test_13 true p q r e = absurd (let z : ⊥ = omega arith in z)
test_13 false true q r e = absurd (let z : ⊥ = omega arith in z)
test_13 false false true true e = refl
test_13 false false true false e = absurd (let z : ⊥ = omega arith in z)
test_13 false false false r e = absurd (let z : ⊥ = omega arith in z)

undo_test : (m p : Bool) → number_of (cond m (refusing PlanOutOfRange) (cond p (refusing NothingToUndo) Open)) ≡ undo_number m p
unfolding number_of
undo_test true p = refl
undo_test false true = refl
undo_test false false = refl

undo_12 : (m p : Bool) → undo_number m p ≡ 12 → m ≡ true
undo_12 true p e = refl
undo_12 false true e = absurd (let z : ⊥ = omega arith in z)
undo_12 false false e = absurd (let z : ⊥ = omega arith in z)

undo_14 : (m p : Bool) → undo_number m p ≡ 14 → p ≡ true
undo_14 true p e = absurd (let z : ⊥ = omega arith in z)
undo_14 false true e = refl
undo_14 false false e = absurd (let z : ⊥ = omega arith in z)

look_test : (m p : Bool) → number_of (cond m (Settled (At Outside)) (cond p Open (Settled (At Outside)))) ≡ 0
unfolding number_of
look_test true p = refl
look_test false true = refl
look_test false false = refl

-- the refusal of a step, by its number
told : (call : Call) (d d' : Prepared) (refusal : Refusal) → (refusal_number refusal ≡ 15 → ⊥) → Step call d (Refused refusal) d' → number_of (early call d) ≡ refusal_number refusal
unfolding number_of
told call d d' refusal not_15 s = ap number_of (early_is call d d' refusal (λ e. not_15 (ap refusal_number e)) s)

module _ (d d' : Prepared) (i : ℕ) (place : Point) where
  full : Bool
  full = is_recorded (corner_at d.corners i) place && is_full (length d.undo) d.state.undo_depth

  move_told : (refusal : Refusal) → (refusal_number refusal ≡ 15 → ⊥) → Step (Move i place) d (Refused refusal) d' → move_number d.state.out_of_range (leb d.state.corners i) (in_range place) full ≡ refusal_number refusal
  unfolding full
  move_told refusal not_15 s = sym (move_test d.state.out_of_range (leb d.state.corners i) (in_range place) full) ∙ told (Move i place) d d' refusal not_15 s

  -- 5: no such corner
  pub no_corner_only : Step (Move i place) d (Refused NoSuchCorner) d' → d.state.corners ≤ i
  no_corner_only s = leb-true d.state.corners i (test_5 d.state.out_of_range (leb d.state.corners i) (in_range place) full (move_told NoSuchCorner (λ e. omega arith) s))

  -- 6: the new place is out of range
  pub place_only : Step (Move i place) d (Refused PlaceOutOfRange) d' → in_range place ≡ false
  place_only s = test_6 d.state.out_of_range (leb d.state.corners i) (in_range place) full (move_told PlaceOutOfRange (λ e. omega arith) s)

  -- 13: the undo table is full, at its lent length or 65,536
  pub full_only : Step (Move i place) d (Refused UndoFull) d' → (length d.undo ≤ d.state.undo_depth) ⊎ (65536 ≤ d.state.undo_depth)
  unfolding full
  full_only s = go (and_true (is_recorded (corner_at d.corners i) place) _ (test_13 d.state.out_of_range (leb d.state.corners i) (in_range place) full (move_told UndoFull (λ e. omega arith) s))).1
    where
      go : is_full (length d.undo) d.state.undo_depth ≡ true → (length d.undo ≤ d.state.undo_depth) ⊎ (65536 ≤ d.state.undo_depth)
      go e = or (leb (length d.undo) d.state.undo_depth) refl e
        where
          or : (b : Bool) → leb (length d.undo) d.state.undo_depth ≡ b → is_full (length d.undo) d.state.undo_depth ≡ true → (length d.undo ≤ d.state.undo_depth) ⊎ (65536 ≤ d.state.undo_depth)
          or true f g = inl (leb-true (length d.undo) d.state.undo_depth f)
          or false f g = inr (leb-true 65536 d.state.undo_depth (ap (λ b. b || leb 65536 d.state.undo_depth) (sym f) ∙ g))

  -- so never with nothing to undo and an undo table that is not empty
  pub full_at_first : d.state.undo_depth ≡ 0 → 0 < length d.undo → Step (Move i place) d (Refused UndoFull) d' → ⊥
  full_at_first e h s = ⊎_elim (λ l. omega arith) (λ l. omega arith) (full_only s)

-- 14: nothing to undo
pub nothing_only : (d d' : Prepared) → Step Undo d (Refused NothingToUndo) d' → d.state.undo_depth ≡ 0
nothing_only d d' s =
    eqb-true d.state.undo_depth 0
    (undo_14 d.state.out_of_range (eqb d.state.undo_depth 0) (sym (undo_test d.state.out_of_range (eqb d.state.undo_depth 0)) ∙ told Undo d d' NothingToUndo (λ e. omega arith) s))

-- 12: the plan is marked
pub marked_only : (call : Call) (d d' : Prepared) → Step call d (Refused PlanOutOfRange) d' → d.state.out_of_range ≡ true
marked_only (Move i place) d d' s = test_12 d.state.out_of_range (leb d.state.corners i) (in_range place) (full d d' i place) (move_told d d' i place PlanOutOfRange (λ e. omega arith) s)
marked_only Undo d d' s =
    undo_12 d.state.out_of_range (eqb d.state.undo_depth 0) (sym (undo_test d.state.out_of_range (eqb d.state.undo_depth 0)) ∙ told Undo d d' PlanOutOfRange (λ e. omega arith) s)
marked_only (Locate p) d d' s = absurd (let z = look_test d.state.out_of_range (in_range p) in let w = told (Locate p) d d' PlanOutOfRange (λ e. omega arith) s in omega arith)
marked_only (LocateDoubled p) d d' s = absurd (let z = look_test d.state.out_of_range (in_doubled_range p) in let w = told (LocateDoubled p) d d' PlanOutOfRange (λ e. omega arith) s in omega arith)

-- 15: the tables are not sound
few_moves : (m p q r : Bool) → move_number m p q r ≤ 14
few_moves true p q r = omega arith
few_moves false true q r = omega arith
few_moves false false true true = omega arith
few_moves false false true false = omega arith
few_moves false false false r = omega arith

few_undos : (m p : Bool) → undo_number m p ≤ 14
few_undos true p = omega arith
few_undos false true = omega arith
few_undos false false = omega arith

early_few : (call : Call) (d : Prepared) → number_of (early call d) ≤ 14
early_few (Move i place) d =
    let full = is_recorded (corner_at d.corners i) place && is_full (length d.undo) d.state.undo_depth in
    let e = move_test d.state.out_of_range (leb d.state.corners i) (in_range place) full in
    let h = few_moves d.state.out_of_range (leb d.state.corners i) (in_range place) full in
    omega arith
early_few Undo d =
    let e = undo_test d.state.out_of_range (eqb d.state.undo_depth 0) in
    let h = few_undos d.state.out_of_range (eqb d.state.undo_depth 0) in
    omega arith
early_few (Locate p) d = let e = look_test d.state.out_of_range (in_range p) in omega arith
early_few (LocateDoubled p) d = let e = look_test d.state.out_of_range (in_doubled_range p) in omega arith

unsound_15 : number_of (refusing Unsound) ≡ 15
unfolding number_of
unsound_15 = refl

pub sound_never_15 : (call : Call) (d d' : Prepared) → Sound d → Step call d (Refused Unsound) d' → ⊥
sound_never_15 call d d' w s = go (early call d) refl
  where
    go : (e : Early) → early call d ≡ e → ⊥
    go Open o = never call s o
      where
        never : (c : Call) → Step c d (Refused Unsound) d' → early c d ≡ Open → ⊥
        never (Move i place) t q = accepted_refused Unsound (sym (t.does w q).answer)
        never Undo t q = accepted_refused Unsound (sym (t.does w q).answer)
        never (Locate p) t q = at_refused (plan_reply (plan_held d) p) Unsound (sym (t.does w q))
        never (LocateDoubled p) t q = at_refused (plan_half_reply (plan_held d) p) Unsound (sym (t.does w q))
    go (Settled a) o =
        let said = ap number_of (o ∙ ap Settled (sym (s.settled a o).0)) in
        let few = early_few call d in
        omega (arith, unsound_15)
