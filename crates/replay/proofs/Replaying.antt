-- Coded calls run one after another: after k of them, a run of k turns whose coded answers stand in the first k places. Assumes nothing.
use mathlib.Core.Path.{◌≡◌, refl, sym, ap, ◌∙◌, subst}
use mathlib.Core.List.{List, [], ◌∷◌, ◌++◌, map, map-append, append_assoc}
use Prim.Native.Nat.{ℕ, suc, ◌+◌, ◌≤◌, ◌<◌}
use native.Mathlib.Numerals.{add-one}
use native.Mathlib.Omega.{arith}
use lib.IntN.{ℤ, pos}
use lib.ListN.{length, get_or, set, take, drop, length-map, length-set}
use lib.Seq.{take-suc, drop-cons, set_at, take_all, length-take-le}
use Rattle.model.specs.declared.Answer.{Answer}
use Rattle.model.specs.declared.Call.{Call}
use Rattle.model.specs.Numbers.{answer_number}
use Rattle.model.specs.Prepared.{Prepared}
use Rattle.model.specs.Steps.{Step}
use Rattle.model.specs.Demand.{Turn, calls_of, answers_of, Run, end_of}
use Rattle.model.specs.Coded.{call_of}
use Rattle.replay.specs.Replays.{Called}

-- ---- a run that grows by a call at its end
run_more : (d : Prepared) (turns : List Turn) (t : Turn) → Run d turns → Step t.call (end_of d turns) t.answer t.left → Run d (turns ++ (t ∷ []))
unfolding Run end_of
run_more d [] t r s = (s, tt)
run_more d (u ∷ turns) t r s = (r.0, run_more u.left turns t r.1 s)

end_more : (d : Prepared) (turns : List Turn) (t : Turn) → end_of d (turns ++ (t ∷ [])) ≡ t.left
unfolding end_of
end_more d [] t = refl
end_more d (u ∷ turns) t = end_more u.left turns t

-- ---- the loop's state
pub record Replaying (calls : List (List ℤ)) (d : Prepared) (was : List ℤ) (k : ℕ) (d' : Prepared) (is : List ℤ) : Type 0 where
  pub turns : List Turn
  pub run : Run d turns
  pub calls_are : calls_of turns ≡ map call_of (take k calls)
  pub end : end_of d turns ≡ d'
  pub answers_are : is ≡ map answer_number (answers_of turns) ++ drop k was

replay_start : (calls : List (List ℤ)) (d : Prepared) (was : List ℤ) → Replaying calls d was 0 d was
unfolding Run end_of
replay_start calls d was = record { turns = []; run = tt; calls_are = refl; end = refl; answers_are = refl }

module _ (calls : List (List ℤ)) (d : Prepared) (was : List ℤ) (k : ℕ) (d' : Prepared) (is : List ℤ) (r : Replaying calls d was k d' is) (more : k < length calls) (room : length calls ≤ length was) where
  many : length (map answer_number (answers_of r.turns)) ≡ k
  many =
      length-map (answers_of r.turns) answer_number
      ∙ length-map r.turns (λ t. t.answer)
      ∙ sym (length-map r.turns (λ t. t.call))
      ∙ ap length r.calls_are
      ∙ length-map (take k calls) call_of
      ∙ length-take-le k calls (omega arith)

  replay_more : (a : Answer) (d'' : Prepared) → Step (call_of (get_or calls k [])) d' a d'' → Replaying calls d was (k + 1) d'' (set is k (answer_number a))
  replay_more a d'' s =
      let t : Turn = record { call = call_of (get_or calls k []); answer = a; left = d'' } in
      let turns = r.turns in
      let codes = map answer_number (answers_of turns) in
      record {
        turns = turns ++ (t ∷ []);
        run = run_more d turns t r.run (subst (λ (v : Prepared). Step (call_of (get_or calls k [])) v a d'') (sym r.end) s);
        calls_are =
            map-append (λ u. u.call) turns (t ∷ [])
            ∙ ap (λ (l : List Call). l ++ (call_of (get_or calls k []) ∷ [])) r.calls_are
            ∙ sym (map-append call_of (take k calls) (get_or calls k [] ∷ []))
            ∙ ap (map call_of) (sym (take-suc calls k [] more) ∙ ap (λ (m : ℕ). take m calls) (sym (add-one k)));
        end = end_more d turns t;
        answers_are =
            ap (λ (l : List ℤ). set l k (answer_number a)) (r.answers_are ∙ ap (λ (l : List ℤ). codes ++ l) (drop-cons was k (pos 0) (omega arith)))
            ∙ set_at codes (get_or was k (pos 0)) (drop (suc k) was) (answer_number a) k many
            ∙ sym (append_assoc codes (answer_number a ∷ []) (drop (suc k) was))
            ∙ (λ j. sym (ap (map answer_number) (map-append (λ u. u.answer) turns (t ∷ [])) ∙ map-append answer_number (answers_of turns) (a ∷ [])) j ++ drop (sym (add-one k) j) was);
      }

replay_done : (calls : List (List ℤ)) (d : Prepared) (was : List ℤ) (k : ℕ) (d' : Prepared) (is : List ℤ) → Replaying calls d was k d' is → k ≡ length calls → Called calls d was d' is
replay_done calls d was k d' is r e = record {
  turns = r.turns;
  run = r.run;
  calls_are = r.calls_are ∙ ap (map call_of) (take_all k calls (omega arith));
  end = r.end;
  answers_are = r.answers_are ∙ ap (λ (m : ℕ). map answer_number (answers_of r.turns) ++ drop m was) e;
}

-- with the bounds that the loop rests on
pub record Upto (calls : List (List ℤ)) (d : Prepared) (was : List ℤ) (k : ℕ) (d' : Prepared) (is : List ℤ) : Type 0 where
  pub within : k ≤ length calls
  pub room : length calls ≤ length was
  pub long : length is ≡ length was
  pub so_far : Replaying calls d was k d' is

pub upto_none : (calls : List (List ℤ)) (d : Prepared) (was : List ℤ) → length calls ≤ length was → Upto calls d was 0 d was
upto_none calls d was h = record { within = omega arith; room = h; long = refl; so_far = replay_start calls d was }

pub upto_more : (calls : List (List ℤ)) (d : Prepared) (was : List ℤ) (k : ℕ) (d' : Prepared) (is : List ℤ) → Upto calls d was k d' is → k < length calls
    → (call : Call) → call ≡ call_of (get_or calls k []) → (a : Answer) (code : ℤ) → code ≡ answer_number a → (d'' : Prepared) → Step call d' a d'' → Upto calls d was (k + 1) d'' (set is k code)
upto_more calls d was k d' is u more call c a code e d'' s = record {
  within = omega arith;
  room = u.room;
  long = length-set is k code ∙ u.long;
  so_far =
      subst (λ (z : ℤ). Replaying calls d was (k + 1) d'' (set is k z)) (sym e)
      (replay_more calls d was k d' is u.so_far more u.room a d'' (subst (λ (v : Call). Step v d' a d'') c s));
}

pub upto_all : (calls : List (List ℤ)) (d : Prepared) (was : List ℤ) (k : ℕ) (d' : Prepared) (is : List ℤ) → Upto calls d was k d' is → length calls ≤ k → Called calls d was d' is
upto_all calls d was k d' is u h = replay_done calls d was k d' is u.so_far (omega (arith, u.within))
