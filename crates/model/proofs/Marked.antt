-- A plan that is out of range: 12 for every move and undo, outside for every look-up, whatever the tables hold. Assumes nothing.
use mathlib.Core.Path.{◌≡◌, refl, ap, ◌∙◌, subst}
use mathlib.Core.Bool.{Bool, true, cond}
use mathlib.Core.List.{List, [], ◌∷◌}
use Prim.Native.Nat.{ℕ, zero, suc}
use lib.ListN.{take}
use Rattle.rules.specs.declared.Location.TheVariants.{Outside}
use Rattle.rules.specs.declared.Refusal.TheVariants.{PlanOutOfRange}
use Rattle.model.specs.declared.Answer.TheVariants.{At}
use Rattle.model.specs.declared.Call.{Call}
use Rattle.model.specs.declared.Call.TheVariants.{Move, Undo, Locate, LocateDoubled}
use Rattle.model.specs.Prepared.{Prepared}
use Rattle.model.specs.Steps.{refusing, early, Early, Settled}
use Rattle.model.specs.Demand.{Turn, Run, end_of, marked_answer, Untouched}
use Rattle.model.proofs.Ways.{settled_step}
use Rattle.model.proofs.Runs.{Runs}

-- whatever comes after the first test
first : (early_then : Early) (a : Early) (marked : Bool) → marked ≡ true → cond marked a early_then ≡ a
first early_then a marked e = ap (λ m. cond m a early_then) e

pub early_marked : (call : Call) (d : Prepared) → d.state.out_of_range ≡ true → early call d ≡ Settled (marked_answer call)
early_marked (Move i place) d e = first _ (refusing PlanOutOfRange) d.state.out_of_range e
early_marked Undo d e = first _ (refusing PlanOutOfRange) d.state.out_of_range e
early_marked (Locate p) d e = first _ (Settled (At Outside)) d.state.out_of_range e
early_marked (LocateDoubled p) d e = first _ (Settled (At Outside)) d.state.out_of_range e

pub marked : (turns : List Turn) (d : Prepared) → d.state.out_of_range ≡ true → Run d turns → Untouched d turns
unfolding Run end_of
marked [] d e r = record { answers = refl; left = stop }
  where
    stop : (k : ℕ) → end_of d (take k []) ≡ d
    stop zero = refl
    stop (suc k) = refl
marked (t ∷ turns) d e r =
    let s = r.0.settled (marked_answer t.call) (early_marked t.call d e) in
    let ih = marked turns d e (subst (λ (v : Prepared). Run v turns) s.1 r.1) in
    record { answers = λ j. s.0 j ∷ ih.answers j; left = go s.1 ih.left }
  where
    go : t.left ≡ d → ((k : ℕ) → end_of d (take k turns) ≡ d) → (k : ℕ) → end_of d (take k (t ∷ turns)) ≡ d
    go q ih zero = refl
    go q ih (suc k) = ap (λ (v : Prepared). end_of v (take k turns)) q ∙ ih k

-- and there is such a run for every list of calls
pub marked_run : (calls : List Call) (d : Prepared) → d.state.out_of_range ≡ true → Runs d calls
unfolding Run
marked_run [] d e = record { turns = []; run = tt; calls_are = refl }
marked_run (call ∷ calls) d e =
    let rest = marked_run calls d e in
    record { turns = record { call = call; answer = marked_answer call; left = d } ∷ rest.turns; run = (settled_step call d (marked_answer call) (early_marked call d e), rest.run); calls_are = ap (λ (l : List Call). call ∷ l) rest.calls_are }
