-- From the numbers that name a kind or a state to what is answered. Assumes nothing.
use Rattle.std.specs.Prelude.{Option, Some}
use mathlib.Core.Path.{◌≡◌, refl, sym, subst}
use mathlib.Core.Bool.{Bool, true, false}
use Rattle.rules.specs.declared.Kind.{Kind}
use Rattle.rules.specs.declared.Kind.TheVariants.{Polygons, Tree}
use Rattle.rules.specs.declared.State.{State}
use Rattle.rules.specs.Numbers.{kind_number}
use Rattle.corrections.specs.Answering.{Correction}
use Rattle.states.specs.declared.StateNumbers.{StateNumbers}
use Rattle.capi.specs.declared.moves.CorrectionAnswer.{CorrectionAnswer}
use Rattle.states.specs.States.{mark_number, state_named, state_numbers}
use Rattle.capi.specs.Exports.{CorrectionSays, correction_numbers}

-- ---- corrections

pub correction_known : (named : Option State) (state : State) (Promised : State → Correction → Type 0) (Same : Type 0) (numbers : StateNumbers) (correction : Correction) (answer : CorrectionAnswer) → named ≡ Some state → Promised state correction → answer ≡ correction_numbers state correction → CorrectionSays named Promised Same numbers answer
correction_known named state Promised Same numbers correction answer e promised is = subst (λ n. CorrectionSays n Promised Same numbers answer) (sym e) (correction, promised, is)

-- ---- a state's own numbers name it, so that what a call answers can be handed to the next
pub state_returns : (state : State) → state_named (state_numbers state) ≡ Some state
state_returns state = go state.kind state.out_of_range
  where
    go : (kind : Kind) (mark : Bool) → state_named (record { kind = kind_number kind; out_of_range = mark_number mark; corners = state.corners; rings = state.rings; polygons = state.polygons; undo_depth = state.undo_depth })
        ≡ Some (record { kind = kind; out_of_range = mark; corners = state.corners; rings = state.rings; polygons = state.polygons; undo_depth = state.undo_depth })
    go Polygons true = refl
    go Polygons false = refl
    go Tree true = refl
    go Tree false = refl
