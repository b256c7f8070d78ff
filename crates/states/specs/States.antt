-- States as 64-bit numbers at the C boundary (document 01, item 11; a kind or mark other than 0 or 1 gets 15).
use Rattle.std.specs.Prelude.{◌≡◌, Bool, true, false, cond, ℕ, eqb, ℤ, Err, None, Option, Some}
use Rattle.rules.specs.declared.Kind.{Kind}
use Rattle.rules.specs.declared.Refusal.TheVariants.{Unsound}
use Rattle.rules.specs.declared.State.{State}
use Rattle.rules.specs.Numbers.{kind_named, kind_number, reply_number}
use Rattle.states.specs.declared.StateNumbers.{StateNumbers}
use Rattle.rules.specs.Answering.{Reply}

abbrev pub mark_number : Bool → ℕ
mark_number mark = cond mark 1 0

-- 0 names a plan in range, 1 one that is out of range
abbrev pub mark_named : ℕ → Option Bool
mark_named number = cond (eqb number 0) (Some false) (cond (eqb number 1) (Some true) None)

-- the state of this kind and this mark, if both are named
abbrev pub with_named : StateNumbers → Option Kind → Option Bool → Option State
with_named numbers None mark = None
with_named numbers (Some kind) None = None
with_named numbers (Some kind) (Some mark) =
    Some (record {
      kind = kind;
      out_of_range = mark;
      corners = numbers.corners;
      rings = numbers.rings;
      polygons = numbers.polygons;
      undo_depth = numbers.undo_depth;
    })

abbrev pub state_named : StateNumbers → Option State
state_named numbers = with_named numbers (kind_named numbers.kind) (mark_named numbers.out_of_range)

abbrev pub state_numbers : State → StateNumbers
state_numbers state =
    record {
      kind = kind_number state.kind;
      out_of_range = mark_number state.out_of_range;
      corners = state.corners;
      rings = state.rings;
      polygons = state.polygons;
      undo_depth = state.undo_depth;
    }

-- a look-up's number, by what is promised of its reply; 15 where the numbers name no state
abbrev pub Replied : Option State → (State → Reply → Type 0) → ℤ → Type 0
Replied None Promised answer = answer ≡ reply_number (Err Unsound)
Replied (Some state) Promised answer = (reply : Reply) × Promised state reply × (answer ≡ reply_number reply)
