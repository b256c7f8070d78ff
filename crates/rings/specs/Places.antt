-- Tests of a place (document 01, item 4).
use Rattle.std.specs.Prelude.{Bool, true, false, not}
use Rattle.rules.specs.declared.Location.{Location}
use Rattle.rules.specs.declared.Location.TheVariants.{Outside, Inside, OnBoundary}

abbrev pub is_outside : Location → Bool
is_outside Outside = true
is_outside Inside = false
is_outside OnBoundary = false

abbrev pub is_inside : Location → Bool
is_inside Outside = false
is_inside Inside = true
is_inside OnBoundary = false

abbrev pub is_boundary : Location → Bool
is_boundary Outside = false
is_boundary Inside = false
is_boundary OnBoundary = true

abbrev pub flipped_by : Bool → Location → Bool
flipped_by odd Outside = odd
flipped_by odd Inside = not odd
flipped_by odd OnBoundary = odd
