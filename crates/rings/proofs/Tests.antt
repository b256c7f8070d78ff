-- What `==` and `!=` say of a place and of a crossing, by the tests of the definitions. Assumes nothing.
use mathlib.Core.Path.{◌≡◌, refl, sym, ◌∙◌, subst}
use mathlib.Core.Bool.{Bool, true, false, not}
use denote.Enum.Bare.{sameb}
use lib.Dec.{T}
use Rattle.rules.specs.contracts.Location as place
use Rattle.rules.specs.declared.Location.{Location}
use Rattle.rules.specs.declared.Location.TheVariants.{Outside, Inside, OnBoundary}
use Rattle.rings.specs.contracts.crossings.Crossing as crossing
use Rattle.rings.specs.declared.crossings.Crossing.{Crossing}
use Rattle.rings.specs.declared.crossings.Crossing.TheVariants.{Nothing, Up, Down, On}
use Rattle.rings.specs.Crossings.{is_on}
use Rattle.rings.specs.Places.{is_outside, is_inside}

-- `!=` is the test turned over
not_same : (b c e : Bool) → b ≡ not c → b ≡ not e → c ≡ e
not_same b true true says is = refl
not_same b true false says is = absurd (subst T (sym (sym says ∙ is)) tt)
not_same b false true says is = absurd (subst T (sym says ∙ is) tt)
not_same b false false says is = refl

same_inside : (l : Location) → sameb place.the_type l Inside ≡ is_inside l
same_inside Outside = refl
same_inside Inside = refl
same_inside OnBoundary = refl

pub eq_inside : (l : Location) (b e : Bool) → b ≡ sameb place.the_type l Inside → b ≡ e → is_inside l ≡ e
eq_inside l b e says is = sym (same_inside l) ∙ sym says ∙ is

pub ne_inside : (l : Location) (b e : Bool) → b ≡ not (sameb place.the_type l Inside) → b ≡ not e → is_inside l ≡ e
ne_inside l b e says is = sym (same_inside l) ∙ not_same b _ e says is

same_outside : (l : Location) → sameb place.the_type l Outside ≡ is_outside l
same_outside Outside = refl
same_outside Inside = refl
same_outside OnBoundary = refl

pub eq_outside : (l : Location) (b e : Bool) → b ≡ sameb place.the_type l Outside → b ≡ e → is_outside l ≡ e
eq_outside l b e says is = sym (same_outside l) ∙ sym says ∙ is

pub ne_outside : (l : Location) (b e : Bool) → b ≡ not (sameb place.the_type l Outside) → b ≡ not e → is_outside l ≡ e
ne_outside l b e says is = sym (same_outside l) ∙ not_same b _ e says is

same_on : (c : Crossing) → sameb crossing.the_type c On ≡ is_on c
same_on Nothing = refl
same_on Up = refl
same_on Down = refl
same_on On = refl

pub eq_on : (c : Crossing) (b e : Bool) → b ≡ sameb crossing.the_type c On → b ≡ e → is_on c ≡ e
eq_on c b e says is = sym (same_on c) ∙ sym says ∙ is
