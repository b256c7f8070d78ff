-- What is answered (document 01, "a reply carries one of the three places or a refusal").
use Rattle.std.specs.Prelude.{Result, Ok}
use Rattle.rules.specs.declared.Location.{Location}
use Rattle.rules.specs.declared.Refusal.{Refusal}

-- a look-up's: the place, or why there is none
abbrev pub Reply : Type 0
Reply = Result Location Refusal

-- a judge's: accepted, or why not
abbrev pub Verdict : Type 0
Verdict = Result Unit Refusal

pattern abbrev pub Accepted : Verdict
Accepted = Ok tt
