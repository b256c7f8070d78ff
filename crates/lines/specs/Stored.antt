-- A plan in lent tables: which plan a text gives, and a table that starts with a list (document 01, item 10).
use Rattle.std.specs.Prelude.{List, ◌++◌, length, drop}
use Rattle.rules.specs.declared.Kind.TheVariants as Kind
use Rattle.rules.specs.Plans.{Plan}
use Rattle.lines.specs.Plans.{Meaning, start_meaning, gives_meaning, broken_meaning, empty_plan}

-- the plan of a text that gives one
abbrev pub plan_in : Meaning → Plan
plan_in start_meaning = empty_plan Kind.Polygons
plan_in (gives_meaning plan) = plan
plan_in (broken_meaning line) = empty_plan Kind.Polygons

-- a table with a list at its start and otherwise as it was
abbrev pub starting_with : {A : Type 0} → List A → List A → List A
starting_with xs table = xs ++ drop (length xs) table
