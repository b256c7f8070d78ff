-- A part of a list, from a place to before another.
use Rattle.std.specs.Prelude.{List, ℕ, ◌-◌, take, drop}

abbrev pub part : {A : Type 0} → List A → ℕ → ℕ → List A
part xs first end = take (end - first) (drop first xs)
