-- What the code counts is what the plan has. Assumes nothing.
use mathlib.Core.Path.{◌≡◌, refl, sym, ap, ap₂, ◌∙◌}
use mathlib.Core.Bool.{Bool, true, false, cond}
use mathlib.Core.List.{List, [], ◌∷◌, ◌++◌}
use Prim.Native.Nat.{ℕ, suc, ◌+◌, ◌/◌}
use native.Mathlib.Omega.{arith}
use lib.IntN.{ℤ}
use lib.ListN.{length, length-append}
use Rattle.rules.specs.declared.Kind.TheVariants.{Polygons}
use Rattle.rules.specs.Plans.{Plan}
use Rattle.lines.specs.declared.records.Record.{Record}
use Rattle.lines.specs.declared.records.Record.TheVariants.{Header, Outer, Hole, Node, Corner}
use Rattle.std.specs.Prelude.{Option, Some, None, Ok, option_map}
use Rattle.lines.specs.Plans.{Meaning, start_meaning, gives_meaning, broken_meaning, size_of, empty_plan, last_one_more, grown, is_header, allowed, after_line}
use Rattle.lines.specs.Steps.{size_after, bad_line, stage_of, stage_after}

pub one_longer : {A : Type 0} (xs : List A) (x : A) → length (xs ++ x ∷ []) ≡ length xs + 1
one_longer xs x = length-append xs (x ∷ [])

pub two_longer : (xs : List ℤ) (x y : ℤ) → length (xs ++ x ∷ y ∷ []) ≡ length xs + 2
two_longer xs x y = length-append xs (x ∷ y ∷ [])

pub as_long : (ns : List ℕ) → length (last_one_more ns) ≡ length ns
unfolding last_one_more
as_long [] = refl
as_long (n ∷ []) = refl
as_long (n ∷ m ∷ ns) = ap suc (as_long (m ∷ ns))

pub size_grown : (plan : Plan) (row : Record) → size_after (size_of plan) row ≡ size_of (grown plan row)
unfolding grown
size_grown plan (Header kind) = refl
size_grown plan Outer = ap₂ (λ r q. record { kind = plan.kind; corners = length plan.coordinates / 2; rings = r; polygons = q }) (sym (one_longer plan.lengths 0)) (sym (one_longer plan.counts 1))
size_grown plan Hole = ap₂ (λ r q. record { kind = plan.kind; corners = length plan.coordinates / 2; rings = r; polygons = q }) (sym (one_longer plan.lengths 0)) (sym (as_long plan.counts))
size_grown plan Node = ap (λ r. record { kind = plan.kind; corners = length plan.coordinates / 2; rings = r; polygons = length plan.counts }) (sym (one_longer plan.lengths 0))
size_grown plan (Corner p) =
    let e = two_longer plan.coordinates p.x p.y in
    let half : length plan.coordinates / 2 + 1 ≡ length (plan.coordinates ++ p.x ∷ p.y ∷ []) / 2 = omega arith in
    ap₂ (λ n r. record { kind = plan.kind; corners = n; rings = r; polygons = length plan.counts }) half (sym (as_long plan.lengths))

by_test : (b : Bool) (x y : Meaning) → cond b (stage_of x) (stage_of y) ≡ stage_of (cond b x y)
by_test true x y = refl
by_test false x y = refl

-- the meaning of lines none of which broke a rule
abbrev pub unbroken : Option Plan → Meaning
unbroken None = start_meaning
unbroken (Some plan) = gives_meaning plan

pub stage_after_lem : (k : ℕ) (so_far : Option Plan) (said : Option Record) → stage_after k (option_map size_of so_far) said ≡ stage_of (after_line k (unbroken so_far) said)
stage_after_lem k None (Some row) =
    ap (λ counts. cond (is_header row) (Ok counts) (bad_line k)) (size_grown (empty_plan Polygons) row)
    ∙ by_test (is_header row) (gives_meaning (grown (empty_plan Polygons) row)) (broken_meaning k)
stage_after_lem k (Some plan) (Some row) =
    ap (λ counts. cond (allowed (size_of plan) row) (Ok counts) (bad_line k)) (size_grown plan row)
    ∙ by_test (allowed (size_of plan) row) (gives_meaning (grown plan row)) (broken_meaning k)
stage_after_lem k None None = refl
stage_after_lem k (Some plan) None = refl
