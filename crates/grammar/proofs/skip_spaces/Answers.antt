-- `grammar::skip_spaces` meets its contract: the search stops at the first byte that is no space.
use borrow.Author.Rules.{rules}
use borrow.Author.Tests.{tests}
use mathlib.Core.Path.{◌≡◌, refl, subst, ◌∙◌}
use Prim.Native.Nat.{◌-◌, ◌<◌}
use native.Mathlib.Omega.{arith}
use lib.ListN.{length, drop, length-drop}
use lib.Seq.{take_all}
use Rattle.std.specs.List.{AllWithin, HoldsAt}
use Rattle.std.specs.Option.{MatchOption}
use Rattle.std.specs.Slice.Iter.{iter_rest}
use Rattle.std.proofs.lemmas.Iterator.{YieldsList-from_slice, IsFirst-from_position}
use Rattle.grammar.proofs.Tokens.{skipped}
use Rattle.grammar.proofs.skip_spaces.Goals as goal
use Rattle.grammar.proofs.skip_spaces.Goals.{After-position}

-- where the search stops
found : (c : After-position) → MatchOption c.position.result (AllWithin (λ b. b ≡ 32) (drop c.args.at c.args.text.now) 0 (length (drop c.args.at c.args.text.now))) (λ i. (i < length (drop c.args.at c.args.text.now)) × HoldsAt (λ b. b ≡ 32 → ⊥) (drop c.args.at c.args.text.now) i × AllWithin (λ b. b ≡ 32) (drop c.args.at c.args.text.now) 0 i)
found c =
    let all : iter_rest c.iter.result ≡ drop c.args.at c.args.text.now = c.iter.ensures.rest ∙ take_all (length c.args.text.now - c.args.at) (drop c.args.at c.args.text.now) (let l = length-drop c.args.at c.args.text.now in omega (arith, l)) in
    IsFirst-from_position _ _ c.position.result (λ b. b ≡ 32 → ⊥) (λ b. b ≡ 32) c.position.ensures.ran (YieldsList-from_slice (drop c.args.at c.args.text.now) all) (λ x q k. search (rules, tests)) (λ x q k. search (rules, tests))

pub returns-in-Some : goal.returns-in-Some
returns-in-Some c =
    let a = c.args in
    let all = drop a.at a.text.now in
    let here = subst (λ r. MatchOption r (AllWithin (λ b. b ≡ 32) all 0 (length all)) (λ i. (i < length all) × HoldsAt (λ b. b ≡ 32 → ⊥) all i × AllWithin (λ b. b ≡ 32) all 0 i)) c.in-Some.is (found (goal.at.returns-in-Some c).After-position) in
    skipped a.text.now a.at c.requires c.in-Some.spaces (λ k l. here.2 k 0 (omega arith) l) (let h = here.0 in omega arith) _ refl (λ h. here.1 0)

pub returns-in-None : goal.returns-in-None
returns-in-None c =
    let a = c.args in
    let all = drop a.at a.text.now in
    let here = subst (λ r. MatchOption r (AllWithin (λ b. b ≡ 32) all 0 (length all)) (λ i. (i < length all) × HoldsAt (λ b. b ≡ 32 → ⊥) all i × AllWithin (λ b. b ≡ 32) all 0 i)) c.in-None.is (found (goal.at.returns-in-None c).After-position) in
    skipped a.text.now a.at c.requires (length all) (λ k l. here k 0 (omega arith) l) (omega arith) _ (let l = length-drop a.at a.text.now in omega (arith, l, c.requires)) (λ h. absurd (omega arith))
