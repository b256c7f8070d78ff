-- `plans::all_in_range` meets its contract: its search asks each corner in turn.
use borrow.Author.Rules.{rules}
use borrow.Author.Tests.{tests}
use mathlib.Core.Path.{refl, ◌∙◌}
use native.Mathlib.Omega.{arith}
use Rattle.std.proofs.lemmas.Iterator.{YieldsList-from_range}
use Rattle.std.proofs.lemmas.Iterator.Search.{all_from_yields_List}
use Rattle.geom.specs.Range.{in_range}
use Rattle.rules.specs.Plans.{corner_at}
use Rattle.plans.proofs.Ranges.{each_in_range}
use Rattle.plans.proofs.all_in_range.Goals as goal

pub returns : goal.returns
returns c = all_from_yields_List (λ k. in_range (corner_at c.args.coordinates.now k)) _ _ _ c.all.ensures.ran (YieldsList-from_range 0 _ _ refl (omega arith)) (λ x b q k. search (rules, tests)) ∙ each_in_range c.args.coordinates.now
