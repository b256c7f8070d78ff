-- `plans::has_zero` meets its contract: the library's search is `any_of`.
use Rattle.std.proofs.Common.{◌∙◌}
use Rattle.rules.proofs.Library.{any_is}
use Rattle.plans.proofs.has_zero.Goals as goal

pub returns : goal.returns
returns c = c.contains.ensures.value ∙ any_is _ _
