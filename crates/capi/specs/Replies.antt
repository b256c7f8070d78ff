-- What the C entry answers (document 01, item 11).
use Rattle.std.specs.Prelude.{cond, List, ℕ, ◌≤◌, ltb, ℤ, length, Err, Ok}
use Rattle.geom.specs.declared.Point.{Point}
use Rattle.rules.specs.declared.Refusal.TheVariants.{TextTooLong, BadLine}
use Rattle.rules.specs.Plans.{plan_reply}
use Rattle.lines.specs.Plans.{Meaning, start_meaning, gives_meaning, broken_meaning, meaning}
use Rattle.rules.specs.Answering.{Reply}

-- the reply of items 3 and 4 under item 6's range rule, or 2 with its line
abbrev pub reply_in : Meaning → Point → Reply
reply_in start_meaning p = Err (BadLine 1)
reply_in (gives_meaning plan) p = Ok (plan_reply plan p)
reply_in (broken_meaning line) p = Err (BadLine line)

-- 1 comes first
unfoldable pub text_reply : List ℕ → Point → Reply
text_reply text p = cond (ltb 65536 (length text)) (Err TextTooLong) (reply_in (meaning text) p)

-- tables that have room for the plan of any text
abbrev pub Roomy : List ℤ → List ℕ → List ℕ → Type 0
Roomy corners lengths counts = (18720 ≤ length corners) × (13106 ≤ length lengths) × (10921 ≤ length counts)
