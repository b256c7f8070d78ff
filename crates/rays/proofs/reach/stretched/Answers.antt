-- `rays::reach::stretched` meets its contract: one side moved along the ray, by what the library's `max` and `min` gave.
use Rattle.std.proofs.Common.{sym, ◌∙◌, ap, rules}
use Rattle.integers.proofs.Bits.{rd_is, least, greatest}
use Rattle.rays.specs.Reach.{stretched as stretched_to}
use Rattle.rays.proofs.reach.stretched.Goals as goal

pub returns-in-Right : goal.returns-in-Right
returns-in-Right c =
    let s = c.args in
    (λ i. record { min = s.low; max = record { x = greatest s.root.max.x s.high.x c.max.result (search rules) (search rules) (search rules) c.max.ensures.value i; y = rd_is s.high.y (search rules) i } })
    ∙ sym (ap (λ ray. stretched_to ray s.root s.low s.high) c.in-Right.is)

pub returns-in-Left : goal.returns-in-Left
returns-in-Left c =
    let s = c.args in
    (λ i. record { min = record { x = least s.root.min.x s.low.x c.min.result (search rules) (search rules) (search rules) c.min.ensures.value i; y = rd_is s.low.y (search rules) i }; max = s.high })
    ∙ sym (ap (λ ray. stretched_to ray s.root s.low s.high) c.in-Left.is)

pub returns-in-Up : goal.returns-in-Up
returns-in-Up c =
    let s = c.args in
    (λ i. record { min = s.low; max = record { x = rd_is s.high.x (search rules) i; y = greatest s.root.max.y s.high.y c.max-in-Up.result (search rules) (search rules) (search rules) c.max-in-Up.ensures.value i } })
    ∙ sym (ap (λ ray. stretched_to ray s.root s.low s.high) c.in-Up.is)

pub returns-in-Down : goal.returns-in-Down
returns-in-Down c =
    let s = c.args in
    (λ i. record { min = record { x = rd_is s.low.x (search rules) i; y = least s.root.min.y s.low.y c.min-in-Down.result (search rules) (search rules) (search rules) c.min-in-Down.ensures.value i }; max = s.high })
    ∙ sym (ap (λ ray. stretched_to ray s.root s.low s.high) c.in-Down.is)
