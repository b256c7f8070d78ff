-- Rays and kinds as tests name them.
use Rattle.std.specs.Prelude.{Bool, cond, ℕ, eqb}
use Rattle.rules.specs.declared.Kind.{Kind}
use Rattle.rules.specs.declared.Kind.TheVariants.{Polygons, Tree}
use Rattle.rules.specs.declared.Ray.{Ray}
use Rattle.rules.specs.declared.Ray.TheVariants.{Right, Left, Up, Down}

-- 0 right, 1 left, 2 up, any other number down
abbrev pub ray_named : ℕ → Ray
ray_named number = cond (eqb number 0) Right (cond (eqb number 1) Left (cond (eqb number 2) Up Down))

abbrev pub list_or_tree : Bool → Kind
list_or_tree list = cond list Polygons Tree
