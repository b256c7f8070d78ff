-- The four rays and the choice among them (document 01, item 6).
use Rattle.std.specs.Prelude.{Bool, cond, ◌&&◌, ℕ, zero, suc, ℤ, neg_ℤ, ◌-ℤ◌}
use Rattle.std.specs.Int.Signed.{le_z}
use Rattle.geom.specs.declared.Point.{Point}
use Rattle.geom.specs.declared.Rect.{Rect}
use Rattle.rules.specs.declared.Ray.{Ray}
use Rattle.rules.specs.declared.Ray.TheVariants.{Right, Left, Up, Down}
use Rattle.rules.specs.Edges.{edge_winding}

-- coordinates turned so that the ray points right
abbrev pub turned : Ray → Point → Point
turned Right p = p
turned Left p = record { x = neg_ℤ p.x; y = neg_ℤ p.y }
turned Up p = record { x = p.y; y = neg_ℤ p.x }
turned Down p = record { x = neg_ℤ p.y; y = p.x }

-- item 3's rule in coordinates turned so that the ray points right
unfoldable pub winding_on : Ray → Point → Point → Point → ℤ
winding_on ray a b p = edge_winding (turned ray a) (turned ray b) (turned ray p)

-- how far the ray goes from p to the box's side
abbrev pub distance : Ray → Rect → Point → ℤ
distance Right box p = box.max.x -ℤ p.x
distance Left box p = p.x -ℤ box.min.x
distance Up box p = box.max.y -ℤ p.y
distance Down box p = p.y -ℤ box.min.y

-- the one of two rays with the lesser distance, the first in a tie
abbrev pub nearer : Rect → Point → Ray → Ray → Ray
nearer box p first second = cond (le_z (distance first box p) (distance second box p)) first second

-- item 6: the least distance over the root box, ties in the order right, left, up, down; right if there are no edges
abbrev pub ray_of : ℕ → Rect → Point → Ray
ray_of zero box p = Right
ray_of (suc n) box p = nearer box p Right (nearer box p Left (nearer box p Up Down))

-- a closed box has a point on the closed ray from p
abbrev pub meets_ray : Ray → Rect → Point → Bool
meets_ray Right box p = le_z p.x box.max.x && (le_z box.min.y p.y && le_z p.y box.max.y)
meets_ray Left box p = le_z box.min.x p.x && (le_z box.min.y p.y && le_z p.y box.max.y)
meets_ray Up box p = le_z p.y box.max.y && (le_z box.min.x p.x && le_z p.x box.max.x)
meets_ray Down box p = le_z box.min.y p.y && (le_z box.min.x p.x && le_z p.x box.max.x)
