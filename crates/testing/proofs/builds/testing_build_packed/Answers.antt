-- `testing::builds::testing_build_packed` meets its contract.
use mathlib.Core.Path.{refl}
use native.Mathlib.Omega.{arith}
use Rattle.boxes.proofs.OneRing.{one_ring, near_corners}
use Rattle.index.proofs.Soundness.{edge_in}
use Rattle.testing.proofs.Lending.{from_first}
use Rattle.testing.proofs.builds.testing_build_packed.Goals as goal

pub returns-then-not-is_buildable : goal.returns-then-not-is_buildable
returns-then-not-is_buildable c =
    let never = rw (c.if-not-is_buildable.true) at c.is_buildable.ensures in
    record { accepted = λ B. absurd (never B); refused = λ _. record { boxes_are = refl; parts_are = refl; edges_are = refl; numbers = refl } }

pub build-built-requires : goal.build-built-requires
build-built-requires c =
    let a = c.args in
    let B = rw (c.if-not-is_buildable.false) at c.is_buildable.ensures in record { corners_near = near_corners a.n a.corners.now B.few B.reach B.near; ring_ends = one_ring a.n; n_in_bounds = (B.tables.boxes_reach, B.tables.parts_reach, B.tables.edges_reach) }

pub pack-requires : goal.pack-requires
pack-requires c =
    let a = c.args in
    let B = rw (c.if-not-is_buildable.false) at c.is_buildable.ensures in
    let sound = c.build-built.ensures.sound in record { corners_near = near_corners a.n a.corners.now B.few B.reach B.near; ring_ends = one_ring a.n; names = record { inside = omega (arith, sound.edges_reach); each = λ k x y. edge_in a.n a.corners.now _ _ _ _ sound k (omega arith) } }

pub returns : goal.returns
returns c =
    let B = rw (c.if-not-is_buildable.false) at c.is_buildable.ensures in
    record { accepted = λ _. record { numbers = _; built = c.build-built.ensures; packed = from_first _ _ _ _ c.pack.ensures }; refused = λ never. absurd (never B) }
