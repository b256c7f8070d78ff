-- `refit::find_way` meets its contract.
use mathlib.Core.Path.{◌≡◌, sym, subst}
use Prim.Native.Nat.{◌-◌}
use native.Mathlib.Omega.{arith}
use lib.ListN.{length}
use Rattle.std.proofs.lemmas.Result.{err_from_is_err_and}
use Rattle.index.proofs.Tables.{kept_all, kept_wider}
use Rattle.refit.specs.Paths.{Lent}
use Rattle.refit.proofs.Stopping.{way_unlent, way_refused, way_found, never_stopped}
use Rattle.refit.proofs.find_way.Goals as goal

pub returns-then-not-lent_enough : goal.returns-then-not-lent_enough
returns-then-not-lent_enough c =
    let a = c.args in
    way_unlent a.n a.count a.rings.now a.parts.now a.edges.now a.k a.path.now a.stops.now c.if-not-lent_enough.ensures

pub returns-in_err-depth : goal.returns-in_err-depth
returns-in_err-depth c =
    let a = c.args in
    let path = c.path_to in
    let refused = err_from_is_err_and c.from_residual.result c.from_residual.ensures.1 in
    rw refused.1 (way_refused a.n a.count a.rings.now a.parts.now a.edges.now a.k a.path.now a.stops.now path.new.path a.stops.now c.if-not-lent_enough.ensures c.in_err-depth.ensures.kept_from (kept_all 8 a.stops.now)
    (λ corners boxes T. c.in_err-depth.ensures.path_says a.count corners a.rings.now boxes a.edges.now T))

pub returns-in_err-put_stops : goal.returns-in_err-put_stops
returns-in_err-put_stops c =
    let a = c.args in
    let path = c.path_to in
    let stops = c.put_stops in
    let found = c.in_ok-depth.ensures in
    let refused = err_from_is_err_and c.from_residual-in_err-put_stops.result c.from_residual-in_err-put_stops.ensures.1 in
    rw refused.1 (way_refused a.n a.count a.rings.now a.parts.now a.edges.now a.k a.path.now a.stops.now path.new.path stops.new.stops c.if-not-lent_enough.ensures found.kept_from
    (kept_wider _ 8 a.stops.now stops.new.stops found.path_says.leaf.small c.in_err-put_stops.ensures.kept_from)
    (never_stopped a.n a.count a.rings.now a.parts.now a.edges.now a.k path.new.path c.in_ok-depth.depth c.node_count.result c.node_count.ensures found.path_says c.in_err-put_stops.ensures.stops_say))

pub returns : goal.returns
returns c =
    let a = c.args in
    let path = c.path_to in
    let stops = c.put_stops in
    let found = c.in_ok-depth.ensures in
    let put = c.in_ok-put_stops.ensures in
    record {
      found =
          way_found a.n a.count a.rings.now a.parts.now a.edges.now a.k path.new.path stops.new.stops c.in_ok-depth.depth c.node_count.result
          (subst (λ m. Lent a.n a.count a.k m (length stops.new.stops) a.rings.now (length a.parts.now) (length a.edges.now)) (sym path.auto.path)
          (subst (λ m. Lent a.n a.count a.k (length a.path.now) m a.rings.now (length a.parts.now) (length a.edges.now)) (sym stops.auto.stops) c.if-not-lent_enough.ensures))
          c.node_count.ensures found.path_says put.stops_say;
      path_space = found.kept_from;
      stops_space = kept_wider _ 8 a.stops.now stops.new.stops found.path_says.leaf.small put.kept_from;
    }
