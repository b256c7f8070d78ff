-- The polygon table of a sound plan: a polygon starts after the rings of those before it. Assumes nothing.
use mathlib.Core.Path.{◌≡◌, refl, sym, ◌∙◌, ap, subst}
use mathlib.Core.List.{List, [], ◌∷◌, ◌++◌}
use Prim.Native.Nat.{ℕ, zero, suc, ◌+◌, ◌-◌, ◌≤◌, ◌<◌}
use native.Mathlib.Numerals.{add-one}
use native.Mathlib.Omega.{arith}
use lib.IntN.{ℤ}
use lib.ListN.{length, get_or, take}
use lib.Seq.{length-take-le, take_all, take-suc, get_or-take}
use Rattle.rules.specs.declared.Kind.{Kind}
use Rattle.rules.specs.declared.Kind.TheVariants.{Polygons, Tree}
use Rattle.rules.specs.declared.State.{State}
use Rattle.rules.specs.Lists.{total}
use Rattle.rules.specs.Plans.{is_list}
use Rattle.rules.specs.Tables.{ends_from, lengths_from, Ends, polygons_in, plan_of, PlanSound}
use Rattle.rules.proofs.Verdicts.{even}
use Rattle.boxes.specs.Rings.{start_of, RingEnds}
use Rattle.boxes.proofs.Rings.{start_zero, start_suc}
use Rattle.fold.specs.Folds.{Fits}

pub lengths_length : (start : ℕ) (table : List ℕ) → length (lengths_from start table) ≡ length table
unfolding lengths_from
lengths_length start [] = refl
lengths_length start (end ∷ table) = ap suc (lengths_length end table)

end_at_lem : (start : ℕ) (counts : List ℕ) (i : ℕ) → i < length counts → get_or (ends_from start counts) i 0 ≡ start + total (take (suc i) counts)
unfolding ends_from total
end_at_lem start [] i h = absurd (omega arith)
end_at_lem start (n ∷ counts) zero h = omega arith
end_at_lem start (n ∷ counts) (suc i) h = let r = end_at_lem (start + n) counts i (omega arith) in omega arith

none_before : (counts : List ℕ) → total (take 0 counts) ≡ 0
unfolding total
none_before counts = refl

total_append : (ns : List ℕ) (n : ℕ) → total (ns ++ n ∷ []) ≡ total ns + n
unfolding total
total_append [] n = omega arith
total_append (m ∷ ns) n = let h = total_append ns n in omega arith

pub total_more : (counts : List ℕ) (i : ℕ) → i < length counts → total (take (suc i) counts) ≡ total (take i counts) + get_or counts i 0
total_more counts i h = ap total (take-suc counts i 0 h) ∙ total_append (take i counts) (get_or counts i 0)

-- ---- a table of ends
-- how many rings each of the first polygons has
abbrev pub counts_in : ℕ → List ℕ → List ℕ
counts_in count table = lengths_from 0 (take count table)

module _ (count : ℕ) (table : List ℕ) (reach : count ≤ length table) (sums : Ends count table) where
  abbrev counts : List ℕ
  counts = counts_in count table

  pub counts_long : length (counts_in count table) ≡ count
  counts_long = lengths_length 0 (take count table) ∙ length-take-le count table reach

  pub start_total : (i : ℕ) → i ≤ count → start_of table i ≡ total (take i (counts_in count table))
  start_total zero h = start_zero table ∙ sym (none_before counts)
  start_total (suc i) h =
      ap (start_of table) (sym (add-one i)) ∙ start_suc table i ∙ sym (get_or-take count table i 0 (omega arith)) ∙ ap (λ l. get_or l i 0) (sym sums)
      ∙ end_at_lem 0 counts i (omega (arith, counts_long)) ∙ (let e : 0 + total (take (suc i) counts) ≡ total (take (suc i) counts) = omega arith in e)

  end_total : (i : ℕ) → i < count → get_or table i 0 ≡ total (take i counts) + get_or counts i 0
  end_total i h = sym (start_suc table i) ∙ ap (start_of table) (add-one i) ∙ start_total (suc i) (omega arith) ∙ total_more counts i (omega (arith, counts_long))

  -- how many rings polygon i has
  pub count_at_lem : (i : ℕ) → i < count → get_or (counts_in count table) i 0 ≡ get_or table i 0 - start_of table i
  count_at_lem i h = omega (arith, end_total i h, start_total i (omega arith))

  pub ends_rise_lem : RingEnds (total (counts_in count table)) count table
  ends_rise_lem = record {
    reach = reach;
    rise = λ i h. omega (arith, end_total i h, start_total i (omega arith));
    all = start_total count (omega arith) ∙ ap total (take_all count counts (omega (arith, counts_long)));
  }

-- ---- a sound plan
module _ (state : State) (corners : List ℤ) (rings polygons : List ℕ) (sound : PlanSound state corners rings polygons) where
  module _ (list : state.kind ≡ Polygons) where
    pub all_polygons : polygons_in state.kind state.polygons ≡ state.polygons
    all_polygons = ap (λ kind. polygons_in kind state.polygons) list

    pub polygons_reach : state.polygons ≤ length polygons
    polygons_reach = omega (arith, sound.polygons_reach, all_polygons)

    pub polygon_sums : Ends state.polygons polygons
    polygon_sums = subst (λ n. Ends n polygons) all_polygons sound.polygon_ends

    pub all_rings : total (counts_in state.polygons polygons) ≡ state.rings
    unfolding plan_of
    all_rings =
        ap (λ n. total (counts_in n polygons)) (sym all_polygons)
        ∙ (even (plan_of state corners rings polygons) sound.passes).rings (ap is_list list)
        ∙ lengths_length 0 (take state.rings rings)
        ∙ length-take-le state.rings rings sound.rings_reach

  pub plan_polygons : Fits state.kind state.rings state.polygons polygons
  plan_polygons = go state.kind refl
    where
      go : (kind : Kind) → state.kind ≡ kind → Fits kind state.rings state.polygons polygons
      go Polygons list = subst (λ n. RingEnds n state.polygons polygons) (all_rings list) (ends_rise_lem state.polygons polygons (polygons_reach list) (polygon_sums list))
      go Tree tree = tt
