-- Packed numbers: each gives its edge number back, and ordered packed numbers have ordered keys. A list mapped to packed numbers,
-- shuffled and mapped back is the list shuffled. Assumes nothing.
use mathlib.Core.Path.{◌≡◌, refl, sym, ◌∙◌, ap, subst}
use mathlib.Core.List.{List, [], ◌∷◌}
use Prim.Native.Nat.{ℕ, ◌+◌, ◌/◌, ◌^◌, ◌≤◌, ◌<◌}
use native.Mathlib.Decide.{ℕ_discrete, dec_lt}
use native.Mathlib.Omega.{arith}
use lib.IntN.{ℤ, pos, nat_abs, ◌+ℤ◌}
use lib.ListN.{length, get_or, set, length-set}
use lib.Seq.{get_or-set_same, get_or-set_other, ext_get_or}
use lib.Signed.{◌≤ℤ◌}
use mir.Syntax.{w64}
use mir.Val.{SFits}
use Rattle.integers.proofs.Bits.{rd, abs_fits, fit₁, val₁}
use Rattle.integers.proofs.Order.{zarith, add_parts, abs_parts, thin}
use Rattle.integers.proofs.Sizes.{Within, abs_add}
use Rattle.geom.specs.declared.Rect.{Rect}
use Rattle.boxes.specs.Boxes.{edge_box, NearRect, Names}
use Rattle.boxes.specs.Rings.{RingEnds, CornersNear}
use Rattle.boxes.proofs.Leasts.{edge_near}
use Rattle.cut.specs.declared.keys.Axis.{Axis}
use Rattle.cut.specs.declared.keys.Axis.TheVariants.{X, Y}
use Rattle.cut.specs.Shuffle.{swapped, Shuffled}
use Rattle.cut.specs.Shuffle.Shuffled.{same, more}
use Rattle.cut.specs.Keys.{key_of, edge_key, packed_of, packed_edge, number_of, Mapped, CutPart}
use Rattle.cut.specs.Selection.{Selected}
use Rattle.cut.proofs.Shuffles.{shuffled_each, length_swapped, swapped_first, swapped_second, swapped_other}

-- ---- sums and differences of coordinates in range, as the machine leaves them
module _ (a b : ℤ) (ha : nat_abs a ≤ 2 ^ 40) (hb : nat_abs b ≤ 2 ^ 40) where
  bounds : Within (a ∷ b ∷ []) (2 ^ 40 ∷ 2 ^ 40 ∷ [])
  bounds = (ha, (hb, tt))

-- ---- keys and packed numbers

-- the key of a box in range takes 42 bits
pub key_small : (axis : Axis) (b : Rect) → NearRect b → nat_abs (key_of axis b) ≤ 2 ^ 41
key_small X b N = omega (arith, abs_add b.min.x b.max.x, N.min_x, N.max_x)
key_small Y b N = omega (arith, abs_add b.min.y b.max.y, N.min_y, N.max_y)

-- a key of 42 bits, moved, is not negative
pub moved_up : (key : ℤ) → nat_abs key ≤ 2 ^ 41 → pos 0 ≤ℤ (key +ℤ pos (2 ^ 41))
moved_up key h = omega (zarith, add_parts key (pos (2 ^ 41)), abs_parts key)

module _ (key : ℤ) (h : nat_abs key ≤ 2 ^ 41) where
  key_fits : SFits w64 key
  key_fits = abs_fits key (omega arith)

  moved : nat_abs (key +ℤ pos (2 ^ 41)) ≤ 2 ^ 42
  moved = omega (arith, abs_add key (pos (2 ^ 41)))

  pub moved_fits : SFits w64 (rd key +ℤ pos 2199023255552)
  moved_fits = fit₁ (λ z. z +ℤ pos 2199023255552) key key_fits (abs_fits (key +ℤ pos (2 ^ 41)) (omega (arith, moved)))

  pub moved_is : rd (rd key +ℤ pos 2199023255552) ≡ key +ℤ pos (2 ^ 41)
  moved_is = val₁ (λ z. z +ℤ pos 2199023255552) key key_fits (abs_fits (key +ℤ pos (2 ^ 41)) (omega (arith, moved)))

  pub moved_small : nat_abs (rd (rd key +ℤ pos 2199023255552)) ≤ 2 ^ 42
  moved_small = rw moved_is moved

pub number_packed : (key : ℤ) (e : ℕ) → e < 2 ^ 20 → number_of (packed_of key e) ≡ e
unfolding packed_of
number_packed key e h = omega arith

pub packed_order : (a b : ℤ) (d e : ℕ) → nat_abs a ≤ 2 ^ 41 → nat_abs b ≤ 2 ^ 41 → d < 2 ^ 20 → e < 2 ^ 20 → packed_of a d ≤ packed_of b e → a ≤ℤ b
unfolding packed_of
packed_order a b d e ha hb hd he h =
    let low : nat_abs (a +ℤ pos (2 ^ 41)) ≤ nat_abs (b +ℤ pos (2 ^ 41)) = omega arith in
    let up_a = moved_up a ha in
    let up_b = moved_up b hb in
    omega (zarith, add_parts a (pos (2 ^ 41)), add_parts b (pos (2 ^ 41)), abs_parts (a +ℤ pos (2 ^ 41)), abs_parts (b +ℤ pos (2 ^ 41)), thin (a +ℤ pos (2 ^ 41)), thin (b +ℤ pos (2 ^ 41)))

-- ---- a list mapped place by place
pub mapped_none : (g : ℕ → ℕ) (lo : ℕ) (xs : List ℕ) → Mapped g lo lo xs xs
mapped_none g lo xs = record { long = refl; inside = λ k l u. absurd (omega arith); before = λ k u. refl; after = λ k l. refl }

pub mapped_more : (g : ℕ → ℕ) (lo i : ℕ) (xs ys : List ℕ) (v : ℕ) → lo ≤ i → i < length xs → v ≡ g (get_or xs i 0) → Mapped g lo i xs ys → Mapped g lo (i + 1) xs (set ys i v)
mapped_more g lo i xs ys v from to is M =
    record {
      long = length-set ys i v ∙ M.long;
      inside = λ k l u. at k l u (ℕ_discrete k i);
      before = λ k u. get_or-set_other ys i k v 0 (omega arith) ∙ M.before k u;
      after = λ k l. get_or-set_other ys i k v 0 (omega arith) ∙ M.after k (omega arith);
    }
  where
    at : (k : ℕ) → lo ≤ k → k < i + 1 → Dec (k ≡ i) → get_or (set ys i v) k 0 ≡ g (get_or xs k 0)
    at k l u (yes e) = rw e (get_or-set_same ys i v 0 (omega (arith, M.long)) ∙ is)
    at k l u (no d) = get_or-set_other ys i k v 0 d ∙ M.inside k l (omega arith)

-- what stands at a place not mapped yet
pub mapped_next : (g : ℕ → ℕ) (lo i : ℕ) (xs ys : List ℕ) → Mapped g lo i xs ys → get_or ys i 0 ≡ get_or xs i 0
mapped_next g lo i xs ys M = M.after i (omega arith)

-- and so an edge's number still
pub mapped_names : (g : ℕ → ℕ) (n lo m i : ℕ) (xs ys : List ℕ) → Mapped g lo i xs ys → Names n xs lo m → lo ≤ i → i < lo + m → get_or ys i 0 < n
mapped_names g n lo m i xs ys M N l u = rw (mapped_next g lo i xs ys M) (N.each i l u)

-- the map has one result
mapped_one : (g : ℕ → ℕ) (lo hi : ℕ) (xs ys zs : List ℕ) → Mapped g lo hi xs ys → Mapped g lo hi xs zs → ys ≡ zs
mapped_one g lo hi xs ys zs M N = ext_get_or 0 ys zs (M.long ∙ sym N.long) (λ k l. go k (dec_lt k lo) (dec_lt k hi))
  where
    go : (k : ℕ) → Dec (k < lo) → Dec (k < hi) → get_or ys k 0 ≡ get_or zs k 0
    go k (yes a) b = M.before k a ∙ sym (N.before k a)
    go k (no a) (yes b) = M.inside k (omega arith) b ∙ sym (N.inside k (omega arith) b)
    go k (no a) (no b) = M.after k (omega arith) ∙ sym (N.after k (omega arith))

mapped_swap : (g : ℕ → ℕ) (lo hi i j : ℕ) (xs ys : List ℕ) → lo ≤ i → i < hi → lo ≤ j → j < hi → hi ≤ length xs → Mapped g lo hi xs ys → Mapped g lo hi (swapped i j xs) (swapped i j ys)
mapped_swap g lo hi i j xs ys li ih lj jh w M =
    record {
      long = length_swapped i j ys ∙ M.long ∙ sym (length_swapped i j xs);
      inside = λ k l u. at k l u (ℕ_discrete k j) (ℕ_discrete k i);
      before = λ k u. swapped_other i j ys k (omega arith) (omega arith) ∙ M.before k u ∙ sym (swapped_other i j xs k (omega arith) (omega arith));
      after = λ k l. swapped_other i j ys k (omega arith) (omega arith) ∙ M.after k l ∙ sym (swapped_other i j xs k (omega arith) (omega arith));
    }
  where
    at : (k : ℕ) → lo ≤ k → k < hi → Dec (k ≡ j) → Dec (k ≡ i) → get_or (swapped i j ys) k 0 ≡ g (get_or (swapped i j xs) k 0)
    at k l u (yes e) d = rw e (swapped_second i j ys (omega (arith, M.long)) ∙ M.inside i li ih ∙ ap g (sym (swapped_second i j xs (omega arith))))
    at k l u (no n) (yes e) = rw e (swapped_first i j ys (omega (arith, M.long)) (omega (arith, M.long)) ∙ M.inside j lj jh ∙ ap g (sym (swapped_first i j xs (omega arith) (omega arith))))
    at k l u (no n) (no d) = swapped_other i j ys k d n ∙ M.inside k l u ∙ ap g (sym (swapped_other i j xs k d n))

-- a shuffle of a list shuffles its image alike
mapped_shuffled : (g : ℕ → ℕ) (lo hi : ℕ) (xs xs' : List ℕ) → Mapped g lo hi xs xs' → (ys : List ℕ) → Shuffled lo hi xs ys → (ys' : List ℕ) × Mapped g lo hi ys ys' × Shuffled lo hi xs' ys'
mapped_shuffled g lo hi xs xs' M ys same = (xs', M, same)
mapped_shuffled g lo hi xs xs' M ys (more {ys = zs} i j li ih lj jh w s) =
    let r = mapped_shuffled g lo hi xs xs' M zs s in
    (swapped i j r.0, mapped_swap g lo hi i j zs r.0 li ih lj jh w r.1, more {ys = r.0} i j li ih lj jh (omega (arith, r.1.long)) r.2)

-- there and back: packed, shuffled, unpacked
pub shuffled_back : (g h : ℕ → ℕ) (lo hi : ℕ) (xs ps qs ys : List ℕ) → ((k : ℕ) → lo ≤ k → k < hi → h (g (get_or xs k 0)) ≡ get_or xs k 0)
    → Mapped g lo hi xs ps → Shuffled lo hi ps qs → Mapped h lo hi qs ys → Shuffled lo hi xs ys
shuffled_back g h lo hi xs ps qs ys back M S N =
    let undone : Mapped h lo hi ps xs = record {
      long = sym M.long;
      inside = λ k l u. sym (ap h (M.inside k l u) ∙ back k l u);
      before = λ k u. sym (M.before k u);
      after = λ k l. sym (M.after k l);
    } in
    let r = mapped_shuffled h lo hi ps xs undone qs S in
    subst (Shuffled lo hi xs) (mapped_one h lo hi qs r.0 ys r.1 N) r.2

-- ---- a part packed, selected and unpacked is cut
module _ (n count f m : ℕ) (corners : List ℤ) (rings : List ℕ) (axis : Axis) (xs ps qs ys : List ℕ) (reads : ℕ) (C : CornersNear n corners) (R : RingEnds n count rings) (N : Names n xs f m)
    (M : Mapped (packed_edge corners rings axis) f (f + m) xs ps) (S : Selected f (f + m / 2) (f + m) ps qs reads) (U : Mapped number_of f (f + m) qs ys) where
  -- a packed number is that of the edge that it gives back
  Packed : ℕ → Type 0
  Packed q = (q ≡ packed_edge corners rings axis (number_of q)) × (number_of q < n)

  back : (k : ℕ) → f ≤ k → k < f + m → number_of (packed_edge corners rings axis (get_or xs k 0)) ≡ get_or xs k 0
  back k l u = number_packed (edge_key corners rings axis (get_or xs k 0)) (get_or xs k 0) (omega (arith, N.each k l u, C.few))

  each_packed : (k : ℕ) → f ≤ k → k < f + m → Packed (get_or qs k 0)
  unfolding Packed
  each_packed = shuffled_each Packed S.moved (λ k l u. rw (M.inside k l u, back k l u) (refl, N.each k l u))

  small : (e : ℕ) → e < n → nat_abs (edge_key corners rings axis e) ≤ 2 ^ 41
  unfolding edge_key
  small e h = key_small axis (edge_box corners rings e) (edge_near n count corners rings C R e h)

  pub part_cut : CutPart corners rings axis f m xs ys reads
  unfolding Packed
  part_cut = record {
    moved = shuffled_back (packed_edge corners rings axis) number_of f (f + m) xs ps qs ys back M S.moved U;
    rule = λ j k fj jm mk km.
        let a = each_packed j fj (omega arith) in
        let b = each_packed k (omega arith) km in
        let ordered = S.ordered j k fj jm mk km in
        rw (U.inside j fj (omega arith), U.inside k (omega arith) km)
        (packed_order (edge_key corners rings axis (number_of (get_or qs j 0))) (edge_key corners rings axis (number_of (get_or qs k 0))) (number_of (get_or qs j 0)) (number_of (get_or qs k 0)) (small _ a.1) (small _ b.1) (omega (arith, a.1, C.few)) (omega (arith, b.1, C.few)) (omega (arith, a.0, b.0)));
    counted = record { packed = ps; selected = qs; packs = M; selects = S };
    few = omega (arith, S.few);
  }
