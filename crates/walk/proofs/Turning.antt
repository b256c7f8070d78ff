-- One node met, and the state of a step. Assumes nothing.
use mathlib.Core.Path.{◌≡◌, refl, sym, ap, ◌∙◌, subst}
use mathlib.Core.List.{List}
use Prim.Native.Nat.{ℕ, ◌+◌, ◌-◌, ◌≤◌, ◌<◌}
use native.Mathlib.Decide.{dec_lt}
use native.Mathlib.Omega.{arith}
use lib.IntN.{ℤ}
use lib.ListN.{length, get_or}
use Rattle.index.specs.Build.{KeptFrom, Two}
use Rattle.index.specs.Parts.{first_at, count_at}
use Rattle.index.proofs.Soundness.{edge_in}
use Rattle.index.proofs.Tables.{kept_all, kept_two, kept_both}
use Rattle.walk.specs.declared.Cursor.{Cursor}
use Rattle.walk.specs.declared.Query.{Query}
use Rattle.walk.specs.Steps.{Inside, Lent, MissedTo, LeafFrom, CutInto, after_node, WalkSound, Walking, MissedAt, Turned, Advanced, Halted, Going, Yields, Ends, Refused, at_place}
use Rattle.walk.proofs.Missing.{part_missed}
use Rattle.walk.proofs.Standing.{walking_at, walking_end, top_first, not_all_met, top_inside, walking_off, walking_cut}

-- ---- one node met
module _ (n : ℕ) (boxes : List (List ℤ)) (parts : List (List ℕ)) (query : Query) (stack : List ℕ) (c : Cursor) (h : 0 < c.waiting) (few : c.waiting ≤ 18) (e : c.to ≤ c.at) where
  abbrev top : ℕ
  top = get_or stack (c.waiting - 1) 0

  pub advanced_as : (stack' : List ℕ) (c' c'' : Cursor) → c' ≡ c'' → Advanced n boxes parts query stack c stack' c'' → Advanced n boxes parts query stack c stack' c'
  advanced_as stack' c' c'' q A = subst (Advanced n boxes parts query stack c stack') (sym q) A

  pub met_all : c.nodes ≤ c.met → Halted n boxes parts stack c stack
  met_all m = record { same = refl; never = λ edges corners rings T S. omega (arith, not_all_met n corners rings boxes parts edges T stack c S h e) }

  pub met_outside : (Inside parts n c.nodes top → ⊥) → Halted n boxes parts stack c stack
  met_outside f = record { same = refl; never = λ edges corners rings T S. f (top_inside n corners rings boxes parts edges T stack c S h e) }

  module _ (m : c.met < c.nodes) where
    pub met_missed : (t : ℕ) → MissedTo boxes parts n c.nodes query top t → Advanced n boxes parts query stack c stack (after_node c (c.waiting - 1) t t)
    met_missed t M = record {
      same = refl;
      few = omega arith;
      inside = M.fits;
      met = refl;
      more = m;
      less = omega arith;
      space = kept_all 18 stack;
      turned = λ corners rings edges T S.
          let f = top_first n corners rings boxes parts edges T stack c S h e in
          record {
            walking = rw M.to (walking_off n corners rings boxes parts edges T stack c S h e (first_at parts top + count_at parts top) (omega arith));
            on = omega (arith, M.to);
            over = λ k a b. part_missed n corners rings boxes parts edges T.index query top (omega (arith, M.node, S.all)) M.misses k (omega arith) (omega (arith, M.to));
          };
    }

    pub met_leaf : (f t : ℕ) → LeafFrom boxes parts n c.nodes query top f t → Advanced n boxes parts query stack c stack (after_node c (c.waiting - 1) f t)
    met_leaf f t L = record {
      same = refl;
      few = omega arith;
      inside = L.fits;
      met = refl;
      more = m;
      less = omega (arith, L.from, L.to, L.small);
      space = kept_all 18 stack;
      turned = λ corners rings edges T S.
          let a = top_first n corners rings boxes parts edges T stack c S h e in
          record {
            walking = rw L.to (walking_off n corners rings boxes parts edges T stack c S h e f (omega (arith, L.from)));
            on = omega (arith, L.from);
            over = λ k x y. absurd (omega (arith, L.from));
          };
    }

    pub met_cut : (f l : ℕ) (stack' : List ℕ) → CutInto boxes parts n c.nodes query top f l → c.waiting - 1 ≤ 16 → Two stack (c.waiting - 1) (l + 1) l stack' → Advanced n boxes parts query stack c stack' (after_node c (c.waiting - 1 + 2) f f)
    met_cut f l stack' C d K = record {
      same = refl;
      few = omega arith;
      inside = omega (arith, C.from, C.fits);
      met = refl;
      more = m;
      less = omega arith;
      space = kept_two 18 stack stack (c.waiting - 1) (l + 1) l stack' (omega arith) (kept_all 18 stack) K;
      turned = λ corners rings edges T S.
          let a = top_first n corners rings boxes parts edges T stack c S h e in
          record {
            walking = rw C.from (walking_cut n corners rings boxes parts edges T stack c S h e stack' C.big (subst (λ (l : ℕ). Two stack (c.waiting - 1) (l + 1) l stack') C.left K));
            on = omega (arith, C.from);
            over = λ k x y. absurd (omega (arith, C.from));
          };
    }

-- ---- the state of a step that began at cursor c over the stack `stack`
module _ (n : ℕ) (boxes : List (List ℤ)) (parts : List (List ℕ)) (edges : List ℕ) (query : Query) (stack : List ℕ) (c : Cursor) where
  -- a walk of sound tables is lent enough
  pub never_short : (Lent n (length stack) (length boxes) (length parts) (length edges) c → ⊥) → Refused n boxes parts edges stack c stack
  never_short f = record {
    number = refl;
    leaf_number = refl;
    never = λ corners rings T S.
        f (record {
          stack_reach = S.room;
          boxes_reach = omega (arith, T.index.boxes_reach, S.all);
          parts_reach = omega (arith, T.index.parts_reach, S.all);
          edges_reach = T.index.edges_reach;
          few_waiting = S.few;
          inside = S.inside;
        });
    space = kept_all 18 stack;
    in_hand = λ h. refl;
    unlent = λ g. refl;
  }

  module _ (stack' : List ℕ) (here : Cursor) (G : Going n boxes parts edges query stack c stack' here) where
    -- no leaf in hand, so there was none at first
    none_in_hand : here.to ≤ here.at → c.at < c.to → ⊥
    none_in_hand e h = omega (arith, e, h, ap (λ (x : Cursor). x.at) (G.stays h), ap (λ (x : Cursor). x.to) (G.stays h))

    pub going_never : here.to ≤ here.at → (stack'' : List ℕ) → Halted n boxes parts stack' here stack'' → Refused n boxes parts edges stack c stack''
    going_never e stack'' H = record {
      number = refl;
      leaf_number = refl;
      never = λ corners rings T S. H.never edges corners rings T (G.turned corners rings T S).walking;
      space = subst (KeptFrom 18 stack) (sym H.same) G.space;
      in_hand = λ h. absurd (none_in_hand e h);
      unlent = λ f. absurd (f G.lent);
    }

    pub going_on : here.to ≤ here.at → (stack'' : List ℕ) (further : Cursor) → Advanced n boxes parts query stack' here stack'' further → Going n boxes parts edges query stack c stack'' further
    going_on e stack'' further A = record {
      lent = G.lent;
      space = kept_both 18 stack stack' stack'' G.space A.space;
      same = A.same ∙ G.same;
      few = A.few;
      inside = A.inside;
      near = omega (arith, A.less, G.near);
      stays = λ h. absurd (none_in_hand e h);
      in_hand = λ h. absurd (none_in_hand e h);
      turned = λ corners rings T S. both corners rings T S (G.turned corners rings T S);
    }
      where
        both : (corners : List ℤ) (rings : List ℕ) → WalkSound n corners rings boxes parts edges → Walking n parts stack c → Turned n corners rings edges parts query c stack' here → Turned n corners rings edges parts query c stack'' further
        both corners rings T S t =
            let u = A.turned corners rings edges T t.walking in
            record { walking = u.walking; on = omega (arith, t.on, u.on); over = λ k a b. split t u k a b (dec_lt k here.at) }
          where
            split : Turned n corners rings edges parts query c stack' here → Turned n corners rings edges parts query here stack'' further → (k : ℕ) → c.at ≤ k → k < further.at → Dec (k < here.at) → MissedAt corners rings edges query k
            split t u k a b (yes l) = t.over k a l
            split t u k a b (no l) = u.over k (omega arith) b

    pub going_end : here.waiting ≡ 0 → here.to ≤ here.at → Ends n boxes parts edges query stack c stack'
    going_end z e = record {
      number = refl;
      leaf_number = refl;
      lent = G.lent;
      space = G.space;
      over = λ corners rings T S.
          let t = G.turned corners rings T S in
          λ k a b. t.over k a (omega (arith, walking_end n corners rings boxes parts edges T stack' here t.walking z e));
    }

    pub going_astray : here.at < here.to → n ≤ get_or edges here.at 0 → Refused n boxes parts edges stack c stack'
    going_astray l a = record {
      number = refl;
      leaf_number = refl;
      never = λ corners rings T S. omega (arith, edge_in n corners rings boxes parts edges T.index here.at (omega (arith, G.inside)));
      space = G.space;
      in_hand = G.in_hand;
      unlent = λ f. absurd (f G.lent);
    }

    pub going_yields : here.at < here.to → get_or edges here.at 0 < n → Yields n boxes parts edges query stack c stack' (record { edge = get_or edges here.at 0; after = at_place here (here.at + 1) })
    going_yields l i = record {
      number = refl;
      edge = i;
      place = here.at;
      next = refl;
      inside = omega (arith, G.inside);
      read = refl;
      lent = G.lent;
      same = G.same;
      lent_next = record {
        stack_reach = omega (arith, G.lent.stack_reach, G.space.long);
        boxes_reach = omega (arith, G.lent.boxes_reach, G.same);
        parts_reach = omega (arith, G.lent.parts_reach, G.same);
        edges_reach = G.lent.edges_reach;
        few_waiting = G.few;
        inside = G.inside;
      };
      less = omega (arith, G.near);
      space = G.space;
      went = λ corners rings T S.
          let t = G.turned corners rings T S in
          record {
            on = t.on;
            over = t.over;
            walking = walking_at n corners rings boxes parts edges T stack' here t.walking (here.at + 1) (omega arith);
          };
    }
