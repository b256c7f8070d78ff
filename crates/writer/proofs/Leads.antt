-- A list written item by item: what is written and what is left make the whole. Assumes nothing.
use mathlib.Core.Path.{◌≡◌, refl, ap, sym, subst, ◌∙◌}
use mathlib.Core.List.{List, [], ◌∷◌, ◌++◌, append_assoc, append-nil}
use Prim.Native.Nat.{ℕ, zero, suc, ◌+◌, ◌≤◌, ◌<◌}
use native.Mathlib.Numerals.{add-one}
use native.Mathlib.Omega.{arith}
use lib.ListN.{length, drop, length-append}
use Rattle.fields.specs.Written.{Wrote}
use Rattle.fields.proofs.Written.{wrote_on, overwritten_length, nothing_written}
use Rattle.grammar.specs.Texts.{after, in_brackets}
use Rattle.writer.specs.Drawn.{lead, leads}

pub lead_first : (i : ℕ) → i ≡ 0 → lead i ≡ 40 ∷ []
lead_first i e = ap lead e

pub lead_later : (i : ℕ) → (i ≡ 0 → ⊥) → lead i ≡ 44 ∷ 32 ∷ []
lead_later zero h = absurd (h refl)
lead_later (suc i) h = refl

-- what two calls wrote, one after the other
pub wrote_both : (at : ℕ) (a b o o' o'' : List ℕ) (m r : ℕ) → at + length (a ++ b) ≤ length o → Wrote at a o o' m → Wrote m b o' o'' r → Wrote at (a ++ b) o o'' r
wrote_both at a b o o' o'' m r h f g = let l = length-append a b in wrote_on at a o (omega (arith, h, l)) b o' o'' m r f g

wrote_length : (at : ℕ) (a o o' : List ℕ) (m : ℕ) → at + length a ≤ length o → Wrote at a o o' m → length o' ≡ length o
wrote_length at a o o' m h f = ap length f.whole ∙ overwritten_length at a o h

-- room for the second
pub second_room : (at : ℕ) (a b o o' : List ℕ) (m : ℕ) → at + length (a ++ b) ≤ length o → Wrote at a o o' m → m + length b ≤ length o'
second_room at a b o o' m h f =
    let l = length-append a b in
    let k = wrote_length at a o o' m (omega (arith, h, l)) f in
    let n = f.next in
    omega (arith, h, l, k, n)

-- and for the first
pub first_room : (at : ℕ) (a b o : List ℕ) → at + length (a ++ b) ≤ length o → at + length a ≤ length o
first_room at a b o h = let l = length-append a b in omega (arith, h, l)

-- ---- in three parts

pub record Three (text a b c : List ℕ) : Type 0 where
  pub is : text ≡ (a ++ b) ++ c

module _ {text a b c : List ℕ} (parts : Three text a b c) (at : ℕ) (o : List ℕ) (room : at + length text ≤ length o) where
  room_in_parts : at + length ((a ++ b) ++ c) ≤ length o
  room_in_parts = subst (λ s. at + length s ≤ length o) parts.is room

  room_of_two : at + length (a ++ b) ≤ length o
  room_of_two = first_room at (a ++ b) c o room_in_parts

  pub room_one : at + length a ≤ length o
  room_one = first_room at a b o room_of_two

  module _ (o1 : List ℕ) (n1 : ℕ) (w1 : Wrote at a o o1 n1) where
    pub room_two : n1 + length b ≤ length o1
    room_two = second_room at a b o o1 n1 room_of_two w1

    module _ (o2 : List ℕ) (n2 : ℕ) (w2 : Wrote n1 b o1 o2 n2) where
      pub room_three : n2 + length c ≤ length o2
      room_three = second_room at (a ++ b) c o o2 n2 room_in_parts (wrote_both at a b o o1 o2 n1 n2 room_of_two w1 w2)

      pub wrote_three : (o3 : List ℕ) (n3 : ℕ) → Wrote n2 c o2 o3 n3 → Wrote at text o o3 n3
      wrote_three o3 n3 w3 = subst (λ s. Wrote at s o o3 n3) (sym parts.is) (wrote_both at (a ++ b) c o o2 o3 n2 n3 room_in_parts (wrote_both at a b o o1 o2 n1 n2 room_of_two w1 w2) w3)

-- ---- item by item

module _ {A : Type 0} (text : A → List ℕ) where
  after_leads : (i : ℕ) (items : List A) → after text items ≡ leads text (suc i) items ++ (41 ∷ [])
  unfolding after leads
  after_leads i [] = refl
  after_leads i (item ∷ items) = ap (λ s. 44 ∷ 32 ∷ (text item ++ s)) (after_leads (suc i) items) ∙ ap (λ s. 44 ∷ 32 ∷ s) (sym (append_assoc (text item) (leads text (suc (suc i)) items) (41 ∷ [])))

  -- in brackets: the items with what stands before each, and the closing bracket
  pub brackets_leads : (items : List A) → 0 < length items → in_brackets text items ≡ leads text 0 items ++ (41 ∷ [])
  unfolding in_brackets leads
  brackets_leads [] h = absurd (omega arith)
  brackets_leads (item ∷ items) h = ap (λ s. 40 ∷ (text item ++ s)) (after_leads 0 items) ∙ ap (λ s. 40 ∷ s) (sym (append_assoc (text item) (leads text 1 items) (41 ∷ [])))

  -- one item more at the end
  pub leads_more : (i : ℕ) (items : List A) (item : A) → leads text i (items ++ (item ∷ [])) ≡ leads text i items ++ (lead (i + length items) ++ text item)
  unfolding leads
  leads_more i [] item = ap (λ s. lead i ++ s) (append-nil (text item)) ∙ ap (λ k. lead k ++ text item) (let e : i ≡ i + 0 = omega arith in e)
  leads_more i (first ∷ items) item =
      ap (λ s. lead i ++ (text first ++ s)) (leads_more (suc i) items item ∙ ap (λ k. leads text (suc i) items ++ (lead k ++ text item)) (let e : suc i + length items ≡ i + suc (length items) = omega arith in e))
      ∙ ap (λ s. lead i ++ s) (sym (append_assoc (text first) (leads text (suc i) items) (lead (i + suc (length items)) ++ text item)))
      ∙ sym (append_assoc (lead i) (text first ++ leads text (suc i) items) (lead (i + suc (length items)) ++ text item))

-- items before item i are written, from `at` to `place`
pub record Going {A : Type 0} (text : A → List ℕ) (items : List A) (at : ℕ) (o o' : List ℕ) (place i : ℕ) : Type 0 where
  pub done : List ℕ
  pub wrote : Wrote at done o o' place
  pub rest : done ++ leads text i (drop i items) ≡ leads text 0 items

pub going : {A : Type 0} (text : A → List ℕ) (items : List A) (at : ℕ) (o : List ℕ) → Going text items at o o at 0
going text items at o = record { done = []; wrote = nothing_written at o; rest = refl }

module _ {A : Type 0} (text : A → List ℕ) (items : List A) (at : ℕ) (o : List ℕ) (room : at + length (leads text 0 items) ≤ length o) (o' : List ℕ) (place i : ℕ) (g : Going text items at o o' place i) where
  so_long : length g.done + length (leads text i (drop i items)) ≡ length (leads text 0 items)
  so_long = sym (length-append g.done (leads text i (drop i items))) ∙ ap length g.rest

  done_room : at + length g.done ≤ length o
  done_room = let s = so_long in omega (arith, s, room)

  pub kept : length o' ≡ length o
  kept = wrote_length at g.done o o' place done_room g.wrote

  module _ (item : A) (e : drop i items ≡ item ∷ drop (suc i) items) where
    split : leads text i (drop i items) ≡ (lead i ++ text item) ++ leads text (suc i) (drop (suc i) items)
    unfolding leads
    split = ap (leads text i) e ∙ sym (append_assoc (lead i) (text item) (leads text (suc i) (drop (suc i) items)))

    pub next_room : place + length (lead i ++ text item) ≤ length o'
    next_room =
        let s = so_long in
        let l = ap length split ∙ length-append (lead i ++ text item) (leads text (suc i) (drop (suc i) items)) in
        let n = g.wrote.next in
        let k = kept in
        omega (arith, s, l, n, k, room)

    pub going_on : (o'' : List ℕ) (place' : ℕ) → Wrote place (lead i ++ text item) o' o'' place' → Going text items at o o'' place' (i + 1)
    going_on o'' place' w =
        record {
          done = g.done ++ (lead i ++ text item);
          wrote = wrote_on at g.done o done_room (lead i ++ text item) o' o'' place place' g.wrote w;
          rest =
              ap (λ j. (g.done ++ (lead i ++ text item)) ++ leads text j (drop j items)) (add-one i)
              ∙ append_assoc g.done (lead i ++ text item) (leads text (suc i) (drop (suc i) items))
              ∙ ap (λ s. g.done ++ s) (sym split)
              ∙ g.rest;
        }

  pub gone : drop i items ≡ [] → Wrote at (leads text 0 items) o o' place
  unfolding leads
  gone e = subst (λ s. Wrote at s o o' place) (sym (append-nil g.done) ∙ ap (λ l. g.done ++ leads text i l) (sym e) ∙ g.rest) g.wrote
