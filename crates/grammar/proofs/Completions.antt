-- What completes a text in each mode, and that something does in each mode that is not `Broken`. Assumes nothing.
use mathlib.Core.Path.{◌≡◌, refl, ap, sym, subst, ◌∙◌}
use mathlib.Core.Bool.{Bool, true, false, cond, true≢false}
use mathlib.Core.Logic.{◌⊎◌, inl, inr}
use mathlib.Core.List.{List, [], ◌∷◌, ◌++◌, append_assoc, append-nil}
use Prim.Native.Nat.{ℕ, zero, suc, ◌+◌, ◌-◌, ◌<◌}
use native.Mathlib.Omega.{arith}
use lib.Dec.{eqb}
use lib.ListN.{get_or, drop}
use lib.IntN.{ℤ, pos}
use borrow.Author.Tests.{eqb-true, eqb-false}
use Rattle.fields.specs.Decimals.{decimal, fits_word}
use Rattle.grammar.specs.Words.{polygon, multipolygon, empty}
use Rattle.grammar.specs.Grammar.{Ring, Polygon, Spaces, none, more, Mark, round, Pair, pair, Rest, close, next, Bracketed, bracketed, RingText, PolygonText, Member, full, bare, kept, Text, one, one_empty, many, many_empty, Begins}
use Rattle.geom.specs.declared.Point.{Point}
use Rattle.grammar.specs.Modes.{Place, Mode, start_mode, word_mode, spaced_mode, empty_text_mode, want_member_mode, empty_member_mode, after_member_mode, want_ring_mode, want_x_mode, in_x_mode, want_y_mode, in_y_mode, after_y_mode, after_ring_mode, finished_mode, broken_mode, word_of, opening, after_word, after_member, begun_x, begun_y, end_x, after_point, end_y, next_mode}
use Rattle.grammar.specs.Numbers.{Whole, Begun, minus_begun, value_begun, off_begun, is_digit, value_of, first_byte, next_digit}
use Rattle.grammar.specs.Scans.{may_end, is_broken}
use Rattle.grammar.proofs.Digits.{text_of, Fine, Allowed, digit_range, next_text, first_text, Completes, completed, next_fine, first_fine, fits_value}

-- ---- what is left

-- after a polygon
data Beyond : Bool → List ℕ → Type 0 where
  at_its_end : {s : List ℕ} → Spaces s → Beyond false s
  members_left : {members : List Polygon} {s : List ℕ} → Rest Polygon Member members s → Beyond true s

-- after a ring
data RingsLeft (multi : Bool) : List ℕ → Type 0 where
  rings_left : {rings : Polygon} {v w : List ℕ} → Rest Ring RingText rings v → Beyond multi w → RingsLeft multi (v ++ w)

-- after a position
data RingLeft (multi : Bool) : List ℕ → Type 0 where
  ring_left : {ring : Ring} {t r : List ℕ} → Rest Point Pair ring t → RingsLeft multi r → RingLeft multi (t ++ r)

data YLeft (multi : Bool) : List ℕ → Type 0 where
  y_left : (y : ℤ) {a r : List ℕ} → Spaces a → fits_word y ≡ true → RingLeft multi r → YLeft multi (a ++ (decimal y ++ r))

data InYLeft (multi : Bool) (n : Begun) : List ℕ → Type 0 where
  in_y_left : {d r : List ℕ} → Completes n d → RingLeft multi r → InYLeft multi n (d ++ r)

data InXLeft (multi : Bool) (n : Begun) : List ℕ → Type 0 where
  in_x_left : {d s : List ℕ} → Completes n d → YLeft multi s → InXLeft multi n (d ++ (32 ∷ s))

data XLeft (multi : Bool) : List ℕ → Type 0 where
  x_left : (x : ℤ) {a s : List ℕ} → Spaces a → fits_word x ≡ true → YLeft multi s → XLeft multi (a ++ (decimal x ++ (32 ∷ s)))

data AnyRing (multi : Bool) : List ℕ → Type 0 where
  any_ring : {ring : Ring} {u r : List ℕ} → RingText ring u → RingsLeft multi r → AnyRing multi (u ++ r)

data AnyMember : List ℕ → Type 0 where
  any_member : {member : Polygon} {members : List Polygon} {a u v : List ℕ} → Spaces a → Member member u → Rest Polygon Member members v → AnyMember (a ++ (u ++ v))

data Brackets : Bool → List ℕ → Type 0 where
  for_one : {rings : Polygon} {s : List ℕ} → PolygonText rings s → Brackets false s
  for_many : {members : List Polygon} {s : List ℕ} → Bracketed Polygon Member members s → Brackets true s

data EmptyLeft : List ℕ → Type 0 where
  empty_left : {a : List ℕ} → Spaces a → EmptyLeft (a ++ empty)

data WordLeft (multi : Bool) : List ℕ → Type 0 where
  brackets : {s : List ℕ} → Brackets multi s → WordLeft multi s
  spaced : {s : List ℕ} → EmptyLeft s → WordLeft multi (32 ∷ s)

-- k bytes of the word are read
data DueLeft (multi : Bool) (k : ℕ) : List ℕ → Type 0 where
  due_left : {s : List ℕ} → WordLeft multi s → DueLeft multi k (drop k (word_of multi) ++ s)

data DueMember (k : ℕ) : List ℕ → Type 0 where
  due_member : {members : List Polygon} {s : List ℕ} → Rest Polygon Member members s → DueMember k (drop k empty ++ s)

abbrev Left : Mode → List ℕ → Type 0
Left start_mode s = (polygons : List Polygon) × Text polygons s
Left (word_mode multi k) s = DueLeft multi k s
Left (spaced_mode multi) s = Brackets multi s ⊎ EmptyLeft s
Left (empty_text_mode k) s = s ≡ drop k empty
Left want_member_mode s = AnyMember s
Left (empty_member_mode k) s = DueMember k s
Left after_member_mode s = (members : List Polygon) × Rest Polygon Member members s
Left (want_ring_mode multi) s = AnyRing multi s
Left (want_x_mode multi) s = XLeft multi s
Left (in_x_mode multi n) s = InXLeft multi n s
Left (want_y_mode multi x) s = YLeft multi s
Left (in_y_mode multi x n) s = InYLeft multi n s
Left (after_y_mode multi p) s = RingLeft multi s
Left (after_ring_mode multi) s = RingsLeft multi s
Left finished_mode s = Spaces s
Left broken_mode s = ⊥

-- ---- a space more

mark_space : {c : ℕ} {m : List ℕ} → Mark c m → Mark c (32 ∷ m)
mark_space (round a b) = round (more a) b

module _ (A : Type 0) (L : A → List ℕ → Type 0) where
  rest_space : {items : List A} {t : List ℕ} → Rest A L items t → Rest A L items (32 ∷ t)
  rest_space (close m) = close (mark_space m)
  rest_space (next m i r) = next (mark_space m) i r

  bracketed_space : {items : List A} {t : List ℕ} → Bracketed A L items t → Bracketed A L items (32 ∷ t)
  bracketed_space (bracketed m i r) = bracketed (mark_space m) i r

  -- items after a bracket or comma
  after_comma : {item : A} {items : List A} {a s t : List ℕ} → Spaces a → L item s → Rest A L items t → Rest A L (item ∷ items) (44 ∷ (a ++ (s ++ t)))
  after_comma a i r = next (round none a) i r

  after_open : {item : A} {items : List A} {a s t : List ℕ} → Spaces a → L item s → Rest A L items t → Bracketed A L (item ∷ items) (40 ∷ (a ++ (s ++ t)))
  after_open a i r = bracketed (round none a) i r

rings_space : {multi : Bool} {s : List ℕ} → RingsLeft multi s → RingsLeft multi (32 ∷ s)
rings_space (rings_left v w) = rings_left (rest_space Ring RingText v) w

ring_space : {multi : Bool} {s : List ℕ} → RingLeft multi s → RingLeft multi (32 ∷ s)
ring_space (ring_left t r) = ring_left (rest_space Point Pair t) r

y_space : {multi : Bool} {s : List ℕ} → YLeft multi s → YLeft multi (32 ∷ s)
y_space (y_left y a f r) = y_left y (more a) f r

x_space : {multi : Bool} {s : List ℕ} → XLeft multi s → XLeft multi (32 ∷ s)
x_space (x_left x a f r) = x_left x (more a) f r

any_ring_space : {multi : Bool} {s : List ℕ} → AnyRing multi s → AnyRing multi (32 ∷ s)
any_ring_space (any_ring u r) = any_ring (bracketed_space Point Pair u) r

any_member_space : {s : List ℕ} → AnyMember s → AnyMember (32 ∷ s)
any_member_space (any_member a u v) = any_member (more a) u v

brackets_space : {multi : Bool} {s : List ℕ} → Brackets multi s → Brackets multi (32 ∷ s)
brackets_space (for_one h) = for_one (bracketed_space Ring RingText h)
brackets_space (for_many h) = for_many (bracketed_space Polygon Member h)

empty_space : {s : List ℕ} → EmptyLeft s → EmptyLeft (32 ∷ s)
empty_space (empty_left a) = empty_left (more a)

-- ---- brackets and commas

-- a position and what follows it
data PairLeft (multi : Bool) : List ℕ → Type 0 where
  pair_left : {p : Point} {a u r : List ℕ} → Spaces a → Pair p u → RingLeft multi r → PairLeft multi (a ++ (u ++ r))

pair_text_lem : (x s a y r : List ℕ) → (x ++ (32 ∷ (a ++ y))) ++ r ≡ x ++ (32 ∷ (a ++ (y ++ r)))
pair_text_lem x s a y r = append_assoc x (32 ∷ (a ++ y)) r ∙ ap (λ t. x ++ (32 ∷ t)) (append_assoc a y r)

x_pair_at : {multi : Bool} (x : ℤ) {a s : List ℕ} → Spaces a → fits_word x ≡ true → YLeft multi s → PairLeft multi (a ++ (decimal x ++ (32 ∷ s)))
x_pair_at {multi} x {a} sp f (y_left y {a = c} {r} sc g left) = subst (λ t. PairLeft multi (a ++ t)) (pair_text_lem (decimal x) [] c (decimal y) r) (pair_left sp (pair x y f g sc) left)

x_pair : {multi : Bool} {s : List ℕ} → XLeft multi s → PairLeft multi s
x_pair (x_left x a f r) = x_pair_at x a f r

three : (a u t r : List ℕ) → (a ++ (u ++ t)) ++ r ≡ a ++ (u ++ (t ++ r))
three a u t r = append_assoc a (u ++ t) r ∙ ap (λ s. a ++ s) (append_assoc u t r)

comma_x_at : {multi : Bool} {p : Point} {a u s : List ℕ} → Spaces a → Pair p u → RingLeft multi s → RingLeft multi (44 ∷ (a ++ (u ++ s)))
comma_x_at {multi} {p} {a} {u} sp pr (ring_left {t} {r} rest after) = subst (λ s. RingLeft multi (44 ∷ s)) (three a u t r) (ring_left (after_comma Point Pair sp pr rest) after)

comma_x : {multi : Bool} {s : List ℕ} → PairLeft multi s → RingLeft multi (44 ∷ s)
comma_x (pair_left a p r) = comma_x_at a p r

open_x_at : {multi : Bool} {p : Point} {a u s : List ℕ} → Spaces a → Pair p u → RingLeft multi s → AnyRing multi (40 ∷ (a ++ (u ++ s)))
open_x_at {multi} {p} {a} {u} sp pr (ring_left {t} {r} rest after) = subst (λ s. AnyRing multi (40 ∷ s)) (three a u t r) (any_ring (after_open Point Pair sp pr rest) after)

open_x : {multi : Bool} {s : List ℕ} → PairLeft multi s → AnyRing multi (40 ∷ s)
open_x (pair_left a p r) = open_x_at a p r

close_ring : {multi : Bool} {s : List ℕ} → RingsLeft multi s → RingLeft multi (41 ∷ s)
close_ring r = ring_left (close (round none none)) r

comma_ring_at : {multi : Bool} {ring : Ring} {u s : List ℕ} → RingText ring u → RingsLeft multi s → RingsLeft multi (44 ∷ (u ++ s))
comma_ring_at {multi} {ring} {u} tx (rings_left {v} {w} rest after) = subst (λ s. RingsLeft multi (44 ∷ s)) (append_assoc u v w) (rings_left (after_comma Ring RingText none tx rest) after)

comma_ring : {multi : Bool} {s : List ℕ} → AnyRing multi s → RingsLeft multi (44 ∷ s)
comma_ring (any_ring u r) = comma_ring_at u r

close_polygon : {multi : Bool} {s : List ℕ} → Beyond multi s → RingsLeft multi (41 ∷ s)
close_polygon b = rings_left (close (round none none)) b

open_ring_at : {multi : Bool} {ring : Ring} {u s : List ℕ} → RingText ring u → RingsLeft multi s → (rings : Polygon) × (p : List ℕ) × (w : List ℕ) × PolygonText rings p × Beyond multi w × (p ++ w ≡ 40 ∷ (u ++ s))
open_ring_at {multi} {ring} {u} tx (rings_left {rings} {v} {w} rest after) = (ring ∷ rings, 40 ∷ (u ++ v), w, after_open Ring RingText none tx rest, after, ap (λ s. 40 ∷ s) (append_assoc u v w))

open_ring : {multi : Bool} {s : List ℕ} → AnyRing multi s → (rings : Polygon) × (p : List ℕ) × (w : List ℕ) × PolygonText rings p × Beyond multi w × (p ++ w ≡ 40 ∷ s)
open_ring (any_ring u r) = open_ring_at u r

-- the one polygon: its spaces at the end are the closing bracket's
rest_spaces : {A : Type 0} {L : A → List ℕ → Type 0} {items : List A} {t w : List ℕ} → Rest A L items t → Spaces w → Rest A L items (t ++ w)
rest_spaces {A} {L} (close m) sp = close (mark_after m sp)
  where
    spaces_two : {a b : List ℕ} → Spaces a → Spaces b → Spaces (a ++ b)
    spaces_two none h = h
    spaces_two (more g) h = more (spaces_two g h)

    mark_after : {c : ℕ} {m w : List ℕ} → Mark c m → Spaces w → Mark c (m ++ w)
    mark_after {c} {w} (round {a} {b} f g) h = subst (λ s. Mark c s) (sym (append_assoc a (c ∷ b) w)) (round f (spaces_two g h))
rest_spaces {A} {L} {w} (next {item} {items} {m} {s} {t} mk i r) sp = subst (λ z. Rest A L (item ∷ items) z) (sym (three m s t w)) (next mk i (rest_spaces r sp))

bracketed_spaces : {A : Type 0} {L : A → List ℕ → Type 0} {items : List A} {t w : List ℕ} → Bracketed A L items t → Spaces w → Bracketed A L items (t ++ w)
bracketed_spaces {A} {L} {w} (bracketed {item} {items} {m} {s} {t} mk i r) sp = subst (λ z. Bracketed A L (item ∷ items) z) (sym (three m s t w)) (bracketed mk i (rest_spaces r sp))

-- ---- a byte back

module _ (st : Mode) (b : ℕ) (t : List ℕ) where
  at_byte : (k : ℕ) (x y : Mode) → (Left x t → Left st (k ∷ t)) → (Left y t → Left st (b ∷ t)) → Left (cond (eqb b k) x y) t → Left st (b ∷ t)
  at_byte k x y f g l = go (eqb b k) refl l
    where
      go : (c : Bool) → eqb b k ≡ c → Left (cond c x y) t → Left st (b ∷ t)
      go true e l = subst (λ c. Left st (c ∷ t)) (sym (eqb-true b k e)) (f l)
      go false e l = g l

  broken : ⊥ → Left st (b ∷ t)
  broken l = absurd l

-- a number's first byte
first_complete : (b : ℕ) (d : List ℕ) → Allowed (first_byte b) → (c : Completes (first_byte b) d) → decimal c.whole ≡ b ∷ d
first_complete b d a c = sym c.text ∙ ap (λ s. s ++ d) (first_text b a)

next_complete : (n : Begun) (b : ℕ) (d : List ℕ) → is_digit b ≡ true → Allowed (next_digit n (b - 48)) → Completes (next_digit n (b - 48)) d → Completes n (b ∷ d)
next_complete n b d e a c =
    let r = digit_range b e in
    let low : b - 48 < 10 = omega (arith, r.0, r.1) in
    let back : 48 + (b - 48) ≡ b = omega (arith, r.0) in
    record { whole = c.whole; fits = c.fits; text = sym (append_assoc (text_of n) (b ∷ []) d) ∙ ap (λ k. (text_of n ++ (k ∷ [])) ++ d) (sym back) ∙ ap (λ s. s ++ d) (sym (next_text n (b - 48) low a)) ∙ c.text }

-- what no number begins with is `Broken`
split_x : (multi : Bool) (n : Begun) (t : List ℕ) (G : Type 0) → (Allowed n → InXLeft multi n t → G) → Left (begun_x multi n) t → G
split_x multi minus_begun t G g l = g tt l
split_x multi (value_begun z) t G g l = g tt l
split_x multi off_begun t G g l = absurd l

split_y : (multi : Bool) (x : Whole) (n : Begun) (t : List ℕ) (G : Type 0) → (Allowed n → InYLeft multi n t → G) → Left (begun_y multi x n) t → G
split_y multi x minus_begun t G g l = g tt l
split_y multi x (value_begun z) t G g l = g tt l
split_y multi x off_begun t G g l = absurd l

first_x : (multi : Bool) (b : ℕ) {t : List ℕ} → Allowed (first_byte b) → InXLeft multi (first_byte b) t → XLeft multi (b ∷ t)
first_x multi b a (in_x_left {d} {s} c y) = subst (λ z. XLeft multi (z ++ (32 ∷ s))) (first_complete b d a c) (x_left c.whole none c.fits y)

first_y : (multi : Bool) (b : ℕ) {t : List ℕ} → Allowed (first_byte b) → InYLeft multi (first_byte b) t → YLeft multi (b ∷ t)
first_y multi b a (in_y_left {d} {r} c l) = subst (λ z. YLeft multi (z ++ r)) (first_complete b d a c) (y_left c.whole none c.fits l)

next_x : (multi : Bool) (n : Begun) (b : ℕ) {t : List ℕ} → is_digit b ≡ true → Allowed (next_digit n (b - 48)) → InXLeft multi (next_digit n (b - 48)) t → InXLeft multi n (b ∷ t)
next_x multi n b e a (in_x_left {d} c y) = in_x_left (next_complete n b d e a c) y

next_y : (multi : Bool) (n : Begun) (b : ℕ) {t : List ℕ} → is_digit b ≡ true → Allowed (next_digit n (b - 48)) → InYLeft multi (next_digit n (b - 48)) t → InYLeft multi n (b ∷ t)
next_y multi n b e a (in_y_left {d} c l) = in_y_left (next_complete n b d e a c) l

-- ---- each mode

-- a number in a mode has 64 bits
abbrev pub Sound : Mode → Type 0
Sound start_mode = Unit {0}
Sound (word_mode multi k) = Unit {0}
Sound (spaced_mode multi) = Unit {0}
Sound (empty_text_mode k) = Unit {0}
Sound want_member_mode = Unit {0}
Sound (empty_member_mode k) = Unit {0}
Sound after_member_mode = Unit {0}
Sound (want_ring_mode multi) = Unit {0}
Sound (want_x_mode multi) = Unit {0}
Sound (in_x_mode multi n) = Fine n
Sound (want_y_mode multi x) = Unit {0}
Sound (in_y_mode multi x n) = Fine n
Sound (after_y_mode multi p) = Unit {0}
Sound (after_ring_mode multi) = Unit {0}
Sound finished_mode = Unit {0}
Sound broken_mode = Unit {0}

is_whole : (w : Whole) → Fine (value_begun w) → Completes (value_begun w) []
is_whole w h = record { whole = value_of w; fits = fits_value w h; text = append-nil (decimal (value_of w)) }

whole_beyond : {s : List ℕ} → Beyond false s → Spaces s
whole_beyond (at_its_end h) = h

members_beyond : {s : List ℕ} → Beyond true s → (members : List Polygon) × Rest Polygon Member members s
members_beyond (members_left {members} h) = (members, h)

open_member : {t : List ℕ} → AnyMember t → Brackets true (40 ∷ t)
open_member (any_member a u v) = for_many (after_open Polygon Member a u v)

comma_member : {t : List ℕ} → AnyMember t → (members : List Polygon) × Rest Polygon Member members (44 ∷ t)
comma_member (any_member {member} {members} a u v) = (member ∷ members, after_comma Polygon Member a u v)

opened : (multi : Bool) (t : List ℕ) → Left (cond multi want_member_mode (want_ring_mode false)) t → Brackets multi (40 ∷ t)
opened true t l = open_member l
opened false t l = let o = open_ring l in subst (λ s. Brackets false s) o.5 (for_one (bracketed_spaces o.3 (whole_beyond o.4)))

ring_member : {t : List ℕ} → AnyRing true t → AnyMember (40 ∷ t)
ring_member l = let o = open_ring l in subst (λ s. AnyMember s) o.5 (any_member none (full o.3) (members_beyond o.4).1)

empty_member : {t : List ℕ} → DueMember 1 t → AnyMember (69 ∷ t)
empty_member (due_member r) = any_member none bare r

word_left : {multi : Bool} {t : List ℕ} → (Brackets multi t ⊎ EmptyLeft t) → WordLeft multi (32 ∷ t)
word_left (inl h) = brackets (brackets_space h)
word_left (inr h) = spaced h

spaced_left : {multi : Bool} {t : List ℕ} → (Brackets multi t ⊎ EmptyLeft t) → Brackets multi (32 ∷ t) ⊎ EmptyLeft (32 ∷ t)
spaced_left (inl h) = inl (brackets_space h)
spaced_left (inr h) = inr (empty_space h)

beyond_is : (multi : Bool) (t : List ℕ) → Left (cond multi after_member_mode finished_mode) t → Beyond multi t
beyond_is true t l = members_left l.1
beyond_is false t l = at_its_end l

one_text : {s : List ℕ} → WordLeft false s → (polygons : List Polygon) × Text polygons (polygon ++ s)
one_text (brackets (for_one {rings} h)) = (rings ∷ [], one h)
one_text (spaced (empty_left a)) = ([], one_empty a)

many_text : {s : List ℕ} → WordLeft true s → (polygons : List Polygon) × Text polygons (multipolygon ++ s)
many_text (brackets (for_many {members} h)) = (kept members, many h)
many_text (spaced (empty_left a)) = ([], many_empty a)

start_one : {t : List ℕ} → DueLeft false 1 t → (polygons : List Polygon) × Text polygons (80 ∷ t)
start_one (due_left w) = one_text w

start_many : {t : List ℕ} → DueLeft true 1 t → (polygons : List Polygon) × Text polygons (77 ∷ t)
start_many (due_left w) = many_text w

-- ---- words by their bytes

-- no byte of a word is 0
abbrev pub NoZero : List ℕ → Type 0
NoZero [] = Unit {0}
NoZero (x ∷ w) = (x ≡ 0 → ⊥) × NoZero w

word_over : (w : List ℕ) (k : ℕ) → NoZero w → get_or w k 0 ≡ 0 → drop k w ≡ []
word_over [] zero z e = refl
word_over [] (suc k) z e = refl
word_over (x ∷ w) zero z e = absurd (z.0 e)
word_over (x ∷ w) (suc k) z e = word_over w k z.1 e

word_due : (w : List ℕ) (k : ℕ) → (get_or w k 0 ≡ 0 → ⊥) → drop k w ≡ get_or w k 0 ∷ drop (k + 1) w
word_due [] zero z = absurd (z refl)
word_due [] (suc k) z = absurd (z refl)
word_due (x ∷ w) zero z = refl
word_due (x ∷ w) (suc k) z = word_due w k z ∙ ap (λ n. get_or w k 0 ∷ drop n (x ∷ w)) (let e : suc (k + 1) ≡ suc k + 1 = omega arith in e)

pub word_fine : (multi : Bool) → NoZero (word_of multi)
word_fine true = ((λ e. omega arith), ((λ e. omega arith), ((λ e. omega arith), ((λ e. omega arith), ((λ e. omega arith), ((λ e. omega arith), ((λ e. omega arith), ((λ e. omega arith), ((λ e. omega arith), ((λ e. omega arith), ((λ e. omega arith), ((λ e. omega arith), tt))))))))))))
word_fine false = ((λ e. omega arith), ((λ e. omega arith), ((λ e. omega arith), ((λ e. omega arith), ((λ e. omega arith), ((λ e. omega arith), ((λ e. omega arith), tt)))))))

pub empty_fine : NoZero empty
empty_fine = ((λ e. omega arith), ((λ e. omega arith), ((λ e. omega arith), ((λ e. omega arith), ((λ e. omega arith), tt)))))

due_over : (multi : Bool) (k : ℕ) (s : List ℕ) → get_or (word_of multi) k 0 ≡ 0 → WordLeft multi s → DueLeft multi k s
due_over multi k s e w = subst (λ d. DueLeft multi k (d ++ s)) (word_over (word_of multi) k (word_fine multi) e) (due_left w)

due_byte : (multi : Bool) (k : ℕ) {t : List ℕ} → (get_or (word_of multi) k 0 ≡ 0 → ⊥) → DueLeft multi (k + 1) t → DueLeft multi k (get_or (word_of multi) k 0 ∷ t)
due_byte multi k z (due_left {s} w) = subst (λ d. DueLeft multi k (d ++ s)) (word_due (word_of multi) k z) (due_left w)

member_over : (k : ℕ) (s : List ℕ) → get_or empty k 0 ≡ 0 → ((members : List Polygon) × Rest Polygon Member members s) → DueMember k s
member_over k s e r = subst (λ d. DueMember k (d ++ s)) (word_over empty k empty_fine e) (due_member r.1)

member_byte : (k : ℕ) {t : List ℕ} → (get_or empty k 0 ≡ 0 → ⊥) → DueMember (k + 1) t → DueMember k (get_or empty k 0 ∷ t)
member_byte k z (due_member {s} r) = subst (λ d. DueMember k (d ++ s)) (word_due empty k z) (due_member r)

-- ---- each mode's bytes

after_member_lem : (b : ℕ) (t : List ℕ) → Left (after_member b) t → (members : List Polygon) × Rest Polygon Member members (b ∷ t)
after_member_lem b t =
    at_byte after_member_mode b t 32 after_member_mode (cond (eqb b 44) want_member_mode (cond (eqb b 41) finished_mode broken_mode)) (λ l. (l.0, rest_space Polygon Member l.1))
    (at_byte after_member_mode b t 44 want_member_mode (cond (eqb b 41) finished_mode broken_mode) comma_member
    (at_byte after_member_mode b t 41 finished_mode broken_mode (λ l. ([], close (round none l))) (broken after_member_mode b t)))

after_y : (multi : Bool) (p : Place) (b : ℕ) (t : List ℕ) → Left (after_point multi p b) t → RingLeft multi (b ∷ t)
after_y multi p b t =
    at_byte (after_y_mode multi p) b t 32 (after_y_mode multi p) (cond (eqb b 44) (want_x_mode multi) (cond (eqb b 41) (after_ring_mode multi) broken_mode)) ring_space
    (at_byte (after_y_mode multi p) b t 44 (want_x_mode multi) (cond (eqb b 41) (after_ring_mode multi) broken_mode) (λ l. comma_x (x_pair l))
    (at_byte (after_y_mode multi p) b t 41 (after_ring_mode multi) broken_mode close_ring (broken (after_y_mode multi p) b t)))

end_x_lem : (multi : Bool) (n : Begun) (b : ℕ) (t : List ℕ) → Fine n → Left (end_x multi n b) t → InXLeft multi n (b ∷ t)
end_x_lem multi minus_begun b t h l = absurd l
end_x_lem multi (value_begun x) b t h l = at_byte (in_x_mode multi (value_begun x)) b t 32 (want_y_mode multi x) broken_mode (λ y. in_x_left (is_whole x h) y) (broken (in_x_mode multi (value_begun x)) b t) l
end_x_lem multi off_begun b t h l = absurd l

end_y_lem : (multi : Bool) (x : Whole) (n : Begun) (b : ℕ) (t : List ℕ) → Fine n → Left (end_y multi x n b) t → InYLeft multi n (b ∷ t)
end_y_lem multi x minus_begun b t h l = absurd l
end_y_lem multi x (value_begun y) b t h l = in_y_left (is_whole y h) (after_y multi (record { x = x; y = y }) b t l)
end_y_lem multi x off_begun b t h l = absurd l

either : (G : Type 0) (c : Bool) (t : List ℕ) (x y : Mode) → (c ≡ true → Left x t → G) → (c ≡ false → Left y t → G) → Left (cond c x y) t → G
either G true t x y f g l = f refl l
either G false t x y f g l = g refl l

open_word : (multi : Bool) (b : ℕ) (t : List ℕ) → Left (opening multi b) t → Brackets multi (b ∷ t)
open_word multi b t l = either (Brackets multi (b ∷ t)) (eqb b 40) t (cond multi want_member_mode (want_ring_mode false)) broken_mode (λ e h. subst (λ c. Brackets multi (c ∷ t)) (sym (eqb-true b 40 e)) (opened multi t h)) (λ e h. absurd h) l

after_word_lem : (multi : Bool) (b : ℕ) (t : List ℕ) → Left (after_word multi b) t → WordLeft multi (b ∷ t)
after_word_lem multi b t l = either (WordLeft multi (b ∷ t)) (eqb b 32) t (spaced_mode multi) (opening multi b) (λ e h. subst (λ c. WordLeft multi (c ∷ t)) (sym (eqb-true b 32 e)) (word_left h)) (λ e h. brackets (open_word multi b t h)) l

back : (mode : Mode) (b : ℕ) (t : List ℕ) → Sound mode → Left (next_mode mode b) t → Left mode (b ∷ t)
unfolding next_mode
back start_mode b t h =
    at_byte start_mode b t 80 (word_mode false 1) (cond (eqb b 77) (word_mode true 1) broken_mode) start_one
    (at_byte start_mode b t 77 (word_mode true 1) broken_mode start_many (broken start_mode b t))
back (word_mode multi k) b t h =
    let c = get_or (word_of multi) k 0 in
    either (DueLeft multi k (b ∷ t)) (eqb c 0) t (after_word multi b) (cond (eqb b c) (word_mode multi (k + 1)) broken_mode)
    (λ e l. due_over multi k (b ∷ t) (eqb-true c 0 e) (after_word_lem multi b t l))
    (λ e. at_byte (word_mode multi k) b t c (word_mode multi (k + 1)) broken_mode (due_byte multi k (eqb-false c 0 e)) (broken (word_mode multi k) b t))
back (spaced_mode multi) b t h =
    at_byte (spaced_mode multi) b t 32 (spaced_mode multi) (cond (eqb b 69) (empty_text_mode 1) (opening multi b)) spaced_left
    (at_byte (spaced_mode multi) b t 69 (empty_text_mode 1) (opening multi b) (λ e. inr (subst (λ s. EmptyLeft (69 ∷ s)) (sym e) (empty_left none)))
    (λ l. inl (open_word multi b t l)))
back (empty_text_mode k) b t h =
    let c = get_or empty k 0 in
    either (b ∷ t ≡ drop k empty) (eqb c 0) t broken_mode (cond (eqb b c) (empty_text_mode (k + 1)) broken_mode)
    (λ e l. absurd l)
    (λ e. at_byte (empty_text_mode k) b t c (empty_text_mode (k + 1)) broken_mode (λ l. ap (λ s. c ∷ s) l ∙ sym (word_due empty k (eqb-false c 0 e))) (broken (empty_text_mode k) b t))
back want_member_mode b t h =
    at_byte want_member_mode b t 32 want_member_mode (cond (eqb b 40) (want_ring_mode true) (cond (eqb b 69) (empty_member_mode 1) broken_mode)) any_member_space
    (at_byte want_member_mode b t 40 (want_ring_mode true) (cond (eqb b 69) (empty_member_mode 1) broken_mode) ring_member
    (at_byte want_member_mode b t 69 (empty_member_mode 1) broken_mode empty_member (broken want_member_mode b t)))
back (empty_member_mode k) b t h =
    let c = get_or empty k 0 in
    either (DueMember k (b ∷ t)) (eqb c 0) t (after_member b) (cond (eqb b c) (empty_member_mode (k + 1)) broken_mode)
    (λ e l. member_over k (b ∷ t) (eqb-true c 0 e) (after_member_lem b t l))
    (λ e. at_byte (empty_member_mode k) b t c (empty_member_mode (k + 1)) broken_mode (member_byte k (eqb-false c 0 e)) (broken (empty_member_mode k) b t))
back after_member_mode b t h = after_member_lem b t
back (want_ring_mode multi) b t h =
    at_byte (want_ring_mode multi) b t 32 (want_ring_mode multi) (cond (eqb b 40) (want_x_mode multi) broken_mode) any_ring_space
    (at_byte (want_ring_mode multi) b t 40 (want_x_mode multi) broken_mode (λ l. open_x (x_pair l)) (broken (want_ring_mode multi) b t))
back (want_x_mode multi) b t h =
    at_byte (want_x_mode multi) b t 32 (want_x_mode multi) (begun_x multi (first_byte b)) x_space
    (split_x multi (first_byte b) t (XLeft multi (b ∷ t)) (first_x multi b))
back (in_x_mode multi n) b t h = either (InXLeft multi n (b ∷ t)) (is_digit b) t (begun_x multi (next_digit n (b - 48))) (end_x multi n b)
    (λ e. split_x multi (next_digit n (b - 48)) t (InXLeft multi n (b ∷ t)) (next_x multi n b e)) (λ e. end_x_lem multi n b t h)
back (want_y_mode multi x) b t h =
    at_byte (want_y_mode multi x) b t 32 (want_y_mode multi x) (begun_y multi x (first_byte b)) y_space
    (split_y multi x (first_byte b) t (YLeft multi (b ∷ t)) (first_y multi b))
back (in_y_mode multi x n) b t h = either (InYLeft multi n (b ∷ t)) (is_digit b) t (begun_y multi x (next_digit n (b - 48))) (end_y multi x n b)
    (λ e. split_y multi x (next_digit n (b - 48)) t (InYLeft multi n (b ∷ t)) (next_y multi n b e)) (λ e. end_y_lem multi x n b t h)
back (after_y_mode multi p) b t h = after_y multi p b t
back (after_ring_mode multi) b t h =
    at_byte (after_ring_mode multi) b t 32 (after_ring_mode multi) (cond (eqb b 44) (want_ring_mode multi) (cond (eqb b 41) (cond multi after_member_mode finished_mode) broken_mode)) rings_space
    (at_byte (after_ring_mode multi) b t 44 (want_ring_mode multi) (cond (eqb b 41) (cond multi after_member_mode finished_mode) broken_mode) comma_ring
    (at_byte (after_ring_mode multi) b t 41 (cond multi after_member_mode finished_mode) broken_mode (λ l. close_polygon (beyond_is multi t l)) (broken (after_ring_mode multi) b t)))
back finished_mode b t h = at_byte finished_mode b t 32 finished_mode broken_mode more (broken finished_mode b t)
back broken_mode b t h = broken broken_mode b t

-- ---- sound modes lead to sound modes

both : (c : Bool) (x y : Mode) → Sound x → Sound y → Sound (cond c x y)
both true x y h k = h
both false x y h k = k

x_sound : (multi : Bool) (n : Begun) → (Allowed n → Fine n) → Sound (begun_x multi n)
x_sound multi minus_begun h = h tt
x_sound multi (value_begun z) h = h tt
x_sound multi off_begun h = tt

y_sound : (multi : Bool) (x : Whole) (n : Begun) → (Allowed n → Fine n) → Sound (begun_y multi x n)
y_sound multi x minus_begun h = h tt
y_sound multi x (value_begun z) h = h tt
y_sound multi x off_begun h = tt

low_digit : (b : ℕ) → is_digit b ≡ true → b - 48 < 10
low_digit b e = let r = digit_range b e in omega (arith, r.0, r.1)

digit_or : (b : ℕ) (x y : Mode) → (is_digit b ≡ true → Sound x) → Sound y → Sound (cond (is_digit b) x y)
digit_or b x y h k = go (is_digit b) refl
  where
    go : (c : Bool) → is_digit b ≡ c → Sound (cond c x y)
    go true e = h e
    go false e = k

open_sound : (multi : Bool) (b : ℕ) → Sound (opening multi b)
open_sound multi b = both (eqb b 40) (cond multi want_member_mode (want_ring_mode false)) broken_mode (both multi want_member_mode (want_ring_mode false) tt tt) tt

member_sound : (b : ℕ) → Sound (after_member b)
member_sound b = both (eqb b 32) after_member_mode (cond (eqb b 44) want_member_mode (cond (eqb b 41) finished_mode broken_mode)) tt (both (eqb b 44) want_member_mode (cond (eqb b 41) finished_mode broken_mode) tt (both (eqb b 41) finished_mode broken_mode tt tt))

point_sound : (multi : Bool) (p : Place) (b : ℕ) → Sound (after_point multi p b)
point_sound multi p b = both (eqb b 32) (after_y_mode multi p) (cond (eqb b 44) (want_x_mode multi) (cond (eqb b 41) (after_ring_mode multi) broken_mode)) tt (both (eqb b 44) (want_x_mode multi) (cond (eqb b 41) (after_ring_mode multi) broken_mode) tt (both (eqb b 41) (after_ring_mode multi) broken_mode tt tt))

end_x_sound : (multi : Bool) (n : Begun) (b : ℕ) → Sound (end_x multi n b)
end_x_sound multi minus_begun b = tt
end_x_sound multi (value_begun x) b = both (eqb b 32) (want_y_mode multi x) broken_mode tt tt
end_x_sound multi off_begun b = tt

end_y_sound : (multi : Bool) (x : Whole) (n : Begun) (b : ℕ) → Sound (end_y multi x n b)
end_y_sound multi x minus_begun b = tt
end_y_sound multi x (value_begun y) b = point_sound multi (record { x = x; y = y }) b
end_y_sound multi x off_begun b = tt

next_sound : (mode : Mode) (b : ℕ) → Sound mode → Sound (next_mode mode b)
unfolding next_mode
next_sound start_mode b h = both (eqb b 80) (word_mode false 1) (cond (eqb b 77) (word_mode true 1) broken_mode) tt (both (eqb b 77) (word_mode true 1) broken_mode tt tt)
next_sound (word_mode multi k) b h = both (eqb (get_or (word_of multi) k 0) 0) (after_word multi b) (cond (eqb b (get_or (word_of multi) k 0)) (word_mode multi (k + 1)) broken_mode) (both (eqb b 32) (spaced_mode multi) (opening multi b) tt (open_sound multi b)) (both (eqb b (get_or (word_of multi) k 0)) (word_mode multi (k + 1)) broken_mode tt tt)
next_sound (spaced_mode multi) b h = both (eqb b 32) (spaced_mode multi) (cond (eqb b 69) (empty_text_mode 1) (opening multi b)) tt (both (eqb b 69) (empty_text_mode 1) (opening multi b) tt (open_sound multi b))
next_sound (empty_text_mode k) b h = both (eqb (get_or empty k 0) 0) broken_mode (cond (eqb b (get_or empty k 0)) (empty_text_mode (k + 1)) broken_mode) tt (both (eqb b (get_or empty k 0)) (empty_text_mode (k + 1)) broken_mode tt tt)
next_sound want_member_mode b h = both (eqb b 32) want_member_mode (cond (eqb b 40) (want_ring_mode true) (cond (eqb b 69) (empty_member_mode 1) broken_mode)) tt (both (eqb b 40) (want_ring_mode true) (cond (eqb b 69) (empty_member_mode 1) broken_mode) tt (both (eqb b 69) (empty_member_mode 1) broken_mode tt tt))
next_sound (empty_member_mode k) b h = both (eqb (get_or empty k 0) 0) (after_member b) (cond (eqb b (get_or empty k 0)) (empty_member_mode (k + 1)) broken_mode) (member_sound b) (both (eqb b (get_or empty k 0)) (empty_member_mode (k + 1)) broken_mode tt tt)
next_sound after_member_mode b h = member_sound b
next_sound (want_ring_mode multi) b h = both (eqb b 32) (want_ring_mode multi) (cond (eqb b 40) (want_x_mode multi) broken_mode) tt (both (eqb b 40) (want_x_mode multi) broken_mode tt tt)
next_sound (want_x_mode multi) b h = both (eqb b 32) (want_x_mode multi) (begun_x multi (first_byte b)) tt (x_sound multi (first_byte b) (first_fine b))
next_sound (in_x_mode multi n) b h = digit_or b (begun_x multi (next_digit n (b - 48))) (end_x multi n b) (λ e. x_sound multi (next_digit n (b - 48)) (next_fine n (b - 48) (low_digit b e))) (end_x_sound multi n b)
next_sound (want_y_mode multi x) b h = both (eqb b 32) (want_y_mode multi x) (begun_y multi x (first_byte b)) tt (y_sound multi x (first_byte b) (first_fine b))
next_sound (in_y_mode multi x n) b h = digit_or b (begun_y multi x (next_digit n (b - 48))) (end_y multi x n b) (λ e. y_sound multi x (next_digit n (b - 48)) (next_fine n (b - 48) (low_digit b e))) (end_y_sound multi x n b)
next_sound (after_y_mode multi p) b h = point_sound multi p b
next_sound (after_ring_mode multi) b h = both (eqb b 32) (after_ring_mode multi) (cond (eqb b 44) (want_ring_mode multi) (cond (eqb b 41) (cond multi after_member_mode finished_mode) broken_mode)) tt (both (eqb b 44) (want_ring_mode multi) (cond (eqb b 41) (cond multi after_member_mode finished_mode) broken_mode) tt (both (eqb b 41) (cond multi after_member_mode finished_mode) broken_mode (both multi after_member_mode finished_mode tt tt) tt))
next_sound finished_mode b h = both (eqb b 32) finished_mode broken_mode tt tt
next_sound broken_mode b h = tt

-- the mode after some bytes
unfoldable pub mode_after : Mode → List ℕ → Mode
mode_after mode [] = mode
mode_after mode (b ∷ text) = mode_after (next_mode mode b) text

run_sound : (mode : Mode) (t : List ℕ) → Sound mode → Sound (mode_after mode t)
unfolding mode_after
run_sound mode [] h = h
run_sound mode (b ∷ t) h = run_sound (next_mode mode b) t (next_sound mode b h)

-- ---- a mode that is not `Broken` has a completion

some_beyond : (multi : Bool) → (s : List ℕ) × Beyond multi s
some_beyond false = ([], at_its_end none)
some_beyond true = (41 ∷ [], members_left (close (round none none)))

some_rings : (multi : Bool) → (s : List ℕ) × RingsLeft multi s
some_rings multi = let b = some_beyond multi in (41 ∷ b.0, close_polygon b.1)

some_ring : (multi : Bool) → (s : List ℕ) × RingLeft multi s
some_ring multi = let b = some_rings multi in (41 ∷ b.0, close_ring b.1)

some_y : (multi : Bool) → (s : List ℕ) × YLeft multi s
some_y multi = let b = some_ring multi in (decimal (pos 0) ++ b.0, y_left (pos 0) none refl b.1)

some_x : (multi : Bool) → (s : List ℕ) × XLeft multi s
some_x multi = let b = some_y multi in (decimal (pos 0) ++ (32 ∷ b.0), x_left (pos 0) none refl b.1)

some_left : (mode : Mode) → Sound mode → is_broken mode ≡ false → (s : List ℕ) × Left mode s
some_left start_mode h a = (polygon ++ (32 ∷ empty), ([], one_empty none))
some_left (word_mode multi k) h a = (drop k (word_of multi) ++ (32 ∷ empty), due_left (spaced (empty_left none)))
some_left (spaced_mode multi) h a = (empty, inr (empty_left none))
some_left (empty_text_mode k) h a = (drop k empty, refl)
some_left want_member_mode h a = (empty ++ (41 ∷ []), any_member none bare (close (round none none)))
some_left (empty_member_mode k) h a = (drop k empty ++ (41 ∷ []), due_member (close (round none none)))
some_left after_member_mode h a = (41 ∷ [], ([], close (round none none)))
some_left (want_ring_mode multi) h a = let x = some_x multi in (40 ∷ x.0, open_x (x_pair x.1))
some_left (want_x_mode multi) h a = some_x multi
some_left (in_x_mode multi n) h a = let y = some_y multi in let c = completed n h in (c.0 ++ (32 ∷ y.0), in_x_left c.1 y.1)
some_left (want_y_mode multi x) h a = some_y multi
some_left (in_y_mode multi x n) h a = let r = some_ring multi in let c = completed n h in (c.0 ++ r.0, in_y_left c.1 r.1)
some_left (after_y_mode multi p) h a = some_ring multi
some_left (after_ring_mode multi) h a = some_rings multi
some_left finished_mode h a = ([], none)
some_left broken_mode h a = absurd (true≢false a)

-- ---- the whole text

reach : (mode : Mode) (t s : List ℕ) → Sound mode → Left (mode_after mode t) s → Left mode (t ++ s)
unfolding mode_after
reach mode [] s h l = l
reach mode (b ∷ t) s h l = back mode b (t ++ s) h (reach (next_mode mode b) t s (next_sound mode b h) l)

-- bytes that do not lead to `Broken` begin a text of the grammar
pub unbroken_begins : (t : List ℕ) → is_broken (mode_after start_mode t) ≡ false → Begins t
unbroken_begins t a = let l = some_left (mode_after start_mode t) (run_sound start_mode t tt) a in let g = reach start_mode t l.0 tt l.1 in (l.0, g.0, g.1)

nothing_left : (mode : Mode) → may_end mode ≡ true → Left mode []
nothing_left start_mode a = absurd (true≢false (sym a))
nothing_left (word_mode multi k) a = absurd (true≢false (sym a))
nothing_left (spaced_mode multi) a = absurd (true≢false (sym a))
nothing_left (empty_text_mode k) a = ap (λ n. drop n empty) (sym (eqb-true k 5 a))
nothing_left want_member_mode a = absurd (true≢false (sym a))
nothing_left (empty_member_mode k) a = absurd (true≢false (sym a))
nothing_left after_member_mode a = absurd (true≢false (sym a))
nothing_left (want_ring_mode multi) a = absurd (true≢false (sym a))
nothing_left (want_x_mode multi) a = absurd (true≢false (sym a))
nothing_left (in_x_mode multi n) a = absurd (true≢false (sym a))
nothing_left (want_y_mode multi x) a = absurd (true≢false (sym a))
nothing_left (in_y_mode multi x n) a = absurd (true≢false (sym a))
nothing_left (after_y_mode multi p) a = absurd (true≢false (sym a))
nothing_left (after_ring_mode multi) a = absurd (true≢false (sym a))
nothing_left finished_mode a = none
nothing_left broken_mode a = absurd (true≢false (sym a))

-- bytes behind which a text may end are a text of the grammar
pub accepted_text : (t : List ℕ) → may_end (mode_after start_mode t) ≡ true → (polygons : List Polygon) × Text polygons t
accepted_text t a = subst (λ s. (polygons : List Polygon) × Text polygons s) (append-nil t) (reach start_mode t [] tt (nothing_left (mode_after start_mode t) a))
