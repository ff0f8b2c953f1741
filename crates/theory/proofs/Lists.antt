-- Laws of the words in geometry's specs/Lists and of cell lists: what is a member, what stands where, what is lowest and highest.
use mathlib.Core.Path.{◌≡◌, refl, sym, ap, ◌∙◌, subst}
use mathlib.Core.Logic.{◌⊎◌, inl, inr}
use mathlib.Core.Bool.{Bool, true, false, cond}
use mathlib.Core.List.Memᴰ
use mathlib.Core.List.{List, [], ◌∷◌, ◌++◌, map, Memᴰ, append_assoc, append-nil}
use Prim.Native.Nat.{ℕ, zero, suc, ◌+◌, ◌*◌, ◌≤◌, ◌<◌, min, max}
use native.Mathlib.Nat.{suc-mul, zero-mul, zero-add, add-suc, suc-add, add-zero}
use native.Mathlib.Omega.{arith}
use native.Mathlib.Decide.{dec_le}
use lib.IntN.{ℤ}
use lib.ListN.{length, get_or, length-append, length-map, get_or-append}
use lib.Seq.{get_or-append-add}
use Rattle.geometry.specs.Lists.{gather, select, any, Extreme, Lowest, Highest, fold, highest}
use Rattle.geometry.specs.Plane.{Cell, crossing}

-- ---- gather

module _ {A : Type 0} where
  -- every member has a property
  abbrev pub All : (A → Type 0) → List A → Type 0
  All P [] = Unit {0}
  All P (a ∷ more) = P a × All P more

  pub gather-in : {a : A} (n i : ℕ) (f : ℕ → List A) (j : ℕ) → i ≤ j → j < i + n → Memᴰ a (f j) → Memᴰ a (gather n i f)
  gather-in zero i f j h l m = absurd (omega arith)
  gather-in {a} (suc n) i f j h l m = go (dec_le j i) (λ g e. gather-in n (suc i) f j g e m)
    where
      go : Dec (j ≤ i) → (suc i ≤ j → j < suc i + n → Memᴰ a (gather n (suc i) f)) → Memᴰ a (f i ++ gather n (suc i) f)
      go (yes g) r = let e : j ≡ i = omega arith in Memᴰ.append_left (gather n (suc i) f) (rw e at m)
      go (no g) r = Memᴰ.append_right (f i) (r (omega arith) (omega arith))

  -- lists of at most b members each
  pub gather-few : (f : ℕ → List A) (b : ℕ) → ((j : ℕ) → length (f j) ≤ b) → (n i : ℕ) → length (gather n i f) ≤ n * b
  gather-few f b h zero i = omega arith
  gather-few f b h (suc n) i = omega (arith, length-append (f i) (gather n (suc i) f), h i, gather-few f b h n (suc i), suc-mul n b)

  pub gather-out : {a : A} (n i : ℕ) (f : ℕ → List A) → Memᴰ a (gather n i f) → (j : ℕ) × (i ≤ j) × (j < i + n) × Memᴰ a (f j)
  gather-out zero i f m = absurd (Memᴰ.not-nil m)
  gather-out {a} (suc n) i f m = go (Memᴰ.append_cases (f i) m) (gather-out n (suc i) f)
    where
      go : Memᴰ a (f i) ⊎ Memᴰ a (gather n (suc i) f)
          → (Memᴰ a (gather n (suc i) f) → (j : ℕ) × (suc i ≤ j) × (j < suc i + n) × Memᴰ a (f j)) → (j : ℕ) × (i ≤ j) × (j < i + suc n)
          × Memᴰ a (f j)
      go (inl m') r = (i, omega arith, omega arith, m')
      go (inr m') r = let t = r m' in (t.0, omega arith, omega arith, t.3)

  pub gather-split : (n r i : ℕ) (f : ℕ → List A) → gather (n + r) i f ≡ gather n i f ++ gather r (i + n) f
  gather-split zero r i f = rw (zero-add r, add-zero i)
  gather-split (suc n) r i f = rw (suc-add n r, add-suc i n, ← suc-add i n)
      (ap (λ l. f i ++ l) (gather-split n r (suc i) f) ∙ sym (append_assoc (f i) (gather n (suc i) f) (gather r (suc i + n) f)))

  -- one list more at the end, as a loop adds it
  pub gather-more : (n i : ℕ) (f : ℕ → List A) → gather (n + 1) i f ≡ gather n i f ++ f (i + n)
  gather-more n i f = gather-split n 1 i f ∙ ap (λ l. gather n i f ++ l) (append-nil (f (i + n)))

  pub gather-nil : (n i : ℕ) (f : ℕ → List A) → ((j : ℕ) → i ≤ j → f j ≡ []) → gather n i f ≡ []
  gather-nil zero i f h = refl
  gather-nil (suc n) i f h = rw (h i (omega arith)) (gather-nil n (suc i) f (λ j g. h j (omega arith)))

  pub gather-same : (n i : ℕ) (f g : ℕ → List A) → ((j : ℕ) → i ≤ j → j < i + n → f j ≡ g j) → gather n i f ≡ gather n i g
  gather-same zero i f g h = refl
  gather-same (suc n) i f g h = rw (h i (omega arith) (omega arith)) (ap (λ l. g i ++ l) (gather-same n (suc i) f g (λ j a b. h j (omega arith) (omega arith))))

  -- one member from each number
  module _ (f : ℕ → A) where
    pub length-each : (n i : ℕ) → length (gather n i (λ j. f j ∷ [])) ≡ n
    length-each zero i = refl
    length-each (suc n) i = ap suc (length-each n (suc i))

    pub get_or-each : (d : A) (n i j : ℕ) → j < n → get_or (gather n i (λ j. f j ∷ [])) j d ≡ f (i + j)
    get_or-each d zero i j h = absurd (omega arith)
    get_or-each d (suc n) i zero h = ap f (sym (add-zero i))
    get_or-each d (suc n) i (suc j) h = get_or-each d n (suc i) j (omega arith) ∙ ap f (suc-add i j ∙ sym (add-suc i j))

  -- a member of some number's own
  pub each_in : (f : ℕ → A) (n i j : ℕ) → i ≤ j → j < i + n → Memᴰ (f j) (gather n i (λ j. f j ∷ []))
  each_in f n i j h l = gather-in n i (λ j. f j ∷ []) j h l (Memᴰ.head refl)

-- ---- select and any

module _ {A : Type 0} (f : A → Bool) where
  pub select_in : (l : List A) {a : A} → Memᴰ a l → f a ≡ true → Memᴰ a (select f l)
  select_in [] m e = absurd (Memᴰ.not-nil m)
  select_in (b ∷ l) {a} (Memᴰ.head h) e = rw (ap f (sym h) ∙ e) (Memᴰ.head h)
  select_in (b ∷ l) {a} (Memᴰ.tail m) e = go (f b) (select_in l m e)
    where
      go : (t : Bool) → Memᴰ a (select f l) → Memᴰ a (cond t (b ∷ select f l) (select f l))
      go true r = Memᴰ.tail r
      go false r = r

  pub select-out : (l : List A) {a : A} → Memᴰ a (select f l) → Memᴰ a l × (f a ≡ true)
  select-out [] m = absurd (Memᴰ.not-nil m)
  select-out (b ∷ l) {a} m = go (f b) refl (λ n. select-out l n) m
    where
      go : (t : Bool) → f b ≡ t → (Memᴰ a (select f l) → Memᴰ a l × (f a ≡ true)) → Memᴰ a (cond t (b ∷ select f l) (select f l))
          → Memᴰ a (b ∷ l) × (f a ≡ true)
      go true e r (Memᴰ.head h) = (Memᴰ.head h, ap f h ∙ e)
      go true e r (Memᴰ.tail n) = let s = r n in (Memᴰ.tail s.0, s.1)
      go false e r n = let s = r n in (Memᴰ.tail s.0, s.1)

  pub any-true : (l : List A) → any f l ≡ true → (a : A) × Memᴰ a l × (f a ≡ true)
  any-true [] e = let z : ◌≡◌ {A = ℕ} 0 1 = cc in absurd (omega arith)
  any-true (b ∷ l) e = go (f b) refl (any-true l) e
    where
      go : (t : Bool) → f b ≡ t → (any f l ≡ true → (a : A) × Memᴰ a l × (f a ≡ true)) → cond t true (any f l) ≡ true → (a : A)
          × Memᴰ a (b ∷ l) × (f a ≡ true)
      go true g r h = (b, Memᴰ.head refl, g)
      go false g r h = let s = r h in (s.0, Memᴰ.tail s.1, s.2)

  pub any_false : (l : List A) → any f l ≡ false → {a : A} → Memᴰ a l → f a ≡ false
  any_false [] e m = absurd (Memᴰ.not-nil m)
  any_false (b ∷ l) e {a} m = go (f b) refl (λ h n. any_false l h n) e m
    where
      go : (t : Bool) → f b ≡ t → (any f l ≡ false → Memᴰ a l → f a ≡ false) → cond t true (any f l) ≡ false → Memᴰ a (b ∷ l) → f a ≡ false
      go true g r h n = let z : ◌≡◌ {A = ℕ} 0 1 = cc in absurd (omega arith)
      go false g r h (Memᴰ.head w) = ap f w ∙ g
      go false g r h (Memᴰ.tail n) = r h n

-- ---- the lowest and the highest

-- a choice of one of two numbers, that comes before both in an order
pub record Choice (op : ℕ → ℕ → ℕ) (R : ℕ → ℕ → Type 0) : Type 0 where
  pub same : (a b : ℕ) → a ≡ b → R a b
  pub left : (a b c : ℕ) → R b c → R (op a b) c
  pub right : (a b c : ℕ) → R a c → R (op a b) c
  pub one : (a b : ℕ) → (op a b ≡ a) ⊎ (op a b ≡ b)

pub min-choice : Choice min ◌≤◌
min-choice = record { same = λ a b h. omega arith; left = λ a b c h. omega arith; right = λ a b c h. omega arith; one = λ a b. go a b (dec_le a b) }
  where
    go : (a b : ℕ) → Dec (a ≤ b) → (min a b ≡ a) ⊎ (min a b ≡ b)
    go a b (yes h) = inl (omega arith)
    go a b (no h) = inr (omega arith)

pub max-choice : Choice max (λ v n. n ≤ v)
max-choice = record { same = λ a b h. omega arith; left = λ a b c h. omega arith; right = λ a b c h. omega arith; one = λ a b. go a b (dec_le a b) }
  where
    go : (a b : ℕ) → Dec (a ≤ b) → (max a b ≡ a) ⊎ (max a b ≡ b)
    go a b (yes h) = inr (omega arith)
    go a b (no h) = inl (omega arith)

module _ {op : ℕ → ℕ → ℕ} {R : ℕ → ℕ → Type 0} (ch : Choice op R) {A : Type 0} (f : A → ℕ) where
  fold-bound : (c : A) (cs : List A) {a : A} → Memᴰ a (c ∷ cs) → R (fold op (f c) (map f cs)) (f a)
  fold-bound c [] (Memᴰ.head e) = ch.same (f c) _ (ap f (sym e))
  fold-bound c [] (Memᴰ.tail m) = absurd (Memᴰ.not-nil m)
  fold-bound c (d ∷ ds) (Memᴰ.head e) = ch.left (f d) (fold op (f c) (map f ds)) _ (fold-bound c ds (Memᴰ.head e))
  fold-bound c (d ∷ ds) (Memᴰ.tail (Memᴰ.head e)) = ch.right (f d) (fold op (f c) (map f ds)) _ (ch.same (f d) _ (ap f (sym e)))
  fold-bound c (d ∷ ds) (Memᴰ.tail (Memᴰ.tail m)) = ch.left (f d) (fold op (f c) (map f ds)) _ (fold-bound c ds (Memᴰ.tail m))

  fold-met : (c : A) (cs : List A) → (a : A) × Memᴰ a (c ∷ cs) × (f a ≡ fold op (f c) (map f cs))
  fold-met c [] = (c, Memᴰ.head refl, refl)
  fold-met c (d ∷ ds) = go (fold-met c ds) (ch.one (f d) (fold op (f c) (map f ds)))
    where
      later : {a : A} → Memᴰ a (c ∷ ds) → Memᴰ a (c ∷ d ∷ ds)
      later (Memᴰ.head e) = Memᴰ.head e
      later (Memᴰ.tail m) = Memᴰ.tail (Memᴰ.tail m)

      go : (a : A) × Memᴰ a (c ∷ ds) × (f a ≡ fold op (f c) (map f ds)) → (op (f d) (fold op (f c) (map f ds)) ≡ f d)
          ⊎ (op (f d) (fold op (f c) (map f ds)) ≡ fold op (f c) (map f ds)) → (a : A) × Memᴰ a (c ∷ d ∷ ds)
          × (f a ≡ op (f d) (fold op (f c) (map f ds)))
      go t (inl e) = (d, Memᴰ.tail (Memᴰ.head refl), sym e)
      go t (inr e) = (t.0, later t.1, t.2 ∙ sym e)

  -- a fold over a member and a list is the extreme of f among them
  pub fold-extreme : (c : A) (cs : List A) → Extreme R (λ a. Memᴰ a (c ∷ cs)) f (fold op (f c) (map f cs))
  fold-extreme c cs = record { bound = λ a m. fold-bound c cs m; met = let t = fold-met c cs in (t.0, t.1, t.2) }

-- the extreme of the same things is the same
pub extreme-among : {A : Type 0} {R : ℕ → ℕ → Type 0} {P Q : A → Type 0} {f : A → ℕ} {v : ℕ} → ((a : A) → P a → Q a) → ((a : A) → Q a → P a)
    → Extreme R P f v → Extreme R Q f v
extreme-among to from e = record { bound = λ a q. e.bound a (from a q); met = (e.met.0, to e.met.0 e.met.1, e.met.2) }

-- there is one lowest, and one highest
module _ {A : Type 0} (P : A → Type 0) (f : A → ℕ) (v w : ℕ) where
  pub lowest-unique : Lowest P f v → Lowest P f w → v ≡ w
  lowest-unique a b = omega (arith, a.bound b.met.0 b.met.1, b.met.2, b.bound a.met.0 a.met.1, a.met.2)

  pub highest-unique : Highest P f v → Highest P f w → v ≡ w
  highest-unique a b = omega (arith, a.bound b.met.0 b.met.1, b.met.2, b.bound a.met.0 a.met.1, a.met.2)

-- the highest of a list and 0
module _ {A : Type 0} (f : A → ℕ) where
  pub highest-bound : (l : List A) {a : A} → Memᴰ a l → f a ≤ highest 0 (map f l)
  highest-bound [] m = absurd (Memᴰ.not-nil m)
  highest-bound (b ∷ l) (Memᴰ.head e) = omega (arith, ap f e)
  highest-bound (b ∷ l) (Memᴰ.tail m) = omega (arith, highest-bound l m)

  pub highest-met : (l : List A) → 1 ≤ highest 0 (map f l) → (a : A) × Memᴰ a l × (f a ≡ highest 0 (map f l))
  highest-met [] h = absurd (omega arith)
  highest-met (b ∷ l) h = go (dec_le (f b) (highest 0 (map f l))) (highest-met l)
    where
      go : Dec (f b ≤ highest 0 (map f l)) → (1 ≤ highest 0 (map f l) → (a : A) × Memᴰ a l × (f a ≡ highest 0 (map f l))) → (a : A)
          × Memᴰ a (b ∷ l) × (f a ≡ highest 0 (map f (b ∷ l)))
      go (no g) r = (b, Memᴰ.head refl, omega arith)
      go (yes g) r = let t = r (omega arith) in (t.0, Memᴰ.tail t.1, omega (arith, t.2))

-- ---- map

module _ {A B : Type 0} (f : A → B) where
  pub get_d_map : (l : List A) (i : ℕ) (d : A) (e : B) → i < length l → get_or (map f l) i e ≡ f (get_or l i d)
  get_d_map [] i d e h = absurd (omega arith)
  get_d_map (a ∷ l) zero d e h = refl
  get_d_map (a ∷ l) (suc i) d e h = get_d_map l i d e (omega arith)

  pub map_same : (g : A → B) (l : List A) → ((a : A) → Memᴰ a l → f a ≡ g a) → map f l ≡ map g l
  map_same g [] h = refl
  map_same g (a ∷ l) h = λ i. h a (Memᴰ.head refl) i ∷ map_same g l (λ b m. h b (Memᴰ.tail m)) i

-- ---- cells of some columns and some rows

abbrev on_row : ℤ → ℤ → Cell
on_row y x = record { col = x; row = y }

pub crossing-in : (cols rows : List ℤ) {x y : ℤ} → Memᴰ x cols → Memᴰ y rows → Memᴰ (record { col = x; row = y }) (crossing cols rows)
crossing-in cols [] m n = absurd (Memᴰ.not-nil n)
crossing-in cols (z ∷ rows) {x} {y} m (Memᴰ.head e) = Memᴰ.append_left (crossing cols rows) (Memᴰ.cast (ap (λ w. on_row w x) e) (Memᴰ.map (on_row z) m))
crossing-in cols (z ∷ rows) {x} {y} m (Memᴰ.tail n) = Memᴰ.append_right (map (on_row z) cols) (crossing-in cols rows m n)

pub crossing-out : (cols rows : List ℤ) {c : Cell} → Memᴰ c (crossing cols rows) → Memᴰ c.col cols × Memᴰ c.row rows
crossing-out cols [] m = absurd (Memᴰ.not-nil m)
crossing-out cols (z ∷ rows) {c} m = go (Memᴰ.append_cases (map (on_row z) cols) m) (λ n. crossing-out cols rows n)
  where
    go : Memᴰ c (map (on_row z) cols) ⊎ Memᴰ c (crossing cols rows)
        → (Memᴰ c (crossing cols rows) → Memᴰ c.col cols × Memᴰ c.row rows) → Memᴰ c.col cols
        × Memᴰ c.row (z ∷ rows)
    go (inl n) r = let t = Memᴰ.of_map (on_row z) cols n in
        (subst (λ x. Memᴰ x cols) (ap (λ d. d.col) t.2) t.1, Memᴰ.head (sym (ap (λ d. d.row) t.2)))
    go (inr n) r = let t = r n in (t.0, Memᴰ.tail t.1)

pub length-crossing : (cols rows : List ℤ) → length (crossing cols rows) ≡ length rows * length cols
length-crossing cols [] = sym (zero-mul (length cols))
length-crossing cols (z ∷ rows) = length-append (map (on_row z) cols) (crossing cols rows) ∙ omega
    (arith, length-map {B = Cell} cols (on_row z), length-crossing cols rows, suc-mul (length rows) (length cols))

pub get_or-crossing : (cols rows : List ℤ) (d : Cell) (i j : ℕ) → i < length cols → j < length rows
    → get_or (crossing cols rows) (j * length cols + i) d ≡ record { col = get_or cols i d.col; row = get_or rows j d.row }
get_or-crossing cols [] d i j h l = absurd (omega arith)
get_or-crossing cols (z ∷ rows) d i zero h l =
    ap (λ (k : ℕ). get_or (map (on_row z) cols ++ crossing cols rows) k d) (ap (λ (k : ℕ). k + i) (zero-mul (length cols)) ∙ zero-add i)
    ∙ get_or-append (map (on_row z) cols) (crossing cols rows) d i (omega (arith, length-map {B = Cell} cols (on_row z)))
    ∙ get_d_map (on_row z) cols i d.col d h
get_or-crossing cols (z ∷ rows) d i (suc j) h l =
    let e : suc j * length cols + i ≡ length (map (on_row z) cols) + (j * length cols + i) =
    omega (arith, length-map {B = Cell} cols (on_row z), suc-mul j (length cols)) in
    ap (λ (k : ℕ). get_or (map (on_row z) cols ++ crossing cols rows) k d) e
    ∙ get_or-append-add (map (on_row z) cols) (crossing cols rows) (j * length cols + i) d
    ∙ get_or-crossing cols rows d i j h (omega arith)
