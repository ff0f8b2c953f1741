-- The laws of distance that all else rests on: it is a metric, a neighbour is at most 1 away, a step leads nearer, and from any cell one can go away from another one.
use mathlib.Core.Path.{◌≡◌, refl, sym, ap, subst}
use mathlib.Core.List.Memᴰ
use mathlib.Core.List.{List, [], ◌∷◌, Memᴰ}
use Prim.Native.Nat.{ℕ, zero, suc, ◌+◌, ◌-◌, ◌≤◌, max}
use native.Mathlib.Omega.{arith}
use native.Mathlib.Decide.{dec_le}
use lib.IntN.{ℤ, pos, negsuc, suc_ℤ, pred_ℤ}
use Rattle.geometry.specs.declared.Kind.{Kind}
use Rattle.geometry.specs.declared.Kind.TheVariants.{Diamond, Square}
use Rattle.theory.proofs.Lists.{All}
use Rattle.geometry.specs.Plane.{Cell, gap, dist, neighbours, west, east, north, south}

-- ---- one dimension

pub gap-self : (a : ℤ) → gap a a ≡ 0
gap-self (pos a) = omega arith
gap-self (negsuc a) = omega arith

pub gap-sym : (a b : ℤ) → gap a b ≡ gap b a
gap-sym (pos a) (pos b) = omega arith
gap-sym (pos a) (negsuc b) = omega arith
gap-sym (negsuc a) (pos b) = omega arith
gap-sym (negsuc a) (negsuc b) = omega arith

pub gap-tri : (a b c : ℤ) → gap a c ≤ gap a b + gap b c
gap-tri (pos a) (pos b) (pos c) = omega arith
gap-tri (pos a) (pos b) (negsuc c) = omega arith
gap-tri (pos a) (negsuc b) (pos c) = omega arith
gap-tri (pos a) (negsuc b) (negsuc c) = omega arith
gap-tri (negsuc a) (pos b) (pos c) = omega arith
gap-tri (negsuc a) (pos b) (negsuc c) = omega arith
gap-tri (negsuc a) (negsuc b) (pos c) = omega arith
gap-tri (negsuc a) (negsuc b) (negsuc c) = omega arith

pub gap-zero : (a b : ℤ) → gap a b ≡ 0 → a ≡ b
gap-zero (pos a) (pos b) h = let e : a ≡ b = omega arith in ap pos e
gap-zero (pos a) (negsuc b) h = absurd (omega arith)
gap-zero (negsuc a) (pos b) h = absurd (omega arith)
gap-zero (negsuc a) (negsuc b) h = let e : a ≡ b = omega arith in ap negsuc e

-- a step on, a step back, or none
pub data Move : Type 0 where
  stay on back : Move

abbrev pub moved : Move → ℤ → ℤ
moved stay a = a
moved on a = suc_ℤ a
moved back a = pred_ℤ a

pub gap-moved : (s : Move) (a : ℤ) → gap a (moved s a) ≤ 1
gap-moved stay a = omega (arith, gap-self a)
gap-moved on (pos n) = omega arith
gap-moved on (negsuc zero) = omega arith
gap-moved on (negsuc (suc n)) = omega arith
gap-moved back (pos zero) = omega arith
gap-moved back (pos (suc n)) = omega arith
gap-moved back (negsuc n) = omega arith

-- some move from a leads one nearer to b, if a is not there
pub toward : (a b : ℤ) → (s : Move) × (gap (moved s a) b ≡ gap a b - 1)
toward (pos a) (pos b) = go (dec_le (suc a) b) (dec_le (suc b) a)
  where
    go : Dec (suc a ≤ b) → Dec (suc b ≤ a) → (s : Move) × (gap (moved s (pos a)) (pos b) ≡ gap (pos a) (pos b) - 1)
    go (yes h) d = (on, omega arith)
    go (no h) (no g) = (stay, omega arith)
    go (no h) (yes g) = (back, down a g)
      where
        down : (a : ℕ) → suc b ≤ a → gap (moved back (pos a)) (pos b) ≡ gap (pos a) (pos b) - 1
        down zero g = absurd (omega arith)
        down (suc a) g = omega arith
toward (pos zero) (negsuc b) = (back, omega arith)
toward (pos (suc a)) (negsuc b) = (back, omega arith)
toward (negsuc zero) (pos b) = (on, omega arith)
toward (negsuc (suc a)) (pos b) = (on, omega arith)
toward (negsuc a) (negsuc b) = go (dec_le (suc a) b) (dec_le (suc b) a)
  where
    go : Dec (suc a ≤ b) → Dec (suc b ≤ a) → (s : Move) × (gap (moved s (negsuc a)) (negsuc b) ≡ gap (negsuc a) (negsuc b) - 1)
    go (yes h) d = (back, omega arith)
    go (no h) (no g) = (stay, omega arith)
    go (no h) (yes g) = (on, up a g)
      where
        up : (a : ℕ) → suc b ≤ a → gap (moved on (negsuc a)) (negsuc b) ≡ gap (negsuc a) (negsuc b) - 1
        up zero g = absurd (omega arith)
        up (suc a) g = omega arith

-- the whole number r past a, as seen from b
pub away : (b a : ℤ) (r : ℕ) → (o : ℤ) × (gap a o ≡ r) × (gap b o ≡ gap b a + r)
away (pos b) (pos a) r = go (dec_le b a) (dec_le r a)
  where
    go : Dec (b ≤ a) → Dec (r ≤ a) → (o : ℤ) × (gap (pos a) o ≡ r) × (gap (pos b) o ≡ gap (pos b) (pos a) + r)
    go (yes h) d = (pos (a + r), omega arith, omega arith)
    go (no h) (yes g) = (pos (a - r), omega arith, omega arith)
    go (no h) (no g) = (negsuc (r - a - 1), omega arith, omega arith)
away (pos b) (negsuc a) r = (negsuc (a + r), omega arith, omega arith)
away (negsuc b) (pos a) r = (pos (a + r), omega arith, omega arith)
away (negsuc b) (negsuc a) r = go (dec_le b a) (dec_le r a)
  where
    go : Dec (b ≤ a) → Dec (r ≤ a) → (o : ℤ) × (gap (negsuc a) o ≡ r) × (gap (negsuc b) o ≡ gap (negsuc b) (negsuc a) + r)
    go (yes h) d = (negsuc (a + r), omega arith, omega arith)
    go (no h) (yes g) = (negsuc (a - r), omega arith, omega arith)
    go (no h) (no g) = (pos (r - a - 1), omega arith, omega arith)

-- ---- two

pub dist-self : (kd : Kind) (a : Cell) → dist kd a a ≡ 0
dist-self Diamond a = omega (arith, gap-self a.col, gap-self a.row)
dist-self Square a = omega (arith, gap-self a.col, gap-self a.row)

pub dist-sym : (kd : Kind) (a b : Cell) → dist kd a b ≡ dist kd b a
dist-sym Diamond a b = omega (arith, gap-sym a.col b.col, gap-sym a.row b.row)
dist-sym Square a b = omega (arith, gap-sym a.col b.col, gap-sym a.row b.row)

pub dist-tri : (kd : Kind) (a b c : Cell) → dist kd a c ≤ dist kd a b + dist kd b c
dist-tri Diamond a b c = omega (arith, gap-tri a.col b.col c.col, gap-tri a.row b.row c.row)
dist-tri Square a b c = omega (arith, gap-tri a.col b.col c.col, gap-tri a.row b.row c.row)

pub dist-zero : (kd : Kind) (a b : Cell) → dist kd a b ≡ 0 → a ≡ b
dist-zero Diamond a b h = λ i. record { col = gap-zero a.col b.col (omega arith) i; row = gap-zero a.row b.row (omega arith) i }
dist-zero Square a b h = λ i. record { col = gap-zero a.col b.col (omega arith) i; row = gap-zero a.row b.row (omega arith) i }

-- the cell and its neighbours
abbrev pub window : Kind → Cell → List Cell
window kd c = c ∷ neighbours kd c

all : {A : Type 0} (P : A → Type 0) (xs : List A) → All P xs → {a : A} → Memᴰ a xs → P a
all P [] h m = absurd (Memᴰ.not-nil m)
all P (x ∷ xs) h (Memᴰ.head e) = subst P (sym e) h.0
all P (x ∷ xs) h (Memᴰ.tail m) = all P xs h.1 m

pub near : (kd : Kind) (c : Cell) {n : Cell} → Memᴰ n (window kd c) → dist kd c n ≤ 1
near Diamond c m = all (λ n. dist Diamond c n ≤ 1) (window Diamond c) (n₀, (n₁, (n₂, (n₃, (n₄, tt))))) m
  where
    n₀ : dist Diamond c c ≤ 1
    n₀ = omega (arith, dist-self Diamond c)

    n₁ : dist Diamond c (north c) ≤ 1
    n₁ = omega (arith, gap-self c.col, gap-moved back c.row)

    n₂ : dist Diamond c (west c) ≤ 1
    n₂ = omega (arith, gap-self c.row, gap-moved back c.col)

    n₃ : dist Diamond c (east c) ≤ 1
    n₃ = omega (arith, gap-self c.row, gap-moved on c.col)

    n₄ : dist Diamond c (south c) ≤ 1
    n₄ = omega (arith, gap-self c.col, gap-moved on c.row)
near Square c m = all (λ n. dist Square c n ≤ 1) (window Square c)
    (f stay stay, (f back back, (f stay back, (f on back, (f back stay, (f on stay, (f back on, (f stay on, (f on on, tt))))))))) m
  where
    f : (s t : Move) → max (gap c.col (moved s c.col)) (gap c.row (moved t c.row)) ≤ 1
    f s t = omega (arith, gap-moved s c.col, gap-moved t c.row)

abbrev go-to : Move → Move → Cell → Cell
go-to s t c = record { col = moved s c.col; row = moved t c.row }

-- the place of a moved cell in the window
sq : (s t : Move) (c : Cell) → Memᴰ (go-to s t c) (window Square c)
sq stay stay c = Memᴰ.head refl
sq back back c = Memᴰ.tail (Memᴰ.head refl)
sq stay back c = Memᴰ.tail (Memᴰ.tail (Memᴰ.head refl))
sq on back c = Memᴰ.tail (Memᴰ.tail (Memᴰ.tail (Memᴰ.head refl)))
sq back stay c = Memᴰ.tail (Memᴰ.tail (Memᴰ.tail (Memᴰ.tail (Memᴰ.head refl))))
sq on stay c = Memᴰ.tail (Memᴰ.tail (Memᴰ.tail (Memᴰ.tail (Memᴰ.tail (Memᴰ.head refl)))))
sq back on c = Memᴰ.tail (Memᴰ.tail (Memᴰ.tail (Memᴰ.tail (Memᴰ.tail (Memᴰ.tail (Memᴰ.head refl))))))
sq stay on c = Memᴰ.tail (Memᴰ.tail (Memᴰ.tail (Memᴰ.tail (Memᴰ.tail (Memᴰ.tail (Memᴰ.tail (Memᴰ.head refl)))))))
sq on on c = Memᴰ.tail (Memᴰ.tail (Memᴰ.tail
    (Memᴰ.tail (Memᴰ.tail (Memᴰ.tail (Memᴰ.tail (Memᴰ.tail (Memᴰ.head refl))))))))

di-col : (s : Move) (c : Cell) → Memᴰ (go-to s stay c) (window Diamond c)
di-col stay c = Memᴰ.head refl
di-col back c = Memᴰ.tail (Memᴰ.tail (Memᴰ.head refl))
di-col on c = Memᴰ.tail (Memᴰ.tail (Memᴰ.tail (Memᴰ.head refl)))

di-row : (t : Move) (c : Cell) → Memᴰ (go-to stay t c) (window Diamond c)
di-row stay c = Memᴰ.head refl
di-row back c = Memᴰ.tail (Memᴰ.head refl)
di-row on c = Memᴰ.tail (Memᴰ.tail (Memᴰ.tail (Memᴰ.tail (Memᴰ.head refl))))

-- what is k + 1 away from a cell is k away from the cell or a neighbour of it
pub step : (kd : Kind) (c o : Cell) (k : ℕ) → dist kd c o ≤ suc k → (n : Cell) × Memᴰ n (window kd c) × (dist kd n o ≤ k)
step Diamond c o k h = go (dec_le 1 (gap c.col o.col))
  where
    go : Dec (1 ≤ gap c.col o.col) → (n : Cell) × Memᴰ n (window Diamond c) × (dist Diamond n o ≤ k)
    go (yes g) = let t = toward c.col o.col in (go-to t.0 stay c, di-col t.0 c, omega (arith, t.1))
    go (no g) = let t = toward c.row o.row in (go-to stay t.0 c, di-row t.0 c, omega (arith, t.1))
step Square c o k h =
    let s = toward c.col o.col in
    let t = toward c.row o.row in
    (go-to s.0 t.0 c, sq s.0 t.0 c, omega (arith, s.1, t.1))

-- from a there is a cell r away that is r further from b than a is
pub beyond : (kd : Kind) (b a : Cell) (r : ℕ) → (o : Cell) × (dist kd a o ≤ r) × (dist kd b a + r ≤ dist kd b o)
beyond Diamond b a r =
    let s = away b.col a.col r in
    (record { col = s.0; row = a.row }, omega (arith, s.1, gap-self a.row), omega (arith, s.2))
beyond Square b a r =
    let s = away b.col a.col r in
    let t = away b.row a.row r in
    (record { col = s.0; row = t.0 }, omega (arith, s.1, t.1), omega (arith, s.2, t.2))

-- the cell and its neighbours are the cells at most 1 away
pub near-in : (kd : Kind) (c n : Cell) → dist kd c n ≤ 1 → Memᴰ n (window kd c)
near-in kd c n h = let t = step kd c n 0 h in subst (λ d. Memᴰ d (window kd c)) (dist-zero kd t.0 n (omega (arith, t.2))) t.1
