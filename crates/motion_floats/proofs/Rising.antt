-- The millimetres of a sink, as floats, are in the order of its micrometres: rounding makes no two of them alike. So by every table that keeps the
-- rule they rise strictly with the depth at each reach, and no reach sinks deeper than reach 0.
use mathlib.Core.Path.{◌≡◌, sym, ap, ◌∙◌, subst}
use mathlib.Core.Bool.{true, false}
use mathlib.Core.List.{List}
use Prim.Native.Nat.{ℕ, ◌+◌, ◌*◌, ◌/◌, ◌^◌, ◌≤◌, ◌<◌}
use native.Mathlib.Nat.{mul_assoc, mul_comm, mul_right_comm, mul-pos, mul-le-mul_right, le_trans, le_of_eq, lt_of_lt_of_le}
use native.Mathlib.Omega.{arith}
use borrow.Author.Tests.{lt-ltb}
use lib.Dec.{T, lit<, lit≤}
use lib.Pow.{shl_lt}
use lib.Ieee.{Float, nan, inf, fin, binary64, up, down, round, div, le, lt}
use lib.Ieee.Exact.{HasValue, round_exact}
use lib.Ieee.Order.{round_mono}
use lib.Ieee.Positive.{num, den, positive, den_pos, own_value, value→cross, positive_of_value, values_of_le, between}
use Rattle.sink.specs.Sink.{sink_micrometres, whole, sink_millimetres}
use Rattle.sink.specs.Rule.{Rule}
use Rattle.sink.proofs.Sinks.{sink-rises, sink-most, least-sink, largest-sink}
use Rattle.motion_floats.proofs.Bounds.{whole-value, thousandths, thousand-pos}

-- ---- a whole number of 4096ths is a float; there are some between any two thousandths

abbrev parts : ℕ → Float
parts j = round binary64 false j 4096

parts-value : (j : ℕ) → j < 2 ^ 53 → HasValue (parts j) false j 4096
parts-value j h = round_exact binary64 false j 4096 j 1062 (lit< tt) h (lt_of_lt_of_le (shl_lt 53 1062 h) (lit≤ tt)) (sym (mul_assoc j (2 ^ 1062) 4096))

-- ---- less by what lies between

less : (a b p q j : ℕ) → 0 < p → 0 < q → a * 4096 ≤ j * p → (j + 1) * q ≤ b * 4096 → a * q < b * p
less a b p q j P Q h k =
    let t : 0 < p * q = mul-pos P Q in
    let x : a * q * 4096 ≤ j * (p * q) = le_trans (le_of_eq (mul_right_comm a q 4096)) (le_trans (mul-le-mul_right q h) (le_of_eq (mul_assoc j p q))) in
    let y : (j + 1) * (p * q) ≤ b * p * 4096 =
    le_trans (le_of_eq (ap (λ (z : ℕ). (j + 1) * z) (mul_comm p q) ∙ sym (mul_assoc (j + 1) q p)))
    (le_trans (mul-le-mul_right p k) (le_of_eq (mul_right_comm b 4096 p))) in
    omega arith

less-float : (x y : Float) (j : ℕ) → T (positive x) → T (positive y) → num x * 4096 ≤ j * den x → (j + 1) * den y ≤ num y * 4096 → lt x y ≡ true
unfolding lt
less-float nan y j p q h k = absurd p
less-float (inf s) y j p q h k = absurd p
less-float (fin true m e) y j p q h k = absurd p
less-float (fin false m e) nan j p q h k = absurd q
less-float (fin false m e) (inf s) j p q h k = absurd q
less-float (fin false m e) (fin true n d) j p q h k = absurd q
less-float (fin false m e) (fin false n d) j p q h k =
    lt-ltb (m * up e * down d) (n * up d * down e)
    (less (m * up e) (n * up d) (down e) (down d) j (den_pos (fin false m e)) (den_pos (fin false n d)) h k)

-- ---- thousandths

abbrev thousandth : ℕ → Float
thousandth n = div binary64 (whole n) (whole 1000)

-- beside any fraction a / b, rounded
under : (n a b : ℕ) → 1 ≤ n → n ≤ 2 ^ 53 → 0 < b → n * b ≤ a * 1000 → T (le (thousandth n) (round binary64 false a b))
under n a b lo hi B h =
    let c = den (whole n) in
    let e : num (whole n) * 1 ≡ n * c = value→cross (whole n) n 1 (whole-value n hi) in
    subst (λ (z : Float). T (le z (round binary64 false a b))) (sym (thousandths n lo hi))
    (round_mono binary64 (num (whole n) * 1) (1000 * c) a b (thousand-pos c (den_pos (whole n))) B
    (le_trans (le_of_eq (ap (λ (x : ℕ). x * b) e ∙ mul_right_comm n c b)) (le_trans (mul-le-mul_right c h) (le_of_eq (mul_assoc a 1000 c)))))

over : (n a b : ℕ) → 1 ≤ n → n ≤ 2 ^ 53 → 0 < b → a * 1000 ≤ n * b → T (le (round binary64 false a b) (thousandth n))
over n a b lo hi B h =
    let c = den (whole n) in
    let e : num (whole n) * 1 ≡ n * c = value→cross (whole n) n 1 (whole-value n hi) in
    subst (λ (z : Float). T (le (round binary64 false a b) z)) (sym (thousandths n lo hi))
    (round_mono binary64 a b (num (whole n) * 1) (1000 * c) B (thousand-pos c (den_pos (whole n)))
    (le_trans (le_of_eq (sym (mul_assoc a 1000 c))) (le_trans (mul-le-mul_right c h) (le_of_eq (sym (ap (λ (x : ℕ). x * b) e ∙ mul_right_comm n c b))))))

pub thousandth-keeps : (n m : ℕ) → 1 ≤ n → n ≤ m → m ≤ 2 ^ 53 → T (le (thousandth n) (thousandth m))
thousandth-keeps n m lo h hi =
    let c = den (whole m) in
    let e : num (whole m) * 1 ≡ m * c = value→cross (whole m) m 1 (whole-value m hi) in
    subst (λ (z : Float). T (le (thousandth n) z)) (sym (thousandths m (le_trans lo h) hi))
    (under n (num (whole m) * 1) (1000 * c) lo (le_trans h hi) (thousand-pos c (den_pos (whole m)))
    (le_trans (mul-le-mul_right (1000 * c) h) (le_of_eq (ap (λ (x : ℕ). m * x) (mul_comm 1000 c) ∙ sym (mul_assoc m c 1000) ∙ sym (ap (λ (x : ℕ). x * 1000) e)))))

parts-positive : (j : ℕ) → 0 < j → j < 2 ^ 53 → T (positive (parts j))
parts-positive j h l = positive_of_value (parts j) j 4096 (parts-value j l) h

thousandth-positive : (n : ℕ) → 1 ≤ n → n ≤ 2 ^ 32 → T (positive (thousandth n))
thousandth-positive n lo hi =
    let l : n ≤ 2 ^ 53 = omega arith in
    between (parts 1) (thousandth n) (parts (5 * n)) (parts-positive 1 (lit< tt) (lit< tt)) (parts-positive (5 * n) (omega arith) (omega arith))
    (over n 1 4096 lo l (lit< tt) (omega arith)) (under n (5 * n) 4096 lo l (lit< tt) (omega arith))

pub thousandth-rises : (n m : ℕ) → 1 ≤ n → n < m → m ≤ 2 ^ 32 → lt (thousandth n) (thousandth m) ≡ true
thousandth-rises n m lo h hi =
    let j = n * 4096 / 1000 + 1 in
    let x = thousandth n in
    let y = thousandth m in
    let p : T (positive x) = thousandth-positive n lo (omega arith) in
    let q : T (positive y) = thousandth-positive m (omega arith) hi in
    let s : j + 1 < 2 ^ 53 = omega arith in
    let t : j < 2 ^ 53 = omega arith in
    less-float x y j p q
    (values_of_le x (parts j) (num x) (den x) j 4096 p (parts-positive j (omega arith) t) (own_value x p) (parts-value j t)
    (under n j 4096 lo (omega arith) (lit< tt) (omega arith)))
    (values_of_le (parts (j + 1)) y (j + 1) 4096 (num y) (den y) (parts-positive (j + 1) (omega arith) s) q (parts-value (j + 1) s) (own_value y q)
    (over m (j + 1) 4096 (omega arith) (omega arith) (lit< tt) (omega arith)))

-- ---- the sink's millimetres

module _ (table : List ℕ) (rule : Rule table) where
  pub sink-deeper : (reach d e : ℕ) → 1 ≤ d → d < e → e < 256 → lt (sink_millimetres table reach d) (sink_millimetres table reach e) ≡ true
  sink-deeper reach d e lo h hi =
      thousandth-rises (sink_micrometres table reach d) (sink_micrometres table reach e) (least-sink table rule reach d lo (omega arith))
      (sink-rises table rule reach d e h hi) (le_trans (largest-sink table rule reach e hi) (lit≤ tt))

  pub single-cell-deepest : (reach d : ℕ) → 1 ≤ d → d < 256 → T (le (sink_millimetres table reach d) (sink_millimetres table 0 d))
  single-cell-deepest reach d lo hi =
      thousandth-keeps (sink_micrometres table reach d) (sink_micrometres table 0 d) (least-sink table rule reach d lo hi)
      (sink-most table reach d) (le_trans (largest-sink table rule 0 d hi) (lit≤ tt))
