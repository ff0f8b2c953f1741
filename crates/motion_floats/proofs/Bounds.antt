-- Every number of a motion lies from 2^-10 to below 2^20, so that it is printed as the shortest decimal. The law holds for every sink table that
-- keeps the rule, reaches below 512, and columns and rows below 1024; those of a readable file are less.
use mathlib.Core.Path.{◌≡◌, refl, sym, ap, ◌∙◌, subst}
use mathlib.Core.Bool.{Bool, true, false, cond, ◌||◌, true≢false}
use mathlib.Core.List.{List}
use Prim.Native.Nat.{ℕ, zero, suc, ◌+◌, ◌-◌, ◌*◌, ◌^◌, ◌≤◌, ◌<◌}
use native.Mathlib.Nat.{zero-lt-suc, mul-pos, mul_comm, mul_assoc, mul_right_comm, mul-le-mul_right, le_trans, le_of_eq, zero-mul}
use native.Mathlib.Omega.{arith}
use borrow.Author.Tests.{lt-ltb}
use lib.Dec.{T, eqb, eqb→eq, ltb→lt, lt→ltb, lit≤, lit<}
use lib.IntN.{ℤ, pos, negsuc}
use lib.Ieee.{Float, nan, inf, fin, binary64, up, down, round, sum, mul, add, div, le, lt, of_int}
use lib.Ieee.Fits.{up_pos, down_pos, and_l}
use lib.Ieee.Exact.{HasValue}
use lib.Ieee.Back.{round_whole}
use lib.Ieee.Order.{round_mono}
use lib.Ieee.Positive.{num, den, positive, den_pos, own_value, value→cross, positive_of_value, le→cross, cross→le, values_of_le, between, mul_at}
use Rattle.geometry.specs.declared.Plunge.{Plunge}
use Rattle.sink.specs.Sink.{sink_micrometres, whole, sink_millimetres}
use Rattle.sink.specs.Rule.{Rule}
use Rattle.sink.proofs.Sinks.{least-sink, largest-sink}
use Rattle.motion_floats.specs.declared.Scale.{Scale}
use Rattle.motion_floats.specs.declared.Motion.{Motion}
use Rattle.motion_floats.specs.declared.Motion.TheVariants.{Change, Stay, Travel, Sink}
use Rattle.motion_floats.specs.Floats.{within, sixteenth, scale_in_range, change_width, travel_to, motions_of}

-- from 2^-10 to below 2^20: the range of `decimal_text/Text: in_decimal_range`
abbrev pub printable : Float → Bool
printable x = cond (le (fin false 1 (negsuc 9)) x) (lt x (fin false 1 (pos 20))) false

-- ---- tests

both : (a b : Bool) → cond a b false ≡ true → (a ≡ true) × (b ≡ true)
both true b e = (refl, e)
both false b e = absurd (true≢false (sym e))

passed : (b : Bool) → T b → b ≡ true
passed true t = refl
passed false t = absurd t

test : (b : Bool) → b ≡ true → T b
test true e = tt
test false e = absurd (true≢false (sym e))

-- ---- a float above zero from 1/1024 to h

abbrev Between : ℕ → Float → Type 0
Between h z = T (positive z) × (den z ≤ num z * 1024) × (num z ≤ h * den z)

abbrev least : Float
least = fin false 1 (negsuc 9)

least-is : round binary64 false 1 1024 ≡ least
unfolding round
least-is = refl

rounded : (h a c : ℕ) → 0 < h → h ≤ 2 ^ 53 → 0 < c → c ≤ a * 1024 → a ≤ h * c → Between h (round binary64 false a c)
rounded h a c H H' C lo hi =
    let z = round binary64 false a c in
    let top = round binary64 false h 1 in
    let v : HasValue top false h 1 = round_whole binary64 false h H' in
    let q : T (positive top) = positive_of_value top h 1 v H in
    let from : T (le least z) = subst (λ (x : Float). T (le x z)) least-is (round_mono binary64 1 1024 a c (lit< tt) C (omega arith)) in
    let to : T (le z top) = round_mono binary64 a c h 1 C (lit< tt) (omega arith) in
    let p : T (positive z) = between least z top tt q from to in
    let f : num least * den z ≤ num z * den least = le→cross least z tt p from in
    let t : num z * 1 ≤ h * den z = values_of_le z top (num z) (den z) h 1 p q (own_value z p) v to in
    (p, omega arith, omega arith)

under : (m : ℕ) (e : ℤ) → m * up e * 1 < 2 ^ 20 * down e → lt (fin false m e) (fin false 1 (pos 20)) ≡ true
unfolding lt
under m e h = lt-ltb (m * up e * 1) (2 ^ 20 * down e) h

small : (n c h : ℕ) → 0 < c → h < 2 ^ 20 → n ≤ h * c → n * 1 < 2 ^ 20 * c
small n c h C H l = let g : h * c ≤ 1048575 * c = mul-le-mul_right c (omega arith) in omega arith

between-printable : (h : ℕ) (z : Float) → h < 2 ^ 20 → Between h z → printable z ≡ true
between-printable h nan H b = absurd b.0
between-printable h (inf s) H b = absurd b.0
between-printable h (fin true m e) H b = absurd b.0
between-printable h (fin false m e) H b =
    rw (passed (le least (fin false m e)) (cross→le least (fin false m e) tt b.0 (omega (arith, b.1))))
    (under m e (small (m * up e) (down e) h (down_pos e) H b.2))

-- ---- a whole number

pub whole-value : (n : ℕ) → n ≤ 2 ^ 53 → HasValue (whole n) false n 1
unfolding of_int
whole-value n h = round_whole binary64 false n h

-- ---- a whole number times the half pitch

sixteenth-is : sixteenth ≡ fin false 1 (negsuc 3)
unfolding of_int div
sixteenth-is = refl

four_is : whole 4 ≡ fin false 1 (pos 2)
unfolding of_int
four_is = refl

pitch : (p : Float) → within sixteenth (whole 4) p ≡ true → T (positive p) × (den p ≤ num p * 16) × (num p ≤ 4 * den p)
pitch p e =
    let w = both (le sixteenth p) (le p (whole 4)) e in
    let lo = fin false 1 (negsuc 3) in
    let hi = fin false 1 (pos 2) in
    let from : T (le lo p) = subst (λ (x : Float). T (le x p)) sixteenth-is (test (le sixteenth p) w.0) in
    let to : T (le p hi) = subst (λ (x : Float). T (le p x)) four_is (test (le p (whole 4)) w.1) in
    let q : T (positive p) = between lo p hi tt tt from to in
    (q, omega (arith, le→cross lo p tt q from), omega (arith, le→cross p hi q tt to))

times : (k n c : ℕ) → 1 ≤ k → k ≤ 2047 → c ≤ n * 16 → n ≤ 4 * c → (1 * c ≤ k * n * 1024) × (k * n ≤ 8188 * (1 * c))
times k n c K K' lo hi =
    let a : 1 * n ≤ k * n = mul-le-mul_right n K in
    let b : k * n ≤ 2047 * n = mul-le-mul_right n K' in
    (omega arith, omega arith)

one-pos : (c : ℕ) → 0 < c → 0 < 1 * c
one-pos c h = omega arith

product : (k : ℕ) (p : Float) → 1 ≤ k → k ≤ 2047 → within sixteenth (whole 4) p ≡ true → Between 8188 (mul binary64 (whole k) p)
product k p K K' e =
    let w = pitch p e in
    let v : HasValue (whole k) false k 1 = whole-value k (omega arith) in
    let t = times k (num p) (den p) K K' w.1 w.2 in
    subst (λ (z : Float). Between 8188 z) (sym
    (mul_at binary64 (whole k) p k 1 (num p) (den p) (positive_of_value (whole k) k 1 v K) w.0 (lit< tt) (den_pos p) v (own_value p w.0)))
    (rounded 8188 (k * num p) (1 * den p) (lit< tt) (lit≤ tt) (one-pos (den p) (den_pos p)) t.0 t.1)

-- ---- an offset plus a product

nothing_is : whole 0 ≡ fin false 0 (pos 0)
unfolding of_int
nothing_is = refl

thousand-is : whole 1000 ≡ fin false 125 (pos 3)
unfolding of_int
thousand-is = refl

offset-most : (m : ℕ) (e : ℤ) → T (le (fin false m e) (fin false 125 (pos 3))) → m * up e ≤ 1000 * down e
offset-most zero e t = omega arith
offset-most (suc m) e t = omega (arith, le→cross (fin false (suc m) e) (fin false 125 (pos 3)) (lt→ltb 0 (suc m) (zero-lt-suc m)) tt t)

-- −0.0 is the one offset below zero
offset-zero : (m : ℕ) (e : ℤ) → T (le (fin false 0 (pos 0)) (fin true m e)) → m * up e ≡ 0
unfolding le
offset-zero m e t = omega (arith, eqb→eq (0 * down e) (m * up e * 1) (and_l (eqb (0 * down e) (m * up e * 1)) (false || eqb (0 * down e) 0) t))

plus : (m n e d : ℕ) → m ≤ 1000 * e → d ≤ n * 1024 → n ≤ 8188 * d → (e * d ≤ (m * d + n * e) * 1024) × (m * d + n * e ≤ 16384 * (e * d))
plus m n e d h lo hi =
    let a : m * d ≤ 1000 * (e * d) = le_trans (mul-le-mul_right d h) (le_of_eq (mul_assoc 1000 e d)) in
    let b : e * d ≤ n * e * 1024 = le_trans (le_of_eq (mul_comm e d)) (le_trans (mul-le-mul_right e lo) (le_of_eq (mul_right_comm n 1024 e))) in
    let c : n * e ≤ 8188 * (e * d) = le_trans (mul-le-mul_right e hi) (le_of_eq (mul_assoc 8188 d e ∙ ap (λ (x : ℕ). 8188 * x) (mul_comm d e))) in
    (omega arith, omega arith)

zero-sum : (a b c : ℕ) → a ≡ 0 → 0 < b → sum binary64 true a false b c ≡ round binary64 false (a + b) c
unfolding sum
zero-sum a b c e h =
    let l : a < b = omega arith in
    let s : b - a ≡ a + b = omega arith in
    rw (lt-ltb a b l) (ap (λ (x : ℕ). round binary64 false x c) s)

add_is : (m : ℕ) (e : ℤ) (n : ℕ) (d : ℤ) → add binary64 (fin false m e) (fin false n d) ≡ round binary64 false
    (m * up e * down d + n * up d * down e) (down e * down d)
unfolding add
add_is m e n d = refl

add-zero-is : (m : ℕ) (e : ℤ) (n : ℕ) (d : ℤ)
    → add binary64 (fin true m e) (fin false n d) ≡ sum binary64 true (m * up e * down d) false (n * up d * down e) (down e * down d)
unfolding add
add-zero-is m e n d = refl

rounded-sum : (m : ℕ) (e : ℤ) (n : ℕ) (d : ℤ) → m * up e ≤ 1000 * down e → Between 8188 (fin false n d)
    → Between 16384 (round binary64 false (m * up e * down d + n * up d * down e) (down e * down d))
rounded-sum m e n d h b =
    let t = plus (m * up e) (n * up d) (down e) (down d) h b.1 b.2 in
    rounded 16384 (m * up e * down d + n * up d * down e) (down e * down d) (lit< tt) (lit≤ tt) (mul-pos (down_pos e) (down_pos d)) t.0 t.1

nought : (m d : ℕ) → m ≡ 0 → m * d ≡ 0
nought m d e = rw (e, zero-mul d)

low-enough : (m c : ℕ) → m ≡ 0 → m ≤ 1000 * c
low-enough m c e = omega arith

offset-plus : (x z : Float) → T (le (fin false 0 (pos 0)) x) → T (le x (fin false 125 (pos 3))) → Between 8188 z → Between 16384 (add binary64 x z)
unfolding le
offset-plus x nan f t b = absurd b.0
offset-plus x (inf s) f t b = absurd b.0
offset-plus x (fin true n d) f t b = absurd b.0
offset-plus nan (fin false n d) f t b = absurd f
offset-plus (inf true) (fin false n d) f t b = absurd f
offset-plus (inf false) (fin false n d) f t b = absurd t
offset-plus (fin false m e) (fin false n d) f t b = subst (λ (z : Float). Between 16384 z) (sym (add_is m e n d)) (rounded-sum m e n d (offset-most m e t) b)
offset-plus (fin true m e) (fin false n d) f t b =
    let z : m * up e ≡ 0 = offset-zero m e f in
    let p : 0 < n * up d = mul-pos (ltb→lt 0 n b.0) (up_pos d) in
    subst (λ (z : Float). Between 16384 z) (sym
    (add-zero-is m e n d ∙ zero-sum (m * up e * down d) (n * up d * down e) (down e * down d) (nought (m * up e) (down d) z)
    (mul-pos p (down_pos e))))
    (rounded-sum m e n d (low-enough (m * up e) (down e) z) b)

-- ---- a whole number of micrometres in millimetres

div_is : (x : Float) → T (positive x) → div binary64 x (fin false 125 (pos 3)) ≡ round binary64 false (num x * 1) (1000 * den x)
unfolding div
div_is nan p = absurd p
div_is (inf s) p = absurd p
div_is (fin true m e) p = absurd p
div_is (fin false m e) p = refl

thousandth : (n a c : ℕ) → 1 ≤ n → n ≤ 55000 → a * 1 ≡ n * c → (1000 * c ≤ a * 1 * 1024) × (a * 1 ≤ 55 * (1000 * c))
thousandth n a c lo hi e =
    let f : 1 * c ≤ n * c = mul-le-mul_right c lo in
    let t : n * c ≤ 55000 * c = mul-le-mul_right c hi in
    (omega arith, omega arith)

pub thousand-pos : (c : ℕ) → 0 < c → 0 < 1000 * c
thousand-pos c h = omega arith

-- what is rounded: the number's own fraction over 1000
pub thousandths : (n : ℕ) → 1 ≤ n → n ≤ 2 ^ 53
    → div binary64 (whole n) (whole 1000) ≡ round binary64 false (num (whole n) * 1) (1000 * den (whole n))
thousandths n lo hi =
    ap (λ (y : Float). div binary64 (whole n) y) thousand-is ∙ div_is (whole n) (positive_of_value (whole n) n 1 (whole-value n hi) lo)

quotient : (n : ℕ) → 1 ≤ n → n ≤ 55000 → Between 55 (div binary64 (whole n) (whole 1000))
quotient n lo hi =
    let l : n ≤ 2 ^ 53 = omega arith in
    let t = thousandth n (num (whole n)) (den (whole n)) lo hi (value→cross (whole n) n 1 (whole-value n l)) in
    subst (λ (z : Float). Between 55 z) (sym (thousandths n lo l))
    (rounded 55 (num (whole n) * 1) (1000 * den (whole n)) (lit< tt) (lit≤ tt) (thousand-pos (den (whole n)) (den_pos (whole n))) t.0 t.1)

-- ---- the motions

pub change-printable : (s : Scale) (reach : ℕ) → scale_in_range s ≡ true → reach < 512 → printable (change_width s reach) ≡ true
change-printable s reach e h =
    between-printable 8188 (change_width s reach) (lit< tt)
    (product (2 * (2 * reach + 1)) s.half_pitch (omega arith) (omega arith)
    (both (within sixteenth (whole 4) s.half_pitch)
    (cond (within (whole 0) (whole 1000) s.column_offset) (within (whole 0) (whole 1000) s.row_offset) false) e).0)

pub travel-printable : (p offset : Float) (cell : ℕ) → within sixteenth (whole 4) p ≡ true → within (whole 0) (whole 1000) offset ≡ true → cell < 1024
    → printable (travel_to p offset cell) ≡ true
travel-printable p offset cell e o h =
    let w = both (le (whole 0) offset) (le offset (whole 1000)) o in
    between-printable 16384 (travel_to p offset cell) (lit< tt)
    (offset-plus offset (mul binary64 (whole (2 * cell + 1)) p)
    (subst (λ (x : Float). T (le x offset)) nothing_is (test (le (whole 0) offset) w.0))
    (subst (λ (x : Float). T (le offset x)) thousand-is (test (le offset (whole 1000)) w.1))
    (product (2 * cell + 1) p (omega arith) (omega arith) e))

-- from one micrometre to 55 millimetres
pub sink-printable : (table : List ℕ) → Rule table → (reach d : ℕ) → 1 ≤ d → d < 256 → printable (sink_millimetres table reach d) ≡ true
sink-printable table rule reach d h l =
    between-printable 55 (sink_millimetres table reach d) (lit< tt)
    (quotient (sink_micrometres table reach d) (least-sink table rule reach d h l) (largest-sink table rule reach d l))

-- every number that a motion carries is printable
abbrev pub printable_motion : Motion → Bool
printable_motion (Change width) = printable width
printable_motion Stay = true
printable_motion (Travel x y) = cond (printable x) (printable y) false
printable_motion (Sink depth) = printable depth

pub motions-printable : (table : List ℕ) → Rule table → (s : Scale) (changed : Bool) (q : Plunge) → scale_in_range s ≡ true → q.reach.0 < 512
    → q.column < 1024 → q.row < 1024 → 1 ≤ q.depth → q.depth < 256
    → (printable_motion (motions_of table s changed q).first ≡ true) × (printable_motion (motions_of table s changed q).second ≡ true)
    × (printable_motion (motions_of table s changed q).third ≡ true)
motions-printable table rule s changed q e r x y d d' =
    let p = within sixteenth (whole 4) s.half_pitch in
    let c = within (whole 0) (whole 1000) s.column_offset in
    let o = within (whole 0) (whole 1000) s.row_offset in
    let w = both p (cond c o false) e in
    let v = both c o w.1 in (
      first changed (change-printable s q.reach.0 e r),
      rw (travel-printable s.half_pitch s.column_offset q.column w.0 v.0 x)
          (travel-printable s.half_pitch s.row_offset q.row w.0 v.1 y),
      sink-printable table rule q.reach.0 q.depth d d',
    )
  where
    first : (b : Bool) → printable (change_width s q.reach.0) ≡ true → printable_motion (cond b (Change (change_width s q.reach.0)) Stay) ≡ true
    first true h = h
    first false h = refl
