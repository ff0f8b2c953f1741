-- The quotient of two whole numbers that are floats exactly rounds once, and a negative number is its size turned round.
use Rattle.std.proofs.Common.{◌≡◌, ℕ, zero, suc, ◌+◌, ◌*◌, ◌^◌, ◌<◌, ◌≤◌, Bool, true, false, cond, not, ltb, ℤ, pos, sym, refl, ap, ◌∙◌, true≢false, le_trans, mul_assoc, mul_comm, mul-pos, zero-mul, mul-one, mul_left_comm, arith, lit≤, ne_eqb}
use lib.Ieee.{Float, nan, inf, fin, Format, binary64, prec, emax, low, up, down, odd, units, round, neg, div, of_int}
use lib.Ieee.Fits.{round_is, down_pos}
use lib.Ieee.Exact.{HasValue}
use lib.Ieee.Back.{round_whole}
use lib.Ieee.Scale.{round_same}

neg-odd : (d : ℕ) (s : Bool) (q k l : ℕ) → neg (odd d s q k l) ≡ odd d (not s) q k l
unfolding neg odd
neg-odd d s zero k l = refl
neg-odd d s (suc q) k l = refl

neg-cond : (b : Bool) (x : Float) (s : Bool) → neg (cond b x (inf s)) ≡ cond b (neg x) (inf (not s))
unfolding neg
neg-cond true x s = refl
neg-cond false x s = refl

neg-units : (f : Format) (s : Bool) (q k : ℕ) → neg (units f s q k) ≡ units f (not s) q k
unfolding units
neg-units f s q k =
    neg-cond (ltb (q * 2 ^ k) (2 ^ (low f + suc (emax f)))) (odd (suc (prec f)) s q k (low f)) s
    ∙ ap (λ (x : Float). cond (ltb (q * 2 ^ k) (2 ^ (low f + suc (emax f)))) x (inf (not s))) (neg-odd (suc (prec f)) s q k (low f))

pub neg-round : (f : Format) (s : Bool) (a c : ℕ) → neg (round f s a c) ≡ round f (not s) a c
neg-round f s a c = ap neg (round_is f s a c) ∙ neg-units f s _ _ ∙ sym (round_is f (not s) a c)

not-zero : (n : ℕ) (g : ℤ) (b : ℕ) → 0 < b → n * up g ≡ b * down g → n ≡ 0 → ⊥
not-zero n g b B q z =
    let e : b * down g ≡ 0 = sym q ∙ ap (λ (x : ℕ). x * up g) z ∙ zero-mul (up g) in
    let l : 0 < b * down g = mul-pos B (down_pos g) in
    omega arith

crossed : (a b m e n g u v : ℕ) → m * u ≡ a * e → n * v ≡ b * g → m * u * g * b ≡ a * (n * v * e)
crossed a b m e n g u v p q = rw (p, q) (simp (mul_assoc, mul_comm, mul_left_comm))

div-values : (f : Format) (x y : Float) (a b : ℕ) → 0 < b → HasValue x false a 1 → HasValue y false b 1 → div f x y ≡ round f false a b
unfolding div
div-values f nan y a b B h k = absurd h
div-values f (inf s) y a b B h k = absurd h
div-values f (fin true m e) y a b B h k = absurd (true≢false h.0)
div-values f (fin false m e) nan a b B h k = absurd k
div-values f (fin false m e) (inf t) a b B h k = absurd k
div-values f (fin false m e) (fin true n g) a b B h k = absurd (true≢false k.0)
div-values f (fin false m e) (fin false n g) a b B h k =
    let p : m * up e ≡ a * down e = sym (mul-one (m * up e)) ∙ h.1 in
    let q : n * up g ≡ b * down g = sym (mul-one (n * up g)) ∙ k.1 in
    rw (ne_eqb n 0 (not-zero n g b B q))
    (round_same f false (m * up e * down g) (n * up g * down e) a b (rw q (mul-pos (mul-pos B (down_pos g)) (down_pos e))) B
    (crossed a b m (down e) n (down g) (up e) (up g) p q))

pub quotient_is : (a b : ℕ) → a ≤ 10 ^ 15 → 0 < b → b ≤ 10 ^ 15 → div binary64 (of_int binary64 (pos a)) (of_int binary64 (pos b)) ≡ round binary64 false a b
unfolding of_int
quotient_is a b h B k =
    div-values binary64 (round binary64 false a 1) (round binary64 false b 1) a b B
    (round_whole binary64 false a (le_trans h (lit≤ tt)))
    (round_whole binary64 false b (le_trans k (lit≤ tt)))

-- its size, and with a sign
pub quotient-of : (n : Bool) (a b : ℕ) (x y : Float) → n ≡ false → (a ≤ 10 ^ 15) × (0 < b) × (b ≤ 10 ^ 15) → x ≡ of_int binary64 (pos a)
    → y ≡ of_int binary64 (pos b)
    → div binary64 x y ≡ round binary64 n a b
quotient-of n a b x y e h p q = rw (p, q, e) (quotient_is a b h.0 h.1 h.2)

pub negative_of : (n : Bool) (a b : ℕ) (x y : Float) → n ≡ true → (a ≤ 10 ^ 15) × (0 < b) × (b ≤ 10 ^ 15) → x ≡ of_int binary64 (pos a)
    → y ≡ of_int binary64 (pos b)
    → neg (div binary64 x y) ≡ round binary64 n a b
negative_of n a b x y e h p q = rw (p, q, e, quotient_is a b h.0 h.1 h.2) (neg-round binary64 false a b)
