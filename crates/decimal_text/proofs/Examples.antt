-- Some texts and some floats, and what the definitions make of them.
use Rattle.std.specs.Prelude.{Result, Ok, Err}
use mathlib.Core.Path.{◌≡◌, refl}
use mathlib.Core.Bool.{true, false}
use mathlib.Core.List.{List, [], ◌∷◌}
use Prim.Native.Nat.{ℕ}
use lib.IntN.{pos, negsuc}
use lib.Ieee.{Float, nan, fin, round, le, lt, is_nan, to_bits}
use Rattle.numerals.specs.Numerals.{numeral_within, numeral}
use Rattle.decimal.specs.declared.DecimalFault.{DecimalFault}
use Rattle.decimal.specs.declared.DecimalFault.TheVariants.{NotNumber, TooLong}
use Rattle.decimal.specs.Decimal.{unsigned_of, decimal_of}
use Rattle.decimal_text.specs.Digits.{parts_of, digits_from, shortest_digits}
use Rattle.decimal_text.specs.Text.{number_text}

-- each text beside what it denotes
abbrev AllDenote : List ((List ℕ) × Result Float DecimalFault) → Type 0
AllDenote [] = Unit {0}
AllDenote (c ∷ cs) = (decimal_of c.0 ≡ c.1) × AllDenote cs

-- "0.5", "12.75", "1000", "-1", "0.1", "-0", ".5", "5."; "", ".", "-", "1.2.3", "1e3", "+1"; sixteen digits
texts : AllDenote (
    (48 ∷ 46 ∷ 53 ∷ [], Ok (fin false 1 (negsuc 0))) ∷
    (49 ∷ 50 ∷ 46 ∷ 55 ∷ 53 ∷ [], Ok (fin false 51 (negsuc 1))) ∷
    (49 ∷ 48 ∷ 48 ∷ 48 ∷ [], Ok (fin false 125 (pos 3))) ∷
    (45 ∷ 49 ∷ [], Ok (fin true 1 (pos 0))) ∷
    (48 ∷ 46 ∷ 49 ∷ [], Ok (fin false 3602879701896397 (negsuc 54))) ∷
    (45 ∷ 48 ∷ [], Ok (fin true 0 (pos 0))) ∷
    (46 ∷ 53 ∷ [], Ok (fin false 1 (negsuc 0))) ∷
    (53 ∷ 46 ∷ [], Ok (fin false 5 (pos 0))) ∷
    ([], (Err NotNumber)) ∷
    (46 ∷ [], (Err NotNumber)) ∷
    (45 ∷ [], (Err NotNumber)) ∷
    (49 ∷ 46 ∷ 50 ∷ 46 ∷ 51 ∷ [], (Err NotNumber)) ∷
    (49 ∷ 101 ∷ 51 ∷ [], (Err NotNumber)) ∷
    (43 ∷ 49 ∷ [], (Err NotNumber)) ∷
    (48 ∷ 48 ∷ 48 ∷ 48 ∷ 48 ∷ 48 ∷ 48 ∷ 48 ∷ 48 ∷ 48 ∷ 48 ∷ 48 ∷ 48 ∷ 48 ∷ 48 ∷ 48 ∷ [], (Err TooLong)) ∷
    []
    )
unfolding unsigned_of round
texts = (refl, (refl, (refl, (refl, (refl, (refl, (refl, (refl, (refl, (refl, (refl, (refl, (refl, (refl, (refl, tt)))))))))))))))

-- each float beside its text
abbrev AllShow : List (Float × (List ℕ)) → Type 0
AllShow [] = Unit {0}
AllShow (c ∷ cs) = (number_text c.0 ≡ c.1) × AllShow cs

-- "0.5", "12.75", "1000", "0.1", "0.3333333333333333", "0.015625", "1048575.9999999999", "13.700000000000001";
-- "0.015", "0.001", "0.0009765625", "0.0019531249999999998";
-- "0x0000000000000000", "0xbff0000000000000", "0x4130000000000000", "0x3f4fffffffffffff", "nan"
floats : AllShow (
    (fin false 1 (negsuc 0), 48 ∷ 46 ∷ 53 ∷ []) ∷
    (fin false 51 (negsuc 1), 49 ∷ 50 ∷ 46 ∷ 55 ∷ 53 ∷ []) ∷
    (fin false 125 (pos 3), 49 ∷ 48 ∷ 48 ∷ 48 ∷ []) ∷
    (fin false 3602879701896397 (negsuc 54), 48 ∷ 46 ∷ 49 ∷ []) ∷
    (fin false 6004799503160661 (negsuc 53), 48 ∷ 46 ∷ 51 ∷ 51 ∷ 51 ∷ 51 ∷ 51 ∷ 51 ∷ 51 ∷ 51 ∷ 51 ∷ 51 ∷ 51 ∷ 51 ∷ 51 ∷ 51 ∷ 51 ∷ 51 ∷ []) ∷
    (fin false 1 (negsuc 5), 48 ∷ 46 ∷ 48 ∷ 49 ∷ 53 ∷ 54 ∷ 50 ∷ 53 ∷ []) ∷
    (fin false 9007199254740991 (negsuc 32), 49 ∷ 48 ∷ 52 ∷ 56 ∷ 53 ∷ 55 ∷ 53 ∷ 46 ∷ 57 ∷ 57 ∷ 57 ∷ 57 ∷ 57 ∷ 57 ∷ 57 ∷ 57 ∷ 57 ∷ 57 ∷ []) ∷
    (fin false 7712414361871975 (negsuc 48), 49 ∷ 51 ∷ 46 ∷ 55 ∷ 48 ∷ 48 ∷ 48 ∷ 48 ∷ 48 ∷ 48 ∷ 48 ∷ 48 ∷ 48 ∷ 48 ∷ 48 ∷ 48 ∷ 48 ∷ 49 ∷ []) ∷
    (fin false 1080863910568919 (negsuc 55), 48 ∷ 46 ∷ 48 ∷ 49 ∷ 53 ∷ []) ∷
    (fin false 1152921504606847 (negsuc 59), 48 ∷ 46 ∷ 48 ∷ 48 ∷ 49 ∷ []) ∷
    (fin false 1 (negsuc 9), 48 ∷ 46 ∷ 48 ∷ 48 ∷ 48 ∷ 57 ∷ 55 ∷ 54 ∷ 53 ∷ 54 ∷ 50 ∷ 53 ∷ []) ∷
    (fin false 9007199254740991 (negsuc 61), 48 ∷ 46 ∷ 48 ∷ 48 ∷ 49 ∷ 57 ∷ 53 ∷ 51 ∷ 49 ∷ 50 ∷ 52 ∷ 57 ∷ 57 ∷ 57 ∷ 57 ∷ 57 ∷ 57 ∷ 57 ∷ 57 ∷ 57 ∷ 56 ∷ []) ∷
    (fin false 0 (pos 0), 48 ∷ 120 ∷ 48 ∷ 48 ∷ 48 ∷ 48 ∷ 48 ∷ 48 ∷ 48 ∷ 48 ∷ 48 ∷ 48 ∷ 48 ∷ 48 ∷ 48 ∷ 48 ∷ 48 ∷ 48 ∷ []) ∷
    (fin true 1 (pos 0), 48 ∷ 120 ∷ 98 ∷ 102 ∷ 102 ∷ 48 ∷ 48 ∷ 48 ∷ 48 ∷ 48 ∷ 48 ∷ 48 ∷ 48 ∷ 48 ∷ 48 ∷ 48 ∷ 48 ∷ 48 ∷ []) ∷
    (fin false 1 (pos 20), 48 ∷ 120 ∷ 52 ∷ 49 ∷ 51 ∷ 48 ∷ 48 ∷ 48 ∷ 48 ∷ 48 ∷ 48 ∷ 48 ∷ 48 ∷ 48 ∷ 48 ∷ 48 ∷ 48 ∷ 48 ∷ []) ∷
    (fin false 9007199254740991 (negsuc 62), 48 ∷ 120 ∷ 51 ∷ 102 ∷ 52 ∷ 102 ∷ 102 ∷ 102 ∷ 102 ∷ 102 ∷ 102 ∷ 102 ∷ 102 ∷ 102 ∷ 102 ∷ 102 ∷ 102 ∷ 102 ∷ []) ∷
    (nan, 110 ∷ 97 ∷ 110 ∷ []) ∷
    []
    )
unfolding number_text parts_of digits_from shortest_digits numeral_within numeral le lt is_nan to_bits
floats =
    (refl, (refl, (refl, (refl, (refl, (refl, (refl, (refl, (refl, (refl, (refl, (refl, (refl, (refl, (refl, (refl, (refl, tt)))))))))))))))))
