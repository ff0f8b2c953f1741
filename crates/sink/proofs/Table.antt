-- The built-in table, number by number: it is its formula's, and one computed test over all of it says that no entry breaks the rule of tables.
use mathlib.Core.Path.{◌≡◌, refl, sym, ap, subst, ◌∙◌}
use mathlib.Core.Bool.{Bool, not}
use mathlib.Core.List.{List, [], ◌∷◌}
use Prim.Native.Nat.{ℕ, ◌<◌}
use lib.Dec.{eqb, eqb→eq}
use lib.ListN.{get_or}
use Rattle.sink.specs.Sink.{micrometres, built_in}
use Rattle.sink.specs.Rule.{Rule, breaks_rule}
use Rattle.sink.proofs.Entries.{at}
use Rattle.sink.proofs.Rule.{rule-of-test}

-- the numbers of the code's array
abbrev pub table : List ℕ
table =
    0 ∷ 20 ∷ 40 ∷ 60 ∷ 80 ∷ 100 ∷ 120 ∷ 140 ∷ 161 ∷ 181 ∷ 201 ∷ 221 ∷ 242 ∷ 262 ∷ 283 ∷ 303 ∷
    324 ∷ 344 ∷ 365 ∷ 385 ∷ 406 ∷ 426 ∷ 447 ∷ 468 ∷ 489 ∷ 509 ∷ 530 ∷ 551 ∷ 572 ∷ 593 ∷ 614 ∷ 635 ∷
    656 ∷ 677 ∷ 698 ∷ 719 ∷ 740 ∷ 761 ∷ 782 ∷ 803 ∷ 825 ∷ 846 ∷ 867 ∷ 888 ∷ 910 ∷ 931 ∷ 953 ∷ 974 ∷
    996 ∷ 1017 ∷ 1039 ∷ 1060 ∷ 1082 ∷ 1103 ∷ 1125 ∷ 1147 ∷ 1169 ∷ 1190 ∷ 1212 ∷ 1234 ∷ 1256 ∷ 1278 ∷ 1300 ∷ 1322 ∷
    1344 ∷ 1366 ∷ 1388 ∷ 1410 ∷ 1432 ∷ 1454 ∷ 1476 ∷ 1498 ∷ 1521 ∷ 1543 ∷ 1565 ∷ 1587 ∷ 1610 ∷ 1632 ∷ 1655 ∷ 1677 ∷
    1700 ∷ 1722 ∷ 1745 ∷ 1767 ∷ 1790 ∷ 1812 ∷ 1835 ∷ 1858 ∷ 1881 ∷ 1903 ∷ 1926 ∷ 1949 ∷ 1972 ∷ 1995 ∷ 2018 ∷ 2041 ∷
    2064 ∷ 2087 ∷ 2110 ∷ 2133 ∷ 2156 ∷ 2179 ∷ 2202 ∷ 2225 ∷ 2249 ∷ 2272 ∷ 2295 ∷ 2318 ∷ 2342 ∷ 2365 ∷ 2389 ∷ 2412 ∷
    2436 ∷ 2459 ∷ 2483 ∷ 2506 ∷ 2530 ∷ 2553 ∷ 2577 ∷ 2601 ∷ 2625 ∷ 2648 ∷ 2672 ∷ 2696 ∷ 2720 ∷ 2744 ∷ 2768 ∷ 2792 ∷
    2816 ∷ 2840 ∷ 2864 ∷ 2888 ∷ 2912 ∷ 2936 ∷ 2960 ∷ 2984 ∷ 3009 ∷ 3033 ∷ 3057 ∷ 3081 ∷ 3106 ∷ 3130 ∷ 3155 ∷ 3179 ∷
    3204 ∷ 3228 ∷ 3253 ∷ 3277 ∷ 3302 ∷ 3326 ∷ 3351 ∷ 3376 ∷ 3401 ∷ 3425 ∷ 3450 ∷ 3475 ∷ 3500 ∷ 3525 ∷ 3550 ∷ 3575 ∷
    3600 ∷ 3625 ∷ 3650 ∷ 3675 ∷ 3700 ∷ 3725 ∷ 3750 ∷ 3775 ∷ 3801 ∷ 3826 ∷ 3851 ∷ 3876 ∷ 3902 ∷ 3927 ∷ 3953 ∷ 3978 ∷
    4004 ∷ 4029 ∷ 4055 ∷ 4080 ∷ 4106 ∷ 4131 ∷ 4157 ∷ 4183 ∷ 4209 ∷ 4234 ∷ 4260 ∷ 4286 ∷ 4312 ∷ 4338 ∷ 4364 ∷ 4390 ∷
    4416 ∷ 4442 ∷ 4468 ∷ 4494 ∷ 4520 ∷ 4546 ∷ 4572 ∷ 4598 ∷ 4625 ∷ 4651 ∷ 4677 ∷ 4703 ∷ 4730 ∷ 4756 ∷ 4783 ∷ 4809 ∷
    4836 ∷ 4862 ∷ 4889 ∷ 4915 ∷ 4942 ∷ 4968 ∷ 4995 ∷ 5022 ∷ 5049 ∷ 5075 ∷ 5102 ∷ 5129 ∷ 5156 ∷ 5183 ∷ 5210 ∷ 5237 ∷
    5264 ∷ 5291 ∷ 5318 ∷ 5345 ∷ 5372 ∷ 5399 ∷ 5426 ∷ 5453 ∷ 5481 ∷ 5508 ∷ 5535 ∷ 5562 ∷ 5590 ∷ 5617 ∷ 5645 ∷ 5672 ∷
    5700 ∷ 5727 ∷ 5755 ∷ 5782 ∷ 5810 ∷ 5837 ∷ 5865 ∷ 5893 ∷ 5921 ∷ 5948 ∷ 5976 ∷ 6004 ∷ 6032 ∷ 6060 ∷ 6088 ∷ 6116 ∷ []

-- "entry d being 20·d plus d·d/64 rounded down"
abbrev right : ℕ → ℕ → Bool
right d x = eqb x (micrometres d)

pub entry : (d : ℕ) → d < 256 → get_or table d 0 ≡ micrometres d
entry d h = eqb→eq (get_or table d 0) (micrometres d) (at right table tt d h)

pub table_is : table ≡ built_in
unfolding built_in
table_is = refl

pub built-in-entry : (d : ℕ) → d < 256 → get_or built_in d 0 ≡ micrometres d
built-in-entry d h = ap (λ (t : List ℕ). get_or t d 0) (sym table_is) ∙ entry d h

-- "strictly rising", from 0, and none above the largest
pub built-in-rule : Rule built_in
built-in-rule = subst Rule table_is (rule-of-test table (at (λ i x. not (breaks_rule table i)) table tt))
