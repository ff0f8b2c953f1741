-- To be believed: the rule of a sink table (document 02, N6).
use Rattle.std.specs.Prelude.{◌≡◌, Bool, true, cond, not, List, ℕ, suc, ◌-◌, ◌≤◌, ◌<◌, eqb, leb, ltb, get_or}
use Rattle.sink.specs.Sink.{table_entries}

-- "none may exceed 50,000"
abbrev pub largest_entry : ℕ
largest_entry = 50000

-- "Entry 0 must be 0, each entry must be larger than the one before, and none may exceed 50,000."
pub record Rule (table : List ℕ) : Type 0 where
  pub first : get_or table 0 0 ≡ 0
  pub rises : (d : ℕ) → suc d < table_entries → get_or table d 0 < get_or table (suc d) 0
  pub most : (d : ℕ) → d < table_entries → get_or table d 0 ≤ largest_entry

-- entry number i breaks it: it exceeds 50,000, or is entry 0 and not 0, or is not larger than the one before
abbrev pub breaks_rule : List ℕ → ℕ → Bool
breaks_rule table i =
    cond (ltb largest_entry (get_or table i 0)) true
    (cond (eqb i 0) (not (eqb (get_or table i 0) 0)) (leb (get_or table i 0) (get_or table (i - 1) 0)))
