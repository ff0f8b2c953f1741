-- To be believed: what the C calls hand back: a struct of numbers, tied to the answer that the inner call's contract describes.
-- A refusal's number is 0 where nothing is refused.
use Rattle.std.specs.Prelude.{◌≡◌, Result, Ok, Err}
use Rattle.c_answers.specs.declared.HaruAnswer.{HaruAnswer}
use Rattle.geometry.specs.declared.Clearance.{Clearance}
use Rattle.refusal.specs.declared.Refusal.{Refusal}
use Prim.Native.Nat.{ℕ}
use Rattle.refusal.specs.Refusals.{Verdict}

abbrev pub of_verdict : Verdict → HaruAnswer
of_verdict (Ok _) = record { number = 0; value = 0; place = 0 }
of_verdict (Err r) = record { number = r.number; value = 0; place = r.place }

abbrev pub of_cell : Result Clearance Refusal → HaruAnswer
of_cell (Ok c) = record { number = 0; value = c.0; place = 0 }
of_cell (Err r) = record { number = r.number; value = 0; place = r.place }

abbrev pub of_volume : Result ℕ Refusal → HaruAnswer
of_volume (Ok v) = record { number = 0; value = v; place = 0 }
of_volume (Err r) = record { number = r.number; value = 0; place = r.place }

-- the inner call's promise holds of a verdict, and the struct says that verdict
abbrev pub Told : (Verdict → Type 0) → HaruAnswer → Type 0
Told P r = (v : Verdict) × P v × (r ≡ of_verdict v)
