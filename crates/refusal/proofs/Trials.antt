-- Laws of trials in their order: the first met of two lists of them, and what it says that none is met.
use Rattle.std.specs.Prelude.{Ok, Err}
use mathlib.Core.Path.{◌≡◌, refl}
use mathlib.Core.Bool.{Bool, true, false, cond}
use mathlib.Core.List.{List, [], ◌∷◌, ◌++◌}
use Prim.Native.Nat.{ℕ}
use native.Mathlib.Omega.{arith}
use Rattle.refusal.specs.declared.Refusal.{Refusal}
use Rattle.refusal.specs.Refusals.{Trial, first_met}
use Rattle.refusal.specs.Refusals.{Verdict}

-- the second verdict, if the first refuses nothing
abbrev pub and_then : Verdict → Verdict → Verdict
and_then (Ok _) v = v
and_then (Err r) v = Err r

pub first-append : (ts us : List Trial) → first_met (ts ++ us) ≡ and_then (first_met ts) (first_met us)
first-append [] us = refl
first-append (t ∷ ts) us = go t.met (first-append ts us)
  where
    go : (b : Bool) → first_met (ts ++ us) ≡ and_then (first_met ts) (first_met us)
        → cond b (Err (record { number = t.number; place = t.place })) (first_met (ts ++ us))
        ≡ and_then (cond b (Err (record { number = t.number; place = t.place })) (first_met ts)) (first_met us)
    go true e = refl
    go false e = e

pub not-refused : (r : Refusal) → ◌≡◌ {A = Verdict} (Err r) (Ok tt) → ⊥
not-refused r e = let z : ◌≡◌ {A = ℕ} 0 1 = cc in omega arith

pub both-accepted : (u v : Verdict) → and_then u v ≡ Ok tt → (u ≡ Ok tt) × (v ≡ Ok tt)
both-accepted (Ok _) v e = (refl, e)
both-accepted (Err r) v e = absurd (not-refused r e)

-- a trial that refuses nothing, and those after it
pub cond-accepted : (b : Bool) (r : Refusal) (v : Verdict) → cond b (Err r) v ≡ Ok tt → (b ≡ false) × (v ≡ Ok tt)
cond-accepted true r v e = absurd (not-refused r e)
cond-accepted false r v e = (refl, e)
