-- What buffers hold at exit, byte for byte: the definitions `written`, `free` and `Worked` pinned down.
use Rattle.std.specs.Prelude.{Ok, Err}
use mathlib.Core.Path.{◌≡◌, refl, sym, ap, ◌∙◌}
use mathlib.Core.Bool.{true, false}
use mathlib.Core.List.{List, [], ◌∷◌, map}
use Prim.Native.Nat.{ℕ, ◌+◌}
use lib.ListN.{length, take, drop, get_or}
use lib.Seq.{take-append_seam, drop-append_seam, get_or-drop}
use Rattle.refusal.specs.declared.Refusal.{Refusal}
use Rattle.refusal.specs.Refusals.{written, free, Worked}
use Rattle.refusal.proofs.Refusals.{refused}
use Rattle.refusal.specs.Refusals.{Verdict}

-- an output: the answer's bytes, then those that stood there; on a refusal all of them
module _ (new old : List ℕ) where
  pub written-past : drop (length new) (written (Ok tt) new old) ≡ drop (length new) old
  written-past = drop-append_seam new (drop (length new) old)

  pub written-first : take (length new) (written (Ok tt) new old) ≡ new
  written-first = take-append_seam new (drop (length new) old)

  pub written-refused : (r : Refusal) → written (Err r) new old ≡ old
  written-refused r = refl

-- work bytes are free after acceptance, 5 and 12, of the refusals 1 to 14
pub free-after : map free ((Ok tt) ∷ map refused (1 ∷ 2 ∷ 3 ∷ 4 ∷ 5 ∷ 6 ∷ 7 ∷ 8 ∷ 9 ∷ 10 ∷ 11 ∷ 12 ∷ 13 ∷ 14 ∷ []))
    ≡ true ∷ false ∷ false ∷ false ∷ false ∷ true ∷ false ∷ false ∷ false ∷ false ∷ false ∷ false ∷ true ∷ false ∷ false ∷ []
free-after = refl

-- a work buffer: each byte past the plate's stays, and after another refusal every byte
module _ (v : Verdict) (n : ℕ) (old now : List ℕ) (w : Worked v n old now) where
  pub worked-past : (i : ℕ) → get_or now (n + i) 0 ≡ get_or old (n + i) 0
  worked-past i = sym (get_or-drop n now i 0) ∙ ap (λ (l : List ℕ). get_or l i 0) w.surplus ∙ get_or-drop n old i 0

  pub worked-untouched : v ≡ refused 4 → now ≡ old
  worked-untouched e = w.kept (ap free e)
