-- Laws of tables of turns: where no entry turns a status into itself, a status that stays is one that is not named.
use mathlib.Core.Path.{◌≡◌, refl, sym, ◌∙◌}
use mathlib.Core.Bool.{Bool, true, false, cond, true≢false}
use mathlib.Core.List.{List, [], ◌∷◌}
use Prim.Native.Nat.{ℕ}
use lib.Dec.{eqb}
use borrow.Author.Tests.{eqb-true, eqb-false}
use Rattle.port.specs.Machine.{Turn, about, named, turned, commands, events}

-- each entry turns a status into another
abbrev pub Moving : List Turn → Type 0
Moving [] = Unit {0}
Moving (t ∷ more) = (eqb t.into t.from ≡ false) × Moving more

pub commands-move : Moving commands
commands-move = (refl, (refl, (refl, (refl, tt))))

pub events-move : Moving events
events-move = (refl, (refl, tt))

-- an entry that is about an input in a status names both
pub about-both : (s n : ℕ) (t : Turn) → about s n t ≡ true → (n ≡ t.input) × (s ≡ t.from)
about-both s n t e = go (eqb n t.input) refl e
  where
    go : (b : Bool) → eqb n t.input ≡ b → cond b (eqb s t.from) false ≡ true → (n ≡ t.input) × (s ≡ t.from)
    go true q e = (eqb-true n t.input q, eqb-true s t.from e)
    go false q e = absurd (true≢false (sym e))

pub stays : (table : List Turn) → Moving table → (s n : ℕ) → turned table s n ≡ s → named table s n ≡ false
stays [] m s n e = refl
stays (t ∷ more) m s n e = go (about s n t) refl e (stays more m.1 s n)
  where
    go : (b : Bool) → about s n t ≡ b → cond b t.into (turned more s n) ≡ s → (turned more s n ≡ s → named more s n ≡ false)
        → cond b true (named more s n) ≡ false
    go true q e later = absurd (eqb-false t.into t.from m.0 (e ∙ (about-both s n t q).1))
    go false q e later = later e

pub turns : (table : List Turn) (s n : ℕ) → (turned table s n ≡ s → ⊥) → named table s n ≡ true
turns [] s n ne = absurd (ne refl)
turns (t ∷ more) s n ne = go (about s n t) ne (turns more s n)
  where
    go : (b : Bool) → (cond b t.into (turned more s n) ≡ s → ⊥) → ((turned more s n ≡ s → ⊥) → named more s n ≡ true)
        → cond b true (named more s n) ≡ true
    go true ne later = refl
    go false ne later = later ne
