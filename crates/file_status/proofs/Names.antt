-- A name is tried, and copied over zeros; what comes of it ends in a 0, as C asks.
use mathlib.Core.Path.{◌≡◌, refl, sym, ap, ◌∙◌}
use mathlib.Core.Bool.{Bool, true, false, cond, not, ◌||◌}
use mathlib.Core.List.{List, [], ◌∷◌, ◌++◌}
use Prim.Native.Nat.{ℕ, ◌+◌, ◌-◌, ◌≤◌, ◌<◌}
use native.Mathlib.Nat.{le_of_lt}
use native.Mathlib.Omega.{arith}
use borrow.Author.Tests.{lt-ltb, ltb-true, not-false}
use lib.Dec.{eqb, ltb}
use Rattle.std.specs.List.{list_any}
use lib.ListN.{length, get_or, drop, replicate, length-replicate, get_or-replicate, replicate-append-replicate}
use lib.Seq.{drop_at, get_or-append-add}
use Rattle.file_status.specs.Names.{path_room, no_zero, is_path, path_of, IsStatus}

-- ---- tried

pub not-any : (name : List ℕ) → not (list_any (λ b. eqb b 0) name) ≡ no_zero name
not-any [] = refl
not-any (b ∷ name) = go (eqb b 0) (not-any name)
  where
    go : (t : Bool) → not (list_any (λ b. eqb b 0) name) ≡ no_zero name → not (t || list_any (λ b. eqb b 0) name) ≡ cond t false (no_zero name)
    go true h = refl
    go false h = h

pub short-path : (name : List ℕ) → length name < path_room → is_path name ≡ no_zero name
short-path name h = rw (lt-ltb (length name) path_room h)

pub path-short : (name : List ℕ) → is_path name ≡ true → length name < path_room
path-short name e = go (ltb (length name) path_room) refl e
  where
    go : (t : Bool) → ltb (length name) path_room ≡ t → cond t (no_zero name) false ≡ true → length name < path_room
    go true h e = ltb-true (length name) path_room h
    go false h e = let z : ◌≡◌ {A = ℕ} 0 1 = cc in absurd (omega arith)

-- ---- copied

abbrev zeros : ℕ → List ℕ
zeros n = replicate n 0

zeros-behind : (n i : ℕ) → i ≤ n → drop i (zeros n) ≡ zeros (n - i)
zeros-behind n i h =
    let e : i + (n - i) ≡ n = omega (arith, h) in
    ap (drop i) (sym (replicate-append-replicate i (n - i) 0 ∙ ap zeros e))
    ∙ drop_at (zeros i) (zeros (n - i)) i (length-replicate {A = ℕ} i 0)

pub laid : (name start : List ℕ) → start ≡ name → length name < path_room → start ++ drop (length name) (zeros path_room) ≡ path_of name
laid name start e short =
    ap (λ (l : List ℕ). l ++ drop (length name) (zeros path_room)) e
    ∙ ap (λ (l : List ℕ). name ++ l) (zeros-behind path_room (length name) (le_of_lt short))

-- ---- ended

pub path-ends : (name : List ℕ) → length name < path_room → get_or (path_of name) 4095 1 ≡ 0
path-ends name h =
    let n : ℕ = length name in
    let e : n + (4095 - n) ≡ 4095 = omega (arith, h) in
    ap (λ (j : ℕ). get_or (path_of name) j 1) (sym e)
    ∙ get_or-append-add name (zeros (path_room - n)) (4095 - n) 1
    ∙ get_or-replicate (path_room - n) (4095 - n) 0 1 (omega (arith, h))
