-- To be believed: which names C can be handed, the array that it is handed for one, and what an answer says of any other name.
use Rattle.std.specs.Prelude.{◌≡◌, Bool, true, false, cond, List, [], ◌∷◌, ◌++◌, ℕ, ◌-◌, eqb, ltb, length, replicate, Option, None}
use Rattle.file_status.specs.declared.FileStatus.{FileStatus}

-- libc's PATH_MAX: the bytes of a path, with the 0 that ends it
abbrev pub path_room : ℕ
path_room = 4096

-- C reads a name up to its first 0
abbrev pub no_zero : List ℕ → Bool
no_zero [] = true
no_zero (b ∷ bs) = cond (eqb b 0) false (no_zero bs)

abbrev pub is_path : List ℕ → Bool
is_path name = cond (ltb (length name) path_room) (no_zero name) false

-- a name, and zeros behind it
abbrev pub path_of : List ℕ → List ℕ
path_of name = name ++ replicate (path_room - length name) 0

-- a name that is no path is not found; of what is not found nothing is said
abbrev pub IsStatus : List ℕ → Option FileStatus → Type 0
IsStatus name r = is_path name ≡ false → r ≡ None
