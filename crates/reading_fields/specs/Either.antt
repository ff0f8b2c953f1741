-- Serves proofs: how fields begin, and a field that begins in one of two ways.
use Rattle.std.specs.Prelude.{Bool, true, cond, List, ℕ}
use Rattle.geometry.specs.declared.Size.{Size}
use Rattle.fields.specs.Fields.{head_tag, head_size, plunge_tag, plunge_size, end_tag, end_size}
use Rattle.reading_fields.specs.declared.Opening.{Opening}
use Rattle.reading_fields.specs.Openings.{opens}

-- how the head begins, a plunge's field, and the end
abbrev pub head_opening : Size → Opening
head_opening s = record { tag = head_tag s; size = head_size s }

abbrev pub plunge_opening : Size → Opening
plunge_opening s = record { tag = plunge_tag s; size = plunge_size s }

abbrev pub end_opening : Opening
end_opening = record { tag = end_tag; size = end_size }

-- a field that begins so stands at a place
abbrev pub begins : Opening → List ℕ → ℕ → Bool
begins o = opens o.tag o.size

-- one of two does; the length of its content
abbrev pub opens_either : Opening → Opening → List ℕ → ℕ → Bool
opens_either a b f at = cond (begins a f at) true (begins b f at)

abbrev pub size_either : Opening → Opening → List ℕ → ℕ → ℕ
size_either a b f at = cond (begins a f at) a.size b.size
