-- What loops leave that write one list after the other: entries in an array, their bytes in a field.
use mathlib.Core.Path.{◌≡◌, refl, sym, ap, ◌∙◌}
use mathlib.Core.List.{List, [], ◌∷◌, ◌++◌, append-nil}
use Prim.Native.Nat.{ℕ, zero, suc, ◌+◌, ◌*◌, ◌/◌, ◌%◌, ◌≤◌, ◌<◌}
use native.Mathlib.Nat.{zero-add}
use native.Mathlib.Numerals.{add-one}
use native.Mathlib.Omega.{arith}
use lib.ListN.{length, get_or, set, drop, length-append}
use lib.Seq.{sets-eq, drop-length}
use Rattle.geometry.specs.Lists.{gather}
use Rattle.theory.proofs.Lists.{gather-more, length-each}
use Rattle.fields.specs.Fields.{two, opening, field}
use Rattle.fields.specs.Writing.{spliced}
use Rattle.fields.proofs.Splice.{splice-start, splice-length, splice-splice}
use Rattle.sink.specs.Sink.{table_entries}
use Rattle.table_field.specs.Tables.{table_tag, table_size, table_bytes, entry_place, entry_in, entries_in, entry_bytes, table_field}

-- n lists, one behind the other, at a place
module _ (old : List ℕ) (at : ℕ) (f : ℕ → List ℕ) where
  pub more : (n : ℕ) → at + length (gather n 0 f) ≤ length old
      → spliced (spliced old at (gather n 0 f)) (at + length (gather n 0 f)) (f n) ≡ spliced old at (gather (n + 1) 0 f)
  more n h =
      splice-splice old at (gather n 0 f) (f n) h
      ∙ ap (spliced old at) (ap (λ (k : ℕ). gather n 0 f ++ f k) (sym (zero-add n)) ∙ sym (gather-more n 0 f))

-- ---- entries of a field in an array

module _ (f old : List ℕ) where
  -- the first n entries are read
  abbrev pub ReadTo : ℕ → List ℕ → Type 0
  ReadTo n now = now ≡ spliced old 0 (gather n 0 (λ i. entry_in f i ∷ []))

  read_length : (n : ℕ) (now : List ℕ) → n ≤ length old → ReadTo n now → length now ≡ length old
  read_length n now h e = ap length e ∙ splice-length old 0 (gather n 0 (λ i. entry_in f i ∷ [])) (omega (arith, length-each (entry_in f) n 0))

  pub read_more : (n x : ℕ) (now : List ℕ) → n < length old → ReadTo n now → x ≡ entry_in f n → ReadTo (n + 1) (set now n x)
  read_more n x now h e g =
      let k : length (gather n 0 (λ i. entry_in f i ∷ [])) ≡ n = length-each (entry_in f) n 0 in
      let p : 0 + length (gather n 0 (λ i. entry_in f i ∷ [])) ≡ n = omega arith in
      sets-eq (x ∷ []) now n (omega (arith, read_length n now (omega arith) e))
      ∙ ap (λ (l : List ℕ). spliced l n (x ∷ [])) e
      ∙ ap (λ (y : ℕ). spliced (spliced old 0 (gather n 0 (λ i. entry_in f i ∷ []))) n (y ∷ [])) g
      ∙ ap (λ (m : ℕ). spliced (spliced old 0 (gather n 0 (λ i. entry_in f i ∷ []))) m (entry_in f n ∷ [])) (sym p)
      ∙ more old 0 (λ i. entry_in f i ∷ []) n (omega arith)

  pub read_all : (now : List ℕ) → length old ≡ table_entries → ReadTo table_entries now → now ≡ entries_in f
  unfolding entries_in
  read_all now h e =
      let es = gather table_entries 0 (λ i. entry_in f i ∷ []) in
      let l : length es ≡ length old = length-each (entry_in f) table_entries 0 ∙ sym h in
      e ∙ splice-start old es ∙ ap (λ (k : ℕ). es ++ drop k old) l ∙ ap (λ (r : List ℕ). es ++ r) (drop-length old) ∙ append-nil es

-- ---- the bytes of a table's entries

module _ (table : List ℕ) where
  abbrev pub pair : ℕ → List ℕ
  pair i = two (get_or table i 0)

  pub pairs-length : (n i : ℕ) → length (gather n i pair) ≡ 2 * n
  pairs-length zero i = refl
  pairs-length (suc n) i = omega (arith, length-append (pair i) (gather n (suc i) pair), pairs-length n (suc i))

  -- the bytes of the first n entries are written
  abbrev pub PutTo : List ℕ → ℕ → List ℕ → Type 0
  PutTo old n now = now ≡ spliced old opening (gather n 0 pair)

  module _ (old : List ℕ) where
    pub put_all : (now : List ℕ) → PutTo old table_entries now → now ≡ spliced old opening (entry_bytes table)
    unfolding entry_bytes
    put_all now e = e

  module _ (old : List ℕ) (room : table_bytes ≤ length old) where
    pub put-length : (n : ℕ) (now : List ℕ) → n ≤ table_entries → PutTo old n now → length now ≡ length old
    put-length n now h e = ap length e ∙ splice-length old opening (gather n 0 pair) (omega (arith, pairs-length n 0, room))

    pub put-more : (n at high low : ℕ) (now : List ℕ) → n < table_entries → PutTo old n now → at ≡ entry_place n → high ≡ get_or table n 0 / 256
        → low ≡ get_or table n 0 % 256 → PutTo old (n + 1) (set (set now at high) (at + 1) low)
    put-more n at high low now h e p x y =
        let k : at ≡ opening + length (gather n 0 pair) = omega (arith, pairs-length n 0, p) in
        let r : at + 2 ≤ length now = omega (arith, put-length n now (omega arith) e, room, p) in
        rw (add-one at) (sets-eq (high ∷ low ∷ []) now at r)
        ∙ ap (λ (l : List ℕ). spliced l at (high ∷ low ∷ [])) e
        ∙ ap (λ (m : ℕ). spliced (spliced old opening (gather n 0 pair)) m (high ∷ low ∷ [])) k
        ∙ ap (λ (b : ℕ). spliced (spliced old opening (gather n 0 pair)) (opening + length (gather n 0 pair)) (b ∷ low ∷ [])) x
        ∙ ap (λ (b : ℕ). spliced (spliced old opening (gather n 0 pair)) (opening + length (gather n 0 pair)) ((get_or table n 0 / 256) ∷ b ∷ [])) y
        ∙ more old opening pair n (omega (arith, pairs-length n 0, room))

  pub bytes-length : length (entry_bytes table) ≡ table_size
  unfolding entry_bytes
  bytes-length = pairs-length table_entries 0

  pub field-length : length (table_field table) ≡ table_bytes
  field-length = omega (arith, bytes-length)

-- an opening, then its content, is a field
opened-put : (old content : List ℕ) (tag high low : ℕ) → opening + length content ≤ length old → high ≡ length content / 256 → low ≡ length content % 256
    → spliced (set (set (set old 0 tag) 1 high) 2 low) opening content ≡ spliced old 0 (field tag content)
opened-put old content tag high low h x y =
    rw (x, y, sets-eq (tag ∷ (length content / 256) ∷ (length content % 256) ∷ []) old 0 (omega arith))
    (splice-splice old 0 (tag ∷ (length content / 256) ∷ (length content % 256) ∷ []) content (omega arith))

pub field_put : (table old now : List ℕ) (high low : ℕ) → table_bytes ≤ length old → high ≡ table_size / 256 → low ≡ table_size % 256
    → now ≡ spliced (set (set (set old 0 table_tag) 1 high) 2 low) opening (entry_bytes table) → now ≡ spliced old 0 (table_field table)
field_put table old now high low room x y e =
    let l : length (entry_bytes table) ≡ table_size = bytes-length table in
    e ∙ opened-put old (entry_bytes table) table_tag high low (omega (arith, l)) (x ∙ ap (λ (n : ℕ). n / 256) (sym l)) (y ∙ ap (λ (n : ℕ). n % 256) (sym l))
