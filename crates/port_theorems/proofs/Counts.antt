-- The count: a write and a fault keep it, an accepted "done" adds one, and it stops at the largest.
use Rattle.std.specs.Prelude.{Ok, Err}
use mathlib.Core.Path.{◌≡◌, refl, sym, subst, ◌∙◌}
use mathlib.Core.Bool.{Bool, true, false, cond, not, true≢false}
use mathlib.Core.List.{List, [], ◌∷◌}
use Prim.Native.Nat.{ℕ, ◌+◌, ◌/◌, ◌%◌, ◌≤◌, ◌<◌, min}
use lib.Dec.{eqb, leb}
use lib.ListN.{length, get_or, length-set}
use lib.Seq.{get_or-set_same, get_or-set_other}
use native.Mathlib.Omega.{arith}
use borrow.Author.Tests.{leb-false}
use Rattle.refusal.specs.Refusals.{trial, first_met}
use Rattle.port.specs.declared.Port.{Port}
use Rattle.port.specs.declared.Input.{Input}
use Rattle.port.specs.declared.Input.TheVariants.{Write, Event}
use Rattle.port.specs.Machine.{status_byte, command_byte, high_byte, low_byte, done_event, largest_count, status, count}
use Rattle.port.specs.Machine.{with_byte, with_count, commands, events, named, turned, read_only, write_named, after_write, after_event}
use Rattle.port.specs.Machine.{stepped, written, happened, step}
use Rattle.port_theorems.specs.Runs.{port_after, answers, accepted_done, dones_accepted, Countable}
use Rattle.refusal.specs.Refusals.{Verdict}

-- two ports of as many bytes, with the same count
record Alike (p q : Port) : Type 0 where
  long : length q.bytes ≡ length p.bytes
  high : get_or q.bytes high_byte 0 ≡ get_or p.bytes high_byte 0
  low : get_or q.bytes low_byte 0 ≡ get_or p.bytes low_byte 0

alike-with : (i v : ℕ) (p q : Port) → i < high_byte → Alike p q → Alike p (with_byte i v q)
alike-with i v p q h a =
    record {
      long = length-set q.bytes i v ∙ a.long;
      high = get_or-set_other q.bytes i high_byte v 0 (λ e. omega (arith, h, e)) ∙ a.high;
      low = get_or-set_other q.bytes i low_byte v 0 (λ e. omega (arith, h, e)) ∙ a.low;
    }

same : (p : Port) → Alike p p
same p = record { long = refl; high = refl; low = refl }

alike-countable : (p q : Port) → Alike p q → Countable p → Countable q
alike-countable p q a k =
    record { eight = a.long ∙ k.eight; high = rw a.high k.high; low = rw a.low k.low }

alike-count : (p q : Port) → Alike p q → count q ≡ count p
alike-count p q a = rw (a.high, a.low)

-- a write keeps the count
write-alike : (p : Port) (i v : ℕ) → Alike p (written p i v).port
write-alike p i v = go (read_only i) (write_named (status p) i v) refl
  where
    last : (b : Bool) → eqb i status_byte ≡ b → cond b true (leb high_byte i) ≡ false → i < high_byte
    last true q e = absurd (true≢false e)
    last false q e = leb-false high_byte i e

    after : (b : Bool) → i < high_byte
        → Alike p (cond b (with_byte status_byte (turned commands (status p) v) (with_byte command_byte v p)) (with_byte i v p))
    after true h = alike-with status_byte (turned commands (status p) v) p (with_byte command_byte v p) (omega arith)
        (alike-with command_byte v p p (omega arith) (same p))
    after false h = alike-with i v p p h (same p)

    go : (r n : Bool) → read_only i ≡ r
        → Alike p (stepped (first_met (trial r 16 0 ∷ trial (not n) 17 0 ∷ [])) (after_write p i v) p).port
    go true n q = same p
    go false true q = after (eqb i command_byte) (last (eqb i status_byte) refl q)
    go false false q = same p

-- a count that two bytes hold is what they say
counted-high : (n : ℕ) (p : Port) → Countable p → get_or (with_count n p).bytes high_byte 0 ≡ n / 256
counted-high n p k =
    get_or-set_other (with_byte high_byte (n / 256) p).bytes low_byte high_byte (n % 256) 0 (λ e. omega (arith, e))
    ∙ get_or-set_same p.bytes high_byte (n / 256) 0 (omega (arith, k.eight))

counted-low : (n : ℕ) (p : Port) → Countable p → get_or (with_count n p).bytes low_byte 0 ≡ n % 256
counted-low n p k =
    get_or-set_same (with_byte high_byte (n / 256) p).bytes low_byte (n % 256) 0
    (omega (arith, length-set p.bytes high_byte (n / 256), k.eight))

counted-count : (n : ℕ) (p : Port) → Countable p → count (with_count n p) ≡ n
counted-count n p k = rw (counted-high n p k, counted-low n p k) (omega arith)

counted-countable : (n : ℕ) (p : Port) → n ≤ largest_count → Countable p → Countable (with_count n p)
counted-countable n p h k =
    record {
      eight = length-set (with_byte high_byte (n / 256) p).bytes low_byte (n % 256) ∙ length-set p.bytes high_byte (n / 256) ∙ k.eight;
      high = rw (counted-high n p k) (omega (arith, h));
      low = rw (counted-low n p k) (omega arith);
    }

-- ---- one step

-- what a step does to the count
record Counts (p q : Port) (d : ℕ) : Type 0 where
  after : count q ≡ min largest_count (count p + d)
  well : Countable q

bounded : (p : Port) → Countable p → count p ≤ largest_count
bounded p k = omega (arith, k.high, k.low)

keeps : (p q : Port) → Countable p → Alike p q → Counts p q 0
keeps p q k a = record { after = alike-count p q a ∙ omega (arith, bounded p k); well = alike-countable p q a k }

-- one more, and a status
grows : (p : Port) (s : ℕ) → Countable p → Counts p (with_byte status_byte s (with_count (min largest_count (count p + 1)) p)) 1
grows p s k = record { after = alike-count q r a ∙ counted-count n p k; well = alike-countable q r a (counted-countable n p (omega arith) k) }
  where
    n : ℕ
    n = min largest_count (count p + 1)

    q : Port
    q = with_count n p

    r : Port
    r = with_byte status_byte s q

    a : Alike q r
    a = alike-with status_byte s q q (omega arith) (same q)

write-not-done : (i v : ℕ) (r : Verdict) → accepted_done (Write i v) r ≡ false
write-not-done i v (Ok _) = refl
write-not-done i v (Err r) = refl

event-counts : (p : Port) (e : ℕ) → Countable p → Counts p (happened p e).port (cond (accepted_done (Event e) (happened p e).verdict) 1 0)
event-counts p e k =
    subst (λ (b : Bool). Counts p (happened p e).port (cond b 1 0)) (sym (said (named events (status p) e)))
    (go (named events (status p) e) (eqb e done_event) (turned events (status p) e))
  where
    said : (n : Bool) → accepted_done (Event e) (stepped (first_met (trial (not n) 17 0 ∷ [])) (after_event p e) p).verdict ≡ cond n (eqb e done_event) false
    said true = refl
    said false = refl

    go : (n d : Bool) (s : ℕ)
        → Counts p (stepped (first_met (trial (not n) 17 0 ∷ [])) (with_byte status_byte s (cond d (with_count (min largest_count (count p + 1)) p) p)) p).port
        (cond (cond n d false) 1 0)
    go true true s = grows p s k
    go true false s = keeps p (with_byte status_byte s p) k (alike-with status_byte s p p (omega arith) (same p))
    go false d s = keeps p p k (same p)

step_counts : (p : Port) (x : Input) → Countable p → Counts p (step p x).port (cond (accepted_done x (step p x).verdict) 1 0)
step_counts p (Write i v) k = rw (write-not-done i v (written p i v).verdict) (keeps p (written p i v).port k (write-alike p i v))
step_counts p (Event e) k = event-counts p e k

-- ---- a list

pub step-countable : (p : Port) (x : Input) → Countable p → Countable (step p x).port
step-countable p x k = (step_counts p x k).well

pub run-counts : (p : Port) (xs : List Input) → Countable p → count (port_after p xs) ≡ min largest_count (count p + dones_accepted xs (answers p xs))
run-counts p [] k = omega (arith, bounded p k)
run-counts p (x ∷ more) k =
    run-counts (step p x).port more one.well
    ∙ joined (count p) (cond (accepted_done x (step p x).verdict) 1 0) (dones_accepted more (answers (step p x).port more))
    (count (step p x).port) one.after
  where
    one : Counts p (step p x).port (cond (accepted_done x (step p x).verdict) 1 0)
    one = step_counts p x k

    joined : (c d more next : ℕ) → next ≡ min largest_count (c + d) → min largest_count (next + more) ≡ min largest_count (c + (d + more))
    joined c d more next e = omega (arith, e)
