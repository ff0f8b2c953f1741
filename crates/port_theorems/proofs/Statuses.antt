-- The statuses that a fresh port comes to: the tables lead to no other.
use mathlib.Core.Path.{◌≡◌, refl, sym, subst, ◌∙◌}
use mathlib.Core.Bool.{Bool, true, false, cond, not, true≢false}
use mathlib.Core.List.{List, [], ◌∷◌, Memᴰ}
use Prim.Native.Nat.{ℕ, ◌+◌, ◌/◌, ◌%◌, ◌<◌, min}
use lib.Dec.{eqb, leb}
use lib.ListN.{length, length-set}
use lib.Seq.{get_or-set_same, get_or-set_other}
use native.Mathlib.Omega.{arith}
use borrow.Author.Tests.{eqb-false}
use Rattle.refusal.specs.Refusals.{trial, first_met}
use Rattle.port.specs.declared.Port.{Port}
use Rattle.port.specs.declared.Input.{Input}
use Rattle.port.specs.declared.Input.TheVariants.{Write, Event}
use Rattle.port.specs.Machine.{status_byte, command_byte, high_byte, low_byte, done_event, fault_event, largest_count, ready, busy, fault, interrupt}
use Rattle.port.specs.Machine.{fresh, status, count, with_byte, with_count, Turn, about, turned, commands, events, named, read_only, write_named}
use Rattle.port.specs.Machine.{after_write, after_event, stepped, written, happened, step}
use Rattle.port_theorems.specs.Runs.{port_after, statuses, Countable}
use Rattle.port_theorems.proofs.Counts.{step-countable}

abbrev Known : ℕ → Type 0
Known s = Memᴰ s statuses

-- every entry leads to a known status
abbrev Leads : List Turn → Type 0
Leads [] = Unit {0}
Leads (t ∷ more) = Known t.into × Leads more

turned-known : (table : List Turn) → Leads table → (s n : ℕ) → Known s → Known (turned table s n)
turned-known [] l s n k = k
turned-known (t ∷ more) l s n k = go (about s n t) (turned-known more l.1 s n k)
  where
    go : (b : Bool) → Known (turned more s n) → Known (cond b t.into (turned more s n))
    go true k = l.0
    go false k = k

is-ready : Known ready
is-ready = Memᴰ.head refl

is-busy : Known busy
is-busy = Memᴰ.tail (Memᴰ.head refl)

is-fault : Known fault
is-fault = Memᴰ.tail (Memᴰ.tail (Memᴰ.head refl))

is-done : Known (interrupt + ready)
is-done = Memᴰ.tail (Memᴰ.tail (Memᴰ.tail (Memᴰ.head refl)))

is-failed : Known (interrupt + fault)
is-failed = Memᴰ.tail (Memᴰ.tail (Memᴰ.tail (Memᴰ.tail (Memᴰ.head refl))))

commands-lead : Leads commands
commands-lead = (is-busy, (is-ready, (is-fault, (is-ready, tt))))

events-lead : Leads events
events-lead = (is-done, (is-failed, tt))

-- the status of a port whose status was set, or another byte
set-status : (s : ℕ) (p : Port) → 0 < length p.bytes → Known s → Known (status (with_byte status_byte s p))
set-status s p h k = subst Known (sym (get_or-set_same p.bytes status_byte s 0 h)) k

set_other : (i v : ℕ) (p : Port) → (i ≡ status_byte → ⊥) → Known (status p) → Known (status (with_byte i v p))
set_other i v p ne k = subst Known (sym (get_or-set_other p.bytes i status_byte v 0 (λ e. ne (sym e)))) k

write_known : (p : Port) (i v : ℕ) → 0 < length p.bytes → Known (status p) → Known (status (written p i v).port)
write_known p i v h k = go (read_only i) (write_named (status p) i v) refl
  where
    s : ℕ
    s = turned commands (status p) v

    first : (b : Bool) → eqb i status_byte ≡ b → cond b true (leb high_byte i) ≡ false → i ≡ status_byte → ⊥
    first true q e = absurd (true≢false e)
    first false q e = eqb-false i status_byte q

    after : (b : Bool) → (i ≡ status_byte → ⊥) → Known (status (cond b (with_byte status_byte s (with_byte command_byte v p)) (with_byte i v p)))
    after true g = set-status s (with_byte command_byte v p) (omega (arith, h, length-set p.bytes command_byte v))
        (turned-known commands commands-lead (status p) v k)
    after false g = set_other i v p g k

    go : (r n : Bool) → read_only i ≡ r
        → Known (status (stepped (first_met (trial r 16 0 ∷ trial (not n) 17 0 ∷ [])) (after_write p i v) p).port)
    go true n q = k
    go false true q = after (eqb i command_byte) (first (eqb i status_byte) refl q)
    go false false q = k

event-known : (p : Port) (e : ℕ) → 0 < length p.bytes → Known (status p) → Known (status (happened p e).port)
event-known p e h k = go (named events (status p) e)
  where
    s : ℕ
    s = turned events (status p) e

    n : ℕ
    n = min largest_count (count p + 1)

    counted : Bool → Port
    counted d = cond d (with_count n p) p

    long : (d : Bool) → length (counted d).bytes ≡ length p.bytes
    long true = length-set (with_byte high_byte (n / 256) p).bytes low_byte (n % 256) ∙ length-set p.bytes high_byte (n / 256)
    long false = refl

    go : (b : Bool) → Known (status (stepped (first_met (trial (not b) 17 0 ∷ [])) (after_event p e) p).port)
    go true = set-status s (counted (eqb e done_event)) (omega (arith, h, long (eqb e done_event)))
        (turned-known events events-lead (status p) e k)
    go false = k

step-known : (p : Port) (x : Input) → 0 < length p.bytes → Known (status p) → Known (status (step p x).port)
step-known p (Write i v) h k = write_known p i v h k
step-known p (Event e) h k = event-known p e h k

pub run-known : (p : Port) (xs : List Input) → Countable p → Known (status p) → Known (status (port_after p xs))
run-known p [] c k = k
run-known p (x ∷ more) c k = run-known (step p x).port more (step-countable p x c) (step-known p x (omega (arith, c.eight)) k)

-- and to each of them it comes
pub statuses-reached :
    (status (port_after fresh []) ≡ ready)
    × (status (port_after fresh (Write 1 1 ∷ [])) ≡ busy)
    × (status (port_after fresh (Write 1 1 ∷ Event done_event ∷ [])) ≡ interrupt + ready)
    × (status (port_after fresh (Write 1 1 ∷ Event fault_event ∷ [])) ≡ interrupt + fault)
    × (status (port_after fresh (Write 1 1 ∷ Event fault_event ∷ Write 1 2 ∷ [])) ≡ fault)
statuses-reached = (refl, refl, refl, refl, refl)
