-- What each status accepts: the inputs of a table's entries that are about the status.
use mathlib.Core.Path.{◌≡◌, refl, ap, ◌∙◌}
use mathlib.Core.Bool.{Bool, true, false, cond, not}
use mathlib.Core.List.{List, [], ◌∷◌, Memᴰ}
use Prim.Native.Nat.{ℕ, ◌+◌}
use lib.Dec.{eqb, ltb}
use native.Mathlib.Omega.{arith}
use borrow.Author.Tests.{eqb-true, eqb-false, ltb-true, ltb-false, eq-eqb, ne_eqb, le-leb, lt-leb}
use Rattle.geometry.specs.Lists.{any}
use Rattle.refusal.specs.Refusals.{trial, first_met}
use Rattle.port.specs.Machine.{status_byte, command_byte, high_byte, done_event, fault_event, ready, busy, fault, interrupt}
use Rattle.port.specs.Machine.{Turn, named, commands, events, read_only, write_named}
use Rattle.port_theorems.specs.Runs.{statuses}
use Rattle.port_theorems.specs.Accepted.{is_accepted, write_accepted, event_accepted, OneCommand, Nothing, Accepting}

-- the inputs that a table names for a status
abbrev inputs : List Turn → ℕ → List ℕ
inputs [] s = []
inputs (t ∷ more) s = cond (eqb s t.from) (t.input ∷ inputs more s) (inputs more s)

named-inputs : (table : List Turn) (s n : ℕ) → named table s n ≡ any (eqb n) (inputs table s)
named-inputs [] s n = refl
named-inputs (t ∷ more) s n = go (eqb s t.from) (eqb n t.input) refl (named-inputs more s n)
  where
    go : (f b : Bool) → eqb n t.input ≡ b → named more s n ≡ any (eqb n) (inputs more s)
        → cond (cond b f false) true (named more s n) ≡ any (eqb n) (cond f (t.input ∷ inputs more s) (inputs more s))
    go true true q e = rw q
    go true false q e = rw (q, e)
    go false true q e = e
    go false false q e = e

one : (b : Bool) → cond b true false ≡ b
one true = refl
one false = refl

-- a write that passes both trials
write-passes : (r n : Bool) → is_accepted (first_met (trial r 16 0 ∷ trial (not n) 17 0 ∷ [])) ≡ cond r false n
write-passes true n = refl
write-passes false true = refl
write-passes false false = refl

event-passes : (n : Bool) → is_accepted (first_met (trial (not n) 17 0 ∷ [])) ≡ n
event-passes true = refl
event-passes false = refl

none : (b : Bool) → cond b false false ≡ false
none true = refl
none false = refl

-- byte 1 may be written to
command-writable : (i : ℕ) (n : Bool) → cond (read_only i) false (cond (eqb i command_byte) n false) ≡ cond (eqb i command_byte) n false
command-writable i n = go (eqb i command_byte) refl
  where
    go : (b : Bool) → eqb i command_byte ≡ b → cond (read_only i) false (cond b n false) ≡ cond b n false
    go true q = rw (eqb-true i command_byte q)
    go false q = none (read_only i)

-- and bytes 2 to 5 are the others
others-writable : (i : ℕ) (n : Bool)
    → cond (read_only i) false (cond (eqb i command_byte) n true) ≡ cond (eqb i command_byte) n (cond (ltb command_byte i) (ltb i high_byte) false)
others-writable i n = go (eqb i command_byte) (ltb command_byte i) (ltb i high_byte) refl refl refl
  where
    go : (b c d : Bool) → eqb i command_byte ≡ b → ltb command_byte i ≡ c → ltb i high_byte ≡ d
        → cond (read_only i) false (cond b n true) ≡ cond b n (cond c d false)
    go true c d q r t = rw (eqb-true i command_byte q)
    go false true true q r t = rw (ne_eqb i status_byte (λ e. omega (arith, e, ltb-true command_byte i r)), lt-leb high_byte i (ltb-true i high_byte t))
    go false true false q r t = rw (ne_eqb i status_byte (λ e. omega (arith, e, ltb-true command_byte i r)), le-leb high_byte i (ltb-false i high_byte t))
    go false false d q r t = rw (eq-eqb i status_byte (omega (arith, ltb-false command_byte i r, eqb-false i command_byte q)))

writes-of : (s i v : ℕ) → write_accepted s i v ≡ cond (read_only i) false (write_named s i v)
writes-of s i v = write-passes (read_only i) (write_named s i v)

events-of : (s e : ℕ) → event_accepted s e ≡ any (eqb e) (inputs events s)
events-of s e = event-passes (named events s e) ∙ named-inputs events s e

-- a status that is not ready and has one command
one-command : (s n : ℕ) → inputs commands s ≡ n ∷ [] → inputs events s ≡ [] → eqb s ready ≡ false → OneCommand s n
one-command s n e none other =
    record {
      writes = λ i v. writes-of s i v ∙ rw (named-inputs commands s v, e, other, one (eqb v n)) (command-writable i (eqb v n));
      events = λ k. events-of s k ∙ ap (any (eqb k)) none;
    }

-- a status that no entry is about
nothing : (s : ℕ) → (Memᴰ s statuses → ⊥) → Nothing s
nothing s other =
    record {
      writes = λ i v. writes-of s i v ∙ rw (named-inputs commands s v, no-command, unready) (command-writable i false ∙ none (eqb i command_byte));
      events = λ e. events-of s e ∙ ap (any (eqb e)) no-event;
    }
  where
    unready : eqb s ready ≡ false
    unready = ne_eqb s ready (λ e. other (Memᴰ.head e))

    idle : eqb s busy ≡ false
    idle = ne_eqb s busy (λ e. other (Memᴰ.tail (Memᴰ.head e)))

    whole : eqb s fault ≡ false
    whole = ne_eqb s fault (λ e. other (Memᴰ.tail (Memᴰ.tail (Memᴰ.head e))))

    undone : eqb s (interrupt + ready) ≡ false
    undone = ne_eqb s (interrupt + ready) (λ e. other (Memᴰ.tail (Memᴰ.tail (Memᴰ.tail (Memᴰ.head e)))))

    unfailed : eqb s (interrupt + fault) ≡ false
    unfailed = ne_eqb s (interrupt + fault) (λ e. other (Memᴰ.tail (Memᴰ.tail (Memᴰ.tail (Memᴰ.tail (Memᴰ.head e))))))

    no-command : inputs commands s ≡ []
    no-command = rw (unready, undone, unfailed, whole)

    no-event : inputs events s ≡ []
    no-event = rw idle

pub accepting : Accepting
accepting =
    record {
      when_ready = record {
        writes = λ i v. writes-of ready i v ∙ rw (named-inputs commands ready v, one (eqb v 1)) (others-writable i (eqb v 1));
        events = λ e. events-of ready e;
      };
      when_busy = record {
        writes = λ i v. writes-of busy i v ∙ rw (named-inputs commands busy v) (command-writable i false ∙ none (eqb i command_byte));
        events = λ e. events-of busy e ∙ both (eqb e done_event) (eqb e fault_event);
      };
      when_done = one-command (interrupt + ready) 2 refl refl refl;
      when_failed = one-command (interrupt + fault) 2 refl refl refl;
      when_fault = one-command fault 3 refl refl refl;
      when_other = nothing;
    }
  where
    both : (a b : Bool) → cond a true (cond b true false) ≡ cond a true b
    both true b = refl
    both false b = one b
