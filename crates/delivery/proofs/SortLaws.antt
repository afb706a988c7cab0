-- What is work, kind by kind.
use Rattle.std.specs.Prelude.{ℕ, ◌≡◌, List, Bool, true}
use Rattle.std.proofs.lemmas.Bool.{false≢true}
use Rattle.rules.specs.declared.Term.{Term}
use Rattle.delivery.specs.World.{Step, main, catch, written, send, take, ack, late-ack, drop, join, start, append}
use Rattle.delivery.specs.Sorts.{sort_of, is_work}

-- what holds of each kind of work
pub record OfWork (P : Step → Type 0) : Type 0 where
  pub main_has : (i : ℕ) → P (main i)
  pub catch_has : (w : ℕ) (t : Term) (i : ℕ) → P (catch w t i)
  pub written_has : (w : ℕ) (t : Term) → P (written w t)
  pub send_has : (w : ℕ) (out : List ℕ) → P (send w out)
  pub take_has : (w : ℕ) (acks : Bool) → P (take w acks)
  pub ack_has : (w : ℕ) → P (ack w)
  pub late_has : (w : ℕ) (t : Term) (i : ℕ) → P (late-ack w t i)

-- holds of every step of work
pub of-work : {P : Step → Type 0} → OfWork P → (s : Step) → is_work (sort_of s) ≡ true → P s
of-work k (main i) e = k.main_has i
of-work k (catch w t i) e = k.catch_has w t i
of-work k (written w t) e = k.written_has w t
of-work k (send w out) e = k.send_has w out
of-work k (take w acks) e = k.take_has w acks
of-work k (ack w) e = k.ack_has w
of-work k (late-ack w t i) e = k.late_has w t i
of-work k (drop w) e = absurd (false≢true e)
of-work k (join w) e = absurd (false≢true e)
of-work k (start settings) e = absurd (false≢true e)
of-work k (append e') e = absurd (false≢true e)
