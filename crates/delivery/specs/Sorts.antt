-- What sort of step a step is, and the words of the papers that go by it: what begins a count anew, who is joined, what is work. The file
-- imports definitions alone. A new kind of step is sorted here, and nowhere else.
use Rattle.std.specs.Prelude.{ℕ, Bool, true, false, cond, eqb}
use Rattle.rules.specs.Rules.{speaks}
use Rattle.delivery.specs.World.{Step, main, catch, written, send, take, ack, late-ack, drop, join, start, append, Reply, answered, empty, unmade}

-- answered 0
abbrev pub is_done : Reply → Bool
is_done (answered n) = eqb n 0
is_done empty = false
is_done unmade = false

-- Main; Take at window w; Catch, Send, Written and Ack, a late one too; Drop and Join of window w; Start, with its set of silent windows;
-- an append
pub data Sort : Type 0 where
  mains : Sort
  takes : (w : ℕ) → Sort
  other_work : Sort
  drops : (w : ℕ) → Sort
  joins : (w : ℕ) → Sort
  starts : (silent : ℕ) → Sort
  appends : Sort

abbrev pub sort_of : Step → Sort
sort_of (main i) = mains
sort_of (catch w t i) = other_work
sort_of (written w t) = other_work
sort_of (send w out) = other_work
sort_of (take w acks) = takes w
sort_of (ack w) = other_work
sort_of (late-ack w t i) = other_work
sort_of (drop w) = drops w
sort_of (join w) = joins w
sort_of (start settings) = starts settings.silent
sort_of (append e) = appends

-- ------------------------------------------------------------------------
-- Of a step of some sort that is answered 0, `done`, or is not

-- A fault is any Drop, Join or Start that is answered 0. What is counted is counted anew from a fault and from an append.
abbrev pub begins : Sort → (done : Bool) → Bool
begins mains done = false
begins (takes w) done = false
begins other_work done = false
begins (drops w) done = done
begins (joins w) done = done
begins (starts silent) done = done
begins appends done = done

-- A window is joined if the newest Start answered 0, or a Join answered 0 since, took its report and no Drop answered 0 followed: whether
-- window w is after the step, where it `was` or was not before.
abbrev pub joined_by : ℕ → Sort → (done was : Bool) → Bool
joined_by w mains done was = was
joined_by w (takes v) done was = was
joined_by w other_work done was = was
joined_by w (drops v) done was = cond done (cond (eqb v w) false was) was
joined_by w (joins v) done was = cond done (cond (eqb v w) true was) was
joined_by w (starts silent) done was = cond done (speaks silent w) was
joined_by w appends done was = was

-- Main, Catch, Send, Written, Take and Ack
abbrev pub is_work : Sort → Bool
is_work mains = true
is_work (takes w) = true
is_work other_work = true
is_work (drops w) = false
is_work (joins w) = false
is_work (starts silent) = false
is_work appends = false

abbrev pub is_main : Sort → Bool
is_main mains = true
is_main (takes w) = false
is_main other_work = false
is_main (drops w) = false
is_main (joins w) = false
is_main (starts silent) = false
is_main appends = false

-- a Take at window w
abbrev pub is_take_at : ℕ → Sort → Bool
is_take_at w mains = false
is_take_at w (takes v) = eqb v w
is_take_at w other_work = false
is_take_at w (drops v) = false
is_take_at w (joins v) = false
is_take_at w (starts silent) = false
is_take_at w appends = false
