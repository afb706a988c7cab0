-- The tests of `Same` decide equality: a thing is the same as itself, and what is the same is equal.
use Rattle.std.specs.Prelude.{ℕ, zero, suc, ◌≡◌, refl, List, [], ◌∷◌, true, get_or, eqb}
use Rattle.std.proofs.Common.{ap, ap₂, eqb-true}
use Rattle.std.proofs.lemmas.Bool.{false≢true}
use Rattle.lists.specs.Cases.{and_left, and_right, and_intro}
use Rattle.lists.specs.Same.{same_list}
use Rattle.lists.specs.SameLaws.{DecidesEqual, ◌&◌, made_of, numbers, flags, lists, same_list-itself}
use Rattle.record.specs.declared.Record.{Record}
use Rattle.record.specs.SameLaws.{records}
use Rattle.rules.specs.View.{Condition, normal, fetching, completed, suspended, WindowView}
use Rattle.delivery.specs.World.{Sent, Ack, Side, World, no_side, side_at}
use Rattle.delivery.specs.Same.{same_condition, same_window, same_entry, same_sent, same_ack, same_side, same_world}

-- ------------------------------------------------------------------------
-- What a world is made of

conditions : DecidesEqual same_condition
conditions = record { itself = itself-condition; equal = equal-condition }
  where
    itself-condition : (s : Condition) → same_condition s s ≡ true
    itself-condition normal = refl
    itself-condition (fetching n e) = and_intro (numbers.itself n) (numbers.itself e)
    itself-condition (completed e) = numbers.itself e
    itself-condition suspended = refl

    equal-condition : (s s' : Condition) → same_condition s s' ≡ true → s ≡ s'
    equal-condition normal normal h = refl
    equal-condition normal (fetching n e) h = absurd (false≢true h)
    equal-condition normal (completed e) h = absurd (false≢true h)
    equal-condition normal suspended h = absurd (false≢true h)
    equal-condition (fetching n e) normal h = absurd (false≢true h)
    equal-condition (fetching n e) (fetching m f) h = ap₂ fetching (eqb-true n m (and_left _ _ h)) (eqb-true e f (and_right (eqb n m) _ h))
    equal-condition (fetching n e) (completed f) h = absurd (false≢true h)
    equal-condition (fetching n e) suspended h = absurd (false≢true h)
    equal-condition (completed e) normal h = absurd (false≢true h)
    equal-condition (completed e) (fetching m f) h = absurd (false≢true h)
    equal-condition (completed e) (completed f) h = ap completed (eqb-true e f h)
    equal-condition (completed e) suspended h = absurd (false≢true h)
    equal-condition suspended normal h = absurd (false≢true h)
    equal-condition suspended (fetching n e) h = absurd (false≢true h)
    equal-condition suspended (completed e) h = absurd (false≢true h)
    equal-condition suspended suspended h = refl

windows : DecidesEqual same_window
unfolding same_window
windows =
    made_of (numbers & numbers & numbers & flags & lists numbers & lists numbers & lists numbers & conditions)
    (λ v. (v.term.0, (v.acked, (v.sent, (v.busy, (v.batches, (v.normal_queue, (v.catch_queue, v.condition))))))))
    (λ (t, (a, (s, (b, (u, (n, (q, c))))))). record {
      term = record { 0 = t };
      acked = a;
      sent = s;
      busy = b;
      batches = u;
      normal_queue = n;
      catch_queue = q;
      condition = c;
    })
    (λ v. refl)

entries : DecidesEqual same_entry
unfolding same_entry
entries =
    made_of (numbers & numbers & numbers & numbers) (λ e. (e.set, (e.kind, (e.race, e.value))))
    (λ (s, (k, (r, v))). record { set = s; kind = k; race = r; value = v }) (λ e. refl)

sents : DecidesEqual same_sent
unfolding same_sent
sents =
    made_of (numbers & entries & numbers & flags) (λ s. (s.placed.index, (s.placed.entry, (s.term.0, s.ends))))
    (λ (i, (e, (t, b))). record { placed = record { index = i; entry = e }; term = record { 0 = t }; ends = b }) (λ s. refl)

acks : DecidesEqual same_ack
unfolding same_ack
acks = made_of (numbers & numbers) (λ a. (a.term.0, a.index)) (λ (t, i). record { term = record { 0 = t }; index = i }) (λ a. refl)

-- ------------------------------------------------------------------------
-- A side and a world: all but the history of what was taken

abbrev pub seen : Side → WindowView × (Record × (List Sent × List Ack))
seen p = (p.view, (p.record', (p.line, p.back)))

same_side-itself : (p : Side) → same_side p p ≡ true
unfolding same_side
same_side-itself p = (windows & records & lists sents & lists acks).itself (seen p)

same_side-equal : (a b : Side) → same_side a b ≡ true → seen a ≡ seen b
unfolding same_side
same_side-equal a b = (windows & records & lists sents & lists acks).equal (seen a) (seen b)

sides-at : (a b : List Side) (w : ℕ) → same_list same_side a b ≡ true → same_side (get_or a w no_side) (get_or b w no_side) ≡ true
unfolding same_list
sides-at [] [] w h = same_side-itself no_side
sides-at [] (y ∷ ys) w h = absurd (false≢true h)
sides-at (x ∷ xs) [] w h = absurd (false≢true h)
sides-at (x ∷ xs) (y ∷ ys) zero h = and_left _ _ h
sides-at (x ∷ xs) (y ∷ ys) (suc w) h = sides-at xs ys w (and_right (same_side x y) _ h)

pub same_world-itself : (wd : World) → same_world wd wd ≡ true
unfolding same_world
same_world-itself wd =
    and_intro (numbers.itself wd.limit)
    (and_intro (numbers.itself wd.spacing)
    (and_intro (numbers.itself wd.current) (same_list-itself same_side same_side-itself wd.sides)))

-- what looks the same has the same `current`, and at each side the same window, record and lines
pub record WorldIs (a b : World) : Type 0 where
  pub current : a.current ≡ b.current
  pub sides : (w : ℕ) → seen (side_at w a) ≡ seen (side_at w b)

pub same_world-equal : (a b : World) → same_world a b ≡ true → WorldIs a b
unfolding same_world
same_world-equal a b h =
    let rest = and_right (eqb a.spacing b.spacing) _ (and_right (eqb a.limit b.limit) _ h) in
    record {
      current = eqb-true _ _ (and_left _ _ rest);
      sides = λ w. same_side-equal _ _ (sides-at a.sides b.sides w (and_right (eqb a.current b.current) _ rest));
    }
