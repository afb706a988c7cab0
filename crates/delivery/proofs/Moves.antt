-- What a step does at one window, said once: nothing, Main's clause, the window's own work, or a fault there. And what it does to the rest
-- of the world.
use Rattle.std.specs.Prelude.{ℕ, suc, ◌≤◌, ◌<◌, max, ◌≡◌, refl, ◌⊎◌, List, Bool, true, false, ◌&&◌, length, get_or, set}
use Rattle.std.proofs.Common.{sym, ap, ◌∙◌, inl, inr, arith, ne_eqb}
use Rattle.std.proofs.Math.Path.{subst⁻¹}
use Rattle.std.proofs.Math.Bool.{and-false}
use Rattle.journal.specs.declared.Entry.{Entry}
use Rattle.lists.specs.Set.{get_or-set-each}
use Rattle.rules.specs.declared.Settings.{Settings}
use Rattle.rules.specs.Shape.{shape}
use Rattle.rules.specs.Window.{is_suspended, main_at, dropped, started_by}
use Rattle.rules.specs.Rules.{speaks, said_by}
use Rattle.delivery.specs.World.{Side, World, no_side, side_at, numbers_in, player_in, with_view, cleared, Step, drop, join, start, append, Reply, step}
use Rattle.delivery.specs.Sorts.{is_done, Sort, mains, takes, other_work, drops, joins, starts, appends, sort_of, begins, joined_by, is_take_at}
use Rattle.delivery.proofs.Invariant.{last_of}
use Rattle.delivery.proofs.Worlds.{with_side-count}
use Rattle.delivery.proofs.Effects.{Worked, caught, sent, written, took, acked, MainedBy, Work, idles, reads, serves, joined_view, StartedBy, AppendedBy, Facts, working, dropping, joining, starting, appending}
use Rattle.delivery.proofs.SteppedAll.{step-facts}

-- ------------------------------------------------------------------------
-- At window w, whose side p becomes p'

-- the journal, the batch limit and the spacing are as they were
pub record Keeps (wd wd' : World) : Type 0 where
  pub journal : wd'.journal ≡ wd.journal
  pub limit : wd'.limit ≡ wd.limit
  pub spacing : wd'.spacing ≡ wd.spacing

-- and `current` too
pub record Ground (wd wd' : World) : Type 0 where
  pub kept : Keeps wd wd'
  pub current : wd'.current ≡ wd.current

-- nothing: the step is not answered 0, or is made at another window
pub record StillAt (s : Step) (wd : World) (w : ℕ) (p p' : Side) : Type 0 where
  pub ground : Ground wd (step s wd).world
  pub joined : (was : Bool) → joined_by w (sort_of s) (is_done (step s wd).reply) was ≡ was
  pub taken : (is_take_at w (sort_of s) && is_done (step s wd).reply) ≡ false
  pub side : p' ≡ p

-- nothing: an append
pub record AppendedAt (s : Step) (wd : World) (p p' : Side) : Type 0 where
  pub by : AppendedBy s wd
  pub side : p' ≡ p

-- Main
pub record MainedAt (s : Step) (wd : World) (w : ℕ) (p p' : Side) : Type 0 where
  pub by : MainedBy s wd
  pub side : p' ≡ with_view (main_at wd.journal w wd.spacing (suc wd.current) p.view) p

-- the window's own work
pub record WorkedAt (s : Step) (wd : World) (w : ℕ) (p p' : Side) : Type 0 where
  pub ground : Ground wd (step s wd).world
  pub work : Worked wd.journal wd.limit w s (step s wd).reply p p'

-- its Drop
pub record DroppedAt (s : Step) (wd : World) (w : ℕ) (p p' : Side) : Type 0 where
  pub ground : Ground wd (step s wd).world
  pub is : s ≡ drop w
  pub done : is_done (step s wd).reply ≡ true
  pub side : p' ≡ with_view (dropped p.view) p

-- its Join
pub record JoinedAt (s : Step) (wd : World) (w : ℕ) (p p' : Side) : Type 0 where
  pub ground : Ground wd (step s wd).world
  pub is : s ≡ join w
  pub done : is_done (step s wd).reply ≡ true
  pub away : is_suspended p.view.condition ≡ true
  pub greatest : (step s wd).world.greatest ≡ max wd.greatest (joined_view wd.current p).term.0
  pub side : p' ≡ cleared (with_view (joined_view wd.current p) p)

-- a Start
pub record StartedAt (s : Step) (wd : World) (w : ℕ) (p p' : Side) : Type 0 where
  pub by : StartedBy s wd
  pub least : speaks by.settings.silent w ≡ true → (step s wd).world.current ≤ last_of p
  pub side :
      p' ≡ cleared (with_view (started_by by.settings.first (length wd.journal) (said_by by.settings.silent w (last_of p))) p)

pub data Moved (s : Step) (wd : World) (w : ℕ) (p p' : Side) : Type 0 where
  still : StillAt s wd w p p' → Moved s wd w p p'
  appended : AppendedAt s wd p p' → Moved s wd w p p'
  mained : MainedAt s wd w p p' → Moved s wd w p p'
  worked : WorkedAt s wd w p p' → Moved s wd w p p'
  dropped-here : DroppedAt s wd w p p' → Moved s wd w p p'
  joined-here : JoinedAt s wd w p p' → Moved s wd w p p'
  started-here : StartedAt s wd w p p' → Moved s wd w p p'

-- ------------------------------------------------------------------------
-- A step that is not answered 0, and one that does a window's work, by their sorts

undone-joined : (w : ℕ) (k : Sort) (was : Bool) → joined_by w k false was ≡ was
undone-joined w mains was = refl
undone-joined w (takes v) was = refl
undone-joined w other_work was = refl
undone-joined w (drops v) was = refl
undone-joined w (joins v) was = refl
undone-joined w (starts silent) was = refl
undone-joined w appends was = refl

pub worked-sort : {j : List Entry} {limit w : ℕ} {s : Step} {reply : Reply} {p p' : Side} (P : Sort → Type 0) → P other_work → P (takes w) →
    Worked j limit w s reply p p' → P (sort_of s)
worked-sort P other take (caught k) = rw k.is other
worked-sort P other take (sent k) = rw k.is other
worked-sort P other take (written k) = rw k.is other
worked-sort P other take (took k) = rw k.is take
worked-sort P other take (acked k) = rw k.is other

-- ------------------------------------------------------------------------
-- The laws

-- a world that differs in its sides and in the greatest term alone
grounded : (wd x : World) (ps : List Side) (greatest : ℕ) →
    x ≡ record {
      journal = wd.journal;
      limit = wd.limit;
      spacing = wd.spacing;
      current = wd.current;
      sides = ps;
      greatest = greatest;
    } →
    Ground wd x
grounded wd x ps greatest e =
    subst⁻¹ (Ground wd) e (record { kept = record { journal = refl; limit = refl; spacing = refl }; current = refl })

module _ (wd : World) (s : Step) (shaped : shape (numbers_in wd) (player_in wd) ≡ true) where
  abbrev next : World
  next = (step s wd).world

  abbrev done : Bool
  done = is_done (step s wd).reply

  -- the player stays in shape
  pub step-shaped : shape (numbers_in next) (player_in next) ≡ true
  step-shaped = by (step-facts wd shaped s)
    where
      by : Facts s wd → shape (numbers_in next) (player_in next) ≡ true
      by (working quiet (idles k)) = rw k.world shaped
      by (working quiet (reads k)) = k.mained.shaped
      by (working quiet (serves v k)) = k.shaped
      by (dropping v k) = k.shaped
      by (joining v k) = k.shaped
      by (starting k) = k.restarted.shaped
      by (appending k) = k.shaped

  -- the number of windows stays
  pub step_count : length next.sides ≡ length wd.sides
  step_count = by (step-facts wd shaped s)
    where
      by : Facts s wd → length next.sides ≡ length wd.sides
      by (working quiet (idles k)) = ap (λ x. length x.sides) k.world
      by (working quiet (reads k)) = k.mained.count
      by (working quiet (serves v k)) = ap (λ x. length x.sides) k.world ∙ with_side-count v _ wd
      by (dropping v k) = ap (λ x. length x.sides) k.world ∙ with_side-count v _ wd
      by (joining v k) = ap (λ x. length x.sides) k.world ∙ with_side-count v _ wd
      by (starting k) = k.restarted.count
      by (appending k) = ap (λ x. length x.sides) k.world

  -- the greatest term used is no less
  pub step-greatest : wd.greatest ≤ next.greatest
  step-greatest = by (step-facts wd shaped s)
    where
      by : Facts s wd → wd.greatest ≤ next.greatest
      by (working quiet (idles k)) = omega (arith, ap (λ x. x.greatest) k.world)
      by (working quiet (reads k)) = omega (arith, k.mained.greatest)
      by (working quiet (serves v k)) = omega (arith, ap (λ x. x.greatest) k.world)
      by (dropping v k) = omega (arith, ap (λ x. x.greatest) k.world)
      by (joining v k) = omega (arith, ap (λ x. x.greatest) k.world)
      by (starting k) = omega (arith, k.restarted.greatest)
      by (appending k) = omega (arith, ap (λ x. x.greatest) k.world)

  -- a step that is no Start and no append leaves the journal, the batch limit and the spacing
  pub step_keeps : ((settings : Settings) → s ≡ start settings → ⊥) → ((e : Entry) → s ≡ append e → ⊥) → Keeps wd next
  step_keeps unstarted unappended = by (step-facts wd shaped s)
    where
      by : Facts s wd → Keeps wd next
      by (working quiet (idles k)) = (grounded wd next _ _ k.world).kept
      by (working quiet (reads k)) = let m = k.mained in record { journal = m.journal; limit = m.limit; spacing = m.spacing }
      by (working quiet (serves v k)) = (grounded wd next _ _ k.world).kept
      by (dropping v k) = (grounded wd next _ _ k.world).kept
      by (joining v k) = (grounded wd next _ _ k.world).kept
      by (starting k) = absurd (unstarted k.settings k.is)
      by (appending k) = absurd (unappended k.entry k.is)

  -- a step is a fault or an append, or else it does some work or nothing
  pub begun-or-working : (begins (sort_of s) done ≡ true) ⊎ ((begins (sort_of s) done ≡ false) × Work s wd)
  begun-or-working = by (step-facts wd shaped s)
    where
      by : Facts s wd → (begins (sort_of s) done ≡ true) ⊎ ((begins (sort_of s) done ≡ false) × Work s wd)
      by (working quiet work) = inr (quiet, work)
      by (dropping v k) = inl (ap (λ x. begins (sort_of x) done) k.is ∙ k.done)
      by (joining v k) = inl (ap (λ x. begins (sort_of x) done) k.is ∙ k.done)
      by (starting k) = inl (ap (λ x. begins (sort_of x) done) k.is ∙ k.done)
      by (appending k) = inl (ap (λ x. begins (sort_of x) done) k.is ∙ k.done)

  module _ (w : ℕ) (h : w < length wd.sides) where
    abbrev At : ℕ → Side → Type 0
    At u p' = Moved s wd u (side_at u wd) p'

    -- the side of window v replaced, and what that is at any other
    replaced : (v : ℕ) (p : Side) → v < length wd.sides → next.sides ≡ set wd.sides v p → At v p →
        ((w ≡ v → ⊥) → StillAt s wd w (side_at w wd) (side_at w wd)) → At w (side_at w next)
    replaced v p l e here other =
        subst⁻¹ (λ ps. At w (get_or ps w no_side)) e (get_or-set-each At wd.sides v w p no_side l here (λ n. still (other n)))

    -- a step of no window but v, seen at another
    elsewhere : (k : Sort) → sort_of s ≡ k → Ground wd next → ((was : Bool) → joined_by w k done was ≡ was) →
        (is_take_at w k && done) ≡ false → StillAt s wd w (side_at w wd) (side_at w wd)
    elsewhere k is ground joined taken = record {
      ground = ground;
      joined = λ was. rw is (joined was);
      taken = rw is taken;
      side = refl;
    }

    -- what a step does at window w
    pub side-moves : At w (side_at w next)
    side-moves = by (step-facts wd shaped s)
      where
        by : Facts s wd → At w (side_at w next)
        by (working quiet (idles k)) =
            still
            (record {
              ground = grounded wd next _ _ k.world;
              joined = λ was. rw k.undone (undone-joined w (sort_of s) was);
              taken = rw k.undone (and-false (is_take_at w (sort_of s)));
              side = ap (side_at w) k.world;
            })
        by (working quiet (reads k)) = mained (record { by = k; side = k.mained.each w h })
        by (working quiet (serves v k)) =
            let ground = grounded wd next _ _ k.world in
            replaced v k.after k.within (ap (λ x. x.sides) k.world) (worked (record { ground = ground; work = k.work }))
            (λ n.
            worked-sort (λ x. sort_of s ≡ x → StillAt s wd w (side_at w wd) (side_at w wd))
            (λ is. elsewhere other_work is ground (λ was. refl) refl)
            (λ is. elsewhere (takes v) is ground (λ was. refl) (ap (λ b. b && done) (ne_eqb v w (λ m. n (sym m)))))
            k.work refl)
        by (dropping v k) =
            let ground = grounded wd next _ _ k.world in
            replaced v _ k.within (ap (λ x. x.sides) k.world)
            (dropped-here (record { ground = ground; is = k.is; done = k.done; side = refl }))
            (λ n. elsewhere (drops v) (ap sort_of k.is) ground (λ was. rw (k.done, ne_eqb v w (λ m. n (sym m)))) refl)
        by (joining v k) =
            let ground = grounded wd next _ _ k.world in
            replaced v _ k.within (ap (λ x. x.sides) k.world)
            (joined-here
            (record {
              ground = ground;
              is = k.is;
              done = k.done;
              away = k.away;
              greatest = ap (λ x. x.greatest) k.world;
              side = refl;
            }))
            (λ n. elsewhere (joins v) (ap sort_of k.is) ground (λ was. rw (k.done, ne_eqb v w (λ m. n (sym m)))) refl)
        by (starting k) = started-here (record { by = k; least = k.restarted.least w h; side = k.restarted.each w h })
        by (appending k) = appended (record { by = k; side = ap (side_at w) k.world })
