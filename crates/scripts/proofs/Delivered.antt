-- A script that the stage plays is a run that demand 3 speaks of: its replies are the run's, and what the records hold at its end are
-- leading parts.
use Rattle.std.specs.Prelude.{ℕ, ◌<◌, ◌≡◌, refl, List, ◌∷◌, map, true, length}
use Rattle.std.proofs.Common.{sym, ap, ap₂, ◌∙◌}
use Rattle.std.proofs.Math.Path.{subst⁻¹}
use Rattle.lists.specs.Keep.{keep_all}
use Rattle.journal.specs.Entry.{in_shape, entries_of}
use Rattle.journal.specs.Own.{is_own}
use Rattle.record.specs.Record.{new_record, take_all}
use Rattle.rules.specs.View.{PlayerView}
use Rattle.delivery.specs.World.{Side, World, side_at, replies, replies_by}
use Rattle.delivery.specs.World as W
use Rattle.delivery.specs.Statement.{Leading, first_world}
use Rattle.delivery.proofs.Offers.{demand-3}
use Rattle.script_line.specs.declared.Step.{Step}
use Rattle.script.specs.declared.Stage.{Stage}
use Rattle.script.specs.declared.Reply.{Reply}
use Rattle.script.specs.Stage.{world_of, forgotten, step_in, steps_in, reply_of}
use Rattle.script.specs.Opening.{run_settings, opened_by}
use Rattle.script.proofs.Opening.{opened_by-journal, opened_by-done, opened_by-world}
use Rattle.script.proofs.Worlds.{Staged, world_of-side}
use Rattle.scripts.specs.Room.{Roomy, roomy-step, roomy-opened}
use Rattle.scripts.specs.Tickless.{Short}
use Rattle.scripts.proofs.Tickless.{taken_own}
use Rattle.scripts.specs.Shown.{forgotten-at, shown-few, shown-plays}
use Rattle.scripts.specs.Delivered.{Script, none, more, Runs, LeadingRecord, FoldedRecord}

-- a stage shows a world that a script can reach
record Shows (ns : List ℕ) (s : Stage) (wd : World) : Type 0 where
  pub world : world_of (entries_of ns) s ≡ forgotten wd
  pub roomy : Roomy wd
  pub records : length s.records ≡ 16
  pub lines : length s.lines ≡ 16

-- the replies of a script, and the stage that it ends with
record Follows (ns : List ℕ) (wd : World) (sts : List Step) (rs : List Reply) (t : Stage) : Type 0 where
  pub replied : map reply_of rs ≡ replies wd (steps_in wd sts)
  pub shows : Shows ns t (W.run wd (steps_in wd sts))

script-follows : (ns : List ℕ) → in_shape ns ≡ true → {s t : Stage} {sts : List Step} {rs : List Reply} (wd : World) → Shows ns s wd →
    Script ns s sts rs t → Follows ns wd sts rs t
unfolding steps_in W.run_by replies_by
script-follows ns e wd h none = record { replied = refl; shows = h }
script-follows ns e {s = s} wd h (more {st = st} r k rest) =
    let next = shown-plays ns s wd st r e h.world h.roomy h.records h.lines k in
    let after =
    script-follows ns e (W.step (step_in wd st) wd).world
    (record { world = next.1; roomy = roomy-step wd st h.roomy; records = k.records; lines = k.lines }) rest in
    record { replied = ap₂ ◌∷◌ next.0 after.replied; shows = after.shows }

-- ------------------------------------------------------------------------
-- from an opened stage

module _ (ns : List ℕ) (count : ℕ) (before : PlayerView) (ok : (opened_by ns count).ok ≡ true) (t : Stage) (sts : List Step) (rs : List Reply)
    (script : Script ns (opened_by ns count).stage sts rs t) where
  abbrev wd₀ : World
  wd₀ = first_world before (entries_of ns) count run_settings

  abbrev last : World
  last = W.run wd₀ (steps_in wd₀ sts)

  followed : Follows ns wd₀ sts rs t
  followed =
      script-follows ns (opened_by-journal ns count before ok) wd₀
      (record {
        world = opened_by-world ns count before ok;
        roomy = roomy-opened before (entries_of ns) count run_settings refl (opened_by-done ns count before ok);
        records = refl;
        lines = refl;
      })
      script

  -- A result to be read: what the code's steps reply along a script, and the records at its end, are those of the world's steps from the
  -- world after a first Start, whatever a player held before
  pub script-runs : Runs wd₀ sts rs t
  script-runs =
      let end = followed.shows in
      let held : Staged t = record {
        few = shown-few (entries_of ns) t last end.world end.roomy end.records end.lines;
        records = end.records;
        lines = end.lines;
      } in
      record {
        replied = followed.replied;
        records = λ w.
            ap (λ p. p.record') (sym (world_of-side (entries_of ns) t held w) ∙ ap (side_at w) end.world ∙ forgotten-at w last);
      }

  leading_at : (w : ℕ) → w < count → Leading (entries_of ns) w (side_at w last)
  unfolding world_of forgotten
  leading_at w below =
      subst⁻¹ (λ j. Leading j w (side_at w last)) (ap (λ x. x.journal) followed.shows.world)
      ((demand-3 before (entries_of ns) count run_settings (steps_in wd₀ sts) (opened_by-done ns count before ok)).leading w below)

  -- A result to be read: whatever the script, each window's record is a leading part's
  pub script-delivers : (w : ℕ) → w < count → LeadingRecord (entries_of ns) w t
  script-delivers w below = record { side = side_at w last; own = script-runs.records w; leading = leading_at w below }

  -- A result to be read: with fewer entries than the spacing no window gets a tick, and each window's record is what Take makes of a new
  -- record lent the first k of its own entries, for some k
  pub script-folds : Short (entries_of ns) run_settings.spacing → (w : ℕ) → w < count → FoldedRecord (entries_of ns) w t
  script-folds short w below =
      let leading = leading_at w below in
      let done = opened_by-done ns count before ok in
      let whole = keep_all (is_own w) _ (taken_own before (entries_of ns) count run_settings done short sts w below) in
      record {
        k = leading.k;
        folded = script-runs.records w ∙ leading.folded ∙ ap (λ x. take_all x new_record) (sym whole ∙ leading.list);
      }
