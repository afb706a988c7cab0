-- Laws of a stage as a world: the player in it, a window's side, and a stage of which a part is replaced.
use Rattle.std.specs.Prelude.{ℕ, ◌≤◌, ◌<◌, ◌≡◌, Bool, cond, length, get_or, set}
use Rattle.std.proofs.Math.Path.{refl, sym, ap}
use Rattle.std.proofs.Common.{◌∙◌, arith}
use mathlib.Core.List.{List}
use Rattle.std.proofs.Math.Bool.{true, false}
use borrow.Author.Tests.{eqb-true, lt-ltb, le-ltb, ltb-true, ltb-false}
use Rattle.std.proofs.Math.ListN.{get_or-eq_default}
use Rattle.std.proofs.lemmas.List.{set-get_or}
use Rattle.std.proofs.Math.Dec.{ltb}
use Rattle.journal.specs.declared.Entry.{Entry}
use Rattle.journal.specs.Entry.{in_shape, entries_of}
use Rattle.journal.specs.EntryLaws.{numbers_of-entries_of}
use Rattle.lists.specs.Cases.{and_left}
use Rattle.record.specs.declared.Record.{Record}
use Rattle.record.specs.Record.{new_record}
use Rattle.window.specs.declared.Window.{Window}
use Rattle.window.specs.View.{view_of}
use Rattle.rules.specs.View.{WindowView, PlayerView, no_window}
use Rattle.rules.specs.Rules.{window_at, with_window}
use Rattle.player.specs.declared.Player.{Player}
use Rattle.player.specs.View.{player_of}
use Rattle.player.specs.FirstWindows.{first_windows-length, first_windows-at}
use Rattle.delivery.specs.World.{Side, World, no_side, side_at, numbers_in, player_in, with_view, with_player, with_side}
use Rattle.delivery.proofs.Offers.{with_windows, with_player-window, with_side-here, with_side-twice}
use Rattle.script.specs.declared.line.Line.{Line}
use Rattle.script.specs.declared.Stage.{Stage}
use Rattle.lists.specs.Cells.{front}
use Rattle.lists.specs.Set.{get_or-any}
use Rattle.queue.specs.Items.{items_in}
use Rattle.script.specs.Line.{fresh_line}
use Rattle.script.specs.Stage.{side_of, sides_of, world_with, world_of, forget, forgotten, record_in, line_in}
use Rattle.script.specs.Stored.{absent, present, slot_in, stored_at}
use Rattle.script.proofs.Sides.{sides_of-length, sides_of-forget, sides_of-views, sides_of-at, sides_of-set, sides_of-with}
use Rattle.script.proofs.Sides.{forgotten-player, forgotten-side}

-- ------------------------------------------------------------------------
-- the player

-- a player shows as many windows as its count says
pub player_of-count : (p : Player) → length (player_of p).windows ≡ p.count
unfolding player_of
player_of-count p = first_windows-length p.count p.windows

-- a window of a player, as the code reads it
pub window_at-none : (p : Player) (w : ℕ) → p.count ≤ w → window_at w (player_of p) ≡ no_window
window_at-none p w h = get_or-eq_default (player_of p).windows no_window {n = w} (rw player_of-count h)

pub window_at-here : (p : Player) (w : ℕ) (d : Window) → w < p.count → p.count ≤ length p.windows →
    window_at w (player_of p) ≡ view_of (get_or p.windows w d)
unfolding player_of
window_at-here p w d l h = first_windows-at p.count p.windows w no_window d l h

-- ------------------------------------------------------------------------
-- a world's side changed

-- the side of window w, changed
abbrev pub changed : ℕ → (Side → Side) → World → World
changed w g wd = with_side w (g (side_at w wd)) wd

-- a turn of window w, and then a change of its side
pub changed-turn : (w : ℕ) (g : Side → Side) (v : WindowView) (q : PlayerView) (wd : World) → w < length wd.sides →
    q ≡ with_window w v (player_in wd) →
    changed w g (with_player q wd) ≡ with_side w (g (with_view v (side_at w wd))) wd
changed-turn w g v q wd l e =
    let turned : Side = with_view v (side_at w wd) in
    ap (changed w g) (with_player-window wd q w v e)
    ∙ ap (λ p. with_side w (g p) (with_side w turned wd)) (with_side-here w turned wd l)
    ∙ with_side-twice w turned (g turned) wd

-- ------------------------------------------------------------------------
-- world_of

-- the numbers in the world of a journal in shape
pub world_of-numbers : (ns : List ℕ) (s : Stage) → in_shape ns ≡ true → numbers_in (world_of (entries_of ns) s) ≡ ns
unfolding world_of
world_of-numbers ns s h = numbers_of-entries_of ns (eqb-true _ _ (and_left _ _ h))

pub world_of-forgotten : (j : List Entry) (s : Stage) → forgotten (world_of j s) ≡ world_of j s
unfolding world_of forgotten
world_of-forgotten j s =
    let q : PlayerView = player_of s.player in
    ap (world_with j q) (sides_of-forget q.windows s.records s.lines)

pub world_of-count : (j : List Entry) (s : Stage) → length (world_of j s).sides ≡ s.player.count
unfolding world_of
world_of-count j s = sides_of-length (player_of s.player).windows s.records s.lines ∙ player_of-count s.player

-- a side of the world replaced is replaced by one without history
pub world_of-forgets : (j : List Entry) (s : Stage) (w : ℕ) (p : Side) →
    forgotten (with_side w p (world_of j s)) ≡ with_side w (forget p) (world_of j s)
world_of-forgets j s w p = forgotten-side w p (world_of j s) ∙ ap (with_side w (forget p)) (world_of-forgotten j s)

-- a stage that code holds, with at most 16 windows
pub record Staged (s : Stage) : Type 0 where
  pub few : s.player.count ≤ 16
  pub records : length s.records ≡ 16
  pub lines : length s.lines ≡ 16

module _ (j : List Entry) (s : Stage) (h : Staged s) where
  records-few : length (player_of s.player).windows ≤ length s.records
  records-few = omega (arith, player_of-count s.player)

  lines-few : length (player_of s.player).windows ≤ length s.lines
  lines-few = omega (arith, player_of-count s.player)

  pub world_of-player : player_in (world_of j s) ≡ player_of s.player
  unfolding world_of
  world_of-player =
      let q : PlayerView = player_of s.player in
      ap (with_windows q)
      (sides_of-views q.windows s.records s.lines records-few lines-few)

  -- a window's side: what the player holds for it, its record and its line
  pub world_of-side : (w : ℕ) → side_at w (world_of j s) ≡ side_of (window_at w (player_of s.player)) (record_in w s) (line_in w s)
  unfolding world_of items_in front
  world_of-side w = by (ltb w s.player.count) refl
    where
      by : (b : Bool) → ltb w s.player.count ≡ b → side_at w (world_of j s)
          ≡ side_of (window_at w (player_of s.player)) (cond b (get_or s.records w new_record) new_record)
          (cond b (get_or s.lines w fresh_line) fresh_line)
      by true e =
          sides_of-at (player_of s.player).windows s.records s.lines w
          (omega (arith, player_of-count s.player, ltb-true w s.player.count e)) records-few lines-few
      by false e =
          get_or-eq_default (world_of j s).sides no_side {n = w} (rw (world_of-count j s) (ltb-false _ _ e))
          ∙ ap (λ v. side_of v new_record fresh_line) (sym (window_at-none s.player w (ltb-false _ _ e)))

  -- the player replaced by one of as many windows
  pub world_of-called : (p : Player) (q : PlayerView) → player_of p ≡ q → length q.windows ≡ length (player_of s.player).windows →
      world_of j (record { player = p; records = s.records; lines = s.lines }) ≡ forgotten (with_player q (world_of j s))
  unfolding world_of with_player
  world_of-called p q e same =
      ap (λ q. world_with j q (sides_of q.windows s.records s.lines)) e
      ∙ ap (world_with j q)
      (sides_of-with q.windows (player_of s.player).windows s.records s.lines same records-few lines-few)
      ∙ sym (forgotten-player q (world_of j s) ∙ ap (with_player q) (world_of-forgotten j s))

  module _ (w : ℕ) where
    -- one side replaced, the others as before
    pub world_of-placed : (p : Player) (v : WindowView) (r : Record) (l : Line) →
        player_of p ≡ with_window w v (player_of s.player) → world_of j (stored_at w p r l s) ≡ with_side w (side_of v r l) (world_of j s)
    unfolding world_of
    world_of-placed p v r l e =
        let q : PlayerView = player_of s.player in
        let sides : List WindowView → List Side = λ vs. sides_of vs (set s.records w r) (set s.lines w l) in
        ap (λ q. world_with j q (sides q.windows)) e
        ∙ ap (world_with j q)
        (sides_of-set q.windows s.records s.lines w v r l records-few lines-few)

    -- a turn of window w and another line for it, where the world changes the window's side so after that turn
    pub world_of-turned : (p : Player) (q : PlayerView) (v : WindowView) (l : Line) (g : Side → Side) → w < s.player.count →
        player_of p ≡ q →
        q ≡ with_window w v (player_of s.player) → side_of v (record_in w s) l ≡ forget (g (with_view v (side_at w (world_of j s)))) →
        world_of j (stored_at w p (record_in w s) l s) ≡ forgotten (changed w g (with_player q (world_of j s)))
    world_of-turned p q v l g here is turn same =
        let wd : World = world_of j s in
        world_of-placed p v (record_in w s) l (is ∙ turn)
        ∙ ap (λ x. with_side w x wd) same
        ∙ sym (world_of-forgets j s w (g (with_view v (side_at w wd))))
        ∙ sym (ap forgotten (changed-turn w g v q wd (omega (arith, world_of-count j s)) (turn ∙ ap (with_window w v) (sym world_of-player))))

-- ------------------------------------------------------------------------
-- slot_in, stored_at

-- what a stage has for a window that is not there, and for one that is
pub slot_in-absent : (s : Stage) (w : ℕ) → s.player.count ≤ w → absent ≡ slot_in w s
slot_in-absent s w h = rw (le-ltb w s.player.count h, window_at-none s.player w h)

pub slot_in-present : (s : Stage) → Staged s → length s.player.windows ≡ 16 → (w : ℕ) (x : Window) (r : Record) (l : Line) →
    w < s.player.count →
    present (view_of (get_or s.player.windows w x)) (get_or s.records w r) (get_or s.lines w l) ≡ slot_in w s
slot_in-present s h windows w x r l here =
    rw (
      lt-ltb w s.player.count here,
      window_at-here s.player w x here (omega arith),
      get_or-any s.records w r new_record (omega arith),
      get_or-any s.lines w l fresh_line (omega arith),
    )

-- either, by whether the window is one of the player's
pub slot_in-of : (s : Stage) → Staged s → length s.player.windows ≡ 16 → (w : ℕ) (x : Window) (r : Record) (l : Line) →
    cond (ltb w s.player.count) (present (view_of (get_or s.player.windows w x)) (get_or s.records w r) (get_or s.lines w l)) absent
    ≡ slot_in w s
slot_in-of s h windows w x r l = by (ltb w s.player.count) refl
  where
    by : (b : Bool) → ltb w s.player.count ≡ b →
        cond b (present (view_of (get_or s.player.windows w x)) (get_or s.records w r) (get_or s.lines w l)) absent ≡ slot_in w s
    by true e = slot_in-present s h windows w x r l (ltb-true _ _ e)
    by false e = slot_in-absent s w (ltb-false _ _ e)

-- what is there stored again
pub stored_at-same : (s : Stage) (w : ℕ) (p : Player) → w < s.player.count →
    stored_at w p (record_in w s) (line_in w s) s ≡ record { player = p; records = s.records; lines = s.lines }
stored_at-same s w p here =
    rw (lt-ltb w s.player.count here, set-get_or s.records w new_record, set-get_or s.lines w fresh_line)
