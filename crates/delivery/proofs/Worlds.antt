-- Laws of a world's parts: the player in it, a side of it, and what a rule's outcome makes of it.
use Rattle.std.specs.Prelude.{ℕ, zero, suc, ◌<◌, ◌≡◌, refl, List, [], ◌∷◌, map, length, get_or, set}
use Rattle.std.proofs.Common.{sym, ap, ◌∙◌, arith, length-set, get_or-set_same, set-set}
use Rattle.std.proofs.lemmas.List.{length-map, set-get_or}
use Rattle.std.proofs.Math.ListN.{get_or-map}
use Rattle.journal.specs.Entry.{count_of, entries_of}
use Rattle.journal.specs.EntryLaws.{entries_of-length, entries_of-numbers_of}
use Rattle.lists.specs.Set.{map-set}
use Rattle.rules.specs.View.{WindowView, no_window, PlayerView}
use Rattle.rules.specs.Rules.{window_at, with_window}
use Rattle.delivery.specs.World.{Side, World, no_side, side_at, numbers_in, player_in, with_view, with_views, with_player, with_sides, with_side}

-- ------------------------------------------------------------------------
-- the journal in a world

pub entries-in : (wd : World) → entries_of (numbers_in wd) ≡ wd.journal
entries-in wd = entries_of-numbers_of wd.journal

pub count-in : (wd : World) → count_of (numbers_in wd) ≡ length wd.journal
count-in wd = sym (entries_of-length (numbers_in wd)) ∙ ap length (entries-in wd)

-- ------------------------------------------------------------------------
-- the player in a world

pub window-in : (w : ℕ) (wd : World) → window_at w (player_in wd) ≡ (side_at w wd).view
window-in w wd = get_or-map (λ p. p.view) wd.sides w no_side

pub windows-in : (wd : World) → length (player_in wd).windows ≡ length wd.sides
windows-in wd = length-map wd.sides (λ p. p.view)

-- ------------------------------------------------------------------------
-- with_views, with_player

-- a player with other windows
abbrev pub with_windows : PlayerView → List WindowView → PlayerView
with_windows q vs = record { limit = q.limit; spacing = q.spacing; current = q.current; windows = vs }

with_views-same : (ps : List Side) → with_views (map (λ p. p.view) ps) ps ≡ ps
unfolding with_views
with_views-same [] = refl
with_views-same (p ∷ ps) = ap (λ l. p ∷ l) (with_views-same ps)

with_views-set : (ps : List Side) (w : ℕ) (v : WindowView) →
    with_views (set (map (λ p. p.view) ps) w v) ps ≡ set ps w (with_view v (get_or ps w no_side))
unfolding with_views
with_views-set [] w v = refl
with_views-set (p ∷ ps) zero v = ap (λ l. with_view v p ∷ l) (with_views-same ps)
with_views-set (p ∷ ps) (suc w) v = ap (λ l. p ∷ l) (with_views-set ps w v)

pub with_views-length : (vs : List WindowView) (ps : List Side) → length vs ≡ length ps → length (with_views vs ps) ≡ length ps
unfolding with_views
with_views-length [] ps e = e
with_views-length (v ∷ vs) [] e = absurd (omega arith)
with_views-length (v ∷ vs) (p ∷ ps) e = ap suc (with_views-length vs ps (omega arith))

pub with_views-at : (vs : List WindowView) (ps : List Side) (w : ℕ) → length vs ≡ length ps → w < length ps →
    get_or (with_views vs ps) w no_side ≡ with_view (get_or vs w no_window) (get_or ps w no_side)
unfolding with_views
with_views-at [] [] w e h = absurd (omega arith)
with_views-at [] (p ∷ ps) w e h = absurd (omega arith)
with_views-at (v ∷ vs) [] w e h = absurd (omega arith)
with_views-at (v ∷ vs) (p ∷ ps) zero e h = refl
with_views-at (v ∷ vs) (p ∷ ps) (suc w) e h = with_views-at vs ps w (omega arith) (omega arith)

with_views-views : (vs : List WindowView) (ps : List Side) → length vs ≡ length ps → map (λ p. p.view) (with_views vs ps) ≡ vs
unfolding with_views
with_views-views [] [] e = refl
with_views-views [] (p ∷ ps) e = refl
with_views-views (v ∷ vs) [] e = absurd (omega arith)
with_views-views (v ∷ vs) (p ∷ ps) e = ap (λ l. v ∷ l) (with_views-views vs ps (omega arith))

-- a refusal: the player that was there
pub with_player-same : (wd : World) (q : PlayerView) → q ≡ player_in wd → with_player q wd ≡ wd
unfolding with_player
with_player-same wd q e =
    ap (λ q. with_player q wd) e ∙ ap (λ ps. with_sides ps wd) (with_views-same wd.sides)

-- a turn of window w
pub with_player-window : (wd : World) (q : PlayerView) (w : ℕ) (v : WindowView) → q ≡ with_window w v (player_in wd) →
    with_player q wd ≡ with_side w (with_view v (side_at w wd)) wd
unfolding with_player
with_player-window wd q w v e =
    ap (λ q. with_player q wd) e ∙ ap (λ ps. with_sides ps wd) (with_views-set wd.sides w v)

-- the player that a rule leaves is then the player in the world
pub with_player-player : (wd : World) (q : PlayerView) → length q.windows ≡ length wd.sides → player_in (with_player q wd) ≡ q
unfolding with_player
with_player-player wd q e = ap (with_windows q) (with_views-views q.windows wd.sides e)

-- ------------------------------------------------------------------------
-- with_side

pub with_side-here : (w : ℕ) (p : Side) (wd : World) → w < length wd.sides → side_at w (with_side w p wd) ≡ p
with_side-here w p wd h = get_or-set_same wd.sides w p no_side h

pub with_side-count : (w : ℕ) (p : Side) (wd : World) → length (with_side w p wd).sides ≡ length wd.sides
with_side-count w p wd = length-set wd.sides w p

-- the player then has that side's window
pub with_side-player : (w : ℕ) (p : Side) (wd : World) → player_in (with_side w p wd) ≡ with_window w p.view (player_in wd)
with_side-player w p wd = ap (with_windows (player_in wd)) (map-set (λ p. p.view) wd.sides w p)

pub with_side-twice : (w : ℕ) (a b : Side) (wd : World) → with_side w b (with_side w a wd) ≡ with_side w b wd
with_side-twice w a b wd = ap (λ ps. with_sides ps wd) (set-set wd.sides w a b)

-- the window that was there changes nothing
pub with_window-same : (w : ℕ) (wd : World) → with_window w (side_at w wd).view (player_in wd) ≡ player_in wd
with_window-same w wd =
    ap (λ v. with_window w v (player_in wd)) (sym (window-in w wd))
    ∙ ap (with_windows (player_in wd)) (set-get_or (player_in wd).windows w no_window)
