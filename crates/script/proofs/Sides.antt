-- Laws of the sides that a stage shows, and of a world without its history.
use Rattle.std.specs.Prelude.{ℕ, zero, suc, ◌≤◌, ◌<◌, ◌≡◌, refl, List, [], ◌∷◌, map, length, get_or, set}
use Rattle.std.proofs.Common.{ap, arith}
use Rattle.record.specs.declared.Record.{Record}
use Rattle.record.specs.Record.{new_record}
use Rattle.rules.specs.View.{WindowView, PlayerView, no_window}
use Rattle.delivery.specs.World.{Side, World, no_side, player_in, with_view, with_views, with_player, with_side}
use Rattle.script.specs.declared.line.Line.{Line}
use Rattle.script.specs.Line.{fresh_line}
use Rattle.script.specs.Stage.{side_of, sides_of, world_with, forget, forgotten}

-- ------------------------------------------------------------------------
-- sides_of

pub sides_of-length : (vs : List WindowView) (rs : List Record) (ls : List Line) → length (sides_of vs rs ls) ≡ length vs
unfolding sides_of
sides_of-length [] rs ls = refl
sides_of-length (v ∷ vs) [] ls = ap suc (sides_of-length vs [] ls)
sides_of-length (v ∷ vs) (r ∷ rs) [] = ap suc (sides_of-length vs rs [])
sides_of-length (v ∷ vs) (r ∷ rs) (l ∷ ls) = ap suc (sides_of-length vs rs ls)

pub sides_of-forget : (vs : List WindowView) (rs : List Record) (ls : List Line) → map forget (sides_of vs rs ls) ≡ sides_of vs rs ls
unfolding sides_of
sides_of-forget [] rs ls = refl
sides_of-forget (v ∷ vs) [] ls = ap (λ ps. no_side ∷ ps) (sides_of-forget vs [] ls)
sides_of-forget (v ∷ vs) (r ∷ rs) [] = ap (λ ps. no_side ∷ ps) (sides_of-forget vs rs [])
sides_of-forget (v ∷ vs) (r ∷ rs) (l ∷ ls) = ap (λ ps. side_of v r l ∷ ps) (sides_of-forget vs rs ls)

-- where there are records and lines for all windows: the views, window w's side, a side replaced, and all views replaced
pub sides_of-views : (vs : List WindowView) (rs : List Record) (ls : List Line) → length vs ≤ length rs → length vs ≤ length ls →
    map (λ p. p.view) (sides_of vs rs ls) ≡ vs
unfolding sides_of
sides_of-views [] rs ls a b = refl
sides_of-views (v ∷ vs) [] ls a b = absurd (omega arith)
sides_of-views (v ∷ vs) (r ∷ rs) [] a b = absurd (omega arith)
sides_of-views (v ∷ vs) (r ∷ rs) (l ∷ ls) a b = ap (λ us. v ∷ us) (sides_of-views vs rs ls (omega arith) (omega arith))

pub sides_of-at : (vs : List WindowView) (rs : List Record) (ls : List Line) (w : ℕ) → w < length vs → length vs ≤ length rs →
    length vs ≤ length ls →
    get_or (sides_of vs rs ls) w no_side ≡ side_of (get_or vs w no_window) (get_or rs w new_record) (get_or ls w fresh_line)
unfolding sides_of
sides_of-at [] rs ls w h a b = absurd (omega arith)
sides_of-at (v ∷ vs) [] ls w h a b = absurd (omega arith)
sides_of-at (v ∷ vs) (r ∷ rs) [] w h a b = absurd (omega arith)
sides_of-at (v ∷ vs) (r ∷ rs) (l ∷ ls) zero h a b = refl
sides_of-at (v ∷ vs) (r ∷ rs) (l ∷ ls) (suc w) h a b = sides_of-at vs rs ls w (omega arith) (omega arith) (omega arith)

pub sides_of-set : (vs : List WindowView) (rs : List Record) (ls : List Line) (w : ℕ) (v : WindowView) (r : Record) (l : Line) →
    length vs ≤ length rs → length vs ≤ length ls → sides_of (set vs w v) (set rs w r) (set ls w l) ≡ set (sides_of vs rs ls) w (side_of v r l)
unfolding sides_of
sides_of-set [] rs ls w v r l a b = refl
sides_of-set (u ∷ vs) [] ls w v r l a b = absurd (omega arith)
sides_of-set (u ∷ vs) (x ∷ rs) [] w v r l a b = absurd (omega arith)
sides_of-set (u ∷ vs) (x ∷ rs) (y ∷ ls) zero v r l a b = refl
sides_of-set (u ∷ vs) (x ∷ rs) (y ∷ ls) (suc w) v r l a b =
    ap (λ ps. side_of u x y ∷ ps) (sides_of-set vs rs ls w v r l (omega arith) (omega arith))

pub sides_of-with : (us vs : List WindowView) (rs : List Record) (ls : List Line) → length us ≡ length vs → length vs ≤ length rs →
    length vs ≤ length ls →
    sides_of us rs ls ≡ with_views us (sides_of vs rs ls)
unfolding sides_of with_views
sides_of-with [] vs rs ls e a b = refl
sides_of-with (u ∷ us) [] rs ls e a b = absurd (omega arith)
sides_of-with (u ∷ us) (v ∷ vs) [] ls e a b = absurd (omega arith)
sides_of-with (u ∷ us) (v ∷ vs) (r ∷ rs) [] e a b = absurd (omega arith)
sides_of-with (u ∷ us) (v ∷ vs) (r ∷ rs) (l ∷ ls) e a b =
    ap (λ ps. side_of u r l ∷ ps) (sides_of-with us vs rs ls (omega arith) (omega arith) (omega arith))

-- ------------------------------------------------------------------------
-- forgotten

with_views-forget : (us : List WindowView) (ps : List Side) → map forget (with_views us ps) ≡ with_views us (map forget ps)
unfolding with_views
with_views-forget [] ps = refl
with_views-forget (u ∷ us) [] = refl
with_views-forget (u ∷ us) (p ∷ ps) = ap (λ l. with_view u (forget p) ∷ l) (with_views-forget us ps)

set-forget : (ps : List Side) (w : ℕ) (p : Side) → map forget (set ps w p) ≡ set (map forget ps) w (forget p)
set-forget [] w p = refl
set-forget (x ∷ ps) zero p = refl
set-forget (x ∷ ps) (suc w) p = ap (λ l. forget x ∷ l) (set-forget ps w p)

pub forgotten-player : (q : PlayerView) (wd : World) → forgotten (with_player q wd) ≡ with_player q (forgotten wd)
unfolding forgotten with_player
forgotten-player q wd =
    ap (world_with wd.journal q) (with_views-forget q.windows wd.sides)

pub forgotten-side : (w : ℕ) (p : Side) (wd : World) → forgotten (with_side w p wd) ≡ with_side w (forget p) (forgotten wd)
unfolding forgotten
forgotten-side w p wd =
    ap (world_with wd.journal (player_in wd)) (set-forget wd.sides w p)
