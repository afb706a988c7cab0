-- For Start: what is said of each window one by one, the least report, and windows stored one by one.
use Rattle.std.specs.Prelude.{ℕ, suc, ◌+◌, ◌-◌, ◌≤◌, ◌<◌, min, ◌≡◌, refl, List, [], ◌∷◌, ◌++◌, map, true, ◌&&◌, length, take, drop, get_or, set, replicate, Result, Ok, Err}
use Rattle.std.proofs.Common.{add-one, arith, sym, ap, ap₂, ◌∙◌, append_assoc, drop_of_length-le, length-append, take-suc, length-take-le, drop-cons}
use Rattle.std.proofs.lemmas.List.{map-append, length-map, set_at}
use Rattle.lists.specs.All.{all}
use Rattle.window.specs.declared.Refusal.{Refusal}
use Rattle.window.specs.declared.Window.{Window}
use Rattle.player.specs.declared.Player.{Player}
use Rattle.player.specs.declared.Played.{Played}
use Rattle.window.specs.Promise.{started_window, started_window_by}
use Rattle.window.specs.Laws.{view_of-started}
use Rattle.player.specs.View.{first_windows, player_of}
use Rattle.player.specs.Promise.{fresh_windows, fresh_player}
use Rattle.rules.specs.declared.Term.{Term}
use Rattle.rules.specs.declared.Settings.{Settings}
use Rattle.rules.specs.Window.{Report, told, silence, started_by}
use Rattle.rules.specs.Rules.{said_by, said, is_start_report, spoken, least}
use Rattle.rules.proofs.Offers.{start_next, said-length, said_at}

-- ------------------------------------------------------------------------
-- what Start gives back, which makes a player or refuses

abbrev pub played : Player → Result Player Refusal → Played
played before (Ok fresh) = record { player = fresh; answer = Ok tt }
played before (Err refusal) = record { player = before; answer = Err refusal }

-- ------------------------------------------------------------------------
-- said

module _ (silent : ℕ) (reports : List ℕ) (w : ℕ) (l : w < length reports) where
  said-within : w < length (said silent reports)
  said-within = rw (said-length silent reports) l

  said-drop : drop w (said silent reports) ≡ said_by silent w (get_or reports w 0) ∷ drop (w + 1) (said silent reports)
  said-drop = rw (add-one, drop-cons (said silent reports) w silence said-within, said_at silent reports w l)

  said-take : take (w + 1) (said silent reports) ≡ take w (said silent reports) ++ (said_by silent w (get_or reports w 0) ∷ [])
  said-take = rw (add-one, take-suc (said silent reports) w silence said-within, said_at silent reports w l)

said-end : (silent : ℕ) (reports : List ℕ) (w : ℕ) → length reports ≤ w → drop w (said silent reports) ≡ []
said-end silent reports w l = drop_of_length-le (said silent reports) {i = w} (rw (said-length silent reports) l)

-- ------------------------------------------------------------------------
-- reports that Start takes

pub reports-at : (l silent : ℕ) (reports : List ℕ) (w : ℕ) → w < length reports →
    all (is_start_report l) (drop w (said silent reports))
    ≡ (is_start_report l (said_by silent w (get_or reports w 0)) && all (is_start_report l) (drop (w + 1) (said silent reports)))
unfolding all
reports-at l silent reports w h = rw (said-drop silent reports w h)

pub reports-end : (l silent : ℕ) (reports : List ℕ) (w : ℕ) → length reports ≤ w →
    all (is_start_report l) (drop w (said silent reports)) ≡ true
unfolding all
reports-end l silent reports w h = rw (said-end silent reports w h)

-- ------------------------------------------------------------------------
-- the least of a number and some reports

abbrev pub lesser : ℕ → Report → ℕ
lesser n (told r) = min n r
lesser n silence = n

unfoldable pub lowest : ℕ → List Report → ℕ
lowest n [] = n
lowest n (r ∷ rs) = lowest (lesser n r) rs

pub lowest-at : (n silent : ℕ) (reports : List ℕ) (w : ℕ) → w < length reports →
    lowest n (drop w (said silent reports))
    ≡ lowest (lesser n (said_by silent w (get_or reports w 0))) (drop (w + 1) (said silent reports))
unfolding lowest
lowest-at n silent reports w l = rw (said-drop silent reports w l)

pub lowest-end : (n silent : ℕ) (reports : List ℕ) (w : ℕ) → length reports ≤ w → lowest n (drop w (said silent reports)) ≡ n
unfolding lowest
lowest-end n silent reports w l = rw (said-end silent reports w l)

least-min : (l m r : ℕ) (rs : List ℕ) → least l (min m r ∷ rs) ≡ least l (m ∷ r ∷ rs)
unfolding least
least-min l m r [] = refl
least-min l m r (s ∷ rs) = omega arith

lowest-from : (l n : ℕ) (rs : List Report) → lowest n rs ≡ least l (n ∷ spoken rs)
unfolding lowest spoken least
lowest-from l n [] = refl
lowest-from l n (told r ∷ rs) = lowest-from l (min n r) rs ∙ least-min l n r (spoken rs)
lowest-from l n (silence ∷ rs) = lowest-from l n rs

-- where no report is above l, the least of l and the reports is the least report, or l where there is none
pub lowest-least : (l : ℕ) (rs : List Report) → ((w r : ℕ) → get_or rs w silence ≡ told r → r ≤ l) → lowest l rs ≡ least l (spoken rs)
unfolding lowest spoken least
lowest-least l [] h = refl
lowest-least l (told r ∷ rs) h =
    let within : r ≤ l = h 0 r refl in
    ap (λ n. lowest n rs) (omega arith) ∙ lowest-from l r rs
lowest-least l (silence ∷ rs) h = lowest-least l rs (λ w. h (suc w))

-- ------------------------------------------------------------------------
-- fresh_windows

pub fresh_windows-none : (first : Term) (l : ℕ) → replicate 16 (started_window first 0) ≡ fresh_windows first l []
unfolding fresh_windows
fresh_windows-none first l = refl

-- one more window, from what is said of it
fresh_windows-snoc : (first : Term) (l : ℕ) (rs : List Report) (r : Report) (w : ℕ) → length rs ≡ w → w < 16 →
    set (fresh_windows first l rs) w (started_window_by first l r) ≡ fresh_windows first l (rs ++ (r ∷ []))
unfolding fresh_windows
fresh_windows-snoc first l rs r w e h =
    let left : 16 - length rs ≡ suc (16 - suc (length rs)) = omega arith in
    let after : length (rs ++ (r ∷ [])) ≡ suc (length rs) = omega (arith, length-append rs (r ∷ [])) in
    let by : Report → Window = started_window_by first l in
    rw (left, set_at (map by rs) (started_window first 0) _ (by r) w (length-map rs by ∙ e), map-append, after)
    (sym (append_assoc (map by rs) (by r ∷ []) _))

pub fresh_windows-more : (first : Term) (l silent : ℕ) (reports : List ℕ) (w : ℕ) → w < length reports → w < 16 →
    set (fresh_windows first l (take w (said silent reports))) w (started_window_by first l (said_by silent w (get_or reports w 0)))
    ≡ fresh_windows first l (take (w + 1) (said silent reports))
fresh_windows-more first l silent reports w h few =
    let within = said-within silent reports w h in
    rw (said-take silent reports w h)
    (fresh_windows-snoc first l (take w (said silent reports)) _ w (length-take-le w (said silent reports) (omega arith)) few)

first_windows-fresh : (first : Term) (l : ℕ) (rs : List Report) (ws : List Window) →
    first_windows (length rs) (map (started_window_by first l) rs ++ ws) ≡ map (started_by first l) rs
unfolding first_windows
first_windows-fresh first l [] ws = refl
first_windows-fresh first l (r ∷ rs) ws = ap₂ ◌∷◌ (view_of-started first l r) (first_windows-fresh first l rs ws)

-- what a fresh player shows
pub fresh_player-shown : (l count : ℕ) (settings : Settings) (reports : List ℕ) → length reports ≡ count →
    player_of (fresh_player l count settings reports) ≡ start_next l settings reports
unfolding player_of fresh_windows
fresh_player-shown l count settings reports e =
    let rs : List Report = said settings.silent reports in
    ap (λ vs. record { limit = settings.limit; spacing = settings.spacing; current = least l (spoken rs); windows = vs })
    (ap (λ n. first_windows n (fresh_windows settings.first l rs)) (sym (said-length settings.silent reports ∙ e))
    ∙ first_windows-fresh settings.first l rs _)
