-- Laws of the list of windows that a player shows: the first n of its windows, and a rule at every window.
use Rattle.std.specs.Prelude.{ℕ, zero, suc, ◌+◌, ◌≤◌, ◌<◌, ◌≡◌, refl, List, [], ◌∷◌, ◌++◌, Bool, true, ◌&&◌, length, take, drop, get_or, set}
use Rattle.std.proofs.Common.{le_refl, le_of_suc-le-suc, not-suc-le-zero, add-one, ap, ap₂, append-nil, drop_of_length-le, drop-cons, take-suc-set, drop-set-lt, take_all}
use Rattle.std.proofs.Math.Seq.{append_snoc}
use Rattle.lists.specs.Cases.{and_left, and_right}
use Rattle.lists.specs.All.{all}
use Rattle.window.specs.declared.Window.{Window}
use Rattle.rules.specs.View.{WindowView, no_window}
use Rattle.window.specs.View.{view_of}
use Rattle.player.specs.View.{first_windows}
use Rattle.rules.specs.Rules.{map_windows}

-- ------------------------------------------------------------------------
-- first_windows

pub first_windows-length : (n : ℕ) (ws : List Window) → length (first_windows n ws) ≡ n
unfolding first_windows
first_windows-length zero ws = refl
first_windows-length (suc n) [] = ap suc (first_windows-length n [])
first_windows-length (suc n) (x ∷ ws) = ap suc (first_windows-length n ws)

pub first_windows-at : (n : ℕ) (ws : List Window) (w : ℕ) (e : WindowView) (d : Window) → w < n → n ≤ length ws →
    get_or (first_windows n ws) w e ≡ view_of (get_or ws w d)
unfolding first_windows
first_windows-at zero ws w e d l h = absurd (not-suc-le-zero l)
first_windows-at (suc n) [] w e d l h = absurd (not-suc-le-zero h)
first_windows-at (suc n) (x ∷ ws) zero e d l h = refl
first_windows-at (suc n) (x ∷ ws) (suc w) e d l h = first_windows-at n ws w e d (le_of_suc-le-suc l) (le_of_suc-le-suc h)

pub first_windows-set : (n : ℕ) (ws : List Window) (w : ℕ) (x : Window) → n ≤ length ws →
    first_windows n (set ws w x) ≡ set (first_windows n ws) w (view_of x)
unfolding first_windows
first_windows-set zero ws w x h = refl
first_windows-set (suc n) [] w x h = absurd (not-suc-le-zero h)
first_windows-set (suc n) (y ∷ ws) zero x h = refl
first_windows-set (suc n) (y ∷ ws) (suc w) x h = ap (λ (t : List WindowView). view_of y ∷ t) (first_windows-set n ws w x (le_of_suc-le-suc h))

-- a test of the first n windows, of which there are so many
pub first_windows-test : (p : WindowView → Bool) (n : ℕ) (ws : List Window) → n ≤ length ws →
    all p (first_windows n ws) ≡ all (λ w. p (view_of w)) (take n ws)
unfolding first_windows all
first_windows-test p zero ws h = refl
first_windows-test p (suc n) [] h = absurd (not-suc-le-zero h)
first_windows-test p (suc n) (x ∷ ws) h = ap (λ b. p (view_of x) && b) (first_windows-test p n ws (le_of_suc-le-suc h))

-- the windows from w on: window w and those after it
pub first_windows-drop : (n : ℕ) (ws : List Window) (w : ℕ) (d : Window) → w < n → n ≤ length ws →
    drop w (first_windows n ws) ≡ view_of (get_or ws w d) ∷ drop (w + 1) (first_windows n ws)
first_windows-drop n ws w d l h =
    rw (add-one, drop-cons (first_windows n ws) w no_window (rw first_windows-length l), first_windows-at n ws w no_window d l h)

pub first_windows-end : (n : ℕ) (ws : List Window) (w : ℕ) → n ≤ w → drop w (first_windows n ws) ≡ []
first_windows-end n ws w h = drop_of_length-le (first_windows n ws) {i = w} (rw first_windows-length h)

-- a test of the windows from w on: window w's, and that of those after it
pub first_windows-all : (p : WindowView → Bool) (n w : ℕ) (ws : List Window) (d : Window) (b : Bool) →
    w < n → n ≤ length ws → b ≡ p (view_of (get_or ws w d)) →
    all p (drop w (first_windows n ws)) ≡ (b && all p (drop (w + 1) (first_windows n ws)))
unfolding all
first_windows-all p n w ws d b l h e = rw (first_windows-drop n ws w d l h, e)

-- ------------------------------------------------------------------------
-- map_windows

-- two rules that agree at every window that passes a test
pub map_windows-same : (p : WindowView → Bool) (f g : ℕ → WindowView → WindowView) →
    ((w : ℕ) (v : WindowView) → p v ≡ true → f w v ≡ g w v) →
    (w : ℕ) (vs : List WindowView) → all p vs ≡ true → map_windows f w vs ≡ map_windows g w vs
unfolding map_windows all
map_windows-same p f g e w [] h = refl
map_windows-same p f g e w (v ∷ vs) h =
    ap₂ ◌∷◌ (e w v (and_left (p v) _ h)) (map_windows-same p f g e (suc w) vs (and_right (p v) _ h))

-- the windows from w on by their rule, and those before as they are: what is left of a walk that has come to window w
unfoldable pub map_from : (ℕ → WindowView → WindowView) → ℕ → List WindowView → List WindowView
map_from f w vs = take w vs ++ map_windows f w (drop w vs)

map_from-step : (f : ℕ → WindowView → WindowView) (w : ℕ) (vs : List WindowView) (e : WindowView) → w < length vs →
    map_from f (w + 1) (set vs w (f w (get_or vs w e))) ≡ map_from f w vs
unfolding map_from map_windows
map_from-step f w vs e l =
    rw (
      add-one,
      take-suc-set vs w _ l,
      drop-set-lt (suc w) vs w _ (le_refl (suc w)),
      drop-cons vs w e l,
      append_snoc,
    )

-- one more window of a player, stored
pub map_from-stored : (f : ℕ → WindowView → WindowView) (n w : ℕ) (ws : List Window) (d x : Window) → w < n → n ≤ length ws →
    view_of x ≡ f w (view_of (get_or ws w d)) → map_from f (w + 1) (first_windows n (set ws w x)) ≡ map_from f w (first_windows n ws)
map_from-stored f n w ws d x l h e =
    rw (first_windows-set n ws w x h, e, ← first_windows-at n ws w no_window d l h)
    (map_from-step f w (first_windows n ws) no_window (rw first_windows-length l))

pub map_from-end : (f : ℕ → WindowView → WindowView) (w : ℕ) (vs : List WindowView) → length vs ≤ w → map_from f w vs ≡ vs
unfolding map_from map_windows
map_from-end f w vs h = rw (take_all w vs h, drop_of_length-le vs {i = w} h, append-nil)
