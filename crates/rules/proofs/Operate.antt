-- How a rule of the player reaches its windows: an operation on one window (`operate`), and every window by its own rule (`map_windows`).
use Rattle.std.specs.Prelude.{ℕ, zero, suc, ◌+◌, ◌≤◌, ◌<◌, ◌≡◌, List, [], ◌∷◌, Bool, not, cond, length, set, get_or}
use Rattle.std.proofs.Math.Path.{refl, subst⁻¹}
use Rattle.std.proofs.Common.{sym, ap, ◌∙◌, ⊎_elim, arith, length-set, get_or-set_same}
use Rattle.std.proofs.Math.Bool.{true, false}
use borrow.Author.Tests.{ltb-true, lt-ltb}
use Rattle.std.proofs.Math.ListN.{get_or-eq_default}
use Rattle.std.proofs.lemmas.List.{set-get_or}
use Rattle.std.proofs.Math.Dec.{ltb}
use Rattle.journal.specs.declared.Entry.{Entry}
use Rattle.lists.specs.Cases.{le-or-lt, eq-or-ne}
use Rattle.lists.specs.Set.{get_or-set-each}
use Rattle.journal.specs.Entry.{count_of, entries_of}
use Rattle.rules.specs.View.{WindowView, PlayerView, no_window}
use Rattle.rules.specs.Shape.{shape}
use Rattle.rules.specs.Window.{Turn, done}
use Rattle.rules.specs.Rules.{Outcome, refuse, window_at, with_window, turn_at, operate, map_windows}
use Rattle.rules.proofs.Checks.{Refuses, Fail, Decides, decides-next}
use Rattle.rules.proofs.Shaped.{WindowShaped, Shaped, shaped, shape_of}

-- ------------------------------------------------------------------------
-- window_at

-- a window other than what stands where there is none is there
pub window_at-within : (w : ℕ) (p : PlayerView) → (window_at w p ≡ no_window → ⊥) → w < length p.windows
window_at-within w p some =
    ⊎_elim
    (λ (h : length p.windows ≤ w). absurd (some (get_or-eq_default p.windows no_window h)))
    (λ (h : w < length p.windows). h)
    (le-or-lt (length p.windows) w)

-- ------------------------------------------------------------------------
-- operate

-- an operation on window w that is answered 0: the state was in shape, the window is there, T holds of its turn, and the window becomes
-- what that turn makes of it
pub record Operated (ns : List ℕ) (w : ℕ) (p : PlayerView) (o : Outcome) (T : Type 0) (after : T → WindowView) : Type 0 where
  pub shaped : shape ns p ≡ true
  pub within : w < length p.windows
  pub turn : T
  pub next : o.next ≡ with_window w (after turn) p

-- the window as the operation leaves it
pub operated-at : {ns : List ℕ} {w : ℕ} {p : PlayerView} {o : Outcome} {T : Type 0} {after : T → WindowView} →
    (d : Operated ns w p o T after) → window_at w o.next ≡ after d.turn
operated-at {w = w} {p = p} d = ap (window_at w) d.next ∙ get_or-set_same p.windows w _ no_window d.within

module _ (ns : List ℕ) (w : ℕ) (f : WindowView → Turn) (p : PlayerView) where
  -- what holds of both refusals and, in shape and at a window that is there, of the window's turn, holds of the operation
  pub operate-cases : (P : Outcome → Type 0) → P (refuse 1 p) → P (refuse 2 p) →
      (shape ns p ≡ true → w < length p.windows → P (turn_at w (f (window_at w p)) p)) → P (operate ns w f p)
  unfolding operate
  operate-cases P one two three = go (shape ns p) refl (ltb w (length p.windows)) refl
    where
      go : (s : Bool) → shape ns p ≡ s → (b : Bool) → ltb w (length p.windows) ≡ b →
          P (cond (not s) (refuse 1 p) (cond (not b) (refuse 2 p) (turn_at w (f (window_at w p)) p)))
      go true s true b = three s (ltb-true _ _ b)
      go true s false b = two
      go false s t b = one

  -- in shape and at a window that is there, the window's rule decides
  pub operate-can : (v' : WindowView) → shape ns p ≡ true → w < length p.windows → f (window_at w p) ≡ done v' →
      (operate ns w f p).answer ≡ 0
  unfolding operate
  operate-can v' s h e = simp (s, lt-ltb w (length p.windows) h) (ap (λ t. t.answer) e)

-- one window replaced by another in shape
with_window-shaped : (ns : List ℕ) (p : PlayerView) → shape ns p ≡ true → (w : ℕ) (v : WindowView) → w < length p.windows →
    WindowShaped (count_of ns) p.current v → shape ns (with_window w v p) ≡ true
with_window-shaped ns p s w v l h =
    let f : Shaped ns p = shaped ns p s in
    let n : length (set p.windows w v) ≡ length p.windows = length-set p.windows w v in
    shape_of ns (with_window w v p)
    (record {
      some = omega (arith, f.some);
      most = omega (arith, f.most);
      limit_some = f.limit_some;
      limit_most = f.limit_most;
      spacing = f.spacing;
      journal = f.journal;
      current_in = f.current_in;
      windows = λ u k.
          get_or-set-each (λ u. WindowShaped (count_of ns) p.current) p.windows w u v no_window l h (λ other. f.windows u (rw n at k));
    })

-- ------------------------------------------------------------------------
-- the law of an operation on a window

-- the law of a turn of window v, with `current` c: a refusal changes nothing; an answer 0 tells T; then the window becomes what `after`
-- says, and is in shape if it was
pub record Lawful (c : ℕ) (v : WindowView) (turn : Turn) (T : Type 0) (after : T → WindowView) : Type 0 where
  pub refuses : Refuses v turn
  pub does : turn.answer ≡ 0 → T
  pub next : (e : turn.answer ≡ 0) → turn.next ≡ after (does e)
  pub shaped : (t : T) (l : ℕ) → c ≤ l → WindowShaped l c v → WindowShaped l c (after t)

-- by checks in a row
pub decides-lawful : {tests : List Bool} {c : ℕ} {v v' : WindowView} {turn : Turn} {T : Type 0} → Decides tests v v' turn →
    (Fail tests → turn.next ≡ v' → T) → (T → (l : ℕ) → c ≤ l → WindowShaped l c v → WindowShaped l c v') → Lawful c v turn T (λ t. v')
decides-lawful d tell stays =
    record { refuses = d.refuses; does = λ e. tell (d.passed e) (decides-next d e); next = decides-next d; shaped = stays }

-- what an operation on a window does where it is answered 0: what that tells of the journal and the window, and what the window becomes
pub record Effect : Type 1 where
  pub tells : List Entry → WindowView → Type 0
  pub makes : (j : List Entry) (v : WindowView) → tells j v → WindowView

-- the law of an operation on window w, with outcome o: a refusal changes nothing; an answer 0 has its effect on that window and no other;
-- a state in shape stays in shape
pub record LawfulRule (ns : List ℕ) (w : ℕ) (p : PlayerView) (o : Outcome) (x : Effect) : Type 0 where
  pub refuses : (o.answer ≡ 0 → ⊥) → o.next ≡ p
  pub does : o.answer ≡ 0 → Operated ns w p o (x.tells (entries_of ns) (window_at w p)) (x.makes (entries_of ns) (window_at w p))
  pub shaped : shape ns p ≡ true → shape ns o.next ≡ true

pub operate-lawful : (ns : List ℕ) (w : ℕ) (f : WindowView → Turn) (p : PlayerView) (x : Effect) →
    Lawful p.current (window_at w p) (f (window_at w p)) (x.tells (entries_of ns) (window_at w p))
    (x.makes (entries_of ns) (window_at w p)) →
    LawfulRule ns w p (operate ns w f p) x
operate-lawful ns w f p x law =
    record {
      refuses =
          operate-cases ns w f p (λ o. (o.answer ≡ 0 → ⊥) → o.next ≡ p) (λ n. refl) (λ n. refl)
          (λ s h n. ap (λ v. with_window w v p) (law.refuses n)
          ∙ ap (λ vs. record { limit = p.limit; spacing = p.spacing; current = p.current; windows = vs })
          (set-get_or p.windows w no_window));
      does =
          operate-cases ns w f p
          (λ o. o.answer ≡ 0 → Operated ns w p o (x.tells (entries_of ns) (window_at w p)) (x.makes (entries_of ns) (window_at w p)))
          (λ e. absurd (omega arith))
          (λ e. absurd (omega arith))
          (λ s h e. record { shaped = s; within = h; turn = law.does e; next = ap (λ v. with_window w v p) (law.next e) });
      shaped = λ s. operate-cases ns w f p (λ o. shape ns o.next ≡ true) s s (λ e h. with_window-shaped ns p s w _ h (turn s h));
    }
  where
    turn : shape ns p ≡ true → w < length p.windows → WindowShaped (count_of ns) p.current (f (window_at w p)).next
    turn s h =
        let g : Shaped ns p = shaped ns p s in
        let W : WindowView → Type 0 = WindowShaped (count_of ns) p.current in
        ⊎_elim
        (λ (e : (f (window_at w p)).answer ≡ 0).
        subst⁻¹ W (law.next e) (law.shaped (law.does e) (count_of ns) g.current_in (g.windows w h)))
        (λ (n : (f (window_at w p)).answer ≡ 0 → ⊥). subst⁻¹ W (law.refuses n) (g.windows w h))
        (eq-or-ne (f (window_at w p)).answer 0)

-- ------------------------------------------------------------------------
-- map_windows

pub map_windows-length : (f : ℕ → WindowView → WindowView) (k : ℕ) (vs : List WindowView) → length (map_windows f k vs) ≡ length vs
unfolding map_windows
map_windows-length f k [] = refl
map_windows-length f k (v ∷ vs) = ap suc (map_windows-length f (suc k) vs)

-- where a rule leaves alone what stands where there is no window
pub map_windows-at : (f : ℕ → WindowView → WindowView) → ((w : ℕ) → f w no_window ≡ no_window) →
    (k : ℕ) (vs : List WindowView) (w : ℕ) → get_or (map_windows f k vs) w no_window ≡ f (k + w) (get_or vs w no_window)
unfolding map_windows
map_windows-at f none k [] w = sym (none (k + w))
map_windows-at f none k (v ∷ vs) zero = let e : k + 0 ≡ k = omega arith in rw e
map_windows-at f none k (v ∷ vs) (suc w) = let e : k + suc w ≡ suc k + w = omega arith in rw e (map_windows-at f none (suc k) vs w)
