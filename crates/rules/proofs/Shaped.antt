-- The shape's clauses as facts.
use Rattle.std.specs.Prelude.{ℕ, ◌≤◌, ◌<◌, ◌≡◌, List, true, length, leb}
use Rattle.std.proofs.Common.{leb-true, le-leb}
use Rattle.lists.specs.Cases.{and_left, and_right, and_intro}
use Rattle.journal.specs.Entry.{in_shape, count_of}
use Rattle.lists.specs.All.{all, queued_in, held_in, all-at, all_of}
use Rattle.rules.specs.View.{WindowView, PlayerView, no_window}
use Rattle.rules.specs.Shape.{lengths_fit, queued_fit, held_fit, count_fits, limit_fits, spacing_fits, condition_held, next_fits, end_fits, catch_up_fits, suspended_fits, window_shape, shape}
use Rattle.rules.specs.Rules.{window_at}

-- ------------------------------------------------------------------------
-- window_shape

-- a window in shape, with L and `current`
pub record WindowShaped (l current : ℕ) (v : WindowView) : Type 0 where
  pub normal_fits : length v.normal_queue ≤ 128
  pub catch_fits : length v.catch_queue ≤ 128
  pub batches_fit : length v.batches ≤ 8
  pub normal_in : all (queued_in l) v.normal_queue ≡ true
  pub catch_in : all (queued_in l) v.catch_queue ≡ true
  pub acked_in : v.acked ≤ l
  pub sent_in : v.sent ≤ l
  pub batches_in : all (held_in l) v.batches ≡ true
  pub condition_in : condition_held l v.condition ≡ true
  pub next : next_fits v.condition ≡ true
  pub end : end_fits current v.condition ≡ true
  pub catch_up : catch_up_fits v.condition v.catch_queue ≡ true
  pub away : suspended_fits v v.condition ≡ true

-- the lengths that fit
pub normal-fits : (v : WindowView) → lengths_fit v ≡ true → length v.normal_queue ≤ 128
normal-fits v h = leb-true _ _ (and_left (leb (length v.normal_queue) 128) _ h)

pub catch-fits : (v : WindowView) → lengths_fit v ≡ true → length v.catch_queue ≤ 128
catch-fits v h = leb-true _ _ (and_left (leb (length v.catch_queue) 128) _ (and_right (leb (length v.normal_queue) 128) _ h))

pub batches-fit : (v : WindowView) → lengths_fit v ≡ true → length v.batches ≤ 8
batches-fit v h = leb-true _ _ (and_right (leb (length v.catch_queue) 128) _ (and_right (leb (length v.normal_queue) 128) _ h))

pub window_shaped : (l current : ℕ) (v : WindowView) → window_shape l current v ≡ true → WindowShaped l current v
unfolding window_shape
window_shaped l current v e =
    let a = and_left (lengths_fit v) _ e in
    let e₁ = and_right (lengths_fit v) _ e in
    let b = and_left (queued_fit l v) _ e₁ in
    let e₂ = and_right (queued_fit l v) _ e₁ in
    let c = and_left (held_fit l v) _ e₂ in
    let e₃ = and_right (held_fit l v) _ e₂ in
    let c₁ = and_right (leb v.acked l) _ c in
    let c₂ = and_right (leb v.sent l) _ c₁ in
    let e₄ = and_right (next_fits v.condition) _ e₃ in
    let e₅ = and_right (end_fits current v.condition) _ e₄ in
    record {
      normal_fits = normal-fits v a;
      catch_fits = catch-fits v a;
      batches_fit = batches-fit v a;
      normal_in = and_left (all (queued_in l) v.normal_queue) _ b;
      catch_in = and_right (all (queued_in l) v.normal_queue) _ b;
      acked_in = leb-true _ _ (and_left (leb v.acked l) _ c);
      sent_in = leb-true _ _ (and_left (leb v.sent l) _ c₁);
      batches_in = and_left (all (held_in l) v.batches) _ c₂;
      condition_in = and_right (all (held_in l) v.batches) _ c₂;
      next = and_left (next_fits v.condition) _ e₃;
      end = and_left (end_fits current v.condition) _ e₄;
      catch_up = and_left (catch_up_fits v.condition v.catch_queue) _ e₅;
      away = and_right (catch_up_fits v.condition v.catch_queue) _ e₅;
    }

pub window_shape-of : (l current : ℕ) (v : WindowView) → WindowShaped l current v → window_shape l current v ≡ true
unfolding window_shape
window_shape-of l current v s =
    and_intro (and_intro (le-leb _ _ s.normal_fits) (and_intro (le-leb _ _ s.catch_fits) (le-leb _ _ s.batches_fit)))
    (and_intro (and_intro s.normal_in s.catch_in)
    (and_intro (and_intro (le-leb _ _ s.acked_in) (and_intro (le-leb _ _ s.sent_in) (and_intro s.batches_in s.condition_in)))
    (and_intro s.next (and_intro s.end (and_intro s.catch_up s.away)))))

-- ------------------------------------------------------------------------
-- shape

-- a state in shape, with the journal as numbers
pub record Shaped (ns : List ℕ) (p : PlayerView) : Type 0 where
  pub some : 1 ≤ length p.windows
  pub most : length p.windows ≤ 16
  pub limit_some : 1 ≤ p.limit
  pub limit_most : p.limit ≤ 32
  pub spacing : spacing_fits p.spacing ≡ true
  pub journal : in_shape ns ≡ true
  pub current_in : p.current ≤ count_of ns
  pub windows : (w : ℕ) → w < length p.windows → WindowShaped (count_of ns) p.current (window_at w p)

pub shaped : (ns : List ℕ) (p : PlayerView) → shape ns p ≡ true → Shaped ns p
unfolding shape
shaped ns p e =
    let a = and_left (count_fits (length p.windows)) _ e in
    let e₁ = and_right (count_fits (length p.windows)) _ e in
    let b = and_left (limit_fits p.limit) _ e₁ in
    let e₂ = and_right (limit_fits p.limit) _ e₁ in
    let e₃ = and_right (spacing_fits p.spacing) _ e₂ in
    let e₄ = and_right (in_shape ns) _ e₃ in
    let e₅ = and_right (leb p.current (count_of ns)) _ e₄ in
    record {
      some = leb-true _ _ (and_left (leb 1 (length p.windows)) _ a);
      most = leb-true _ _ (and_right (leb 1 (length p.windows)) _ a);
      limit_some = leb-true _ _ (and_left (leb 1 p.limit) _ b);
      limit_most = leb-true _ _ (and_right (leb 1 p.limit) _ b);
      spacing = and_left (spacing_fits p.spacing) _ e₂;
      journal = and_left (in_shape ns) _ e₃;
      current_in = leb-true _ _ (and_left (leb p.current (count_of ns)) _ e₄);
      windows = λ w h. window_shaped _ _ _ (all-at _ p.windows e₅ w no_window h);
    }

pub shape_of : (ns : List ℕ) (p : PlayerView) → Shaped ns p → shape ns p ≡ true
unfolding shape
shape_of ns p s =
    and_intro (and_intro (le-leb _ _ s.some) (le-leb _ _ s.most))
    (and_intro (and_intro (le-leb _ _ s.limit_some) (le-leb _ _ s.limit_most))
    (and_intro s.spacing
    (and_intro s.journal
    (and_intro (le-leb _ _ s.current_in) (all_of _ p.windows no_window (λ w h. window_shape-of _ _ _ (s.windows w h)))))))
