-- The laws of Ack: its refusals, what it does at one window, the rule, and which batches it leaves.
use Rattle.std.specs.Prelude.{ℕ, ◌≤◌, ◌<◌, ◌≡◌, refl, List, [], ◌∷◌, Bool, true, false, not, ◌&&◌, ◌||◌, length, drop, leb, ltb}
use Rattle.std.proofs.Common.{ap, subst, ◌∙◌, arith, leb-true, ltb-true, lt-ltb, le-ltb}
use Rattle.std.proofs.lemmas.Bool.{lt-leb, not-false}
use Rattle.lists.specs.Cases.{and_left, and_right, not-and, not-leb, not-ltb}
use Rattle.lists.specs.All.{held_in}
use Rattle.lists.specs.Elem.{elem, last_or}
use Rattle.lists.specs.Rising.{Rising}
use Rattle.lists.specs.Above.{above}
use Rattle.lists.proofs.Above.{above-elem, above-length, all_above, above-rising, above-first, above-last, above-cut}
use Rattle.lists.specs.Refusal.{◌when◌, first_of}
use Rattle.rules.specs.declared.Term.{Term}
use Rattle.rules.specs.View.{WindowView, PlayerView}
use Rattle.rules.specs.Shape.{shape}
use Rattle.rules.specs.Window.{is_suspended, other_term, is_ack, acknowledged, ack_at}
use Rattle.rules.specs.Rules.{window_at, ack_rule}
use Rattle.rules.specs.Refusals.{out_of_shape, no_such_window}
use Rattle.rules.proofs.Answer.{check-answer, operate-answer}
use Rattle.rules.proofs.Checks.{Decides, done-decides, check-decides, other_term-same, other_term-own}
use Rattle.rules.proofs.Shaped.{WindowShaped}
use Rattle.rules.proofs.Parts.{normal_queued, catch_queued, condition_shaped, here-shaped}
use Rattle.rules.proofs.Operate.{Operated, operated-at, Lawful, decides-lawful, Effect, LawfulRule, operate-lawful}

-- ------------------------------------------------------------------------
-- the refusals in the papers' order

-- 11: the index is at or below acknowledged, or above sent
abbrev pub bad_ack : ℕ → WindowView → Bool
bad_ack i v = leb i v.acked || ltb v.sent i

-- A result to be read: 1; 2; 3; 5; 11
pub ack_rule-refusals : (ns : List ℕ) (w : ℕ) (t : Term) (i : ℕ) (p : PlayerView) →
    let v : WindowView = window_at w p in
    (ack_rule ns w t i p).answer ≡ first_of
    (1 when out_of_shape ns p
    ∷ 2 when no_such_window w p
    ∷ 3 when is_suspended v.condition
    ∷ 5 when other_term t v
    ∷ 11 when bad_ack i v
    ∷ [])
unfolding ack_rule ack_at
ack_rule-refusals ns w t i p = operate-answer ns w _ p _ (λ s. simp (check-answer, not-and, not-ltb, not-leb))

-- ------------------------------------------------------------------------
-- at one window

ack_at-decides : (t : Term) (i : ℕ) (v : WindowView) →
    Decides (is_suspended v.condition ∷ other_term t v ∷ not (is_ack i v) ∷ []) v (acknowledged i v) (ack_at t i v)
unfolding ack_at
ack_at-decides t i v = check-decides 3 refl (check-decides 5 refl (check-decides 11 refl (done-decides v _)))

-- answered 0: the window was not Suspended, the term was its own, and the index was above acknowledged and not above sent
pub record AckTaken (t : Term) (i : ℕ) (v : WindowView) : Type 0 where
  pub here : is_suspended v.condition ≡ false
  pub term : t.0 ≡ v.term.0
  pub up : v.acked < i
  pub most : i ≤ v.sent
  pub next : (ack_at t i v).next ≡ acknowledged i v

-- a batch is unacknowledged afterwards where it was before and ends above the index
pub acknowledged-leaves : (i : ℕ) (v : WindowView) (x : ℕ) → elem x (acknowledged i v).batches ≡ (elem x v.batches && ltb i x)
acknowledged-leaves i v x = above-elem i x v.batches

-- batches that rise still do, from the index on
pub acknowledged-rises : (a b i : ℕ) (v : WindowView) → Rising a v.batches b → Rising i (acknowledged i v).batches b
acknowledged-rises a b i v r = above-rising a b i i v.batches (omega arith) r

-- where they rise and the oldest ends at the index, the others are left
pub acknowledged-oldest : (a b i : ℕ) (v : WindowView) (xs : List ℕ) → v.batches ≡ i ∷ xs → Rising a v.batches b →
    (acknowledged i v).batches ≡ xs
acknowledged-oldest a b i v xs e r = ap (above i) e ∙ above-first a b i xs (subst (λ l. Rising a l b) e r)

-- where the newest ends at sent, or none is unacknowledged and all that is sent is acknowledged, it still is so
pub acknowledged-newest : (a b i : ℕ) (v : WindowView) → a ≤ i → i ≤ b → Rising a v.batches b → last_or a v.batches ≡ b →
    last_or i (acknowledged i v).batches ≡ b
acknowledged-newest a b i v low most rises newest = above-last a b i v.batches most rises newest low

-- the window stays in shape
acknowledged-shaped : {l c : ℕ} (i : ℕ) (v : WindowView) → WindowShaped l c v → is_suspended v.condition ≡ false → i ≤ v.sent →
    WindowShaped l c (acknowledged i v)
acknowledged-shaped {l} i v s here most =
    here-shaped (normal_queued s) (catch_queued s)
    (record {
      acked_in = omega (arith, s.sent_in);
      sent_in = s.sent_in;
      fits = omega (arith, above-length i v.batches, s.batches_fit);
      within = all_above (held_in l) i v.batches s.batches_in;
    })
    (condition_shaped s here)

ack_at-lawful : (c : ℕ) (t : Term) (i : ℕ) (v : WindowView) → Lawful c v (ack_at t i v) (AckTaken t i v) (λ d. acknowledged i v)
ack_at-lawful c t i v =
    decides-lawful (ack_at-decides t i v)
    (λ (here, (term, (taken, _))) next.
    let is : is_ack i v ≡ true = not-false _ taken in
    record {
      here = here;
      term = other_term-same t v term;
      up = ltb-true _ _ (and_left (ltb v.acked i) _ is);
      most = leb-true _ _ (and_right (ltb v.acked i) _ is);
      next = next;
    })
    (λ d l most s. acknowledged-shaped i v s d.here d.most)

-- ------------------------------------------------------------------------
-- the rule

abbrev pub ack_effect : Term → ℕ → Effect
ack_effect t i = record { tells = λ j v. AckTaken t i v; makes = λ j v d. acknowledged i v }

pub ack_rule-lawful : (ns : List ℕ) (w : ℕ) (t : Term) (i : ℕ) (p : PlayerView) → LawfulRule ns w p (ack_rule ns w t i p) (ack_effect t i)
unfolding ack_rule
ack_rule-lawful ns w t i p = operate-lawful ns w _ p _ (ack_at-lawful _ t i _)

pub ack_rule-done : (ns : List ℕ) (w : ℕ) (t : Term) (i : ℕ) (p : PlayerView) → (ack_rule ns w t i p).answer ≡ 0 →
    Operated ns w p (ack_rule ns w t i p) (AckTaken t i (window_at w p)) (λ c. acknowledged i (window_at w p))
ack_rule-done ns w t i p = (ack_rule-lawful ns w t i p).does

-- an index above acknowledged and not above sent is taken on the window's own term
pub ack_rule-can : (ns : List ℕ) (w : ℕ) (p : PlayerView) → shape ns p ≡ true → w < length p.windows →
    (i : ℕ) → is_suspended (window_at w p).condition ≡ false → (window_at w p).acked < i → i ≤ (window_at w p).sent →
    (ack_rule ns w (window_at w p).term i p).answer ≡ 0
ack_rule-can ns w p shaped within i here up most =
    let v : WindowView = window_at w p in
    ack_rule-refusals ns w _ i p
    ∙ simp (shaped, lt-ltb w _ within, here, other_term-own v, lt-leb i v.acked up, le-ltb v.sent i most)

-- ------------------------------------------------------------------------
-- the batches that it leaves

-- A result to be read, of any state: a batch is unacknowledged afterwards where it was before and ends above the index
pub ack_rule-leaves : (ns : List ℕ) (w : ℕ) (t : Term) (i : ℕ) (p : PlayerView) → (ack_rule ns w t i p).answer ≡ 0 →
    (x : ℕ) → elem x (window_at w (ack_rule ns w t i p).next).batches ≡ (elem x (window_at w p).batches && ltb i x)
ack_rule-leaves ns w t i p e x =
    ap (λ v. elem x v.batches) (operated-at (ack_rule-done ns w t i p e)) ∙ acknowledged-leaves i (window_at w p) x

-- A result to be read: where the batches rise, as they do in every run, those that are struck off are the oldest
pub ack_rule-oldest : (ns : List ℕ) (w : ℕ) (t : Term) (i : ℕ) (p : PlayerView) → (ack_rule ns w t i p).answer ≡ 0 →
    (a b : ℕ) → Rising a (window_at w p).batches b →
    (k : ℕ) × ((window_at w (ack_rule ns w t i p).next).batches ≡ drop k (window_at w p).batches)
ack_rule-oldest ns w t i p e a b rises =
    let (k, cut) = above-cut a b i (window_at w p).batches rises in
    (k, ap (λ v. v.batches) (operated-at (ack_rule-done ns w t i p e)) ∙ cut)
