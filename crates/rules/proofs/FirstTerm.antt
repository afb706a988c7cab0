-- With the first term 1, Start is one that takes no first term and gives every window term 1 (`termless_start`, written out here). Then
-- computed: Start with the first terms 0, 1 and the last there is, and a held term of 0, which no run reaches.
use Rattle.std.specs.Prelude.{ℕ, ◌≡◌, refl, List, [], ◌∷◌, map, true, false, not, cond, ◌&&◌, length, eqb}
use Rattle.std.proofs.Common.{ap}
use Rattle.journal.specs.Entry.{in_shape, count_of, entries_of, has_window}
use Rattle.lists.specs.All.{all}
use Rattle.rules.specs.declared.Term.{Term}
use Rattle.rules.specs.declared.Settings.{Settings}
use Rattle.rules.specs.View.{Condition, normal, suspended, WindowView, PlayerView}
use Rattle.rules.specs.Shape.{count_fits, limit_fits, spacing_fits, window_shape, shape}
use Rattle.rules.specs.Window.{check, ack_at, drop_at, join_at, Report, told, silence, started_by}
use Rattle.rules.specs.Rules.{Outcome, refuse, operate, drop_rule, join_rule, said_from, said, is_start_report, spoken, least, start_rule}

abbrev term : ℕ → Term
term n = record { 0 = n }

-- ------------------------------------------------------------------------
-- Start without a first term

-- a window with a free line and empty queues
abbrev pub idle : (term acked sent : ℕ) → Condition → WindowView
idle n acked sent s = record {
  term = term n;
  acked = acked;
  sent = sent;
  busy = false;
  batches = [];
  normal_queue = [];
  catch_queue = [];
  condition = s;
}

abbrev pub on_term_one : ℕ → Report → WindowView
on_term_one l (told r) = idle 1 r r normal
on_term_one l silence = idle 1 0 l suspended

-- of the settings it reads no first term
unfoldable pub termless_start : List ℕ → (count : ℕ) → Settings → (reports : List ℕ) → PlayerView → Outcome
termless_start ns count settings reports p =
    let heard : List Report = said settings.silent reports in
    cond (not (count_fits count && (limit_fits settings.limit && (in_shape ns && eqb (length reports) count)))) (refuse 1 p)
    (cond (not (spacing_fits settings.spacing)) (refuse 18 p)
    (cond (not (all (is_start_report (count_of ns)) heard)) (refuse 13 p)
    (record {
      answer = 0;
      next = record {
        limit = settings.limit;
        spacing = settings.spacing;
        current = least (count_of ns) (spoken heard);
        windows = map (on_term_one (count_of ns)) heard;
      };
    })))

term-one-windows : (l : ℕ) (reports : List Report) → map (started_by (term 1) l) reports ≡ map (on_term_one l) reports
term-one-windows l [] = refl
term-one-windows l (told r ∷ reports) = ap (λ vs. idle 1 r r normal ∷ vs) (term-one-windows l reports)
term-one-windows l (silence ∷ reports) = ap (λ vs. idle 1 0 l suspended ∷ vs) (term-one-windows l reports)

-- A result to be read: with the first term 1, Start is that one.
pub start_rule-term-one : (ns : List ℕ) (count : ℕ) (settings : Settings) (reports : List ℕ) (p : PlayerView) →
    settings.first ≡ term 1 → start_rule ns count settings reports p ≡ termless_start ns count settings reports p
unfolding start_rule termless_start
start_rule-term-one ns count settings reports p one = rw (one, term-one-windows (count_of ns) (said settings.silent reports))

-- ------------------------------------------------------------------------
-- Computed: two windows, of which window 1 is silent, over a journal of no entries

abbrev nobody : PlayerView
nobody = record { limit = 0; spacing = 0; current = 0; windows = [] }

-- a batch limit of 2, and window 1 in the set of silent windows
abbrev settings : (spacing first : ℕ) → Settings
settings spacing first = record { limit = 2; spacing = spacing; first = term first; silent = 2 }

abbrev start_on : ℕ → Outcome
start_on n = start_rule [] 2 (settings 1 n) (0 ∷ 0 ∷ []) nobody

-- 0 is refused, before the spacing is looked at; 1 and the last term are taken, and both windows have them; from the last term no window
-- joins, neither the silent one nor one that was dropped; from the one before it a window joins once
pub record FirstTerms : Type 0 where
  pub none : start_on 0 ≡ refuse 1 nobody
  pub none_first : (start_rule [] 2 (settings 0 0) (1 ∷ 0 ∷ []) nobody).answer ≡ 1
  pub one : (start_on 1).next.windows ≡ idle 1 0 0 normal ∷ idle 1 0 0 suspended ∷ []
  pub last : (start_on 4294967295).answer ≡ 0
  pub last_held : (start_on 4294967295).next.windows ≡ idle 4294967295 0 0 normal ∷ idle 4294967295 0 0 suspended ∷ []
  pub silent_join : (join_rule [] 1 0 (start_on 4294967295).next).answer ≡ 14
  pub dropped_join : (join_rule [] 0 0 (drop_rule [] 0 (start_on 4294967295).next).next).answer ≡ 14
  pub join_before : (join_rule [] 1 0 (start_on 4294967294).next).next.windows
      ≡ idle 4294967294 0 0 normal ∷ idle 4294967295 0 0 normal ∷ []

pub first-terms : FirstTerms
unfolding start_rule join_rule join_at drop_rule drop_at operate check shape window_shape all said_from spoken least entries_of has_window
first-terms = record {
  none = refl;
  none_first = refl;
  one = refl;
  last = refl;
  last_held = refl;
  silent_join = refl;
  dropped_join = refl;
  join_before = refl;
}

-- a held term of 0: in shape; a Join makes it 1; an Ack with term 0 passes the test of the term (11), and one with another does not (5)
abbrev on_term_zero : PlayerView
on_term_zero = record { limit = 2; spacing = 1; current = 0; windows = idle 0 0 0 suspended ∷ [] }

pub record TermZeroHeld : Type 0 where
  pub in_shape : shape [] on_term_zero ≡ true
  pub joins : (join_rule [] 0 0 on_term_zero).next.windows ≡ idle 1 0 0 normal ∷ []
  pub offered : (ack_at (term 0) 1 (idle 0 0 0 normal)).answer ≡ 11
  pub other : (ack_at (term 1) 1 (idle 0 0 0 normal)).answer ≡ 5

pub term-zero-held : TermZeroHeld
unfolding join_rule join_at ack_at operate check shape window_shape all entries_of
term-zero-held = record { in_shape = refl; joins = refl; offered = refl; other = refl }
