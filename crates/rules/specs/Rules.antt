-- Document 01, "Operations of the player", with document 02's acks, silent windows, ticks and first term: the shape, then the window, then
-- the window's rule. A promise is an equation with one of these.
use Rattle.std.specs.Prelude.{ℕ, suc, ◌+◌, min, List, [], ◌∷◌, ◌++◌, map, Bool, true, not, cond, ◌&&◌, length, get_or, set, drop, leb, ltb, eqb}
use Rattle.journal.specs.declared.Entry.{Entry}
use Rattle.journal.specs.Entry.{Placed, entry4, in_shape, count_of, entries_of, placed_at, five_of, is_for, has_window}
use Rattle.lists.specs.All.{all}
use Rattle.rules.specs.declared.Term.{Term}
use Rattle.rules.specs.declared.Settings.{Settings}
use Rattle.rules.specs.View.{WindowView, PlayerView, no_window}
use Rattle.rules.specs.Shape.{count_fits, limit_fits, spacing_fits, shape}
use Rattle.rules.specs.Window.{Turn, main_at, catch_at, batch_of, send_at, written_at, ack_at, drop_at, join_at, Report, told, silence, started_by}

-- an answer and the player as it then is
pub record Outcome : Type 0 where
  pub answer : ℕ
  pub next : PlayerView

abbrev pub refuse : ℕ → PlayerView → Outcome
refuse n p = record { answer = n; next = p }

abbrev pub window_at : ℕ → PlayerView → WindowView
window_at w p = get_or p.windows w no_window

abbrev pub with_window : ℕ → WindowView → PlayerView → PlayerView
with_window w v p = record { limit = p.limit; spacing = p.spacing; current = p.current; windows = set p.windows w v }

-- a turn stored at window w
abbrev pub turn_at : ℕ → Turn → PlayerView → Outcome
turn_at w t p = record { answer = t.answer; next = with_window w t.next p }

-- every operation on a window: 1 out of shape, 2 no such window, then the window's own rule
unfoldable pub operate : List ℕ → ℕ → (WindowView → Turn) → PlayerView → Outcome
operate ns w rule p =
    cond (not (shape ns p)) (refuse 1 p)
    (cond (not (ltb w (length p.windows))) (refuse 2 p) (turn_at w (rule (window_at w p)) p))

-- every window by its own rule; the first is window w
unfoldable pub map_windows : (ℕ → WindowView → WindowView) → ℕ → List WindowView → List WindowView
map_windows f w [] = []
map_windows f w (v ∷ vs) = f w v ∷ map_windows f (suc w) vs

-- Main: 1; 4: `current` is L; 6: the index is not `current` + 1
unfoldable pub main_rule : List ℕ → ℕ → PlayerView → Outcome
main_rule ns i p =
    cond (not (shape ns p)) (refuse 1 p)
    (cond (eqb p.current (count_of ns)) (refuse 4 p)
    (cond (not (eqb i (p.current + 1))) (refuse 6 p)
    (record {
      answer = 0;
      next = record {
        limit = p.limit;
        spacing = p.spacing;
        current = i;
        windows = map_windows (λ w v. main_at (entries_of ns) w p.spacing i v) 0 p.windows;
      };
    })))

unfoldable pub catch_rule : List ℕ → ℕ → Term → ℕ → PlayerView → Outcome
catch_rule ns w t i p = operate ns w (λ v. catch_at (entries_of ns) w t i v) p

unfoldable pub written_rule : List ℕ → ℕ → Term → PlayerView → Outcome
written_rule ns w t p = operate ns w (λ v. written_at t v) p

unfoldable pub ack_rule : List ℕ → ℕ → Term → ℕ → PlayerView → Outcome
ack_rule ns w t i p = operate ns w (λ v. ack_at t i v) p

unfoldable pub drop_rule : List ℕ → ℕ → PlayerView → Outcome
drop_rule ns w p = operate ns w (λ v. drop_at v) p

unfoldable pub join_rule : List ℕ → ℕ → ℕ → PlayerView → Outcome
join_rule ns w r p = operate ns w (λ v. join_at p.current r v) p

-- ------------------------------------------------------------------------
-- Send: the player's turn, and the output lent

unfoldable pub send_rule : List ℕ → ℕ → ℕ → PlayerView → Outcome
send_rule ns w size p = operate ns w (λ v. send_at p.limit size v) p

-- a tick: kind NOTE, with set, race and value 0
abbrev pub tick : ℕ → Placed
tick i = record { index = i; entry = entry4 0 4 0 0 }

-- what goes out to window w for a queued index: the entry, or a tick where that is not for the window
unfoldable pub sent_for : List Entry → ℕ → ℕ → Placed
sent_for j w i = cond (is_for j w i) (placed_at j i) (tick i)

-- the numbers of a batch for window w, five for each index
unfoldable pub batch_numbers : List Entry → ℕ → List ℕ → List ℕ
batch_numbers j w [] = []
batch_numbers j w (i ∷ is) = five_of (sent_for j w i) ++ batch_numbers j w is

-- the batch that a Send answered 0 writes
abbrev pub batch_at : ℕ → PlayerView → List ℕ
batch_at w p = (batch_of p.limit (window_at w p)).indices

-- the output after Send: the batch's numbers, and the numbers after them untouched; a refusal leaves it as it was
unfoldable pub send_output : List ℕ → ℕ → List ℕ → PlayerView → List ℕ
send_output ns w out p =
    let sent : List ℕ = batch_numbers (entries_of ns) w (batch_at w p) in
    cond (eqb (send_rule ns w (length out) p).answer 0) (sent ++ drop (length sent) out) out

-- ------------------------------------------------------------------------
-- Start: W, the settings (the batch limit, the spacing, the first term and the set of silent windows), and a report for each window; what
-- the player held before is not read

-- a window speaks if the set of silent windows does not have it
abbrev pub speaks : ℕ → ℕ → Bool
speaks silent w = not (has_window w silent)

-- what is said of window w: a silent window's report is not looked at
abbrev pub said_by : ℕ → ℕ → ℕ → Report
said_by silent w r = cond (speaks silent w) (told r) silence

-- what a set of silent windows and the reports of all windows stand for, from window w on
unfoldable pub said_from : ℕ → ℕ → List ℕ → List Report
said_from silent w [] = []
said_from silent w (r ∷ rs) = said_by silent w r ∷ said_from silent (suc w) rs

abbrev pub said : ℕ → List ℕ → List Report
said silent reports = said_from silent 0 reports

-- what Start takes of a window: a report of at most L, and silence
abbrev pub is_start_report : ℕ → Report → Bool
is_start_report l (told r) = leb r l
is_start_report l silence = true

-- the reports of the windows that are not silent
unfoldable pub spoken : List Report → List ℕ
spoken [] = []
spoken (told r ∷ rs) = r ∷ spoken rs
spoken (silence ∷ rs) = spoken rs

-- the least of some numbers, or l where there are none
unfoldable pub least : ℕ → List ℕ → ℕ
least l [] = l
least l (r ∷ []) = r
least l (r ∷ s ∷ rs) = min r (least l (s ∷ rs))

-- the first term is not 0; a term of 0 that is held is in shape all the same
abbrev pub first_fits : Term → Bool
first_fits first = leb 1 first.0

-- W, the batch limit, the first term and the journal are in shape, and there are exactly W reports
abbrev pub start_fits : List ℕ → (count : ℕ) → Settings → (reports : List ℕ) → Bool
start_fits ns count settings reports =
    count_fits count
    && (limit_fits settings.limit && (first_fits settings.first && (in_shape ns && eqb (length reports) count)))

-- 1, also if the first term is 0, or if there are not exactly W reports. 18: the spacing outside its limits. 13: a report above L.
-- `current` is the least report, or L if all windows are silent
unfoldable pub start_rule : List ℕ → (count : ℕ) → Settings → (reports : List ℕ) → PlayerView → Outcome
start_rule ns count settings reports p =
    let heard : List Report = said settings.silent reports in
    cond (not (start_fits ns count settings reports)) (refuse 1 p)
    (cond (not (spacing_fits settings.spacing)) (refuse 18 p)
    (cond (not (all (is_start_report (count_of ns)) heard)) (refuse 13 p)
    (record {
      answer = 0;
      next = record {
        limit = settings.limit;
        spacing = settings.spacing;
        current = least (count_of ns) (spoken heard);
        windows = map (started_by settings.first (count_of ns)) heard;
      };
    })))
