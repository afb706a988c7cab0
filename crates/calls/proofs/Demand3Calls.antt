-- Demand 3 holds of the calls.
use Rattle.std.specs.Prelude.{ℕ, ◌+◌, ◌*◌, ◌≤◌, ◌≡◌, refl, Bool, true, false, cond, ◌&&◌, ◌||◌, length}
use Rattle.std.proofs.Math.Path.{sym, ap}
use Rattle.std.proofs.Common.{ap₂, subst, subst₂, ◌∙◌, eqb-true, eq-eqb}
use mathlib.Core.List.{List, [], ◌∷◌, map, map-map, map-id}
use Rattle.std.proofs.Math.Bool.{and-true}
use Rattle.std.proofs.Math.ListN.{replicate}
use Rattle.std.proofs.lemmas.List.{length-map}
use Rattle.journal.specs.Entry.{Placed, numbers_of, entries_of, count_of, five_of}
use Rattle.journal.specs.EntryLaws.{numbers_of-entries_of}
use Rattle.journal.specs.Own.{own, is_own, own_of}
use Rattle.lists.specs.Cases.{and_left}
use Rattle.lists.specs.All.{all}
use Rattle.lists.specs.Elem.{last_or}
use Rattle.lists.specs.Keep.{keep}
use Rattle.lists.specs.Same.{same_list}
use Rattle.record.specs.declared.Record.{Record}
use Rattle.record.specs.Record.{new_record, take_entry, take_all}
use Rattle.record.proofs.Laws.{take_numbers-placed}
use Rattle.rules.specs.declared.Settings.{Settings}
use Rattle.rules.specs.View.{WindowView}
use Rattle.rules.specs.Rules.{Outcome, speaks, start_rule}
use Rattle.rules.proofs.Offers.{StartDone, start_rule-done}
use Rattle.window.specs.Promise.{number_of}
use Rattle.player.specs.declared.Player.{Player}
use Rattle.player.specs.declared.Played.{Played}
use Rattle.player.specs.View.{player_of}
use Rattle.delivery.specs.World.{Side, World, new_side, side_at, player_in, Step, run}
use Rattle.delivery.specs.World as W
use Rattle.delivery.specs.Statement.{is_tick, new_reports, first_start, first_world}
use Rattle.delivery.specs.Statement as Delivery
use Rattle.delivery.proofs.Offers.{Reached, entries-in, count-in, reached-run, opened-reached, demand-3}
use Rattle.calls.specs.Host.{index_of, Host, new_end, end_at, Call, call_step, MadeAll, host_after, opened}
use Rattle.calls.specs.Statement.{AllJoined, NoneCan, is_own_five, own_fives, is_tick_five, take_fives, Leading, Delivers, FirstStart, Demand3Calls}
use Rattle.calls.proofs.Shows.{end_of, Shows, shows-end}
use Rattle.calls.proofs.Runs.{host_after-shows, changes-steps, joined_after-steps}
use Rattle.calls.proofs.NoneCan.{none-steps}

-- ------------------------------------------------------------------------
-- What is taken, as five numbers each

-- the numbers of an entry are a tick's, and are the window's own, exactly if the entry is
is_tick_five-of : (x : Placed) → is_tick_five (five_of x) ≡ is_tick x
unfolding same_list
is_tick_five-of x = simp (eq-eqb x.index x.index refl, and-true)

own_fives-of : (w : ℕ) (xs : List Placed) → own_fives w (map five_of xs) ≡ map five_of (own_of w xs)
unfolding keep
own_fives-of w [] = refl
own_fives-of w (x ∷ xs) = by (is_own w x) (own_fives-of w xs)
  where
    by : (b : Bool) → own_fives w (map five_of xs) ≡ map five_of (own_of w xs) →
        cond b (five_of x ∷ own_fives w (map five_of xs)) (own_fives w (map five_of xs))
        ≡ map five_of (cond b (x ∷ own_of w xs) (own_of w xs))
    by true e = ap (λ l. five_of x ∷ l) e
    by false e = e

others-of : (w : ℕ) (xs : List Placed) →
    all (λ five. is_own_five w five || is_tick_five five) (map five_of xs) ≡ all (λ x. is_own w x || is_tick x) xs
unfolding all
others-of w [] = refl
others-of w (x ∷ xs) = ap₂ (λ t b. (is_own w x || t) && b) (is_tick_five-of x) (others-of w xs)

-- and Take makes of them what it makes of the entries
take_fives-of : (xs : List Placed) (r : Record) → take_fives (map five_of xs) r ≡ take_all xs r
unfolding take_fives take_all
take_fives-of [] r = refl
take_fives-of (x ∷ xs) r =
    ap (λ o. take_fives (map five_of xs) o.record') (take_numbers-placed x r) ∙ take_fives-of xs (take_entry x r).record'

leading-of : (ns : List ℕ) (w : ℕ) (p : Side) → Delivery.Leading (entries_of ns) w p → Leading ns w (end_of p)
leading-of ns w p l = record {
  k = l.k;
  list = own_fives-of w p.taken ∙ ap (map five_of) l.list;
  others = others-of w p.taken ∙ l.others;
  folded = l.folded ∙ sym (take_fives-of p.taken new_record);
  races = l.races;
  count = l.count ∙ sym (length-map p.taken five_of);
  last = l.last ∙ ap (last_or 0) (sym (map-map index_of five_of p.taken));
}

-- ------------------------------------------------------------------------
-- What the world has, the host has

module _ {h : Host} {wd : World} (is : Shows h wd) where
  pub entries-shown : entries_of h.journal ≡ wd.journal
  entries-shown = ap entries_of is.journal ∙ entries-in wd

  pub length-shown : count_of h.journal ≡ length wd.journal
  length-shown = ap count_of is.journal ∙ count-in wd

  leading-shown : (w : ℕ) → Delivery.Leading wd.journal w (side_at w wd) → Leading h.journal w (end_at w h)
  leading-shown w l =
      subst (Leading h.journal w) (sym (shows-end is w))
      (leading-of h.journal w (side_at w wd) (subst (λ j. Delivery.Leading j w (side_at w wd)) (sym entries-shown) l))

module _ (count : ℕ) {h : Host} {wd : World} (is : Shows h wd) (reached : Reached wd) (calls : List Call) (made : MadeAll h calls) where
  abbrev steps : List Step
  steps = map call_step calls

  shown : Shows (host_after h calls) (run wd steps)
  shown = host_after-shows is reached calls made

  pub joined-shown : (silent : ℕ) → AllJoined count silent h calls → Delivery.AllJoined count silent wd steps
  joined-shown silent joined w l = sym (joined_after-steps w (speaks silent w) is reached calls made) ∙ joined w l

  pub none-shown : NoneCan (host_after h calls) → Delivery.NoneCan (run wd steps)
  none-shown = none-steps shown (reached-run wd steps reached)

  delivers-shown : (silent : ℕ) → Delivery.Delivers count silent wd steps → Delivers count silent h calls
  delivers-shown silent d =
      record {
        leading = λ w l. leading-shown shown w (d.leading w l);
        bound = λ j.
            subst₂ (λ n m. n ≤ m * (1 + 5 * count)) (sym (changes-steps 0 is reached calls made))
            (sym (length-shown shown)) (d.bound (joined-shown silent j));
        finish = λ j none w l.
            ap (λ e. own_fives w e.taken) (shows-end shown w)
            ∙ own_fives-of w (side_at w (run wd steps)).taken
            ∙ ap (map five_of) (d.finish (joined-shown silent j) (none-shown none) w l)
            ∙ ap (λ j. map five_of (own j w)) (sym (entries-shown shown));
      }

-- ------------------------------------------------------------------------
-- The beginning

-- new sides are new windows
new_side-ends : (vs : List WindowView) → map end_of (map new_side vs) ≡ replicate (length vs) new_end
new_side-ends [] = refl
new_side-ends (v ∷ vs) = ap (λ l. new_end ∷ l) (new_side-ends vs)

module _ (before : Player) (ns : List ℕ) (count : ℕ) (settings : Settings) (r : Played)
    (made : FirstStart before ns count settings r) (done : number_of r.answer ≡ 0) where
  abbrev first : Host
  first = opened r.player settings.first ns count

  abbrev starts : Outcome
  starts = start_rule ns count settings (new_reports count) (player_of before)

  abbrev starts_in : Outcome
  starts_in = first_start (player_of before) (entries_of ns) count settings

  started-done : StartDone ns count settings (new_reports count) starts
  started-done = start_rule-done ns count settings (new_reports count) (player_of before) (sym made.answer ∙ done)

  -- a journal that Start takes is the numbers of its entries
  whole : numbers_of (entries_of ns) ≡ ns
  whole = numbers_of-entries_of ns (eqb-true _ _ (and_left _ _ started-done.given.journal))

  first-same : starts_in ≡ starts
  first-same = ap (λ ns. start_rule ns count settings (new_reports count) (player_of before)) whole

  pub opened-shows : Shows first (first_world (player_of before) (entries_of ns) count settings)
  unfolding W.opened
  opened-shows = record {
    player =
        made.next
        ∙ ap (λ vs. record {
          limit = starts.next.limit;
          spacing = starts.next.spacing;
          current = starts.next.current;
          windows = vs;
        })
        (sym (map-map (λ p. p.view) new_side starts.next.windows ∙ map-id starts.next.windows))
        ∙ ap (λ o. player_in (W.opened (entries_of ns) settings.first o)) (sym first-same);
    journal = sym whole;
    windows =
        ap (λ n. replicate n new_end) (sym started-done.windows)
        ∙ sym (new_side-ends starts.next.windows)
        ∙ ap (λ o. map end_of (map new_side o.next.windows)) (sym first-same);
    greatest = refl;
  }

  pub first_done : starts_in.answer ≡ 0
  first_done = ap (λ o. o.answer) first-same ∙ sym made.answer ∙ done

  delivers : (calls : List Call) → MadeAll first calls → Delivers count settings.silent first calls
  delivers calls met =
      delivers-shown count opened-shows (opened-reached (player_of before) (entries_of ns) count settings first_done)
      calls met settings.silent (demand-3 (player_of before) (entries_of ns) count settings (map call_step calls) first_done)

-- Demand 3 of the calls, for every W, batch limit, spacing, first term, set of silent windows, journal and list of calls
pub demand-3-calls : Demand3Calls
demand-3-calls = delivers
