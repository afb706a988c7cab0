-- A batch read from an output; and a list of calls of every kind, from a Start, computed on the steps that it makes.
use Rattle.std.specs.Prelude.{ℕ, ◌≡◌, List, [], ◌∷◌, map, true, false, Ok}
use Rattle.std.proofs.Math.Path.{refl}
use Rattle.std.proofs.Common.{ap, ◌∙◌, arith}
use Rattle.lists.specs.Cells.{front}
use Rattle.journal.specs.Entry.{entry4, entries_of}
use Rattle.queue.specs.Items.{items_in}
use Rattle.rules.specs.declared.Settings.{Settings}
use Rattle.window.specs.View.{view_of}
use Rattle.player.specs.declared.Player.{Player}
use Rattle.player.specs.declared.Played.{Played}
use Rattle.player.specs.View.{first_windows, player_of}
use Rattle.player.specs.Promise.{fresh_windows, fresh_player}
use Rattle.delivery.specs.World.{World, side_at, Step, main, catch, written, send, take, ack, late-ack, drop, join, start, append, answered, run, replies}
use Rattle.delivery.specs.Statement.{new_reports, first_start, first_world}
use Rattle.delivery.proofs.Examples.{computed, done, chosen, term, room}
use Rattle.delivery.proofs.Offers.{opened-reached}
use Rattle.calls.specs.Host.{Host, end_at, Call, call_step, MadeAll, batch_in, host_after, opened}
use Rattle.calls.specs.Statement.{Leading, Delivers, FirstStart}
use Rattle.calls.specs.Counts.{Counts}
use Rattle.calls.proofs.Shows.{end_of, shows-end}
use Rattle.calls.proofs.Runs.{host_after-shows}
use Rattle.calls.proofs.Demand3Calls.{opened-shows, demand-3-calls}
use Rattle.calls.proofs.ExactCountsCalls.{exact-counts-calls}
use Rattle.promises.specs.CallsFor.{all_made, CallsFor, calls-for}

-- the batch in an output of ten numbers, of which Send has written the first five
pub batch-of-one : batch_in 4 (term 1) (4 ∷ 3 ∷ 1 ∷ 1 ∷ 50400 ∷ 7 ∷ 7 ∷ 7 ∷ 7 ∷ 7 ∷ [])
    ≡ record { numbers = 4 ∷ 3 ∷ 1 ∷ 1 ∷ 50400 ∷ []; term = term 1; ends = true } ∷ []
unfolding batch_in
batch-of-one = refl

-- ------------------------------------------------------------------------
-- Two windows, batch limit 2, and a journal of three entries, whatever player there was before

abbrev pub journal3 : List ℕ
journal3 = 3 ∷ 1 ∷ 1 ∷ 50400 ∷ 1 ∷ 2 ∷ 1 ∷ 350 ∷ 2 ∷ 3 ∷ 1 ∷ 0 ∷ []

-- what the Start gives
abbrev pub begun : Played
begun = record { player = fresh_player 3 2 (chosen 1 0) (new_reports 2); answer = Ok tt }

abbrev pub host0 : Host
host0 = opened begun.player (term 1) journal3 2

-- what the second Start is handed
abbrev pub again : Settings
again = record { limit = 2; spacing = 1; first = term 3; silent = 2 }

-- a batch of two taken, its first entry acknowledged by itself, and the line dropped before the ack of the second; that ack is refused,
-- the window joins, and the ack comes late and is refused again; one more entry is appended, read, sent, taken and acknowledged; nothing
-- is to be fetched; the player starts anew, with spacing 1, first term 3 and window 1 silent; window 0's last ack comes once more and is
-- refused; window 1 joins and fetches the first entry; an entry for window 1 is appended and read, and window 0 gets a tick in its place,
-- which is sent, taken and acknowledged
abbrev pub every_kind : List Step
every_kind =
    main 1 ∷ main 2 ∷ send 0 room ∷ take 0 true ∷ ack 0 ∷ take 0 false ∷ drop 0 ∷ ack 0 ∷ join 0 ∷ late-ack 0 (term 1) 2
    ∷ append (entry4 1 2 1 400) ∷ main 3 ∷ main 4 ∷ send 0 room ∷ written 0 (term 2) ∷ take 0 false ∷ ack 0
    ∷ catch 0 (term 2) 4 ∷ start again ∷ late-ack 0 (term 2) 4 ∷ join 1 ∷ catch 1 (term 4) 1
    ∷ append (entry4 2 2 1 7) ∷ main 5 ∷ send 0 room ∷ take 0 false ∷ ack 0 ∷ []

-- what window 0 has then taken
abbrev pub taken0 : List (List ℕ)
taken0 =
    (1 ∷ 3 ∷ 1 ∷ 1 ∷ 50400 ∷ []) ∷ (2 ∷ 1 ∷ 2 ∷ 1 ∷ 350 ∷ []) ∷ (4 ∷ 1 ∷ 2 ∷ 1 ∷ 400 ∷ []) ∷ (5 ∷ 0 ∷ 4 ∷ 0 ∷ 0 ∷ []) ∷ []

module _ (before : Player) where
  -- the Start meets its promise and is answered 0
  pub begun-starts : FirstStart before journal3 2 (chosen 1 0) begun
  unfolding computed player_of first_windows fresh_windows view_of items_in front
  begun-starts = record { answer = refl; next = refl; fresh = λ z. refl; unchanged = λ n. absurd (n refl) }

  -- the world that the host shows
  abbrev pub world0 : World
  world0 = first_world (player_of before) (entries_of journal3) 2 (chosen 1 0)

  -- what the steps answer, all of which are made, and what window 0 has taken
  pub record Computed : Type 0 where
    pub all : all_made world0 every_kind ≡ true
    pub answers : replies world0 every_kind ≡
        done ∷ done ∷ done ∷ done ∷ done ∷ done ∷ done ∷ answered 3 ∷ done ∷ answered 5
        ∷ done ∷ done ∷ done ∷ done ∷ done ∷ done ∷ done ∷ answered 4 ∷ done ∷ answered 5 ∷ done ∷ done
        ∷ done ∷ done ∷ done ∷ done ∷ done ∷ []
    pub taken : (end_of (side_at 0 (run world0 every_kind))).taken ≡ taken0

  pub every-kind : Computed
  unfolding computed all_made
  every-kind = record { all = refl; answers = refl; taken = refl }

  first_done : (first_start (player_of before) (entries_of journal3) 2 (chosen 1 0)).answer ≡ 0
  unfolding computed
  first_done = refl

  -- A result to be read: a list of calls of every kind that meet their promises, what window 0 has then taken, and demand 3 and
  -- the counts of Takes and Mains of it.
  pub record Ran : Type 0 where
    pub calls : List Call
    pub steps : map call_step calls ≡ every_kind
    pub made : MadeAll host0 calls
    pub taken : (end_at 0 (host_after host0 calls)).taken ≡ taken0
    pub leading : Leading (host_after host0 calls).journal 0 (end_at 0 (host_after host0 calls))
    pub delivers : Delivers 2 0 host0 calls
    pub counts : Counts 2 0 host0 calls

  pub ran : Ran
  ran =
      let shows = opened-shows before journal3 2 (chosen 1 0) begun begun-starts refl in
      let reached = opened-reached (player_of before) (entries_of journal3) 2 (chosen 1 0) first_done in
      let c : CallsFor host0 every_kind = calls-for shows reached every_kind every-kind.all in
      let delivers = demand-3-calls before journal3 2 (chosen 1 0) begun begun-starts refl c.calls c.made in
      record {
        calls = c.calls;
        steps = c.same;
        made = c.made;
        taken =
            ap (λ d. d.taken) (shows-end (host_after-shows shows reached c.calls c.made) 0)
            ∙ ap (λ ss. (end_of (side_at 0 (run world0 ss))).taken) c.same
            ∙ every-kind.taken;
        leading = delivers.leading 0 (omega arith);
        delivers = delivers;
        counts = exact-counts-calls before journal3 2 (chosen 1 0) begun begun-starts refl c.calls c.made;
      }
