-- What is free in whole runs: nothing of what a host holds but the cells of its player that no view has. Two hosts that differ only there,
-- and that make calls of the same steps, hold the same afterwards, whatever results that meet their promises the calls give.
use Rattle.std.specs.Prelude.{ℕ, ◌≡◌, refl, List}
use Rattle.std.proofs.Common.{sym, ap, subst, ◌∙◌}
use Rattle.journal.specs.Entry.{entries_of}
use Rattle.rules.specs.declared.Settings.{Settings}
use Rattle.window.specs.Promise.{number_of}
use Rattle.player.specs.declared.Player.{Player}
use Rattle.player.specs.declared.Played.{Played}
use Rattle.player.specs.View.{player_of}
use Rattle.delivery.specs.World.{World, run}
use Rattle.delivery.proofs.Offers.{Reached, opened-reached}
use Rattle.calls.specs.Host.{Host, Call, MadeAll, host_after, opened}
use Rattle.calls.specs.Statement.{FirstStart}
use Rattle.calls.specs.SameHeld.{SameHeld, SameSteps}
use Rattle.calls.proofs.Shows.{Shows}
use Rattle.calls.proofs.Runs.{host_after-shows}
use Rattle.calls.proofs.Demand3Calls.{opened-shows, first_done}

-- two hosts that show one world
shown-alike : {h h' : Host} {wd : World} → Shows h wd → Shows h' wd → SameHeld h h'
shown-alike is is' = record {
  player = is.player ∙ sym is'.player;
  journal = is.journal ∙ sym is'.journal;
  windows = is.windows ∙ sym is'.windows;
  greatest = is.greatest ∙ sym is'.greatest;
}

held-shows : {h h' : Host} {wd : World} → SameHeld h h' → Shows h wd → Shows h' wd
held-shows same is = record {
  player = sym same.player ∙ is.player;
  journal = sym same.journal ∙ is.journal;
  windows = sym same.windows ∙ is.windows;
  greatest = sym same.greatest ∙ is.greatest;
}

-- A result to be read: hosts of any world of a run that hold the same do so after calls of the same steps.
pub runs-alike : {h h' : Host} {wd : World} → Shows h wd → Reached wd → SameHeld h h' → (cs cs' : List Call) →
    SameSteps cs cs' → MadeAll h cs → MadeAll h' cs' → SameHeld (host_after h cs) (host_after h' cs')
runs-alike {h' = h'} {wd = wd} is r same cs cs' e made made' =
    shown-alike (host_after-shows is r cs made)
    (subst (λ ss. Shows (host_after h' cs') (run wd ss)) (sym e) (host_after-shows (held-shows same is) r cs' made'))

-- A result to be read: so do hosts from the first Start on, whatever players there were before it.
pub runs-alike-from-start : (before before' : Player) (ns : List ℕ) (count : ℕ) (settings : Settings) (r r' : Played) →
    FirstStart before ns count settings r → FirstStart before' ns count settings r' → number_of r.answer ≡ 0 → number_of r'.answer ≡ 0 →
    (cs cs' : List Call) → SameSteps cs cs' →
    MadeAll (opened r.player settings.first ns count) cs → MadeAll (opened r'.player settings.first ns count) cs' →
    SameHeld (host_after (opened r.player settings.first ns count) cs) (host_after (opened r'.player settings.first ns count) cs')
runs-alike-from-start before before' ns count settings r r' first first' done done' =
    runs-alike (opened-shows before ns count settings r first done)
    (opened-reached (player_of before) (entries_of ns) count settings (first_done before ns count settings r first done))
    (record {
      player = ap player_of (first.fresh (sym first.answer ∙ done) ∙ sym (first'.fresh (sym first'.answer ∙ done')));
      journal = refl;
      windows = refl;
      greatest = refl;
    })
