-- The tests by which a host finds out whether none can, computed: how many of them change something in a world where none can, and in six
-- where some can, each by another kind of step alone.
use Rattle.std.specs.Prelude.{ℕ, ◌≡◌, refl, [], ◌∷◌, false, length}
use Rattle.std.proofs.Math.ListN as ListN
use Rattle.lists.specs.Same.{same_list}
use Rattle.record.specs.Same.{same_race, same_record}
use Rattle.delivery.specs.World.{World, main, send, written, take, ack, answered, empty, run, replies}
use Rattle.delivery.specs.Same.{same_window, same_entry, same_sent, same_ack, same_side, same_world}
use Rattle.delivery.specs.Statement.{changes, changes_by}
use Rattle.delivery.specs.Tests.{tests_from, tests, none_done}
use Rattle.delivery.proofs.Examples.{computed, term, room, one_entry, five_moves}

-- to unfold this is to unfold the definitions that the tests that change something are counted with
counted : Unit {0}
unfolding changes_by same_world same_side same_window same_record same_race same_sent same_entry same_ack same_list
counted = tt

-- the world after the first k of the steps of `five_moves`
abbrev pub moved_by : ℕ → World
moved_by k = run one_entry (ListN.take k five_moves)

-- both windows have taken and acked the entry, and window 0's line is busy still
abbrev pub unwritten : World
unwritten =
    run one_entry (main 1 ∷ send 0 room ∷ take 0 false ∷ ack 0 ∷ send 1 room ∷ written 1 (term 1) ∷ take 1 false ∷ ack 1 ∷ [])

-- how many of the tests change something, made one after another
abbrev pub tests_change : World → ℕ
tests_change wd = changes 0 wd (tests room wd)

-- Two windows: 11 tests. Where a Main alone can, or a Catch, a Send, a Written, a Take, an Ack, its test changes something, and some of
-- those after it. Where none can, none changes anything.
pub record TestsCounted : Type 0 where
  pub number : length (tests room one_entry) ≡ 11
  pub reads : tests_change one_entry ≡ 9
  pub fetches : tests_change (moved_by 5) ≡ 10
  pub sends : tests_change (moved_by 11) ≡ 4
  pub writes : tests_change unwritten ≡ 1
  pub takes : tests_change (moved_by 13) ≡ 2
  pub acks : tests_change (moved_by 14) ≡ 1
  pub none : tests_change (moved_by 15) ≡ 0
  -- The host sees it by the answers: all is read; of each window, it is not Fetching, nothing is ready, its line is not busy, and both ways
  -- of the line are empty.
  pub answers : replies (moved_by 15) (tests room (moved_by 15)) ≡
      answered 4
      ∷ answered 4 ∷ answered 7 ∷ answered 8 ∷ empty ∷ empty
      ∷ answered 4 ∷ answered 7 ∷ answered 8 ∷ empty ∷ empty ∷ []
  -- Where an Ack alone can, one of the tests is answered 0.
  pub heard : none_done (replies (moved_by 14) (tests room (moved_by 14))) ≡ false
  -- What the room is for: where a Send alone can, tests with an output that is too short change nothing.
  pub short : changes 0 (moved_by 11) (tests (ListN.take 9 room) (moved_by 11)) ≡ 0

pub tests-counted : TestsCounted
unfolding computed counted tests_from
tests-counted = record {
  number = refl;
  reads = refl;
  fetches = refl;
  sends = refl;
  writes = refl;
  takes = refl;
  acks = refl;
  none = refl;
  answers = refl;
  heard = refl;
  short = refl;
}
