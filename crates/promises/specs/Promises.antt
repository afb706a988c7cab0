-- What `Made` of `calls` asks of a call is what the call's contract in `src/` promises. Each law is a result to be read: it goes from the
-- contract, as the toolchain reads it of the arguments `a`, the result `r` and what is left behind a `&mut`, to `Made` of a host that hands
-- the call those arguments. An append is the host's own, and no call.
use Rattle.std.specs.Prelude.{ℕ, ◌<◌, ◌≡◌, List, ◌∷◌, map, Bool, true, length, get_or, Result, Ok, Err, ⊤}
use Rattle.std.proofs.Common.{arith, sym, ap, ap₂, ◌∙◌}
use seplogic.Ra.Ura.{Ura}
use Rattle.std.proofs.lemmas.List.{length-map, length-replicate, get_or-replicate}
use base.Logic.{SProp, ent}
use prog.Memory.{Memory}
use prog.Routine.{Routine}
use types.Logic.{Logic}
use contract.Lifetimes.{Lfts}
use contract.Monad.{Fun, fact, fact_mono}
use denote.Triple.Clauses.{AtExit}
use denote.Triple.Entry.{Args}
use borrow.Fn.Kinds.{Dens, ended_of}
use Rattle.journal.specs.Entry.{count_of}
use Rattle.record.specs.declared.Record.{Record}
use Rattle.record.specs.declared.Refusal.{Refusal}
use Rattle.record.specs.declared.Refusal.TheVariants.{OutOfShape, Full}
use Rattle.record.specs.Record.{outcome_of, refusal_number, number_of, take_numbers}
use Rattle.record.specs.Record as Take
use Rattle.record.proofs.Laws.{take_numbers-refused}
use Rattle.rules.specs.declared.Settings.{Settings}
use Rattle.rules.specs.Window.{Report}
use Rattle.rules.specs.Rules.{speaks, spoken, least, start_rule}
use Rattle.rules.proofs.Offers.{said-unread, start_rule-unread}
use Rattle.player.specs.declared.Player.{Player}
use Rattle.player.specs.declared.Played.{Played}
use Rattle.player.specs.View.{player_of}
use Rattle.player.specs.Promise.{fresh_windows, Starts}
use Rattle.delivery.specs.World.{Ack}
use Rattle.delivery.specs.Statement.{new_reports}
use Rattle.calls.specs.Host.{Sent, WindowEnd, Host, end_at, main, catch, written, send, take, ack, late-ack, drop, join, start, report_of, is_late, Made}
use Rattle.calls.specs.Statement.{FirstStart}
use Rattle.operations.proofs.main_on.Kinds as main-kinds
use Rattle.operations.proofs.main_on.Reads as main-reads
use Rattle.operations.proofs.catch_on.Kinds as catch-kinds
use Rattle.operations.proofs.catch_on.Reads as catch-reads
use Rattle.operations.proofs.written_on.Kinds as written-kinds
use Rattle.operations.proofs.written_on.Reads as written-reads
use Rattle.operations.proofs.send_on.Kinds as send-kinds
use Rattle.operations.proofs.send_on.Reads as send-reads
use Rattle.record.proofs.take_by_value.Kinds as take-kinds
use Rattle.record.proofs.take_by_value.Reads as take-reads
use Rattle.record.specs.contracts.take as lent
use Rattle.operations.proofs.ack_on.Kinds as ack-kinds
use Rattle.operations.proofs.ack_on.Reads as ack-reads
use Rattle.operations.proofs.drop_on.Kinds as drop-kinds
use Rattle.operations.proofs.drop_on.Reads as drop-reads
use Rattle.operations.proofs.join_on.Kinds as join-kinds
use Rattle.operations.proofs.join_on.Reads as join-reads
use Rattle.operations.proofs.start_on.Kinds as start-kinds
use Rattle.operations.proofs.start_on.Reads as start-reads

-- a host with this player and journal, any ends of its windows and any greatest term
abbrev holding : Player → List ℕ → List WindowEnd → ℕ → Host
holding p ns ds used = record { player = p; journal = ns; windows = ds; greatest = used }

-- Start does not look at the report of a silent window: what it promises of some reports it promises of others that are the same else
starts-unread : (before : Player) (ns : List ℕ) (count : ℕ) (settings : Settings) {reports : List ℕ} (others : List ℕ) →
    length reports ≡ length others →
    ((w : ℕ) → w < length reports → speaks settings.silent w ≡ true → get_or reports w 0 ≡ get_or others w 0) → {r : Played} →
    Starts before (count_of ns) count settings reports r (start_rule ns count settings reports (player_of before)) →
    Starts before (count_of ns) count settings others r (start_rule ns count settings others (player_of before))
starts-unread before ns count settings {reports} others n same h =
    let rule = start_rule-unread ns count settings reports others (player_of before) n same in
    let player : List Report → Player = λ heard. record {
      count = count;
      limit = settings.limit;
      spacing = settings.spacing;
      current = record { 0 = least (count_of ns) (spoken heard) };
      windows = fresh_windows settings.first (count_of ns) heard;
    } in
    record {
      answer = h.answer ∙ ap (λ o. o.answer) rule;
      next = h.next ∙ ap (λ o. o.next) rule;
      fresh = λ z. h.fresh (ap (λ o. o.answer) rule ∙ z) ∙ ap player (said-unread settings.silent reports others n same);
      unchanged = λ x. h.unchanged (λ z. x (ap (λ o. o.answer) (sym rule) ∙ z));
    }

-- ------------------------------------------------------------------------
-- Calls of which the host chooses every argument but the player and the journal

pub main-made : (κs : Lfts 1) (a : Dens κs main-kinds.ps) (r : Played) (s : AtExit (ended_of 1 main-kinds.ps main-kinds.r) κs) →
    main-reads.Post κs a r s →
    (ds : List WindowEnd) (used : ℕ) → Made (holding a.0 a.1.0.now ds used) (main a.1.1.0 r)
main-made κs a r s h ds used = h

pub catch-made : (κs : Lfts 1) (a : Dens κs catch-kinds.ps) (r : Played) (s : AtExit (ended_of 1 catch-kinds.ps catch-kinds.r) κs) →
    catch-reads.Post κs a r s →
    (ds : List WindowEnd) (used : ℕ) →
    Made (holding a.0 a.1.0.now ds used) (catch a.1.1.0 a.1.1.1.0 a.1.1.1.1.0 r)
catch-made κs a r s h ds used = h

pub written-made : (κs : Lfts 1) (a : Dens κs written-kinds.ps) (r : Played) (s : AtExit (ended_of 1 written-kinds.ps written-kinds.r) κs) →
    written-reads.Post κs a r s →
    (ds : List WindowEnd) (used : ℕ) → Made (holding a.0 a.1.0.now ds used) (written a.1.1.0 a.1.1.1.0 r)
written-made κs a r s h ds used = h

-- the output is lent as `a.1.1.1.0` and left as `s.1.1.1.0`
pub send-made : (κs : Lfts 2) (a : Dens κs send-kinds.ps) (r : Played) (s : AtExit (ended_of 2 send-kinds.ps send-kinds.r) κs) →
    send-reads.Post κs a r s →
    (ds : List WindowEnd) (used : ℕ) →
    Made (holding a.0 a.1.0.now ds used) (send a.1.1.0 a.1.1.1.0.now r s.1.1.1.0.now)
send-made κs a r s h ds used = h

pub drop-made : (κs : Lfts 1) (a : Dens κs drop-kinds.ps) (r : Played) (s : AtExit (ended_of 1 drop-kinds.ps drop-kinds.r) κs) →
    drop-reads.Post κs a r s →
    (ds : List WindowEnd) (used : ℕ) → Made (holding a.0 a.1.0.now ds used) (drop a.1.1.0 r)
drop-made κs a r s h ds used = h

-- the term is older than the player's
pub late-ack-made : (κs : Lfts 1) (a : Dens κs ack-kinds.ps) (r : Played) (s : AtExit (ended_of 1 ack-kinds.ps ack-kinds.r) κs) →
    ack-reads.Post κs a r s →
    (ds : List WindowEnd) (used : ℕ) → is_late a.1.1.0 a.1.1.1.0 (holding a.0 a.1.0.now ds used) ≡ true →
    Made (holding a.0 a.1.0.now ds used) (late-ack a.1.1.0 a.1.1.1.0 a.1.1.1.1.0 r)
late-ack-made κs a r s h ds used late = (late, h)

-- ------------------------------------------------------------------------
-- Calls that the host hands what its windows' ends have

-- the front ack
pub ack-made : (κs : Lfts 1) (a : Dens κs ack-kinds.ps) (r : Played) (s : AtExit (ended_of 1 ack-kinds.ps ack-kinds.r) κs) →
    ack-reads.Post κs a r s →
    (ds : List WindowEnd) (used : ℕ) (rest : List Ack) →
    (end_at a.1.1.0 (holding a.0 a.1.0.now ds used)).back
    ≡ record { term = a.1.1.1.0; index = a.1.1.1.1.0.0 } ∷ rest →
    Made (holding a.0 a.1.0.now ds used) (ack a.1.1.0 r)
ack-made κs a r s h ds used rest e = rw e h

-- as the report the record's last index
pub join-made : (κs : Lfts 1) (a : Dens κs join-kinds.ps) (r : Played) (s : AtExit (ended_of 1 join-kinds.ps join-kinds.r) κs) →
    join-reads.Post κs a r s →
    (ds : List WindowEnd) (used : ℕ) → (end_at a.1.1.0 (holding a.0 a.1.0.now ds used)).record'.last ≡ a.1.1.1.0 →
    Made (holding a.0 a.1.0.now ds used) (join a.1.1.0 r)
join-made κs a r s h ds used e = rw e h

-- W, a report from each window, any settings with a first term above the greatest used, and as the report of each window that is not silent
-- its record's last index
pub start-made : (κs : Lfts 2) (a : Dens κs start-kinds.ps) (r : Played) (s : AtExit (ended_of 2 start-kinds.ps start-kinds.r) κs) →
    start-reads.Post κs a r s →
    let count : ℕ = a.1.1.0 in
    let settings : Settings = a.1.1.1.0 in
    let reports : List ℕ = a.1.1.1.1.0.now in
    (ds : List WindowEnd) (used : ℕ) → used < settings.first.0 → length ds ≡ count → length reports ≡ length ds →
    ((w : ℕ) → w < length ds → speaks settings.silent w ≡ true → get_or reports w 0 ≡ get_or (map report_of ds) w 0) →
    Made (holding a.0 a.1.0.now ds used) (start settings r)
start-made κs a r s h ds used above n m e = (
  above,
  rw n
      (starts-unread _ _ _ _ (map report_of ds) (m ∙ sym (length-map ds report_of)) (λ w l. e w (rw m at l)) h),
)

-- the first Start, on which demand 3 begins: as the report of each window that is not silent a new record's last index
pub first_made : (κs : Lfts 2) (a : Dens κs start-kinds.ps) (r : Played) (s : AtExit (ended_of 2 start-kinds.ps start-kinds.r) κs) →
    start-reads.Post κs a r s →
    let count : ℕ = a.1.1.0 in
    let settings : Settings = a.1.1.1.0 in
    let reports : List ℕ = a.1.1.1.1.0.now in
    length reports ≡ count → ((w : ℕ) → w < count → speaks settings.silent w ≡ true → get_or reports w 0 ≡ 0) →
    FirstStart a.0 a.1.0.now count settings r
first_made κs a r s h n e =
    starts-unread _ _ _ _ (new_reports a.1.1.0) (n ∙ sym (length-replicate a.1.1.0 0))
    (λ w l t. e w (rw n at l) t ∙ sym (get_or-replicate a.1.1.0 w 0 0 (rw n at l))) h

-- the window's record, and the front entry's five numbers, whether the entry is then acked or not
pub take-made : (κs : Lfts 1) (a : Dens κs take-kinds.ps) (r : Result Record Refusal) (s : AtExit (ended_of 1 take-kinds.ps take-kinds.r) κs) →
    take-reads.Post κs a r s →
    (h : Host) (w : ℕ) (acks : Bool) (front : Sent) (rest : List Sent) → (end_at w h).record' ≡ a.0 → (end_at w h).line ≡ front ∷ rest →
    front.numbers ≡ a.1.0.now → Made h (take w acks r)
take-made κs a r s p h w acks front rest own line five = rw (own, line, five) p

-- what Take by value gives for what Take on a record lent answers, and leaves
abbrev given_lent : Result ⊤ Refusal → Record → Result Record Refusal
given_lent (Ok taken) left = Ok left
given_lent (Err refusal) left = Err refusal

refusal-not-0 : (x : Refusal) → refusal_number x ≡ 0 → ⊥
refusal-not-0 OutOfShape e = omega arith
refusal-not-0 Full e = omega arith

given_lent-outcome : (numbers : List ℕ) (own : Record) (r : Result ⊤ Refusal) (left : Record) →
    number_of r ≡ (take_numbers numbers own).number → left ≡ (take_numbers numbers own).record' →
    outcome_of own (given_lent r left) ≡ take_numbers numbers own
given_lent-outcome numbers own (Ok taken) left number record' = ap₂ (λ n x. record { number = n; record' = x }) number record'
given_lent-outcome numbers own (Err refusal) left number record' =
    ap₂ (λ n x. record { number = n; record' = x }) number
    (sym (take_numbers-refused numbers own (λ z. refusal-not-0 refusal (number ∙ z))))

-- The contract of Take on a record lent is read in the logic's own terms: what it ensures entails the same, and that the record left is the
-- outcome's, after a refusal too. The record is lent as `a.0` and left as `s.0`.
pub take-lent-made : {M : Type 1} {𝓤 : Ura M} (𝓛 : Logic 𝓤) (mem : Memory → SProp 𝓤) (run : Routine → Fun 𝓤)
    (κs : Lfts 2) (a : Args lent.signature κs) (r : Result ⊤ Refusal) (s : AtExit lent.ended κs)
    (h : Host) (w : ℕ) (acks : Bool) (front : Sent) (rest : List Sent) → (end_at w h).record' ≡ a.0.now → (end_at w h).line ≡ front ∷ rest →
    front.numbers ≡ a.1.0.now →
    ent 𝓤 ((lent.clauses 𝓛 mem run κs a).ensures tt r s)
    (fact 𝓤 (Made h (take w acks (given_lent r s.0.now)) × (s.0.now ≡ (outcome_of a.0.now (given_lent r s.0.now)).record')))
take-lent-made {𝓤 = 𝓤} 𝓛 mem run κs a r s h w acks front rest own line five =
    fact_mono 𝓤 _ _ (λ (number, left). (
      rw (own, line, five) (given_lent-outcome _ _ r s.0.now number left),
      left ∙ sym (ap (λ (o : Take.Outcome). o.record') (given_lent-outcome a.1.0.now a.0.now r s.0.now number left)),
    ))
