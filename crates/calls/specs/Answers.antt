-- Every number that a rule answers is the number of an answer of the calls.
use Rattle.std.specs.Prelude.{ℕ, ◌≡◌, refl, List, [], ◌∷◌, map, Bool, true, false, cond, eqb, Ok, Err}
use Rattle.std.proofs.Common.{sym, ⊎_elim, eqb-true}
use Rattle.std.proofs.lemmas.Bool.{false≢true}
use Rattle.lists.specs.Cases.{true-or-false}
use Rattle.lists.specs.Elem.{elem}
use Rattle.rules.specs.declared.Settings.{Settings}
use Rattle.rules.specs.declared.Term.{Term}
use Rattle.rules.specs.View.{PlayerView}
use Rattle.rules.specs.Rules.{main_rule, catch_rule, written_rule, ack_rule, drop_rule, join_rule, send_rule, start_rule}
use Rattle.rules.proofs.Offers.{start_rule-refusals, main_rule-refusals, catch_rule-refusals, send_rule-refusals, written_rule-refusals, ack_rule-refusals, drop_rule-refusals, join_rule-refusals}
use Rattle.window.specs.declared.Refusal.TheVariants.{OutOfShape, NoSuchWindow, Suspended, NothingToRead, OtherTerm, OtherIndex, NothingReady, LineState, TooManyBatches, CatchUpFull, BadAck, NotSuspended, BadReport, LastTerm, OutputTooShort, BadSpacing}
use Rattle.window.specs.Promise.{Answer, number_of}

-- an answer with this number
pub record Numbered (n : ℕ) : Type 0 where
  pub answer : Answer
  pub number : number_of answer ≡ n

abbrev answers : List Answer
answers =
    Ok tt ∷ Err OutOfShape ∷ Err NoSuchWindow ∷ Err Suspended ∷ Err NothingToRead ∷ Err OtherTerm ∷ Err OtherIndex ∷ Err NothingReady
    ∷ Err LineState ∷ Err TooManyBatches ∷ Err CatchUpFull ∷ Err BadAck ∷ Err NotSuspended ∷ Err BadReport ∷ Err LastTerm
    ∷ Err OutputTooShort ∷ Err BadSpacing ∷ []

-- whether one of some answers has this number
is_in : List Answer → ℕ → Bool
is_in some n = elem n (map number_of some)

numbered : (some : List Answer) (n : ℕ) → is_in some n ≡ true → Numbered n
unfolding is_in
numbered [] n e = absurd (false≢true e)
numbered (a ∷ some) n e =
    ⊎_elim
    (λ (y : eqb n (number_of a) ≡ true). record { answer = a; number = sym (eqb-true n (number_of a) y) })
    (λ (x : eqb n (number_of a) ≡ false). numbered some n (rw x at e))
    (true-or-false (eqb n (number_of a)))

-- ------------------------------------------------------------------------
-- The first refusal of a list

done-in : is_in answers 0 ≡ true
unfolding is_in
done-in = refl

cond-in : (b : Bool) (n m : ℕ) → is_in answers (cond b n m) ≡ cond b (elem n (map number_of answers)) (is_in answers m)
unfolding is_in
cond-in true n m = refl
cond-in false n m = refl

cond_same : (b x : Bool) → cond b x x ≡ x
cond_same true x = refl
cond_same false x = refl

-- ------------------------------------------------------------------------
-- The rules

pub start-numbered : (ns : List ℕ) (count : ℕ) (settings : Settings) (reports : List ℕ) (p : PlayerView) →
    Numbered (start_rule ns count settings reports p).answer
start-numbered ns count settings reports p =
    numbered answers _ (simp (start_rule-refusals ns count settings reports p, cond-in, done-in, cond_same))

pub main-numbered : (ns : List ℕ) (i : ℕ) (p : PlayerView) → Numbered (main_rule ns i p).answer
main-numbered ns i p = numbered answers _ (simp (main_rule-refusals ns i p, cond-in, done-in, cond_same))

pub catch-numbered : (ns : List ℕ) (w : ℕ) (t : Term) (i : ℕ) (p : PlayerView) → Numbered (catch_rule ns w t i p).answer
catch-numbered ns w t i p = numbered answers _ (simp (catch_rule-refusals ns w t i p, cond-in, done-in, cond_same))

pub send-numbered : (ns : List ℕ) (w size : ℕ) (p : PlayerView) → Numbered (send_rule ns w size p).answer
send-numbered ns w size p = numbered answers _ (simp (send_rule-refusals ns w size p, cond-in, done-in, cond_same))

pub written-numbered : (ns : List ℕ) (w : ℕ) (t : Term) (p : PlayerView) → Numbered (written_rule ns w t p).answer
written-numbered ns w t p = numbered answers _ (simp (written_rule-refusals ns w t p, cond-in, done-in, cond_same))

pub ack-numbered : (ns : List ℕ) (w : ℕ) (t : Term) (i : ℕ) (p : PlayerView) → Numbered (ack_rule ns w t i p).answer
ack-numbered ns w t i p = numbered answers _ (simp (ack_rule-refusals ns w t i p, cond-in, done-in, cond_same))

pub drop-numbered : (ns : List ℕ) (w : ℕ) (p : PlayerView) → Numbered (drop_rule ns w p).answer
drop-numbered ns w p = numbered answers _ (simp (drop_rule-refusals ns w p, cond-in, done-in, cond_same))

pub join-numbered : (ns : List ℕ) (w r : ℕ) (p : PlayerView) → Numbered (join_rule ns w r p).answer
join-numbered ns w r p = numbered answers _ (simp (join_rule-refusals ns w r p, cond-in, done-in, cond_same))
