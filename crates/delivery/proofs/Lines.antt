-- Laws of the lines: what a batch adds to them, and what follows where they are empty.
use Rattle.std.specs.Prelude.{ℕ, ◌≡◌, refl, Bool, true, false, cond}
use Rattle.std.proofs.Common.{sym, ap, ◌∙◌, true≢false}
use mathlib.Core.List.{List, [], ◌∷◌, ◌++◌, map, cons≢nil}
use Rattle.std.proofs.lemmas.Bool.{false≢true}
use Rattle.journal.specs.declared.Entry.{Entry}
use Rattle.lists.specs.Elem.{last_or, elem-none}
use Rattle.rules.specs.declared.Term.{Term}
use Rattle.rules.specs.Shape.{is_empty}
use Rattle.rules.specs.Rules.{sent_for}
use Rattle.rules.proofs.Offers.{sent_for-index}
use Rattle.delivery.specs.World.{Sent, Ack, on_line}
use Rattle.delivery.proofs.Invariant.{line_entries, ends_of, LineTerms, Whole, LineHas, whole, nothing, BackTerms, Unacknowledged}

-- ------------------------------------------------------------------------
-- append

pub line_terms-append : (t : Term) (l m : List Sent) → LineTerms t l → LineTerms t m → LineTerms t (l ++ m)
line_terms-append t [] m h k = k
line_terms-append t (s ∷ l) m h k = (h.0, line_terms-append t l m h.1 k)

pub back_terms-append : (t : Term) (l m : List Ack) → BackTerms t l → BackTerms t m → BackTerms t (l ++ m)
back_terms-append t [] m h k = k
back_terms-append t (s ∷ l) m h k = (h.0, back_terms-append t l m h.1 k)

ends_of-cons : (s : Sent) (l m : List Sent) (b : Bool) → ends_of (l ++ m) ≡ ends_of l ++ ends_of m →
    cond b (s.placed.index ∷ ends_of (l ++ m)) (ends_of (l ++ m)) ≡ cond b (s.placed.index ∷ ends_of l) (ends_of l) ++ ends_of m
ends_of-cons s l m true e = ap (λ x. s.placed.index ∷ x) e
ends_of-cons s l m false e = e

pub ends_of-append : (l m : List Sent) → ends_of (l ++ m) ≡ ends_of l ++ ends_of m
unfolding ends_of
ends_of-append [] m = refl
ends_of-append (s ∷ l) m = ends_of-cons s l m s.ends (ends_of-append l m)

-- ------------------------------------------------------------------------
-- on_line

pub on_line-entries : (j : List Entry) (w : ℕ) (t : Term) (xs : List ℕ) → line_entries (on_line j w t xs) ≡ map (sent_for j w) xs
unfolding on_line
on_line-entries j w t [] = refl
on_line-entries j w t (x ∷ []) = refl
on_line-entries j w t (x ∷ y ∷ xs) = ap (λ l. sent_for j w x ∷ l) (on_line-entries j w t (y ∷ xs))

pub on_line-terms : (j : List Entry) (w : ℕ) (t : Term) (xs : List ℕ) → LineTerms t (on_line j w t xs)
unfolding on_line
on_line-terms j w t [] = tt
on_line-terms j w t (x ∷ []) = (refl, tt)
on_line-terms j w t (x ∷ y ∷ xs) = (refl, on_line-terms j w t (y ∷ xs))

pub on_line-ends : (j : List Entry) (w : ℕ) (t : Term) (xs : List ℕ) → is_empty xs ≡ false → ends_of (on_line j w t xs) ≡ last_or 0 xs ∷ []
unfolding on_line ends_of
on_line-ends j w t [] e = absurd (true≢false e)
on_line-ends j w t (x ∷ []) e = ap (λ i. i ∷ []) (sent_for-index j w x)
on_line-ends j w t (x ∷ y ∷ xs) e = on_line-ends j w t (y ∷ xs) refl

-- ------------------------------------------------------------------------
-- what a line has

module _ {j : List Entry} {w last sent : ℕ} where
  -- a window that is not Suspended has on its line what is due
  pub line-here : {away : Bool} {line : List Sent} → LineHas j w away last sent line → away ≡ false →
      Whole j w last sent line
  line-here (whole is) here = is
  line-here (nothing gone none) here = absurd (true≢false (sym gone ∙ here))

  -- and so has any window with something on its line
  pub line-some : {away : Bool} {s : Sent} {rest : List Sent} → LineHas j w away last sent (s ∷ rest) →
      Whole j w last sent (s ∷ rest)
  line-some (whole is) = is
  line-some (nothing gone none) = absurd (cons≢nil none)

  -- a window that is dropped has on its line what it had
  pub line-away : {away : Bool} {line : List Sent} → LineHas j w away last sent line → LineHas j w true last sent line
  line-away (whole is) = whole is
  line-away (nothing gone none) = nothing refl none

-- ------------------------------------------------------------------------
-- empty lines

-- with nothing on the line and no ack on the way back, no batch is unacknowledged
pub unacked-none : {away : Bool} {t : Term} {acked last sent : ℕ} {batches : List ℕ} →
    Unacknowledged away t acked last sent batches [] [] → batches ≡ []
unfolding ends_of
unacked-none {batches = batches} un = elem-none batches (λ x h. false≢true (un.batches_out x h))
