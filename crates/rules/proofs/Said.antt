-- The laws of what Start is told: of a set of silent windows and the reports of all, and of the reports among them.
use Prim.Native.Nat.{ℕ, zero, suc, ◌+◌, ◌≤◌, ◌<◌}
use Rattle.std.specs.Prelude.{◌≡◌, refl, Bool, true, false, not, cond, length, get_or, replicate, leb}
use Rattle.std.proofs.Common.{sym, ap, ◌∙◌, arith, zero-add, add-zero, add-suc, suc-add, ext_get_or}
use mathlib.Core.List.{List, [], ◌∷◌, map}
use Rattle.std.proofs.lemmas.Bool.{false≢true}
use Rattle.std.proofs.Math.Nat.{le_refl, min-le_left, min-le_right}
use borrow.Author.Tests.{leb-true}
use Rattle.journal.specs.Entry.{has_window}
use Rattle.journal.specs.EntryLaws.{has_window-none}
use Rattle.lists.specs.Cases.{and_left, and_right}
use Rattle.lists.specs.All.{all}
use Rattle.rules.specs.Window.{Report, told, silence}
use Rattle.rules.specs.Rules.{speaks, said_by, said_from, said, is_start_report, spoken, least}

-- ------------------------------------------------------------------------
-- said

said_from-length : (silent v : ℕ) (rs : List ℕ) → length (said_from silent v rs) ≡ length rs
unfolding said_from
said_from-length silent v [] = refl
said_from-length silent v (r ∷ rs) = ap suc (said_from-length silent (suc v) rs)

said_from-at : (silent v : ℕ) (rs : List ℕ) (w : ℕ) → w < length rs →
    get_or (said_from silent v rs) w silence ≡ said_by silent (v + w) (get_or rs w 0)
unfolding said_from
said_from-at silent v [] w h = absurd (omega arith)
said_from-at silent v (r ∷ rs) zero h = ap (λ n. said_by silent n r) (sym (add-zero v))
said_from-at silent v (r ∷ rs) (suc w) h =
    said_from-at silent (suc v) rs w (omega arith) ∙ ap (λ n. said_by silent n (get_or rs w 0)) (suc-add v w ∙ sym (add-suc v w))

pub said-length : (silent : ℕ) (rs : List ℕ) → length (said silent rs) ≡ length rs
said-length silent rs = said_from-length silent 0 rs

pub said_at : (silent : ℕ) (rs : List ℕ) (w : ℕ) → w < length rs → get_or (said silent rs) w silence ≡ said_by silent w (get_or rs w 0)
said_at silent rs w h = said_from-at silent 0 rs w h ∙ ap (λ n. said_by silent n (get_or rs w 0)) (zero-add w)

-- the empty set: Start is told every report
said_from-none : (v : ℕ) (rs : List ℕ) → said_from 0 v rs ≡ map told rs
unfolding said_from
said_from-none v [] = refl
said_from-none v (r ∷ rs) = simp (has_window-none v, said_from-none (suc v) rs)

pub said-none : (rs : List ℕ) → said 0 rs ≡ map told rs
said-none rs = said_from-none 0 rs

-- two calls that say the same of each window say the same
said-alike : (a b : ℕ) (rs qs : List ℕ) → length rs ≡ length qs →
    ((w : ℕ) → w < length rs → said_by a w (get_or rs w 0) ≡ said_by b w (get_or qs w 0)) → said a rs ≡ said b qs
said-alike a b rs qs n h =
    ext_get_or silence (said a rs) (said b qs) (said-length a rs ∙ n ∙ sym (said-length b qs))
    (λ w l.
    let k : w < length rs = rw (said-length a rs) at l in
    said_at a rs w k ∙ h w k ∙ sym (said_at b qs w (rw n at k)))

-- A result to be read: bits from W up are ignored.
pub said-bits : (a b : ℕ) (rs : List ℕ) → ((w : ℕ) → w < length rs → has_window w a ≡ has_window w b) → said a rs ≡ said b rs
said-bits a b rs h = said-alike a b rs rs refl (λ w l. ap (λ t. cond (not t) (told (get_or rs w 0)) silence) (h w l))

-- A result to be read: a silent window's report is not looked at.
pub said-unread : (silent : ℕ) (rs qs : List ℕ) → length rs ≡ length qs →
    ((w : ℕ) → w < length rs → speaks silent w ≡ true → get_or rs w 0 ≡ get_or qs w 0) → said silent rs ≡ said silent qs
said-unread silent rs qs n h = said-alike silent silent rs qs n (λ w l. by (speaks silent w) _ _ (h w l))
  where
    by : (t : Bool) (r q : ℕ) → (t ≡ true → r ≡ q) → cond t (told r) silence ≡ cond t (told q) silence
    by true r q e = ap told (e refl)
    by false r q e = refl

-- ------------------------------------------------------------------------
-- spoken

abbrev is_told : Report → Bool
is_told (told r) = true
is_told silence = false

silence≢told : {r : ℕ} → silence ≡ told r → ⊥
silence≢told e = false≢true (ap is_told e)

abbrev told_or : ℕ → Report → ℕ
told_or d (told r) = r
told_or d silence = d

told-injective : {r q : ℕ} → told r ≡ told q → r ≡ q
told-injective e = ap (told_or 0) e

pub spoken-told : (rs : List ℕ) → spoken (map told rs) ≡ rs
unfolding spoken
spoken-told [] = refl
spoken-told (r ∷ rs) = ap (λ l. r ∷ l) (spoken-told rs)

spoken-some : (rs : List Report) (w r : ℕ) → get_or rs w silence ≡ told r → 1 ≤ length (spoken rs)
unfolding spoken
spoken-some [] w r e = absurd (silence≢told e)
spoken-some (told x ∷ rs) w r e = omega arith
spoken-some (silence ∷ rs) zero r e = absurd (silence≢told e)
spoken-some (silence ∷ rs) (suc w) r e = spoken-some rs w r e

-- ------------------------------------------------------------------------
-- least

least_first : (l r : ℕ) (rs : List ℕ) → least l (r ∷ rs) ≤ r
unfolding least
least_first l r [] = le_refl r
least_first l r (s ∷ rs) = min-le_left r _

least-rest : (l r : ℕ) (rs : List ℕ) → 1 ≤ length rs → least l (r ∷ rs) ≤ least l rs
unfolding least
least-rest l r [] h = absurd (omega arith)
least-rest l r (s ∷ rs) h = min-le_right r _

-- no report is below the least
pub least-le : (l : ℕ) (rs : List Report) (w r : ℕ) → get_or rs w silence ≡ told r → least l (spoken rs) ≤ r
unfolding spoken
least-le l [] w r e = absurd (silence≢told e)
least-le l (told x ∷ rs) zero r e = omega (arith, least_first l x (spoken rs), told-injective e)
least-le l (told x ∷ rs) (suc w) r e = omega (arith, least-rest l x (spoken rs) (spoken-some rs w r e), least-le l rs w r e)
least-le l (silence ∷ rs) zero r e = absurd (silence≢told e)
least-le l (silence ∷ rs) (suc w) r e = least-le l rs w r e

-- A result to be read: where all windows are silent, there is no least report, and l stands for it.
pub least-silent : (l n : ℕ) → least l (spoken (replicate n silence)) ≡ l
unfolding spoken least
least-silent l zero = refl
least-silent l (suc n) = least-silent l n

-- ------------------------------------------------------------------------
-- reports that Start takes

module _ (l : ℕ) where
  pub reports-le : (rs : List Report) → all (is_start_report l) rs ≡ true → (w r : ℕ) → get_or rs w silence ≡ told r → r ≤ l
  unfolding all
  reports-le [] h w r e = absurd (silence≢told e)
  reports-le (told x ∷ rs) h zero r e = omega (arith, leb-true x l (and_left (leb x l) _ h), told-injective e)
  reports-le (told x ∷ rs) h (suc w) r e = reports-le rs (and_right (leb x l) _ h) w r e
  reports-le (silence ∷ rs) h zero r e = absurd (silence≢told e)
  reports-le (silence ∷ rs) h (suc w) r e = reports-le rs h w r e

  pub reports-least : (rs : List Report) → all (is_start_report l) rs ≡ true → least l (spoken rs) ≤ l
  unfolding all spoken least
  reports-least [] h = le_refl l
  reports-least (told x ∷ rs) h = omega (arith, least_first l x (spoken rs), leb-true x l (and_left (leb x l) _ h))
  reports-least (silence ∷ rs) h = reports-least rs h
