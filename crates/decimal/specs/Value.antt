-- Laws of numerals and their values: a numeral is made of digits, is canonical and has its number as its value, and digits that are
-- canonical are the numeral of their value.
use Rattle.std.specs.Prelude.{ℕ, zero, suc, ◌+◌, ◌*◌, ◌-◌, ◌/◌, ◌%◌, ◌^◌, ◌≤◌, ◌<◌, ◌≡◌}
use Rattle.std.specs.Prelude.{refl, List, [], ◌∷◌, ◌++◌, Bool, true, false, length, drop, ltb, eqb}
use Rattle.std.proofs.Common.{arith, le_refl, pow-suc, sym, ◌∙◌, ap, append-nil, append_assoc}
use Rattle.std.proofs.Common.{length-append, lt-ltb, le-ltb, le-leb, ne_eqb, ltb-true, ltb-false}
use Rattle.std.proofs.lemmas.Bool.{false≢true, eqb-false, not-true}
use Rattle.lists.specs.All.{between-bounds}
use Rattle.decimal.specs.Numeral.{is_digit, lead_digits, value_from, canonical, numeral, numeral_by}

-- numeral

-- fuel from the number on is enough
numeral_by-fuel : (f g n : ℕ) → n ≤ f → n ≤ g → numeral_by f n ≡ numeral_by g n
unfolding numeral_by
numeral_by-fuel zero zero n p q = refl
numeral_by-fuel zero (suc g) n p q = let e : n ≡ 0 = omega arith in simp e
numeral_by-fuel (suc f) zero n p q = let e : n ≡ 0 = omega arith in simp e
numeral_by-fuel (suc f) (suc g) n p q = go (ltb n 10) refl (numeral_by-fuel f g (n / 10))
  where
    go : (t : Bool) → ltb n 10 ≡ t → (n / 10 ≤ f → n / 10 ≤ g → numeral_by f (n / 10) ≡ numeral_by g (n / 10))
        → numeral_by (suc f) n ≡ numeral_by (suc g) n
    go true e ih = rw (e, numeral_by)
    go false e ih = let h : 10 ≤ n = ltb-false n 10 e in rw (e, numeral_by, ih (omega arith) (omega arith))

pub numeral-small : (n : ℕ) → n < 10 → numeral n ≡ (48 + n) ∷ []
unfolding numeral numeral_by
numeral-small zero h = refl
numeral-small (suc m) h = rw (numeral_by, lt-ltb (suc m) 10 h)

pub numeral-step : (n : ℕ) → 10 ≤ n → numeral n ≡ numeral (n / 10) ++ ((48 + n % 10) ∷ [])
unfolding numeral numeral_by
numeral-step zero h = absurd (omega arith)
numeral-step (suc m) h = rw (le-ltb (suc m) 10 h, numeral_by, numeral_by-fuel m (suc m / 10) (suc m / 10) (omega arith) (omega arith))

-- induction on a number's digits, the last one first
module _ (P : ℕ → Type 0) (small : (n : ℕ) → n < 10 → P n) (step : (n : ℕ) → 10 ≤ n → P (n / 10) → P n) where
  induction_by : (fuel n : ℕ) → n ≤ fuel → P n
  induction_by zero n h = small n (omega arith)
  induction_by (suc fuel) n h = go (ltb n 10) refl (induction_by fuel (n / 10))
    where
      go : (t : Bool) → ltb n 10 ≡ t → (n / 10 ≤ fuel → P (n / 10)) → P n
      go true e ih = small n (ltb-true n 10 e)
      go false e ih = let b : 10 ≤ n = ltb-false n 10 e in step n b (ih (omega arith))

  pub numeral-induction : (n : ℕ) → P n
  numeral-induction n = induction_by n n (le_refl n)

-- is_digit

is_digit-byte : (d : ℕ) → d < 10 → is_digit (48 + d) ≡ true
is_digit-byte d h = simp (le-leb 48 (48 + d) (omega arith), le-leb (48 + d) 57 (omega arith))

-- lead_digits

pub lead_digits-digit : (b : ℕ) (s : List ℕ) → is_digit b ≡ true → lead_digits (b ∷ s) ≡ b ∷ lead_digits s
unfolding lead_digits
lead_digits-digit b s e = rw (e, lead_digits)

pub lead_digits-other : (b : ℕ) (s : List ℕ) → is_digit b ≡ false → lead_digits (b ∷ s) ≡ []
unfolding lead_digits
lead_digits-other b s e = rw (lead_digits, e)

-- the first of several digits, and the others
record Digits (b : ℕ) (s : List ℕ) : Type 0 where
  digit : is_digit b ≡ true
  rest : lead_digits s ≡ s

lead_digits-cons : (b : ℕ) (s : List ℕ) → lead_digits (b ∷ s) ≡ b ∷ s → Digits b s
unfolding lead_digits
lead_digits-cons b s h = go (is_digit b) refl
  where
    go : (t : Bool) → is_digit b ≡ t → Digits b s
    go true e = record { digit = e; rest = (cc (lead_digits-digit b s e)) }
    go false e = let z : ◌≡◌ {A = ℕ} 0 1 = cc (lead_digits-other b s e) in absurd (omega arith)

-- a text that starts with digits: those, and then the digits of what follows
pub lead_digits-append : (s t : List ℕ) → lead_digits s ≡ s → lead_digits (s ++ t) ≡ s ++ lead_digits t
unfolding lead_digits
lead_digits-append [] t h = refl
lead_digits-append (b ∷ s) t h =
    let d : Digits b s = lead_digits-cons b s h in
    cc (lead_digits-digit b (s ++ t) d.digit, lead_digits-append s t d.rest)

-- the digits at the front are digits to their end
pub lead_digits-again : (s : List ℕ) → lead_digits (lead_digits s) ≡ lead_digits s
unfolding lead_digits
lead_digits-again [] = refl
lead_digits-again (b ∷ s) = go (is_digit b) refl (lead_digits-again s)
  where
    go : (t : Bool) → is_digit b ≡ t → lead_digits (lead_digits s) ≡ lead_digits s → lead_digits (lead_digits (b ∷ s)) ≡ lead_digits (b ∷ s)
    go true e ih = simp (lead_digits-digit b s e) (cc (lead_digits-digit b (lead_digits s) e))
    go false e ih = simp (lead_digits-other b s e)

-- a text is the digits at its front, and what follows them
pub lead_digits-split : (s : List ℕ) → s ≡ lead_digits s ++ drop (length (lead_digits s)) s
unfolding lead_digits
lead_digits-split [] = refl
lead_digits-split (b ∷ s) = go (is_digit b) refl (lead_digits-split s)
  where
    go : (t : Bool) → is_digit b ≡ t → s ≡ lead_digits s ++ drop (length (lead_digits s)) s
        → b ∷ s ≡ lead_digits (b ∷ s) ++ drop (length (lead_digits (b ∷ s))) (b ∷ s)
    go true e ih = simp (lead_digits-digit b s e) (ap (λ (l : List ℕ). b ∷ l) ih)
    go false e ih = simp (lead_digits-other b s e)

-- and none follows them
pub lead_digits-rest : (s : List ℕ) → lead_digits (drop (length (lead_digits s)) s) ≡ []
unfolding lead_digits
lead_digits-rest [] = refl
lead_digits-rest (b ∷ s) = go (is_digit b) refl (lead_digits-rest s)
  where
    go : (t : Bool) → is_digit b ≡ t → lead_digits (drop (length (lead_digits s)) s) ≡ []
        → lead_digits (drop (length (lead_digits (b ∷ s))) (b ∷ s)) ≡ []
    go true e ih = simp (lead_digits-digit b s e) ih
    go false e ih = simp (lead_digits-other b s e)

-- every byte of a numeral is a digit
pub numeral-digits : (n : ℕ) → lead_digits (numeral n) ≡ numeral n
unfolding lead_digits
numeral-digits =
    numeral-induction (λ (n : ℕ). lead_digits (numeral n) ≡ numeral n)
    (λ n h. rw (numeral-small n h, lead_digits-digit (48 + n) [] (is_digit-byte n h)))
    (λ n h ih.
    let d = is_digit-byte (n % 10) (omega arith) in
    rw (numeral-step n h, lead_digits-append (numeral (n / 10)) ((48 + n % 10) ∷ []) ih, lead_digits-digit (48 + n % 10) [] d))

pub lead_digits-numeral : (n : ℕ) (rest : List ℕ) → lead_digits rest ≡ [] → lead_digits (numeral n ++ rest) ≡ numeral n
lead_digits-numeral n rest h = cc (lead_digits-append (numeral n) rest (numeral-digits n), append-nil (numeral n))

-- value_from

pub value_from-append : (v : ℕ) (s t : List ℕ) → value_from v (s ++ t) ≡ value_from (value_from v s) t
unfolding value_from
value_from-append v [] t = refl
value_from-append v (b ∷ s) t = value_from-append (v * 10 + (b - 48)) s t

pub value-numeral : (n : ℕ) → value_from 0 (numeral n) ≡ n
unfolding value_from
value-numeral =
    numeral-induction (λ (n : ℕ). value_from 0 (numeral n) ≡ n) (λ n h. rw (numeral-small n h) (omega arith))
    (λ n h ih. rw (numeral-step n h, value_from-append 0 (numeral (n / 10)) ((48 + n % 10) ∷ [])) (omega arith))

-- canonical

canonical-append : (s t : List ℕ) → canonical s ≡ true → 1 ≤ value_from 0 s → canonical (s ++ t) ≡ true
unfolding canonical value_from
canonical-append [] t h p = absurd (omega arith)
canonical-append (b ∷ []) [] h p = refl
canonical-append (b ∷ []) (c ∷ t) h p = simp (ne_eqb b 48 (omega arith))
canonical-append (b ∷ c ∷ s) t h p = h

pub canonical-numeral : (n : ℕ) → canonical (numeral n) ≡ true
unfolding canonical
canonical-numeral =
    numeral-induction (λ (n : ℕ). canonical (numeral n) ≡ true) (λ n h. rw (numeral-small n h))
    (λ n h ih. rw (numeral-step n h) (canonical-append (numeral (n / 10)) ((48 + n % 10) ∷ []) ih (omega (arith, value-numeral (n / 10)))))

-- digits after a number that is not 0: the numeral of their value is that of the number, and the digits
numeral-value_from : (v : ℕ) (s : List ℕ) → 1 ≤ v → lead_digits s ≡ s → numeral (value_from v s) ≡ numeral v ++ s
unfolding value_from
numeral-value_from v [] p h = sym (append-nil (numeral v))
numeral-value_from v (b ∷ s) p h =
    let d : Digits b s = lead_digits-cons b s h in
    let r = between-bounds 48 57 b d.digit in
    let w : ℕ = v * 10 + (b - 48) in
    let q : w / 10 ≡ v = omega (arith, r) in
    let m : 48 + w % 10 ≡ b = omega (arith, r) in
    let e = numeral-step w (omega arith) in
    numeral-value_from w s (omega arith) d.rest ∙ rw (e, q, m) (append_assoc (numeral v) (b ∷ []) s)

-- what was read, written again, has the same bytes
pub numeral-canonical : (ds : List ℕ) → lead_digits ds ≡ ds → canonical ds ≡ true → numeral (value_from 0 ds) ≡ ds
unfolding canonical value_from
numeral-canonical [] h c = absurd (false≢true c)
numeral-canonical (b ∷ []) h c =
    let d : Digits b [] = lead_digits-cons b [] h in
    let r = between-bounds 48 57 b d.digit in
    let m : 48 + (0 * 10 + (b - 48)) ≡ b = omega (arith, r) in
    numeral-small (0 * 10 + (b - 48)) (omega (arith, r)) ∙ rw m
numeral-canonical (b ∷ x ∷ s) h c =
    let d : Digits b (x ∷ s) = lead_digits-cons b (x ∷ s) h in
    let r = between-bounds 48 57 b d.digit in
    let m : 48 + (0 * 10 + (b - 48)) ≡ b = omega (arith, r) in
    let p = eqb-false b 48 (not-true (eqb b 48) c) in
    numeral-value_from (0 * 10 + (b - 48)) (x ∷ s) (omega (arith, r, p)) d.rest
    ∙ rw (numeral-small (0 * 10 + (b - 48)) (omega (arith, r)), m)

-- length

pub numeral-nonempty : (n : ℕ) → 1 ≤ length (numeral n)
numeral-nonempty =
    numeral-induction (λ (n : ℕ). 1 ≤ length (numeral n)) (λ n h. rw (numeral-small n h) (omega arith))
    (λ n h ih. rw (numeral-step n h, length-append) (omega arith))

-- a number has at most k digits where it is below 10 ^ k
pub numeral-length-le : (n k : ℕ) → 1 ≤ k → n < 10 ^ k → length (numeral n) ≤ k
numeral-length-le =
    numeral-induction (λ (n : ℕ). (k : ℕ) → 1 ≤ k → n < 10 ^ k → length (numeral n) ≤ k)
    (λ n h k p q. rw (numeral-small n h) p)
    (λ n h ih. elim [
      | zero ↦ λ p q. absurd (omega arith)
      | suc zero ↦ λ p q. absurd (omega arith)
      | suc (suc k) ↦ λ p q.
          rw (numeral-step n h, length-append) (omega (arith, ih (suc k) (omega arith) (omega (arith, pow-suc 10 (suc k)))))
    ])

ten_pow-pos : (k : ℕ) → 0 < 10 ^ k
ten_pow-pos zero = omega arith
ten_pow-pos (suc k) = omega (arith, pow-suc 10 k, ten_pow-pos k)

-- and more than k where it is at least 10 ^ k
pub numeral-length-gt : (n k : ℕ) → 10 ^ k ≤ n → k < length (numeral n)
numeral-length-gt =
    numeral-induction (λ (n : ℕ). (k : ℕ) → 10 ^ k ≤ n → k < length (numeral n))
    (λ n h. elim [
      | zero ↦ λ p. numeral-nonempty n
      | suc k ↦ λ p. absurd (omega (arith, pow-suc 10 k, ten_pow-pos k))
    ])
    (λ n h ih. elim [
      | zero ↦ λ p. numeral-nonempty n
      | suc k ↦ λ p. rw (numeral-step n h, length-append) (omega (arith, ih k (omega (arith, pow-suc 10 k))))
    ])

pub numeral-length-u32 : (n : ℕ) → n < 2 ^ 32 → length (numeral n) ≤ 10
numeral-length-u32 n h = numeral-length-le n 10 (omega arith) (omega arith)
