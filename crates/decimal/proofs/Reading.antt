-- What `read` rests on: the digits at the front of a text, their value one by one, and what `read_at` answers of them.
use Prim.Native.Nat.{ℕ, zero, suc, ◌+◌, ◌*◌, ◌-◌, ◌^◌, ◌≤◌, ◌<◌, min}
use native.Mathlib.Omega.{arith}
use native.Mathlib.Numerals.{add-one}
use mathlib.Core.Path.{◌≡◌, refl, sym, ◌∙◌, ap}
use mathlib.Core.List.{List, [], ◌∷◌, ◌++◌}
use mathlib.Core.Bool.{Bool, true, false, and-false}
use mathlib.Core.Logic.{◌⊎◌}
use lib.ListN.{length, take, drop, get_or, drop_of_length-le, length-drop}
use lib.Seq.{take-length, take-suc}
use Rattle.std.proofs.Common.{take-append-drop, ⊎_elim, length-take-le, append-nil, drop-cons}
use Rattle.std.proofs.lemmas.List.{take_min, take_all}
use Rattle.lists.specs.Cases.{le-or-lt}
use borrow.Author.Tests.{le-leb, lt-leb}
use Rattle.std.specs.Prelude.{Some, None}
use Rattle.std.specs.List.{prefix_len, take_while}
use Rattle.std.proofs.lemmas.List.Folds.{length-prefix_len}
use Rattle.lists.specs.All.{between-bounds}
use Rattle.decimal.specs.Numeral.{is_digit, lead_digits, value_from, canonical, read_at}
use Rattle.decimal.specs.Value.{lead_digits-digit, lead_digits-other, lead_digits-again, lead_digits-append, value_from-append}
use Rattle.decimal.specs.Value.{numeral-canonical, numeral-length-u32}

-- lead_digits

-- as std counts them
lead_digits-take : (s : List ℕ) → take (prefix_len is_digit s) s ≡ lead_digits s
unfolding lead_digits
lead_digits-take [] = refl
lead_digits-take (b ∷ s) = go (is_digit b) refl (lead_digits-take s)
  where
    go : (t : Bool) → is_digit b ≡ t → take (prefix_len is_digit s) s ≡ lead_digits s
        → take (prefix_len is_digit (b ∷ s)) (b ∷ s) ≡ lead_digits (b ∷ s)
    go true e ih =
        let m : 1 + prefix_len is_digit s ≡ suc (prefix_len is_digit s) = omega arith in
        rw (lead_digits-digit b s e) (simp (e, m) (ap (λ (l : List ℕ). b ∷ l) ih))
    go false e ih = rw (lead_digits-other b s e) (simp e)

pub lead_digits-count : (n : ℕ) (s : List ℕ) → n ≡ length (take_while is_digit s) → take n s ≡ lead_digits s
lead_digits-count n s e = rw (e, length-prefix_len is_digit s) (lead_digits-take s)

-- none is below `0`
pub lead_digits-byte : (s : List ℕ) (k : ℕ) → k < length (lead_digits s) → 48 ≤ get_or (lead_digits s) k 0
unfolding lead_digits
lead_digits-byte [] k h = absurd (omega arith)
lead_digits-byte (b ∷ s) k h = go (is_digit b) refl k h (lead_digits-byte s)
  where
    go : (t : Bool) → is_digit b ≡ t → (k : ℕ) → k < length (lead_digits (b ∷ s))
        → ((i : ℕ) → i < length (lead_digits s) → 48 ≤ get_or (lead_digits s) i 0) → 48 ≤ get_or (lead_digits (b ∷ s)) k 0
    go true e zero h ih = rw (lead_digits-digit b s e) (between-bounds 48 57 b e).0
    go true e (suc k) h ih = rw (lead_digits-digit b s e) (ih k (omega (arith, h, ap length (lead_digits-digit b s e))))
    go false e k h ih = absurd (omega (arith, h, ap length (lead_digits-other b s e)))

pub digit-low : (n : ℕ) (s : List ℕ) (k : ℕ) → n ≡ length (take_while is_digit s) → k < length (take n s) → 48 ≤ get_or (take n s) k 0
digit-low n s k e h = let d = lead_digits-count n s e in rw d (lead_digits-byte s k (rw d at h))

-- of a front of a text
lead_digits-front : (m : ℕ) (s : List ℕ) → lead_digits (take m s) ≡ take m (lead_digits s)
unfolding lead_digits
lead_digits-front zero s = refl
lead_digits-front (suc m) [] = refl
lead_digits-front (suc m) (b ∷ s) = go (is_digit b) refl (lead_digits-front m s)
  where
    go : (t : Bool) → is_digit b ≡ t → lead_digits (take m s) ≡ take m (lead_digits s)
        → lead_digits (take (suc m) (b ∷ s)) ≡ take (suc m) (lead_digits (b ∷ s))
    go true e ih = rw (lead_digits-digit b s e) (lead_digits-digit b (take m s) e ∙ ap (λ (l : List ℕ). b ∷ l) ih)
    go false e ih = rw (lead_digits-other b s e) (lead_digits-other b (take m s) e)

-- a front of digits, and one byte more
pub digits_more : (s : List ℕ) (i : ℕ) → lead_digits (take i s) ≡ take i s → i < length s → is_digit (get_or s i 0) ≡ true
    → lead_digits (take (i + 1) s) ≡ take (i + 1) s
unfolding lead_digits
digits_more s i e h d =
    rw (add-one, take-suc s i 0 h, lead_digits-append (take i s) (get_or s i 0 ∷ []) e, lead_digits-digit (get_or s i 0) [] d)

-- the next byte is none, or no byte is left: these are all the digits that stand there
digits-until : (s : List ℕ) (i : ℕ) → lead_digits (take i s) ≡ take i s → i < length s → is_digit (get_or s i 0) ≡ false
    → take i s ≡ lead_digits s
digits-until s i e h d =
    let whole : lead_digits (take i s ++ drop i s) ≡ take i s ++ lead_digits (drop i s) = lead_digits-append (take i s) (drop i s) e in
    let none : lead_digits (drop i s) ≡ [] = rw (drop-cons s i 0 h) (lead_digits-other (get_or s i 0) (drop (suc i) s) d) in
    sym (ap lead_digits (sym (take-append-drop i s)) ∙ whole ∙ rw none (append-nil (take i s)))

pub digits_all : (s : List ℕ) (i n : ℕ) → n ≡ i → lead_digits (take i s) ≡ take i s
    → (length s ≤ i) ⊎ ((i < length s) × (is_digit (get_or s i 0) ≡ false)) → take n s ≡ lead_digits s
digits_all s i n same e left =
    rw same (⊎_elim (λ (h : length s ≤ i). sym e ∙ ap lead_digits (take_all i s h)) (λ h. digits-until s i e h.0 h.1) left)

-- canonical

canonical-front : (m : ℕ) (ds : List ℕ) → 2 ≤ m → canonical (take m ds) ≡ canonical ds
unfolding canonical
canonical-front zero ds h = absurd (omega arith)
canonical-front (suc zero) ds h = absurd (omega arith)
canonical-front (suc (suc m)) [] h = refl
canonical-front (suc (suc m)) (b ∷ []) h = refl
canonical-front (suc (suc m)) (b ∷ c ∷ s) h = refl

-- Eleven digits are no number of 32 bits, so where the value of the first k, eleven or more, is one, they are all that stand there.
digits-few : (k : ℕ) (s : List ℕ) → 11 ≤ k → canonical (take k (lead_digits s)) ≡ true → value_from 0 (take k (lead_digits s)) < 2 ^ 32
    → take k (lead_digits s) ≡ lead_digits s
digits-few k s b c h =
    let ds : List ℕ = lead_digits s in
    let again : lead_digits (take k ds) ≡ take k ds = lead_digits-front k ds ∙ ap (take k) (lead_digits-again s) in
    let few : length (take k ds) ≤ 10 = rw (← numeral-canonical (take k ds) again c) (numeral-length-u32 (value_from 0 (take k ds)) h) in
    ⊎_elim (λ (l : length ds ≤ k). take_all k ds l) (λ (l : k < length ds). absurd (omega (arith, b, few, length-take-le k ds (omega arith))))
    (le-or-lt (length ds) k)

-- value_from

value_from-le : (v : ℕ) (s : List ℕ) → v ≤ value_from v s
unfolding value_from
value_from-le v [] = omega arith
value_from-le v (b ∷ s) = omega (arith, value_from-le (v * 10 + (b - 48)) s)

value_from-take : (s : List ℕ) (k : ℕ) → value_from 0 (take k s) ≤ value_from 0 s
value_from-take s k =
    let e : value_from 0 s ≡ value_from (value_from 0 (take k s)) (drop k s)
    = ap (value_from 0) (sym (take-append-drop k s)) ∙ value_from-append 0 (take k s) (drop k s) in
    omega (arith, e, value_from-le (value_from 0 (take k s)) (drop k s))

-- one digit more
pub value_from-next : (s : List ℕ) (k : ℕ) → k < length s
    → value_from 0 (take (k + 1) s) ≡ value_from 0 (take k s) * 10 + (get_or s k 0 - 48)
unfolding value_from
value_from-next s k h = rw (add-one, take-suc s k 0 h, value_from-append 0 (take k s) (get_or s k 0 ∷ []))

-- The text from the place on is `rest`, of whose first bytes, `most` of them and eleven or more, `near` here, the first n are all the digits.
module _ (bound : ℕ) (text rest : List ℕ) (at most m : ℕ) (enough : 11 ≤ most) (r : rest ≡ take (length text - at) (drop at text))
    (k : m ≡ min most (length rest)) where
  abbrev near : List ℕ
  near = take m rest

  abbrev ds : List ℕ
  ds = lead_digits (drop at text)

  near-digits : lead_digits near ≡ take most ds
  near-digits =
      let here : rest ≡ drop at text = r ∙ rw (← length-drop at text) (take-length (drop at text)) in
      ap lead_digits (rw k (take_min most rest) ∙ ap (take most) here) ∙ lead_digits-front most (drop at text)

  pub answer-other : (n : ℕ) → take n near ≡ lead_digits near → canonical (take n near) ≡ false → None ≡ read_at bound text at
  unfolding read_at
  answer-other n d h = rw (sym (canonical-front most ds (omega (arith, enough))) ∙ ap canonical (sym (d ∙ near-digits)) ∙ h)

  -- where the value of some of them is above the bound
  pub answer-above : (i : ℕ) → lead_digits (take i near) ≡ take i near → bound < value_from 0 (take i near) → None ≡ read_at bound text at
  unfolding read_at
  answer-above i e h =
      let some : take i near ≡ take i (take most ds) = sym e ∙ lead_digits-front i near ∙ ap (take i) near-digits in
      let v : value_from 0 (take i near) ≤ value_from 0 (take most ds) = rw some (value_from-take (take most ds) i) in
      simp (lt-leb (value_from 0 ds) bound (omega (arith, h, v, value_from-take ds most)), and-false)

  pub answer-number : (n v : ℕ) → take n near ≡ lead_digits near → canonical (take n near) ≡ true → v ≡ value_from 0 (take n near) → v ≤ bound
      → bound < 2 ^ 32 → Some (v, at + length (take n near)) ≡ read_at bound text at
  unfolding read_at
  answer-number n v d c e h b =
      let front : take n near ≡ take most ds = d ∙ near-digits in
      let few = digits-few most (drop at text) enough (ap canonical (sym front) ∙ c) (omega (arith, h, b, e ∙ ap (value_from 0) front)) in
      let all : take n near ≡ ds = front ∙ few in
      simp (all, ap canonical (sym all) ∙ c, sym (e ∙ ap (value_from 0) all), le-leb v bound h)

-- The same where all digits there are counted first, as std counts them: `rest` is the text from the place on, of which the first n bytes are digits.
module _ (bound : ℕ) (text rest : List ℕ) (at n : ℕ) (r : rest ≡ take (length text - at) (drop at text))
    (d : n ≡ length (take_while is_digit rest)) where
  all-here : lead_digits (drop at text) ≡ take n rest
  all-here = sym (lead_digits-count n rest d ∙ ap lead_digits (r ∙ rw (← length-drop at text) (take-length (drop at text))))

  pub all-other : canonical (take n rest) ≡ false → None ≡ read_at bound text at
  unfolding read_at
  all-other h = rw (all-here, h)

  pub all-above : (k : ℕ) → bound < value_from 0 (take k (take n rest)) → None ≡ read_at bound text at
  unfolding read_at
  all-above k h =
      simp (all-here, lt-leb (value_from 0 (take n rest)) bound (omega (arith, value_from-take (take n rest) k)), and-false)

  pub all-number : (v : ℕ) → canonical (take n rest) ≡ true → v ≡ value_from 0 (take n rest) → v ≤ bound
      → Some (v, at + length (take n rest)) ≡ read_at bound text at
  unfolding read_at
  all-number v c e h = simp (all-here, c, ← e, le-leb v bound h)

pub answer_end : (bound : ℕ) (text : List ℕ) (at : ℕ) → length text ≤ at → None ≡ read_at bound text at
unfolding read_at lead_digits canonical
answer_end bound text at h = rw (drop_of_length-le text h)
