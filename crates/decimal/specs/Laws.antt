-- Laws of reading and writing: reading accepts exactly the numerals of at most the bound, and what was written reads back.
use Rattle.std.specs.Prelude.{ℕ, ◌+◌, ◌≤◌, ◌<◌, ◌≡◌, refl, List, [], ◌∷◌, ◌++◌, Bool, true, false, ◌&&◌, length, take, drop, replicate, leb}
use Rattle.std.specs.Prelude.{Some, None}
use Rattle.std.proofs.Common.{arith, sym, ◌∙◌, ap, append_assoc, drop-drop, length-take-le, le-leb, leb-true, leb-false}
use Rattle.std.proofs.Math.Bool.{and-eq-true_iff}
use Rattle.std.proofs.Math.Seq.{drop-append_seam}
use Rattle.std.proofs.lemmas.Bool.{lt-leb}
use Rattle.std.proofs.lemmas.Option.{some_pair_parts}
use Rattle.lists.specs.Over.{over, over-length}
use Rattle.decimal.specs.Numeral.{lead_digits, value_from, canonical, numeral, read_at, room, write_at, with_numeral}
use Rattle.decimal.specs.Value.{lead_digits-again, lead_digits-split, lead_digits-rest, lead_digits-numeral}
use Rattle.decimal.specs.Value.{value-numeral, canonical-numeral, numeral-canonical}

-- Reading

-- a numeral of at most the bound that stands at the place is read
pub read-stands : (bound n at : ℕ) (text rest : List ℕ) → n ≤ bound → lead_digits rest ≡ [] → drop at text ≡ numeral n ++ rest
    → read_at bound text at ≡ Some (n, at + length (numeral n))
unfolding read_at
read-stands bound n at text rest h f e =
    let d : lead_digits (drop at text) ≡ numeral n = ap lead_digits e ∙ lead_digits-numeral n rest f in
    simp (d, value-numeral n, canonical-numeral n, le-leb n bound h)

-- A result to be read: what was written reads back.
pub read-numeral : (bound n : ℕ) (before rest : List ℕ) → n ≤ bound → lead_digits rest ≡ []
    → read_at bound (before ++ numeral n ++ rest) (length before) ≡ Some (n, length before + length (numeral n))
read-numeral bound n before rest h f =
    read-stands bound n (length before) (before ++ numeral n ++ rest) rest h f
    (rw append_assoc (drop-append_seam before (numeral n ++ rest)))

-- A result to be read: where nothing is read, no numeral of at most the bound stands.
pub read-refuses : (bound : ℕ) (text : List ℕ) (at n : ℕ) (rest : List ℕ) → read_at bound text at ≡ None
    → n ≤ bound → lead_digits rest ≡ [] → drop at text ≡ numeral n ++ rest → ⊥
read-refuses bound text at n rest e h f d =
    let z : ◌≡◌ {A = ℕ} 0 1 = cc (read-stands bound n at text rest h f d) in
    omega arith

-- what a read that answers a number tells of the text
pub record Accepted (bound : ℕ) (text : List ℕ) (at n next : ℕ) : Type 0 where
  pub within : n ≤ bound
  pub next_place : next ≡ at + length (numeral n)
  pub stands : drop at text ≡ numeral n ++ drop next text
  pub ends : lead_digits (drop next text) ≡ []

pub read-accepts : (bound : ℕ) (text : List ℕ) (at n next : ℕ) → read_at bound text at ≡ Some (n, next) → Accepted bound text at n next
unfolding read_at
read-accepts bound text at n next e = go (canonical ds && leb (value_from 0 ds) bound) refl
  where
    ds : List ℕ
    ds = lead_digits (drop at text)

    go : (t : Bool) → (canonical ds && leb (value_from 0 ds) bound) ≡ t → Accepted bound text at n next
    go true p =
        let both = (and-eq-true_iff (canonical ds) (leb (value_from 0 ds) bound)).0 p in
        let r : read_at bound text at ≡ Some (value_from 0 ds, at + length ds) = simp p in
        let (v, x) = some_pair_parts _ _ _ _ (sym e ∙ r) in
        let w : numeral n ≡ ds = ap numeral v ∙ numeral-canonical ds (lead_digits-again (drop at text)) both.0 in
        record {
          within = omega (arith, leb-true (value_from 0 ds) bound both.1);
          next_place = rw w x;
          stands = rw (x, w, ← drop-drop (length ds) at text) (lead_digits-split (drop at text));
          ends = rw (x, ← drop-drop (length ds) at text) (lead_digits-rest (drop at text));
        }
    go false p =
        let r : read_at bound text at ≡ None = simp p in
        let z : ◌≡◌ {A = ℕ} 0 1 = cc in
        absurd (omega arith)

-- Writing

-- where there is room: the place after the numeral, and the numeral written over the buffer
pub write-room : (n size at : ℕ) → at + length (numeral n) ≤ size → write_at n size at ≡ Some (at + length (numeral n))
unfolding write_at
write-room n size at h = simp (le-leb (at + length (numeral n)) size h)

pub with_numeral-room : (n : ℕ) (buf : List ℕ) (at : ℕ) → at + length (numeral n) ≤ length buf
    → with_numeral n buf at ≡ over at (numeral n) buf
unfolding with_numeral
with_numeral-room n buf at h = simp (le-leb (at + length (numeral n)) (length buf) h)

-- where there is none: the buffer as it was
pub write-full : (n size at : ℕ) → size < at + length (numeral n) → write_at n size at ≡ None
unfolding write_at
write-full n size at h = simp (lt-leb (at + length (numeral n)) size h)

pub with_numeral-full : (n : ℕ) (buf : List ℕ) (at : ℕ) → length buf < at + length (numeral n) → with_numeral n buf at ≡ buf
unfolding with_numeral
with_numeral-full n buf at h = simp (lt-leb (at + length (numeral n)) (length buf) h)

-- what a write that answers a place tells
pub record Fitted (n size at next : ℕ) : Type 0 where
  pub fits : at + length (numeral n) ≤ size
  pub next_place : next ≡ at + length (numeral n)

pub write-accepts : (n size at next : ℕ) → write_at n size at ≡ Some next → Fitted n size at next
write-accepts n size at next e = go (room n size at) refl
  where
    go : (t : Bool) → room n size at ≡ t → Fitted n size at next
    go true p =
        let h : at + length (numeral n) ≤ size = leb-true (at + length (numeral n)) size p in
        record { fits = h; next_place = (cc (write-room n size at h)) }
    go false p =
        let z : ◌≡◌ {A = ℕ} 0 1 = cc (write-full n size at (leb-false (at + length (numeral n)) size p)) in
        absurd (omega arith)

pub with_numeral-length : (n : ℕ) (buf : List ℕ) (at : ℕ) → length (with_numeral n buf at) ≡ length buf
with_numeral-length n buf at = go (room n (length buf) at) refl
  where
    go : (t : Bool) → room n (length buf) at ≡ t → length (with_numeral n buf at) ≡ length buf
    go true p =
        let h : at + length (numeral n) ≤ length buf = leb-true (at + length (numeral n)) (length buf) p in
        rw (with_numeral-room n buf at h) (over-length at (numeral n) buf h)
    go false p = ap length (with_numeral-full n buf at (leb-false (at + length (numeral n)) (length buf) p))

-- A result to be read: what a write leaves reads back, where no digit follows.
pub with_numeral-reads : (bound n : ℕ) (buf : List ℕ) (at : ℕ) → n ≤ bound → at + length (numeral n) ≤ length buf
    → lead_digits (drop (at + length (numeral n)) buf) ≡ [] → read_at bound (with_numeral n buf at) at ≡ Some (n, at + length (numeral n))
unfolding over
with_numeral-reads bound n buf at h fits f =
    let l : length (take at buf) ≡ at = length-take-le at buf (omega arith) in
    rw (with_numeral-room n buf at fits)
    (rw l at (read-numeral bound n (take at buf) (drop (at + length (numeral n)) buf) h f))

-- Examples, to be read

numeral-greatest : numeral 4294967295 ≡ 52 ∷ 50 ∷ 57 ∷ 52 ∷ 57 ∷ 54 ∷ 55 ∷ 50 ∷ 57 ∷ 53 ∷ []
unfolding numeral
numeral-greatest = refl

-- `65535` after a tab and before a line end, at the bound 65535 and at 65534
read-bound : read_at 65535 (9 ∷ 54 ∷ 53 ∷ 53 ∷ 51 ∷ 53 ∷ 10 ∷ []) 1 ≡ Some (65535, 6)
unfolding read_at
read-bound = refl

read_above : read_at 65534 (9 ∷ 54 ∷ 53 ∷ 53 ∷ 51 ∷ 53 ∷ 10 ∷ []) 1 ≡ None
unfolding read_at
read_above = refl

-- `007`
read-zeros : read_at 4294967295 (48 ∷ 48 ∷ 55 ∷ []) 0 ≡ None
unfolding read_at
read-zeros = refl

-- twelve and sixty digits
read-twelve : read_at 4294967295 (replicate 12 57) 0 ≡ None
unfolding read_at
read-twelve = refl

read-sixty : read_at 4294967295 (replicate 60 49) 0 ≡ None
unfolding read_at
read-sixty = refl
