-- Laws of lines: what a word and a number read as, and that nothing else does.
use Prim.{Unit, tt}
use Rattle.std.specs.Prelude.{ℕ, ◌+◌, ◌≤◌, ◌<◌, ◌≡◌, refl, List, [], ◌∷◌, ◌++◌, Bool, true, false, cond, length, take, drop, eqb, leb, Option, Some, None}
use Rattle.std.proofs.Common.{rules, sym, ap, ◌∙◌, append-nil, eq-eqb, eqb-true}
use Rattle.std.proofs.Common.{le-leb, leb-true, arith, length-append, length-take, take-append-drop}
use Rattle.std.proofs.lemmas.Slice.Eq.{bytes_eq-Decides}
use Rattle.std.proofs.lemmas.Option.{none-some, some_pair_parts}
use Rattle.std.proofs.Math.Seq.{take-append_seam, drop-append_seam, drop-length}
use Rattle.decimal.specs.Numeral.{numeral, lead_digits, read_at}
use Rattle.decimal.specs.Laws.{read-stands, read-accepts}
use Rattle.script_line.specs.declared.Verb.{Verb}
use Rattle.script_line.specs.declared.Verb.TheVariants.{Catch, Send, Written, Ack, Drop, Join, Take}
use Rattle.script_line.specs.declared.Step.TheVariants.{Main, At}
use Rattle.script_line.specs.declared.Step.{Step}
use Rattle.script_line.specs.Line.{same, number_after, word_of, step_or, windowed_or, windowed_of, step_of, windows_of}
use Rattle.script_line.specs.Line.{main_word, catch_word, send_word, written_word, ack_word, drop_word, join_word, take_word, windows_word}

-- ------------------------------------------------------------------------
-- same

pub same-itself : (xs : List ℕ) → same xs xs ≡ true
same-itself xs = (bytes_eq-Decides xs xs).1 refl

pub same-equal : (xs ys : List ℕ) → same xs ys ≡ true → xs ≡ ys
same-equal xs ys = (bytes_eq-Decides xs ys).0

pub same-other : (xs ys : List ℕ) → (xs ≡ ys → ⊥) → same xs ys ≡ false
same-other xs ys differ = by (same xs ys) refl
  where
    by : (b : Bool) → same xs ys ≡ b → b ≡ false
    by true e = absurd (differ (same-equal xs ys e))
    by false e = refl

-- no line is shorter than a word that it starts with
pub same-short : (word line : List ℕ) → length line < length word → same (take (length word) line) word ≡ false
same-short word line h = same-other _ _ (λ (e : take (length word) line ≡ word). omega (arith, length-take (length word) line, ap length e))

-- a test that is true exactly of equal lists
pub same-decides : (xs ys : List ℕ) (r : Bool) → (r ≡ true → xs ≡ ys) → (xs ≡ ys → r ≡ true) → r ≡ same xs ys
same-decides xs ys r is back = search (rules, bytes_eq-Decides)

-- whichever of the two is the first
pub same_swapped : (xs ys : List ℕ) → same xs ys ≡ same ys xs
same_swapped xs ys = same-decides ys xs (same xs ys) (λ e. sym (same-equal xs ys e)) (λ e. rw e (same-itself xs))

-- ------------------------------------------------------------------------
-- number_after

-- what is written reads back
pub number_after-reads : (word : List ℕ) (bound n : ℕ) → n ≤ bound
    → number_after word bound (word ++ numeral n) ≡ Some (n, length word + length (numeral n))
unfolding number_after lead_digits
number_after-reads word bound n h =
    let seam = drop-append_seam word (numeral n) ∙ sym (append-nil (numeral n)) in
    let r = read-stands bound n (length word) (word ++ numeral n) [] h refl seam in
    simp (take-append_seam word (numeral n), same-itself word, r, length-append, eq-eqb (length word + length (numeral n)) _ refl)

-- what is read was written
pub record Holds (word : List ℕ) (bound : ℕ) (line : List ℕ) (n : ℕ) : Type 0 where
  pub within : n ≤ bound
  pub written : line ≡ word ++ numeral n

-- a word at the front, and after it a numeral up to the end
holds-word : (word : List ℕ) (bound : ℕ) (line : List ℕ) (n next : ℕ) → take (length word) line ≡ word
    → read_at bound line (length word) ≡ Some (n, next) → next ≡ length line → Holds word bound line n
holds-word word bound line n next starts r l =
    let a = read-accepts bound line (length word) n next r in
    let rest : drop (length word) line ≡ numeral n = a.stands ∙ rw (l, drop-length) (append-nil (numeral n)) in
    record { within = a.within; written = (cc (take-append-drop (length word) line)) }

pub number_after-accepts : (word : List ℕ) (bound : ℕ) (line : List ℕ) (n next : ℕ) → number_after word bound line ≡ Some (n, next)
    → Holds word bound line n
unfolding number_after
number_after-accepts word bound line n next e = by (same (take (length word) line) word) refl (read_at bound line (length word)) refl
  where
    by : (b : Bool) → same (take (length word) line) word ≡ b → (f : Option (ℕ × ℕ)) → read_at bound line (length word) ≡ f →
        Holds word bound line n
    by true p (Some (m, k)) r = at-end (eqb k (length line)) refl
      where
        at-end : (b : Bool) → eqb k (length line) ≡ b → Holds word bound line n
        at-end true q =
            let s : ◌≡◌ {A = Option (ℕ × ℕ)} (Some (m, k)) (Some (n, next)) = simp (p, r, q) at e in
            let m-is : m ≡ n = (some_pair_parts m n k next s).0 in
            holds-word word bound line n k (same-equal _ _ p) (rw m-is at r) (eqb-true k (length line) q)
        at-end false q = absurd (none-some _ (simp (p, r, q) at e))
    by true p None r = absurd (none-some _ (simp (p, r) at e))
    by false p f r = absurd (none-some _ (simp p at e))

-- ------------------------------------------------------------------------
-- step_of

-- A result to be read: a step with a window reads back
pub step_of-reads : (verb : Verb) (w : ℕ) → w ≤ 99 → step_of (word_of verb ++ numeral w) ≡ Some (At verb w)
unfolding step_of number_after
step_of-reads Catch w h = simp (number_after-reads catch_word 99 w h)
step_of-reads Send w h = simp (number_after-reads send_word 99 w h)
step_of-reads Written w h = simp (number_after-reads written_word 99 w h)
step_of-reads Ack w h = simp (number_after-reads ack_word 99 w h)
step_of-reads Drop w h = simp (number_after-reads drop_word 99 w h)
step_of-reads Join w h = simp (number_after-reads join_word 99 w h)
step_of-reads Take w h = simp (number_after-reads take_word 99 w h)

-- what a line is, by what it reads as: every step that is read was written
unfoldable pub Says : List ℕ → Option Step → Type 0
Says line (Some Main) = line ≡ main_word
Says line (Some (At verb w)) = Holds (word_of verb) 99 line w
Says line None = Unit {0}

says-or : (verb : Verb) (line : List ℕ) (other : Option Step) → Says line other → Says line (windowed_or verb line other)
unfolding Says
says-or verb line other s = by (number_after (word_of verb) 99 line) refl
  where
    by : (f : Option (ℕ × ℕ)) → number_after (word_of verb) 99 line ≡ f → Says line (step_or verb f other)
    by (Some (w, next)) e = number_after-accepts (word_of verb) 99 line w next e
    by None e = s

-- A result to be read: what a step that is read says of the line
pub step_of-says : (line : List ℕ) → Says line (step_of line)
unfolding step_of Says
step_of-says line = by (same line main_word) refl
  where
    windowed : Says line (windowed_of line)
    windowed =
        says-or Catch line _
        (says-or Send line _
        (says-or Written line _
        (says-or Ack line _ (says-or Drop line _ (says-or Join line _ (says-or Take line None tt))))))

    by : (b : Bool) → same line main_word ≡ b → Says line (cond b (Some Main) (windowed_of line))
    by true e = same-equal line main_word e
    by false e = windowed

-- ------------------------------------------------------------------------
-- windows_of

-- A result to be read: the first line reads back
pub windows_of-reads : (n : ℕ) → 1 ≤ n → n ≤ 16 → windows_of (windows_word ++ numeral n) ≡ Some n
unfolding windows_of
windows_of-reads n p h = simp (number_after-reads windows_word 16 n h, le-leb 1 n p)

-- A result to be read: what a number of windows that is read says of the line
pub windows_of-accepts : (line : List ℕ) (n : ℕ) → windows_of line ≡ Some n → (1 ≤ n) × Holds windows_word 16 line n
unfolding windows_of
windows_of-accepts line n e = by (number_after windows_word 16 line) refl
  where
    by : (f : Option (ℕ × ℕ)) → number_after windows_word 16 line ≡ f → (1 ≤ n) × Holds windows_word 16 line n
    by (Some (m, next)) r = counted (leb 1 m) refl
      where
        counted : (b : Bool) → leb 1 m ≡ b → (1 ≤ n) × Holds windows_word 16 line n
        counted true q =
            let s : Some m ≡ Some n = simp (r, q) at e in
            let m-is : m ≡ n = cc in
            (rw m-is at (leb-true 1 m q), number_after-accepts windows_word 16 line n next (rw m-is at r))
        counted false q = absurd (none-some n (simp (r, q) at e))
    by None r = absurd (none-some n (simp r at e))

-- ------------------------------------------------------------------------
-- examples, to be read

read-catch : step_of (catch_word ++ (57 ∷ 57 ∷ [])) ≡ Some (At Catch 99)
unfolding step_of number_after read_at
read-catch = refl

-- a window of 100, a leading zero, a second blank and a blank after the number are malformed
read-hundred : step_of (catch_word ++ (49 ∷ 48 ∷ 48 ∷ [])) ≡ None
unfolding step_of number_after read_at
read-hundred = refl

read-zero : step_of (catch_word ++ (48 ∷ 57 ∷ [])) ≡ None
unfolding step_of number_after read_at
read-zero = refl

read-blank : step_of (catch_word ++ (32 ∷ 57 ∷ [])) ≡ None
unfolding step_of number_after read_at
read-blank = refl

read-after : step_of (catch_word ++ (57 ∷ 32 ∷ [])) ≡ None
unfolding step_of number_after read_at
read-after = refl
