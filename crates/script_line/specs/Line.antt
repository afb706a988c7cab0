-- Document 01, "One run, whole": the lines of the runner's input beside the journal, without their LF, and what reading one answers.
use Rattle.std.specs.Prelude.{ℕ, List, [], ◌∷◌, Bool, cond, length, take, leb, eqb, Option, Some, None}
use Rattle.std.specs.Str.{bytes_eq}
use Rattle.decimal.specs.Numeral.{read_at}
use Rattle.script_line.specs.declared.Verb.{Verb}
use Rattle.script_line.specs.declared.Verb.TheVariants.{Catch, Send, Written, Ack, Drop, Join, Take}
use Rattle.script_line.specs.declared.Step.TheVariants.{Main, At}
use Rattle.script_line.specs.declared.Step.{Step}

-- the words of the lines, each with the blank before its number
abbrev pub main_word : List ℕ
main_word = 109 ∷ 97 ∷ 105 ∷ 110 ∷ []

abbrev pub run_word : List ℕ
run_word = 114 ∷ 117 ∷ 110 ∷ []

abbrev pub windows_word : List ℕ
windows_word = 119 ∷ 105 ∷ 110 ∷ 100 ∷ 111 ∷ 119 ∷ 115 ∷ 32 ∷ []

abbrev pub catch_word : List ℕ
catch_word = 99 ∷ 97 ∷ 116 ∷ 99 ∷ 104 ∷ 32 ∷ []

abbrev pub send_word : List ℕ
send_word = 115 ∷ 101 ∷ 110 ∷ 100 ∷ 32 ∷ []

abbrev pub written_word : List ℕ
written_word = 119 ∷ 114 ∷ 105 ∷ 116 ∷ 116 ∷ 101 ∷ 110 ∷ 32 ∷ []

abbrev pub ack_word : List ℕ
ack_word = 97 ∷ 99 ∷ 107 ∷ 32 ∷ []

abbrev pub drop_word : List ℕ
drop_word = 100 ∷ 114 ∷ 111 ∷ 112 ∷ 32 ∷ []

abbrev pub join_word : List ℕ
join_word = 106 ∷ 111 ∷ 105 ∷ 110 ∷ 32 ∷ []

abbrev pub take_word : List ℕ
take_word = 116 ∷ 97 ∷ 107 ∷ 101 ∷ 32 ∷ []

-- whether two lists of bytes are the same
abbrev pub same : List ℕ → List ℕ → Bool
same = bytes_eq

-- a numeral of at most the bound that ends where the line ends
abbrev pub whole : ℕ → Option (ℕ × ℕ) → Option (ℕ × ℕ)
whole size (Some (n, next)) = cond (eqb next size) (Some (n, next)) None
whole size None = None

-- the number after a word, up to a bound: the line is the word and then the number's numeral
unfoldable pub number_after : List ℕ → ℕ → List ℕ → Option (ℕ × ℕ)
number_after word bound line =
    cond (same (take (length word) line) word) (whole (length line) (read_at bound line (length word))) None

-- the word of a step that has a window
abbrev pub word_of : Verb → List ℕ
word_of Catch = catch_word
word_of Send = send_word
word_of Written = written_word
word_of Ack = ack_word
word_of Drop = drop_word
word_of Join = join_word
word_of Take = take_word

-- a word's step at the number that is found, or another
abbrev pub step_or : Verb → Option (ℕ × ℕ) → Option Step → Option Step
step_or verb (Some (w, next)) other = Some (At verb w)
step_or verb None other = other

-- a word and a window of 0 to 99, or another
abbrev pub windowed_or : Verb → List ℕ → Option Step → Option Step
windowed_or verb line other = step_or verb (number_after (word_of verb) 99 line) other

abbrev pub windowed_of : List ℕ → Option Step
windowed_of line =
    windowed_or Catch line
    (windowed_or Send line
    (windowed_or Written line
    (windowed_or Ack line (windowed_or Drop line (windowed_or Join line (windowed_or Take line None))))))

-- a step line: `main`, or a word and a window
unfoldable pub step_of : List ℕ → Option Step
step_of line = cond (same line main_word) (Some Main) (windowed_of line)

-- a number of windows, at least 1
abbrev pub count_in : Option (ℕ × ℕ) → Option ℕ
count_in (Some (n, next)) = cond (leb 1 n) (Some n) None
count_in None = None

-- the first line: `windows` and a number of 1 to 16
unfoldable pub windows_of : List ℕ → Option ℕ
windows_of line = count_in (number_after windows_word 16 line)
