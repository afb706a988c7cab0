-- Document 01, "Every operation", with document 02's spacing (W5): when a state and a journal are in shape. Each clause stands in the
-- paper's order.
use Rattle.std.specs.Prelude.{ℕ, List, [], ◌∷◌, Bool, true, false, not, ◌&&◌, length, leb}
use Rattle.journal.specs.Entry.{in_shape, count_of}
use Rattle.lists.specs.All.{all, queued_in, held_in}
use Rattle.rules.specs.View.{Condition, normal, fetching, completed, suspended, WindowView, PlayerView}

abbrev pub is_empty : List ℕ → Bool
is_empty [] = true
is_empty (x ∷ xs) = false

-- W is 1 to 16; the batch limit is 1 to 32
abbrev pub count_fits : ℕ → Bool
count_fits n = leb 1 n && leb n 16

abbrev pub limit_fits : ℕ → Bool
limit_fits n = leb 1 n && leb n 32

-- the spacing is 1 to 65,535
abbrev pub spacing_fits : ℕ → Bool
spacing_fits n = leb 1 n && leb n 65535

-- 128 indices at most in a queue, 8 batches at most
abbrev pub lengths_fit : WindowView → Bool
lengths_fit v = leb (length v.normal_queue) 128 && (leb (length v.catch_queue) 128 && leb (length v.batches) 8)

-- a queued index is 1 to L
abbrev pub queued_fit : ℕ → WindowView → Bool
queued_fit l v = all (queued_in l) v.normal_queue && all (queued_in l) v.catch_queue

-- any other held index is at most L
abbrev pub condition_held : ℕ → Condition → Bool
condition_held l normal = true
condition_held l (fetching n e) = leb n l && leb e l
condition_held l (completed e) = leb e l
condition_held l suspended = true

abbrev pub held_fit : ℕ → WindowView → Bool
held_fit l v = leb v.acked l && (leb v.sent l && (all (held_in l) v.batches && condition_held l v.condition))

-- a Fetching next is 1 to its end
abbrev pub next_fits : Condition → Bool
next_fits normal = true
next_fits (fetching n e) = leb 1 n && leb n e
next_fits (completed e) = true
next_fits suspended = true

-- an end is at most `current`
abbrev pub end_fits : ℕ → Condition → Bool
end_fits current normal = true
end_fits current (fetching n e) = leb e current
end_fits current (completed e) = leb e current
end_fits current suspended = true

-- a catch-up queue is empty in Normal and not empty in Completed
abbrev pub catch_up_fits : Condition → List ℕ → Bool
catch_up_fits normal q = is_empty q
catch_up_fits (fetching n e) q = true
catch_up_fits (completed e) q = not (is_empty q)
catch_up_fits suspended q = true

-- nothing is queued or unacknowledged in Suspended
abbrev pub suspended_fits : WindowView → Condition → Bool
suspended_fits v normal = true
suspended_fits v (fetching n e) = true
suspended_fits v (completed e) = true
suspended_fits v suspended = is_empty v.normal_queue && (is_empty v.catch_queue && is_empty v.batches)

-- one window, with L and `current`
unfoldable pub window_shape : ℕ → ℕ → WindowView → Bool
window_shape l current v =
    lengths_fit v
    && (queued_fit l v
    && (held_fit l v
    && (next_fits v.condition
    && (end_fits current v.condition
    && (catch_up_fits v.condition v.catch_queue && suspended_fits v v.condition)))))

-- the whole state, with the journal as numbers
unfoldable pub shape : List ℕ → PlayerView → Bool
shape ns p =
    count_fits (length p.windows)
    && (limit_fits p.limit
    && (spacing_fits p.spacing
    && (in_shape ns && (leb p.current (count_of ns) && all (window_shape (count_of ns) p.current) p.windows))))
