-- The shape of a window with its tests in the order in which the code makes them: each queue's length with its indices, the batches'
-- number with their indices, and the tests on the condition together.
use Prim.Native.Nat.{ℕ}
use mathlib.Core.Path.{◌≡◌, refl}
use mathlib.Core.Bool.{Bool, true, false, ◌&&◌, and-false, and_assoc}
use lib.Dec.{leb}
use lib.ListN.{length}
use Rattle.lists.specs.All.{all, queued_in, held_in}
use Rattle.rules.specs.View.{WindowView}
use Rattle.rules.specs.Shape.{condition_held, next_fits, end_fits, catch_up_fits, suspended_fits, window_shape}

regroup : (a b c p q s t u d e f g : Bool) →
    ((a && (b && c)) && ((p && q) && ((s && (t && (u && d))) && (e && (f && g)))))
    ≡ ((a && p) && ((b && q) && ((s && (t && (c && u))) && ((d && (e && f)) && g))))
regroup false b c p q s t u d e f g = refl
regroup true false c p q s t u d e f g = simp and-false
regroup true true false p q s t u d e f g = simp and-false
regroup true true true p q s t u d e f g = simp and_assoc

pub window_shape_regrouped : (l current : ℕ) (v : WindowView) → window_shape l current v
    ≡ ((leb (length v.normal_queue) 128 && all (queued_in l) v.normal_queue)
    && ((leb (length v.catch_queue) 128 && all (queued_in l) v.catch_queue)
    && ((leb v.acked l && (leb v.sent l && (leb (length v.batches) 8 && all (held_in l) v.batches)))
    && ((condition_held l v.condition && (next_fits v.condition && end_fits current v.condition))
    && (catch_up_fits v.condition v.catch_queue && suspended_fits v v.condition)))))
unfolding window_shape
window_shape_regrouped l current v =
    regroup
    (leb (length v.normal_queue) 128)
    (leb (length v.catch_queue) 128)
    (leb (length v.batches) 8)
    (all (queued_in l) v.normal_queue)
    (all (queued_in l) v.catch_queue)
    (leb v.acked l)
    (leb v.sent l)
    (all (held_in l) v.batches)
    (condition_held l v.condition)
    (next_fits v.condition)
    (end_fits current v.condition)
    (catch_up_fits v.condition v.catch_queue && suspended_fits v v.condition)
