-- Two hosts look the same exactly if the worlds that they show do.
use Rattle.std.specs.Prelude.{◌≡◌, refl, List, [], ◌∷◌, map, Bool, true, false, ◌&&◌, eqb}
use Rattle.std.proofs.Common.{sym, ap, ap₂, ◌∙◌}
use Rattle.std.proofs.Math.Bool.{and_assoc, and-true}
use Rattle.lists.specs.Same.{same_list}
use Rattle.lists.specs.SameLaws.{same_list-map}
use Rattle.record.specs.Same.{same_record}
use Rattle.rules.specs.View.{PlayerView}
use Rattle.delivery.specs.World.{Side, World, player_in}
use Rattle.delivery.specs.World as W
use Rattle.delivery.specs.Same.{same_window, same_entry, same_ack, same_side, same_world}
use Rattle.delivery.specs.Same as Delivery
use Rattle.calls.specs.Host.{WindowEnd, Host}
use Rattle.calls.specs.Statement.{same_sent, same_end, same_host}
use Rattle.calls.proofs.Shows.{in_numbers, end_of, Shows}

-- ------------------------------------------------------------------------
-- same_sent

same_sent-in_numbers : (a b : W.Sent) → same_sent (in_numbers a) (in_numbers b) ≡ Delivery.same_sent a b
unfolding same_sent Delivery.same_sent same_entry same_list
same_sent-in_numbers a b = simp (and_assoc, and-true)

-- ------------------------------------------------------------------------
-- A side is what the player holds for the window, and the window's end

same_side-end : (p q : Side) → same_side p q ≡ (same_window p.view q.view && same_end (end_of p) (end_of q))
unfolding same_side same_end
same_side-end p q =
    ap (λ l. same_window p.view q.view && (same_record p.record' q.record' && (l && same_list same_ack p.back q.back)))
    (sym (same_list-map same_sent Delivery.same_sent in_numbers same_sent-in_numbers p.line q.line))

-- four tests in another order
and-across : (a b x y : Bool) → ((a && b) && (x && y)) ≡ ((a && x) && (b && y))
and-across true true x y = refl
and-across true false true y = refl
and-across true false false y = refl
and-across false b x y = refl

same_sides-ends : (ps qs : List Side) → same_list same_side ps qs
    ≡ (same_list same_window (map (λ p. p.view) ps) (map (λ p. p.view) qs) && same_list same_end (map end_of ps) (map end_of qs))
unfolding same_list
same_sides-ends [] [] = refl
same_sides-ends [] (q ∷ qs) = refl
same_sides-ends (p ∷ ps) [] = refl
same_sides-ends (p ∷ ps) (q ∷ qs) =
    ap₂ ◌&&◌ (same_side-end p q) (same_sides-ends ps qs) ∙ and-across (same_window p.view q.view) (same_end (end_of p) (end_of q)) _ _

-- ------------------------------------------------------------------------
-- A host

-- the test of the player's view and of the windows' ends
same_player : PlayerView → PlayerView → List WindowEnd → List WindowEnd → Bool
same_player p q ds es =
    eqb p.limit q.limit
    && (eqb p.spacing q.spacing
    && (eqb p.current q.current && (same_list same_window p.windows q.windows && same_list same_end ds es)))

pub same_host-world : {h h' : Host} {wd wd' : World} → Shows h wd → Shows h' wd' → same_host h h' ≡ same_world wd wd'
unfolding same_host same_world same_player
same_host-world {h} {h'} {wd} {wd'} is is' =
    ap₂ (λ p q. same_player p q h.windows h'.windows) is.player is'.player
    ∙ ap₂ (λ ds es. same_player (player_in wd) (player_in wd') ds es) is.windows is'.windows
    ∙ ap (λ b. eqb wd.limit wd'.limit && (eqb wd.spacing wd'.spacing && (eqb wd.current wd'.current && b)))
    (sym (same_sides-ends wd.sides wd'.sides))
