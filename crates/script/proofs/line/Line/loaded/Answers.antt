-- The second index is 0 where the batch is of one entry, and the entries go on in the order of the output.
use Prim.Native.Nat.{◌<◌}
use native.Mathlib.Omega.{arith}
use mathlib.Core.Path.{refl, ap, ◌∙◌}
use mathlib.Core.Bool.{true, false}
use mathlib.Core.List.{[], ◌∷◌, ◌++◌, append_assoc}
use lib.ListN.{length}
use borrow.Author.Tests.{eq-eqb, ne_eqb}
use Rattle.std.proofs.Common.{length-append}
use Rattle.queue.proofs.Laws.{items_in-length, pushed-items}
use Rattle.script.specs.Line.{no_sent, five_at, sent_as}
use Rattle.script.proofs.line.Line.loaded.Goals as goal

pub returns-then-ends : goal.returns-then-ends
returns-then-ends c =
    let one = eq-eqb _ 0 c.if-ends.true in
    let only = sent_as (five_at 0 c.args.out) c.args.term true in
    let added = rw (c.five_at.ensures, one) at c.append-entries.ensures in
    record {
      entries = rw one (added ∙ pushed-items no_sent c.args.self.entries only (omega arith));
      acks = refl;
    }

pub returns : goal.returns
returns c =
    let two = ne_eqb _ 0 c.if-ends.false in
    let before = c.args.self.entries in
    let between = c.append-entries.result in
    let one = sent_as (five_at 0 c.args.out) c.args.term false in
    let last = sent_as (five_at 5 c.args.out) c.args.term true in
    let first = (rw (c.five_at.ensures, two) at c.append-entries.ensures) ∙ pushed-items no_sent before one (omega arith) in
    let many = simp length-append at (ap length first) in
    let room : between.len < 18 = omega (arith, items_in-length no_sent between, items_in-length no_sent before, many) in
    let added = rw c.five_at-2.ensures at c.append.ensures in
    record {
      entries = rw two
          (added ∙ pushed-items no_sent between last room ∙ ap (λ es. es ++ (last ∷ [])) first ∙ append_assoc _ (one ∷ []) (last ∷ []));
      acks = refl;
    }
