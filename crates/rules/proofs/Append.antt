-- An append: a state in shape stays in shape.
use Rattle.std.specs.Prelude.{ℕ, ◌+◌, ◌%◌, ◌<◌, ◌≡◌, List, [], ◌∷◌, ◌++◌, true, length, eqb}
use Rattle.std.proofs.Common.{ap, ◌∙◌, arith, eqb-true, eq-eqb, le-leb, length-append}
use Rattle.journal.specs.declared.Entry.{Entry}
use Rattle.lists.specs.Cases.{and_left, and_intro}
use Rattle.journal.specs.Entry.{count_of, numbers_of}
use Rattle.journal.specs.EntryLaws.{numbers_of-length}
use Rattle.rules.specs.View.{PlayerView}
use Rattle.rules.specs.Shape.{shape}
use Rattle.rules.proofs.Shaped.{Shaped, shaped, shape_of}
use Rattle.rules.proofs.Parts.{wider-shaped}

pub append-shaped : (ns : List ℕ) (e : Entry) (p : PlayerView) → shape ns p ≡ true → count_of ns < 65535 →
    shape (ns ++ numbers_of (e ∷ [])) p ≡ true
append-shaped ns e p s room =
    let f : Shaped ns p = shaped ns p s in
    let longer : List ℕ = ns ++ numbers_of (e ∷ []) in
    let a : length longer ≡ length ns + 4 = length-append ns (numbers_of (e ∷ [])) ∙ ap (λ n. length ns + n) (numbers_of-length (e ∷ [])) in
    let m : length ns % 4 ≡ 0 = eqb-true _ _ (and_left (eqb (length ns % 4) 0) _ f.journal) in
    let z : length longer % 4 ≡ 0 = omega arith in
    let c : count_of longer ≡ count_of ns + 1 = omega arith in
    shape_of longer p
    (record {
      some = f.some;
      most = f.most;
      limit_some = f.limit_some;
      limit_most = f.limit_most;
      spacing = f.spacing;
      journal = and_intro (eq-eqb _ _ z) (le-leb (count_of longer) 65535 (omega arith));
      current_in = omega (arith, f.current_in);
      windows = λ w l. wider-shaped (omega arith) (omega arith) (f.windows w l);
    })
