-- Whether two tests, and two lists, are the same.
use Rattle.std.specs.Prelude.{List, [], ◌∷◌, Bool, true, false, not, ◌&&◌}

abbrev pub same_bool : Bool → Bool → Bool
same_bool true b = b
same_bool false b = not b

-- item by item, by a test of two items
unfoldable pub same_list : {A : Type 0} → (A → A → Bool) → List A → List A → Bool
same_list f [] [] = true
same_list f [] (b ∷ ys) = false
same_list f (a ∷ xs) [] = false
same_list f (a ∷ xs) (b ∷ ys) = f a b && same_list f xs ys
