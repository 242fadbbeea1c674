-- Texts in a draft, which holds no more than its longest.
use Rattle.std.proofs.Common.{◌≡◌, ℕ, zero, suc, ◌≤◌, List, [], ◌∷◌, ◌++◌, length, take, sym, refl, ap, ◌∙◌, append-nil, append_assoc}
use Rattle.std.proofs.lemmas.List.{take_all}

-- a cut before more is written loses nothing that a cut after it keeps
pub take_append_take : {X : Type 0} (k : ℕ) (a b : List X) → take k (take k a ++ b) ≡ take k (a ++ b)
take_append_take zero a b = refl
take_append_take (suc k) [] b = refl
take_append_take (suc k) (x ∷ a) b = ap (λ l. x ∷ l) (take_append_take k a b)

-- nothing is written behind a text that fits
pub nothing : {X : Type 0} (k : ℕ) (a : List X) → length a ≤ k → a ≡ take k (a ++ [])
nothing k a fits = sym (ap (take k) (append-nil a) ∙ take_all k a fits)

-- one text after another: b is a with x written, and d is b with y
pub then : {X : Type 0} {b d : List X} (k : ℕ) (a x y : List X) → b ≡ take k (a ++ x) → d ≡ take k (b ++ y) → d ≡ take k (a ++ (x ++ y))
then k a x y p q = q ∙ ap (λ l. take k (l ++ y)) p ∙ take_append_take k (a ++ x) y ∙ ap (take k) (append_assoc a x y)
