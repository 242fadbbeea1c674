-- A text with a slash, cut at its last one.
use Rattle.std.proofs.Common.{◌≡◌, ℕ, ◌+◌, ◌<◌, ◌≤◌, List, [], ◌∷◌, ◌++◌, length, get_or, take, drop, sym, refl, ap, ◌∙◌, subst, arith}
use Rattle.std.specs.Str.Iter.{LacksByte}
use Rattle.std.proofs.lemmas.List.{take-append-drop, drop_more, get_or-drop, get_or_at, length-append, length-drop}

-- the byte at i, and what stands before and behind it
pub cut_at : (text : List ℕ) (i : ℕ) → i < length text → get_or text i 0 ≡ 47 → text ≡ take i text ++ (47 ∷ drop (i + 1) text)
cut_at text i h e = sym (take-append-drop i text) ∙ ap (λ l. take i text ++ l) (drop_more text i 0 h ∙ ap (λ b. b ∷ drop (i + 1) text) e)

-- no slash behind i
pub none_behind : (text : List ℕ) (i : ℕ) → ((k : ℕ) → i ≤ k → k < length text → get_or text k 0 ≡ 47 → ⊥) → LacksByte 47 (drop i text)
none_behind text i f k h e = f (i + k) (omega arith) (omega (arith, length-drop i text)) (sym (get_or-drop i text k 0) ∙ e)

-- where a slash stands, it is not lacking
pub not_lacking : (a b : List ℕ) → LacksByte 47 (a ++ (47 ∷ b)) → ⊥
not_lacking a b none = none (length a) (omega (arith, length-append a (47 ∷ b))) (get_or_at a 47 b 0 (length a) refl)

-- a text has one last slash
pub cut_one : (a b c d : List ℕ) → a ++ (47 ∷ b) ≡ c ++ (47 ∷ d) → LacksByte 47 b → LacksByte 47 d → (a ≡ c) × (b ≡ d)
cut_one [] b [] d e nb nd = (refl, cc)
cut_one [] b (y ∷ c) d e nb nd = absurd (not_lacking c d (subst (LacksByte 47) (ap (drop 1) e) nb))
cut_one (x ∷ a) b [] d e nb nd = absurd (not_lacking a b (subst (LacksByte 47) (sym (ap (drop 1) e)) nd))
cut_one (x ∷ a) b (y ∷ c) d e nb nd = let r = cut_one a b c d (ap (drop 1) e) nb nd in (cc, r.1)
