-- The code's places are those of the definitions.
use Rattle.std.proofs.Common.{◌≡◌, ℕ, [], ◌∷◌, ap, ◌∙◌}
use Rattle.prefix.specs.Form.{Block}
use Rattle.prefix.specs.Groups.{whole}
use Rattle.prefix.specs.Places.{place}
use Rattle.worked.proofs.Reasons.{worked}
use Rattle.worked.proofs.examples.Goals as goal

-- equal blocks have equal places
at_place : (r w d : ℕ) (x y a b : Block) → r ≡ place w x d y → x ≡ a → y ≡ b → r ≡ place w a d b
at_place r w d x y a b e f h = e ∙ ap (λ t. place w t d y) f ∙ ap (λ t. place w a d t) h

pub returns : goal.returns
returns c =
    record {
      facts = worked;
      four = at_place c.place.result 32 4 _ _ (record { first = 0xcb007100; length = 24 }) (record { first = 0xcb007140; length = 26 }) c.place.ensures c.enclosing-root4.ensures c.enclosing-block4.ensures;
      six = at_place c.place-2.result 128 12 _ _
          (record { first = whole (0x2001 ∷ (0xdb8 ∷ (0 ∷ (0 ∷ (0 ∷ (0 ∷ (0 ∷ (0 ∷ [])))))))); length = 32 })
          (record { first = whole (0x2001 ∷ (0xdb8 ∷ (0xab0 ∷ (0 ∷ (0 ∷ (0 ∷ (0 ∷ (0 ∷ [])))))))); length = 44 })
          c.place-2.ensures c.enclosing-root6.ensures c.enclosing-block6.ensures;
    }
