-- One call more at the end of a run.
use Rattle.std.proofs.Common.{◌≡◌, List, [], ◌∷◌, ◌++◌, refl, ap, subst}
use Rattle.space.specs.Meaning.{Meaning}
use Rattle.spaces.specs.declared.call.Call.{Call}
use Rattle.spaces.specs.declared.call.Both.{Both}
use Rattle.spaces.specs.Calls.{Performed, Ran, Alike}

pub ran_more : (cs : List Call) (m k : Meaning) (bs : List Both) (m' k' : Meaning) → Ran cs m k bs m' k'
    → (c : Call) (b : Both) (m'' k'' : Meaning) → Performed c m' b.one m'' → Performed c k' b.other k''
    → Ran (cs ++ (c ∷ [])) m k (bs ++ (b ∷ [])) m'' k''
ran_more [] m k bs m' k' r c b m'' k'' p q = (
  b,
  [],
  m'',
  k'',
  ap (λ x. x ++ (b ∷ [])) r.0,
  subst (λ x. Performed c x b.one m'') r.1 p,
  subst (λ x. Performed c x b.other k'') r.2 q,
  (refl, refl, refl),
)
ran_more (x ∷ cs) m k bs m' k' r c b m'' k'' p q =
    (r.0, r.1 ++ (b ∷ []), r.2, r.3, ap (λ z. z ++ (b ∷ [])) r.4, r.5, r.6, ran_more cs r.2 r.3 r.1 m' k' r.7 c b m'' k'' p q)

pub alike_more : (bs : List Both) (b : Both) → Alike bs → b.one ≡ b.other → Alike (bs ++ (b ∷ []))
alike_more [] b a e = (e, tt)
alike_more (x ∷ bs) b a e = (a.0, alike_more bs b a.1 e)
