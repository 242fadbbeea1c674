-- The worked examples, as facts about the very definitions that the contracts cite.
use Rattle.std.specs.Prelude.{◌≡◌, ℕ, Bool, true, false, ◌||◌, List, [], ◌∷◌, codes, ◌==◌}
use Rattle.address.specs.Colons.{Address}
use Rattle.address.specs.Canonical.{text6}
use Rattle.prefix.specs.Groups.{whole}
use Rattle.prefix.specs.Places.{place}
use Rattle.space.specs.Meaning.{is_open, having, fresh}
use Rattle.limit.specs.Limits.{within_quota, held_back}
use Rattle.tree.specs.Tree as tree
use Rattle.bitmap.specs.Map as bitmap

-- the set of the places in a list
abbrev pub these : List ℕ → ℕ → Bool
these [] n = false
these (p ∷ ps) n = n == p || these ps n

pub record Worked : Type 0 where
  -- 203.0.113.64/26 under 203.0.113.0/24, with depth 4
  pub place_four : place 32 (record { first = 0xcb007100; length = 24 }) 4 (record { first = 0xcb007140; length = 26 }) ≡ 5
  -- 2001:db8:ab0::/44 under 2001:db8::/32, with depth 12
  pub place_six :
      place 128
      (record { first = whole (0x2001 ∷ (0xdb8 ∷ (0 ∷ (0 ∷ (0 ∷ (0 ∷ (0 ∷ (0 ∷ [])))))))); length = 32 })
      12
      (record { first = whole (0x2001 ∷ (0xdb8 ∷ (0xab0 ∷ (0 ∷ (0 ∷ (0 ∷ (0 ∷ (0 ∷ [])))))))); length = 44 })
      ≡ 4267
  -- two colons at the end stand for one group
  pub one_group : Address (codes "1:2:3:4:5:6:7::") (1 ∷ (2 ∷ (3 ∷ (4 ∷ (5 ∷ (6 ∷ (7 ∷ (0 ∷ []))))))))
  -- two colons between eight groups would stand for none
  pub no_group : (gs : List ℕ) → Address (codes "1:2:3:4::5:6:7:8") gs → ⊥
  -- the leftmost run of zero groups is written short, though a later one is longer
  pub leftmost : text6 (0x2001 ∷ (0 ∷ (0 ∷ (1 ∷ (0 ∷ (0 ∷ (0 ∷ (1 ∷ [])))))))) ≡ codes "2001::1:0:0:0:1"
  -- the bytes of a tree of depth 2 with place 5 out
  pub tree_bytes : tree.drawn 2 (these (5 ∷ [])) ≡ 0 ∷ (2 ∷ (2 ∷ (0 ∷ (0 ∷ (1 ∷ (0 ∷ (0 ∷ [])))))))
  -- the words of a bitmap of depth 4 with place 5 out, and with its two halves out
  pub one_place : bitmap.drawn 4 (these (5 ∷ [])) ≡ 240 ∷ (16 ∷ [])
  pub two_halves : bitmap.drawn 4 (these (10 ∷ (11 ∷ []))) ≡ 240 ∷ (80 ∷ [])
  -- a quota of 12 units at depth 4: four units are left behind 5 and 6, none behind 5, 6 and 7
  pub quota_left : is_open (within_quota (having (fresh 4) (these (5 ∷ (6 ∷ [])))) 12) 7 ≡ true
  pub quota_spent : is_open (within_quota (having (fresh 4) (these (5 ∷ (6 ∷ (7 ∷ []))))) 12) 17 ≡ false
  -- place 16 held back at depth 4: 4 has it inside, 17 is its buddy
  pub held_inside : is_open (held_back (fresh 4) 16) 4 ≡ false
  pub held_beside : is_open (held_back (fresh 4) 16) 17 ≡ true
