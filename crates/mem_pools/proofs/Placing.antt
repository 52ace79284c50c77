-- Where a block goes among others.
use Rattle.std.proofs.Common.{◌≡◌, ℕ, suc, ◌+◌, Bool, ltb, List, [], ◌∷◌, None, length, refl, ap, ◌∙◌, inl, inr, arith}
use Rattle.std.specs.List.{insert, position, position_or_len}
use Rattle.std.proofs.lemmas.Bool.Decides.{nat_tests}
use Rattle.std.proofs.lemmas.List.Sums.{prefix_len-le-length}
use Rattle.std.proofs.lemmas.Bool.{cases_lt, lt-ltb, le-ltb}
use Rattle.object_model.specs.declared.pools.Block.{Block}
use Rattle.object_model.specs.Pools.Variable.{insert_block}

insert_behind_first : (block first : Block) (rest : List Block) (place : ℕ) → insert (first ∷ rest) (1 + place) block ≡ first ∷ insert rest place block
insert_behind_first block first rest place = let e : 1 + place ≡ suc place = omega arith in rw e refl

-- the place behind all that begin at an offset or in front of it
pub inserted_at_place : (block : Block) (blocks : List Block) → insert blocks (position_or_len (λ other. ltb block.offset other.offset) blocks) block ≡ insert_block block blocks
inserted_at_place block [] = refl
inserted_at_place block (first ∷ rest) =
    elim (cases_lt block.offset first.offset) [
      | inl before ↦ rw (lt-ltb _ _ before) refl
      | inr behind ↦ rw (le-ltb _ _ behind) (insert_behind_first block first rest (position_or_len (λ other. ltb block.offset other.offset) rest) ∙ ap (λ xs. first ∷ xs) (inserted_at_place block rest))
    ]

pub place_behind_all : (p : Block → Bool) (blocks : List Block) → position p blocks ≡ None → length blocks ≡ position_or_len p blocks
place_behind_all p blocks none = grind (arith, nat_tests, prefix_len-le-length)

pub ruleset placing = (place_behind_all, prefix_len-le-length)
