-- model.rs: question 7 of document 01, and the steps that repeats add.
use Rattle.std.specs.Prelude.{Bool, true, ◌&&◌, ◌||◌, List, [], ◌∷◌, map, ℕ, ◌+◌, ◌-◌, ◌*◌, ltb, leb}
use Rattle.common.specs.Lists.{all, sum}
use Rattle.model.specs.declared.Block.{Block}

-- The step after a block's last.
abbrev pub end : Block → ℕ
end b = b.first + b.len

-- A block has steps and runs, and ends within the steps.
abbrev pub block_ok : ℕ → Block → Bool
block_ok steps b = ltb 0 b.len && ltb 0 b.count && leb (end b) steps

-- Two blocks that share no step: one ends before the other begins.
abbrev pub apart : Block → Block → Bool
apart a b = leb (end a) b.first || leb (end b) a.first

-- No two blocks overlap.
unfoldable pub all_apart : List Block → Bool
all_apart [] = true
all_apart (b ∷ bs) = all (apart b) bs && all_apart bs

-- "Blocks sound? 7", "Blocks may stand unsorted but not overlap."
unfoldable pub blocks_sound : ℕ → List Block → Bool
blocks_sound steps bs = all (block_ok steps) bs && all_apart bs

-- The steps that a block's repeats add.
abbrev pub extra : Block → ℕ
extra b = b.len * (b.count - 1)

-- The steps that the repeats of some blocks add.
unfoldable pub repeats : List Block → ℕ
repeats bs = sum (map extra bs)
