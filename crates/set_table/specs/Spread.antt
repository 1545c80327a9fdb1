-- Numbers in blocks of sixteen.
use Rattle.std.specs.Prelude.{◌≡◌, ℕ, ◌*◌, ◌<◌, List, [], ◌∷◌, ◌++◌, length, take, drop, slice_index}

-- the numbers of a block
abbrev pub block : List ℕ → ℕ → List ℕ
block numbers k = take 16 (drop (16 * k) numbers)

-- those of the runs' blocks, one after another
abbrev pub spread : List ℕ → List ℕ → List ℕ
spread [] numbers = []
spread (k ∷ runs) numbers = block numbers k ++ spread runs numbers

-- block 0 is of zeros, and no two runs share another block
pub record IsSpread (runs numbers : List ℕ) : Type 0 where
  pub blocks : ℕ
  pub whole : length numbers ≡ 16 * blocks
  pub some : 0 < blocks
  pub zeros : (j : ℕ) → j < 16 → slice_index numbers j ≡ 0
  pub within : (i : ℕ) → slice_index runs i < blocks
  pub own : (i j : ℕ) → slice_index runs i ≡ slice_index runs j → 0 < slice_index runs i → i ≡ j
