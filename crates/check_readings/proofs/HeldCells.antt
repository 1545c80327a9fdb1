-- Cells that are held while others are made and released.
use Rattle.std.proofs.Common.{◌≡◌, ℕ, ◌<◌, sym}
use Rattle.node_arena.specs.Cells.{Holds, hold, with_hold}
use Rattle.node_arena.proofs.Holds.{held_apart, held_now, held_still}

-- four cells that are held, made one after another
module _ (h0 h1 h2 h3 : Holds) (a b c d : ℕ) (first : 0 < hold h0 a) (e1 : h1 ≡ with_hold h0 b 1) (fresh1 : hold h0 b ≡ 0)
    (e2 : h2 ≡ with_hold h1 c 1) (fresh2 : hold h1 c ≡ 0) (e3 : h3 ≡ with_hold h2 d 1) (fresh3 : hold h2 d ≡ 0) where
  a1 : 0 < hold h1 a
  a1 = held_still h0 h1 b 1 a e1 (held_apart h0 b a fresh1 first) first

  b1 : 0 < hold h1 b
  b1 = held_now h0 h1 b e1

  a2 : 0 < hold h2 a
  a2 = held_still h1 h2 c 1 a e2 (held_apart h1 c a fresh2 a1) a1

  b2 : 0 < hold h2 b
  b2 = held_still h1 h2 c 1 b e2 (held_apart h1 c b fresh2 b1) b1

  c2 : 0 < hold h2 c
  c2 = held_now h1 h2 c e2

  pub a3 : 0 < hold h3 a
  a3 = held_still h2 h3 d 1 a e3 (held_apart h2 d a fresh3 a2) a2

  b3 : 0 < hold h3 b
  b3 = held_still h2 h3 d 1 b e3 (held_apart h2 d b fresh3 b2) b2

  c3 : 0 < hold h3 c
  c3 = held_still h2 h3 d 1 c e3 (held_apart h2 d c fresh3 c2) c2

  last3 : 0 < hold h3 d
  last3 = held_now h2 h3 d e3

  module _ (h4 : Holds) (n4 : ℕ) (e4 : h4 ≡ with_hold h3 a n4) where
    pub b4 : 0 < hold h4 b
    b4 = held_still h3 h4 a n4 b e4 (λ e. held_apart h0 b a fresh1 first (sym e)) b3

    module _ (h5 : Holds) (n5 : ℕ) (e5 : h5 ≡ with_hold h4 b n5) where
      c4 : 0 < hold h4 c
      c4 = held_still h3 h4 a n4 c e4 (λ e. held_apart h1 c a fresh2 a1 (sym e)) c3

      pub c5 : 0 < hold h5 c
      c5 = held_still h4 h5 b n5 c e5 (λ e. held_apart h1 c b fresh2 b1 (sym e)) c4

      pub last6 : (h6 : Holds) (n6 : ℕ) → h6 ≡ with_hold h5 c n6 → 0 < hold h6 d
      last6 h6 n6 e6 =
          let last4 = held_still h3 h4 a n4 d e4 (λ e. held_apart h2 d a fresh3 a2 (sym e)) last3 in
          let last5 = held_still h4 h5 b n5 d e5 (λ e. held_apart h2 d b fresh3 b2 (sym e)) last4 in
          held_still h5 h6 c n6 d e6 (λ e. held_apart h2 d c fresh3 c2 (sym e)) last5
