-- A word and a block that follows it are told from the whole.
use Rattle.std.proofs.Common.{◌≡◌, ℕ, ◌<◌, Bool, true, false, List, [], ◌∷◌, ◌++◌, map, inl, inr, refl, sym, ap, subst, arith, if◌then◌else◌, nat_eq, eqb-true}
use Rattle.span_core.specs.Lists.{Has, AreDistinct}
use Rattle.node_arena.specs.Words.{Word}
use Rattle.output_graph.specs.Forward.{mark_block}
use Rattle.span_core.proofs.HasLaws.{Has-map_cases}

abbrev tail_of : Word → Word
tail_of [] = []
tail_of (x ∷ w) = w

abbrev head_of : ℕ × ℕ → Word → ℕ × ℕ
head_of d [] = d
head_of d (x ∷ w) = x

abbrev block_by : Bool → ℕ → ℕ → Word
block_by b at m = if b then [] else (at, m) ∷ []

blocks_by : (at m n : ℕ) (a b : Bool) → nat_eq m 0 ≡ a → nat_eq n 0 ≡ b →
    block_by a at m ≡ block_by b at n → m ≡ n
blocks_by at m n true true ea eb e = let x = eqb-true m 0 ea in let y = eqb-true n 0 eb in omega arith
blocks_by at m n true false ea eb e = cc
blocks_by at m n false true ea eb e = cc
blocks_by at m n false false ea eb e = ap (λ w. (head_of (0, 0) w).1) e

blocks_same : (at m n : ℕ) → mark_block at m ≡ mark_block at n → m ≡ n
blocks_same at m n e = blocks_by at m n (nat_eq m 0) (nat_eq n 0) refl refl e

-- a block of the position does not begin a word below it
block_not : (at m : ℕ) (b : Bool) (y : ℕ × ℕ) (v : Word) → y.0 < at → block_by b at m ≡ y ∷ v → ⊥
block_not at m true y v lt e = cc
block_not at m false y v lt e = let p : at ≡ y.0 = ap (λ w. (head_of (0, 0) w).0) e in omega arith

pub decode : (at m n : ℕ) (u v : Word) → ((x : ℕ × ℕ) → Has u x → x.0 < at) → ((x : ℕ × ℕ) → Has v x → x.0 < at) →
    u ++ mark_block at m ≡ v ++ mark_block at n → (u ≡ v) × (m ≡ n)
decode at m n [] [] hu hv e = (refl, blocks_same at m n e)
decode at m n [] (y ∷ v) hu hv e = absurd (block_not at m (nat_eq m 0) y (v ++ mark_block at n) (hv y (inl refl)) e)
decode at m n (x ∷ u) [] hu hv e = absurd (block_not at n (nat_eq n 0) x (u ++ mark_block at m) (hu x (inl refl)) (sym e))
decode at m n (x ∷ u) (y ∷ v) hu hv e =
    let r = decode at m n u v (λ z h. hu z (inr h)) (λ z h. hv z (inr h)) (ap tail_of e) in
    let p : x ≡ y = ap (head_of (0, 0)) e in
    let q : u ≡ v = r.0 in
    (cc, r.1)

pub distinct_map : (at m : ℕ) (ws : List Word) → ((u : Word) (x : ℕ × ℕ) → Has ws u → Has u x → x.0 < at) → AreDistinct ws → AreDistinct (map (λ w. w ++ mark_block at m) ws)
distinct_map at m [] below h = tt
distinct_map at m (w ∷ ws) below h = (
  λ there.
      let r = Has-map_cases (λ (w : Word). w ++ mark_block at m) ws (w ++ mark_block at m) there in
      let d = decode at m m r.0 w (λ x hx. below r.0 x (inr r.1) hx) (λ x hx. below w x (inl refl) hx) r.2 in
      h.0 (subst (λ x. Has ws x) d.0 r.1),
  distinct_map at m ws (λ u x hu hx. below u x (inr hu) hx) h.1,
)
