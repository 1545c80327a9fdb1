-- Parts that come to a draft one after another.
use Rattle.std.proofs.Common.{◌≡◌, ℕ, ◌+◌, List, [], ◌∷◌, ◌++◌, length, take, map, Some, inl, inr, sym, ap, ◌∙◌, subst, arith, append_assoc}
use Rattle.std.specs.Prelude.{slice_get, Result, Ok, Err, IfOk, OnOk}
use Rattle.std.proofs.lemmas.List.{map-append}
use Rattle.spanner_model.specs.Captures.{VarName}
use Rattle.spanner_model.specs.Tree.{Tree, cat_all}
use Rattle.spanner_model.proofs.TreeLaws.{take_at_more}
use Rattle.place_automaton.specs.declared.placing.Draft.{Draft}
use Rattle.place_automaton.specs.Drafts.{places_of, AreNamed, HasPlaced}
use Rattle.place_automaton.specs.Sides.{Sides, sides_of, nothing_sides, JoinAsSums, RowJoins, row_sides, row_ways}
use Rattle.place_automaton.specs.Places.{Places, Placed, nothing_placed}
use Rattle.spanner_model.specs.Sequential.{IsSequential}
use Rattle.place_automaton.specs.Repeats.{HasOrderedRepeats}
use Rattle.place_automaton.specs.Words.{opening_of, closing_of}
use Rattle.place_automaton.proofs.FineLaws.{HasClasses, VarBits, vars_apart, fine_places, fine_joins}
use Rattle.place_automaton.proofs.Rows.{in_turn, total, follows, row_places, row_is, row_count, row_follow, in_turn_more, total_more, follows_more, parts_row, copies, copies_more}

-- these parts have come, and the fragments are their ends
pub record IsRow (Ps : List Places) (old new : Draft) (xs : List Sides) : Type 0 where
  pub fragments : xs ≡ map sides_of Ps
  pub next : new.next ≡ old.next + total Ps
  pub ways : new.ways.items ≡ old.ways.items ++ follows Ps

pub row_more : (Ps : List Places) (P : Places) (a b c : Draft) (xs ys : List Sides) (e : Sides) →
    IsRow Ps a b xs → HasPlaced P b c e → ys ≡ xs ++ e ∷ [] → IsRow (Ps ++ P ∷ []) a c ys
row_more Ps P a b c xs ys e r h at = record {
  fragments = at ∙ (ap (λ zs. zs ++ e ∷ []) r.fragments ∙ (ap (λ x. map sides_of Ps ++ x ∷ []) h.sides ∙ sym (map-append sides_of Ps (P ∷ []))));
  next = omega (arith, h.next, r.next, total_more Ps P);
  ways = h.ways ∙ (ap (λ ws. ws ++ P.follow) r.ways ∙ (append_assoc a.ways.items (follows Ps) P.follow ∙ ap (λ ws. a.ways.items ++ ws) (sym (follows_more Ps P))));
}

-- they are joined
pub row_done : (r : ℕ) (Ps : List Places) (W : Places) (a b c : Draft) (xs : List Sides) (p : Sides) →
    W ≡ row_places r Ps (nothing_placed 0) → IsRow Ps a b xs → p ≡ row_sides r xs nothing_sides → c.next ≡ b.next →
    c.ways.items ≡ b.ways.items ++ row_ways r xs nothing_sides → HasPlaced W a c p
row_done r Ps W a b c xs p is row ends next ways =
    let N = nothing_placed 0 in
    let ways' = ways ∙ (ap (λ ws. ws ++ row_ways r xs nothing_sides) row.ways ∙ (ap (λ zs. (a.ways.items ++ follows Ps) ++ row_ways r zs nothing_sides) row.fragments
    ∙ (append_assoc a.ways.items (follows Ps) (row_ways r (map sides_of Ps) nothing_sides) ∙ ap (λ ws. a.ways.items ++ ws) (sym (row_follow r Ps N))))) in
    rw is (record {
      sides = ends ∙ (ap (λ zs. row_sides r zs nothing_sides) row.fragments ∙ sym (row_is r Ps N));
      next = omega (arith, next, row.next, row_count r Ps N);
      ways = ways';
    })

module _ (names : List VarName) where
  abbrev pub placers : List Tree → List Placed
  placers ts = map (places_of names) ts

  pub parts_next : (ts : List Tree) (i k : ℕ) (t : Tree) (a b c : Draft) (xs ys : List Sides) (e : Sides) → slice_get ts i ≡ Some t → a.next ≡ k →
      IsRow (in_turn (placers (take i ts)) k) a b xs → HasPlaced (places_of names t b.next) b c e → ys ≡ xs ++ e ∷ [] →
      IsRow (in_turn (placers (take (i + 1) ts)) k) a c ys
  parts_next ts i k t a b c xs ys e at from row h is =
      let Ps = in_turn (placers (take i ts)) k in
      let here : b.next ≡ k + total Ps = omega (arith, row.next, from) in
      let all : in_turn (placers (take (i + 1) ts)) k ≡ Ps ++ places_of names t b.next ∷ [] =
      ap (λ us. in_turn (placers us) k) (take_at_more ts i t at) ∙ (ap (λ Fs. in_turn Fs k) (map-append (places_of names) (take i ts) (t ∷ []))
      ∙ (in_turn_more (placers (take i ts)) (places_of names t) k ∙ ap (λ n. Ps ++ places_of names t n ∷ []) (sym here))) in
      rw all (row_more Ps (places_of names t b.next) a b c xs ys e row h is)

  pub parts_joins : (ts : List Tree) → IsSequential (cat_all ts) → HasOrderedRepeats (cat_all ts) → HasClasses (cat_all ts) → AreNamed names (cat_all ts) → (k : ℕ) →
      RowJoins (length ts) (map sides_of (in_turn (placers ts) k)) nothing_sides
  parts_joins [] ok ord cl vars k = tt
  parts_joins (t ∷ ts) ok ord cl vars k =
      let P = places_of names t k in
      let k' = k + P.count in
      let Q = places_of names (cat_all ts) k' in
      let nt : AreNamed names t = λ x h. vars x (inl h) in
      let ns : AreNamed names (cat_all ts) = λ x h. vars x (inr h) in
      let rest : sides_of Q ≡ row_sides (length ts) (map sides_of (in_turn (placers ts) k')) nothing_sides =
      ap sides_of (parts_row (opening_of names) (closing_of names) ts k') ∙ row_is (length ts) (in_turn (placers ts) k') (nothing_placed 0) in (
        subst (JoinAsSums (sides_of P)) rest
            (fine_joins (VarBits names t) (VarBits names (cat_all ts)) (vars_apart names t (cat_all ts) nt ns ok.2) P Q
            (fine_places names t ok.0 ord.0 cl.0 nt k) (fine_places names (cat_all ts) ok.1 ord.1 cl.1 ns k')),
        parts_joins ts ok.1 ord.1 cl.1 ns k',
      )

-- a copy more
pub copies_next : (F : Placed) (i k : ℕ) (a b c : Draft) (xs ys : List Sides) (e : Sides) → a.next ≡ k →
    IsRow (copies F i k) a b xs → HasPlaced (F b.next) b c e → ys ≡ xs ++ e ∷ [] → IsRow (copies F (i + 1) k) a c ys
copies_next F i k a b c xs ys e from row h is =
    let Ps = copies F i k in
    let here : b.next ≡ k + total Ps = omega (arith, row.next, from) in
    let all : copies F (i + 1) k ≡ Ps ++ F b.next ∷ [] = copies_more F i k ∙ ap (λ n. Ps ++ F n ∷ []) (sym here) in
    rw all (row_more Ps (F b.next) a b c xs ys e row h is)

-- what an answer tells in one clause and in another
pub ok_both : {A E : Type 0} (r : Result A E) (P R : A → Type 0) (Q : Type 0) → ((a : A) → P a → Q → R a) → IfOk r P → OnOk r Q → IfOk r R
ok_both (Ok a) P R Q f p q = f a p q
ok_both (Err e) P R Q f p q = tt
