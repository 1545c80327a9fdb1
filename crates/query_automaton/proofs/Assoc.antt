-- Joins of answers: putting together is associative.
use Rattle.std.proofs.Common.{◌≡◌, ◌⊎◌, ◌↔◌, Option, None, inl, inr, refl, sym, ◌∙◌}
use Rattle.spanner_model.specs.Captures.{VarName, Mapping}
use Rattle.spanner_model.specs.Answer.{IsRestriction}
use Rattle.spanner_model.proofs.Deciding.{Told, told_either}
use Rattle.query_automaton.proofs.Words.{Together}

abbrev pick : {P : Type 0} {X : Type 0} → Told P → Option X → Option X
pick (inl p) o = o
pick (inr n) o = None

-- a mapping on the variables of R alone
abbrev restricted : (R : VarName → Type 0) → ((x : VarName) → Told (R x)) → Mapping → Mapping
restricted R told m x = pick (told x) (m x)

restricted_is : (R : VarName → Type 0) (told : (x : VarName) → Told (R x)) (m : Mapping) → IsRestriction R m (restricted R told m)
restricted_is R told m x = (λ r. there r (told x), λ out. apart out (told x))
  where
    there : R x → (t : Told (R x)) → pick t (m x) ≡ m x
    there r (inl p) = refl
    there r (inr n) = absurd (n r)

    apart : (R x → ⊥) → (t : Told (R x)) → pick t (m x) ≡ None
    apart out (inl p) = absurd (out p)
    apart out (inr n) = refl

-- a part of a part
part_of_part : (P R : VarName → Type 0) (m n k : Mapping) → ((x : VarName) → P x → R x) → IsRestriction R m n → IsRestriction P n k → IsRestriction P m k
part_of_part P R m n k sub h g x = (λ p. (g x).0 p ∙ (h x).0 (sub x p), (g x).1)

-- and back: a part of a mapping is that of a larger part of it
part_in_part : (P R : VarName → Type 0) (m n k : Mapping) → ((x : VarName) → P x → R x) → IsRestriction R m n → IsRestriction P m k → IsRestriction P n k
part_in_part P R m n k sub h g x = (λ p. (g x).0 p ∙ sym ((h x).0 (sub x p)), (g x).1)

module _ (P Q R : VarName → Type 0) (A B C : Mapping → Type 0)
    (told_p : (x : VarName) → Told (P x)) (told_q : (x : VarName) → Told (Q x)) (told_r : (x : VarName) → Told (R x)) where
  abbrev PQ : VarName → Type 0
  PQ x = P x ⊎ Q x

  abbrev QR : VarName → Type 0
  QR x = Q x ⊎ R x

  told_pq : (x : VarName) → Told (PQ x)
  told_pq x = told_either (told_p x) (told_q x)

  told_qr : (x : VarName) → Told (QR x)
  told_qr x = told_either (told_q x) (told_r x)

  to_right : (m : Mapping) → Together PQ (Together P A Q B) R C m → Together P A QR (Together Q B R C) m
  to_right m h =
      let n12 = h.0 in
      let n3 = h.1 in
      let t = h.3 in
      let n23 : Mapping = restricted QR told_qr m in
      let is23 : IsRestriction QR m n23 = restricted_is QR told_qr m in
      let is2 : IsRestriction Q m t.1 = part_of_part Q PQ m n12 t.1 (λ x q. inr q) h.2 t.4 in (
        t.0,
        n23,
        part_of_part P PQ m n12 t.0 (λ x p. inl p) h.2 t.2,
        t.3,
        is23,
        (
          t.1,
          n3,
          part_in_part Q QR m n23 t.1 (λ x q. inl q) is23 is2,
          t.5,
          part_in_part R QR m n23 n3 (λ x r. inr r) is23 h.4,
          h.5,
          λ x out. (is23 x).1 out,
        ),
        λ x out. h.6 x (λ e. out (elim e [ inl pq ↦ elim pq [ inl p ↦ inl p | inr q ↦ inr (inl q) ] | inr r ↦ inr (inr r) ])),
      )

  to_left : (m : Mapping) → Together P A QR (Together Q B R C) m → Together PQ (Together P A Q B) R C m
  to_left m h =
      let n1 = h.0 in
      let n23 = h.1 in
      let t = h.5 in
      let n12 : Mapping = restricted PQ told_pq m in
      let is12 : IsRestriction PQ m n12 = restricted_is PQ told_pq m in
      let is2 : IsRestriction Q m t.0 = part_of_part Q QR m n23 t.0 (λ x q. inl q) h.4 t.2 in (
        n12,
        t.1,
        is12,
        (
          n1,
          t.0,
          part_in_part P PQ m n12 n1 (λ x p. inl p) is12 h.2,
          h.3,
          part_in_part Q PQ m n12 t.0 (λ x q. inr q) is12 is2,
          t.3,
          λ x out. (is12 x).1 out,
        ),
        part_of_part R QR m n23 t.1 (λ x r. inr r) h.4 t.4,
        t.5,
        λ x out. h.6 x (λ e. out (elim e [ inl p ↦ inl (inl p) | inr qr ↦ elim qr [ inl q ↦ inl (inr q) | inr r ↦ inr r ] ])),
      )

  pub together_assoc : (m : Mapping) → Together PQ (Together P A Q B) R C m ↔ Together P A QR (Together Q B R C) m
  together_assoc m = (to_right m, to_left m)
