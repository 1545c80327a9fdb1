-- What blocks say of the spans of two rows.
use Rattle.std.proofs.Common.{◌≡◌, ℕ, ◌+◌, ◌*◌, ◌^◌, ◌<◌, ◌≤◌, ◌⊎◌, Bool, true, false, List, [], ◌∷◌, length, map, Option, Some, None, inl, inr, refl, sym, ap, subst, arith, ◌∙◌}
use Rattle.std.specs.Prelude.{if◌then◌else◌, IsTrue, ◌&&◌, nat_eq, ◌==◌}
use Rattle.std.specs.Int.{from_bool}
use Rattle.std.specs.Option.{ForSome}
use Rattle.std.proofs.lemmas.Bool.{cases_lt, eq-eqb, ne_eqb, eqb-true}
use Rattle.std.proofs.lemmas.List.{length-map}
use Rattle.span_core.specs.declared.span.Span.{Span}
use Rattle.span_core.specs.Block.{block}
use Rattle.span_core.specs.Digits.{digit}
use Rattle.span_core.specs.OrderLaws.{digits_tell}
use Rattle.spanner_model.specs.Captures.{VarName, Mapping, row_of}
use Rattle.span_core.specs.Lists.{Has}
use Rattle.span_core.specs.NameSets.{has_name}
use Rattle.spanner_model.proofs.NameLaws.{Has-list_any, list_any-Has}
use Rattle.marked_automaton.specs.Marks.{bits_of}
use Rattle.marked_automaton.proofs.Erasing.{digits, block_digits, bits_law}
use Rattle.algebra.specs.JoinedMarks.{agree_on, joined}
use Rattle.algebra.specs.Rows.{BlocksAgree, BlocksAreJoined, merged}
use Rattle.marked_automaton.proofs.Passing.{both_true, left_true, right_true}

module _ (names1 names2 : List VarName) (m1 m2 : Mapping) where
  -- the blocks of the two rows
  abbrev First : ℕ → ℕ
  First p = block (row_of names1 m1) p

  abbrev Second : ℕ → ℕ
  Second p = block (row_of names2 m2) p

  first_bits : (x : VarName) (p : ℕ) → Has names1 x → bits_of names1 (First p) x ≡ digit (m1 x) p
  first_bits x p h = ap (λ n. bits_of names1 n x) (block_digits (row_of names1 m1) p) ∙ bits_law names1 x m1 p h

  second_bits : (x : VarName) (p : ℕ) → Has names2 x → bits_of names2 (Second p) x ≡ digit (m2 x) p
  second_bits x p h = ap (λ n. bits_of names2 n x) (block_digits (row_of names2 m2) p) ∙ bits_law names2 x m2 p h

  -- ---- joined blocks

  joined_bits : (x : VarName) (p : ℕ) → Has names1 x ⊎ Has names2 x →
      (if has_name names1 x then bits_of names1 (First p) x else bits_of names2 (Second p) x) ≡ digit (merged names1 m1 m2 x) p
  joined_bits x p h = by (has_name names1 x) refl
    where
      by : (b : Bool) → has_name names1 x ≡ b → (if b then bits_of names1 (First p) x else bits_of names2 (Second p) x) ≡ digit (if b then m1 x else m2 x) p
      by true at = first_bits x p (Has-list_any names1 x at)
      by false at =
          elim h [
            | inl f ↦ let e : true ≡ false = sym (list_any-Has names1 x f) ∙ at in absurd (cc)
            | inr s ↦ second_bits x p s
          ]

  joined_digits : (names : List VarName) (p : ℕ) → ((x : VarName) → Has names x → Has names1 x ⊎ Has names2 x) →
      joined names1 names2 names (First p) (Second p) ≡ digits (row_of names (merged names1 m1 m2)) p
  joined_digits [] p sub = refl
  joined_digits (x ∷ names) p sub =
      let len : length (map (merged names1 m1 m2) names) ≡ length names = length-map names (merged names1 m1 m2) in
      ap (λ v. v * 2 ^ (2 * length names) + joined names1 names2 names (First p) (Second p)) (joined_bits x p (sub x (inl refl)))
      ∙ (ap (λ v. digit (merged names1 m1 m2 x) p * 2 ^ (2 * length names) + v) (joined_digits names p (λ y h. sub y (inr h)))
      ∙ ap (λ n. digit (merged names1 m1 m2 x) p * 2 ^ (2 * n) + digits (row_of names (merged names1 m1 m2)) p) (sym len))

  -- ---- blocks that agree

  abbrev Agrees : List VarName → ℕ → Bool
  Agrees names p = agree_on names1 names2 names (First p) (Second p)

  -- of one name
  agree_at : (x : VarName) (p : ℕ) → Has names1 x → Has names2 x →
      (if has_name names1 x && has_name names2 x then nat_eq (bits_of names1 (First p) x) (bits_of names2 (Second p) x) else true) ≡ true →
      digit (m1 x) p ≡ digit (m2 x) p
  agree_at x p h g e =
      let test : (has_name names1 x && has_name names2 x) ≡ true = both_true (has_name names1 x) (has_name names2 x) (list_any-Has names1 x h) (list_any-Has names2 x g) in
      let same : nat_eq (bits_of names1 (First p) x) (bits_of names2 (Second p) x) ≡ true =
      sym (ap (λ b. if b then nat_eq (bits_of names1 (First p) x) (bits_of names2 (Second p) x) else true) test) ∙ e in
      sym (first_bits x p h) ∙ (eqb-true (bits_of names1 (First p) x) (bits_of names2 (Second p) x) same ∙ second_bits x p g)

  agreed : (names : List VarName) (p : ℕ) → Agrees names p ≡ true → (x : VarName) → Has names x → Has names1 x → Has names2 x → digit (m1 x) p ≡ digit (m2 x) p
  agreed [] p e x i h g = absurd i
  agreed (y ∷ names) p e x (inl at) h g =
      let this = left_true (if has_name names1 y && has_name names2 y then nat_eq (bits_of names1 (First p) y) (bits_of names2 (Second p) y) else true) (Agrees names p) e in
      rw (← at) (agree_at y p (subst (Has names1) (sym at) h) (subst (Has names2) (sym at) g) this)
  agreed (y ∷ names) p e x (inr i) h g =
      agreed names p (right_true (if has_name names1 y && has_name names2 y then nat_eq (bits_of names1 (First p) y) (bits_of names2 (Second p) y) else true) (Agrees names p) e) x i h g

  agreeing : (names : List VarName) (p : ℕ) → ((x : VarName) → Has names1 x → Has names2 x → m1 x ≡ m2 x) → Agrees names p ≡ true
  agreeing [] p same = refl
  agreeing (x ∷ names) p same =
      both_true (if has_name names1 x && has_name names2 x then nat_eq (bits_of names1 (First p) x) (bits_of names2 (Second p) x) else true) (Agrees names p)
      (by (has_name names1 x) (has_name names2 x) refl refl) (agreeing names p same)
    where
      by : (b c : Bool) → has_name names1 x ≡ b → has_name names2 x ≡ c →
          (if b && c then nat_eq (bits_of names1 (First p) x) (bits_of names2 (Second p) x) else true) ≡ true
      by true true at bt =
          let h = Has-list_any names1 x at in
          let g = Has-list_any names2 x bt in
          eq-eqb (bits_of names1 (First p) x) (bits_of names2 (Second p) x) (first_bits x p h ∙ (ap (λ s. digit s p) (same x h g) ∙ sym (second_bits x p g)))
      by true false at bt = refl
      by false true at bt = refl
      by false false at bt = refl

-- a span that ends by n has no markers after n
past_digit : (n i : ℕ) (o : Option Span) → ForSome o (λ (s : Span). s.end ≤ n) → n < i → digit o i ≡ 0
past_digit n i None h l = refl
past_digit n i (Some s) h l =
    let ends : s.end ≤ n = h s refl in
    let start : (s.start == i) ≡ false = ne_eqb s.start i (λ e. omega (arith, e, s.ordered, ends, l)) in
    let end : (s.end == i) ≡ false = ne_eqb s.end i (λ e. omega (arith, e, ends, l)) in
    ap (λ b. 2 * from_bool b + from_bool (s.end == i)) start ∙ ap (λ b. 2 * from_bool false + from_bool b) end

pub blocks_agree : BlocksAgree
blocks_agree names1 names2 names distinct1 distinct2 all m1 m2 n within1 within2 =
    (λ h x f s. digits_tell (m1 x) (m2 x) (λ i. at_all h x f s i), λ same p l. agreeing names1 names2 m1 m2 names p same)
  where
    at_all : ((p : ℕ) → p ≤ n → IsTrue (Agrees names1 names2 m1 m2 names p)) → (x : VarName) → Has names1 x → Has names2 x → (i : ℕ) → digit (m1 x) i ≡ digit (m2 x) i
    at_all h x f s i =
        elim (cases_lt n i) [
          | inl past ↦ past_digit n i (m1 x) (within1 x f) past ∙ sym (past_digit n i (m2 x) (within2 x s) past)
          | inr le ↦ agreed names1 names2 m1 m2 names i (h i le) x ((all x).1 (inl f)) f s
        ]

pub blocks_are_joined : BlocksAreJoined
blocks_are_joined names1 names2 names distinct1 distinct2 all m1 m2 p =
    joined_digits names1 names2 m1 m2 names p (λ x h. (all x).0 h) ∙ sym (block_digits (row_of names (merged names1 m1 m2)) p)
