-- What is an escape is read as one, and the other way round.
use Rattle.std.proofs.Common.{◌≡◌, ℕ, suc, Bool, true, false, List, [], ◌∷◌, ◌++◌, length, Option, Some, None, ap, refl, ◌∙◌, arith, ◌==◌, subst, if◌then◌else◌}
use Rattle.std.proofs.lemmas.Bool.Decides.{nat_tests}
use Rattle.formula_parser.specs.Sets.{digits, word_bytes, spaces}
use Rattle.formula_parser.specs.Escapes.{Elem, byte, kind, is_punctuation, hex_value, IsEscape, a_digit, a_word_byte, a_space, newline, tab, carriage_return, hex, itself}
use Rattle.formula_parser.specs.Tokens.{hex_byte, hex_at, escape_at}

-- what stands at the front is an escape
pub record Escaped (t : List ℕ) (x : Elem) (len : ℕ) : Type 0 where
  pub text : List ℕ
  pub rest : List ℕ
  pub splits : t ≡ text ++ rest
  pub is : IsEscape text x
  pub takes : len ≡ suc (length text)

pub escape_read : {e : List ℕ} {x : Elem} → IsEscape e x → (rest : List ℕ) → escape_at (e ++ rest) ≡ Some (x, suc (length e))
escape_read a_digit rest = refl
escape_read a_word_byte rest = refl
escape_read a_space rest = refl
escape_read newline rest = refl
escape_read tab rest = refl
escape_read carriage_return rest = refl
escape_read (hex {h = h} {l = l} {x = x} {y = y} a b) rest = ap (λ u. hex_byte u (hex_value l)) a ∙ ap (λ u. hex_byte (Some x) u) b
escape_read (itself {c = c} p) rest = grind (arith, nat_tests, p)

pub AreEscaped : List ℕ → Option (Elem × ℕ) → Type 0
AreEscaped t None = Unit {0}
AreEscaped t (Some x) = Escaped t x.0 x.1

if_either : (b : Bool) (x y : Option (Elem × ℕ)) (P : Option (Elem × ℕ) → Type 0) → (b ≡ true → P x) → (b ≡ false → P y) → P (if b then x else y)
if_either true x y P first second = first refl
if_either false x y P first second = second refl

hex_escaped : (h l : ℕ) (t : List ℕ) (x y : Option ℕ) → hex_value h ≡ x → hex_value l ≡ y → AreEscaped (120 ∷ h ∷ l ∷ t) (hex_byte x y)
unfolding AreEscaped
hex_escaped h l t (Some x) (Some y) a b = record { text = 120 ∷ h ∷ l ∷ []; rest = t; splits = refl; is = hex a b; takes = refl }
hex_escaped h l t (Some x) None a b = tt
hex_escaped h l t None y a b = tt

hexes : (t : List ℕ) → AreEscaped (120 ∷ t) (hex_at t)
unfolding AreEscaped
hexes [] = tt
hexes (h ∷ []) = tt
hexes (h ∷ l ∷ t) = hex_escaped h l t (hex_value h) (hex_value l) refl refl

same : (c d : ℕ) (t : List ℕ) (x : Option (Elem × ℕ)) → (c == d) ≡ true → AreEscaped (d ∷ t) x → AreEscaped (c ∷ t) x
same c d t x e h = let is : d ≡ c = grind (arith, nat_tests) in rw (← is) h

pub are_escaped : (t : List ℕ) → AreEscaped t (escape_at t)
unfolding AreEscaped
are_escaped [] = tt
are_escaped (c ∷ t) =
    let P = AreEscaped (c ∷ t) in
    if_either (c == 100) _ _ P (λ e. same c 100 t (Some (kind digits, 2)) e (record { text = 100 ∷ []; rest = t; splits = refl; is = a_digit; takes = refl }))
    (λ m1. if_either (c == 119) _ _ P (λ e. same c 119 t (Some (kind word_bytes, 2)) e (record { text = 119 ∷ []; rest = t; splits = refl; is = a_word_byte; takes = refl }))
    (λ m2. if_either (c == 115) _ _ P (λ e. same c 115 t (Some (kind spaces, 2)) e (record { text = 115 ∷ []; rest = t; splits = refl; is = a_space; takes = refl }))
    (λ m3. if_either (c == 110) _ _ P (λ e. same c 110 t (Some (byte 10, 2)) e (record { text = 110 ∷ []; rest = t; splits = refl; is = newline; takes = refl }))
    (λ n1. if_either (c == 116) _ _ P (λ e. same c 116 t (Some (byte 9, 2)) e (record { text = 116 ∷ []; rest = t; splits = refl; is = tab; takes = refl }))
    (λ n2. if_either (c == 114) _ _ P (λ e. same c 114 t (Some (byte 13, 2)) e (record { text = 114 ∷ []; rest = t; splits = refl; is = carriage_return; takes = refl }))
    (λ n3. if_either (c == 120) _ _ P (λ e. same c 120 t (hex_at t) e (hexes t))
    (λ n4. if_either (is_punctuation c) _ _ P (λ e. record { text = c ∷ []; rest = t; splits = refl; is = itself e; takes = refl })
    (λ n5. tt))))))))

pub escape_is : (t : List ℕ) (x : Elem × ℕ) → escape_at t ≡ Some x → Escaped t x.0 x.1
unfolding AreEscaped
escape_is t x e = subst (AreEscaped t) e (are_escaped t)
