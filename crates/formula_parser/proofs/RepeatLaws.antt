-- The braces of a repeat are read, and the other way round.
use Rattle.std.proofs.Common.{◌≡◌, ℕ, suc, ◌+◌, ◌≤◌, Bool, true, false, ◌&&◌, ◌==◌, nat_le, List, [], ◌∷◌, ◌++◌, length, drop, Option, Some, None, ap, refl, sym, ◌∙◌, subst, if◌then◌else◌, arith, length-append, append_assoc}
use Rattle.std.specs.List.{take_while, list_all}
use Rattle.std.proofs.lemmas.Bool.{and_parts}
use Rattle.std.proofs.lemmas.Bool.Decides.{nat_tests}
use Rattle.formula_parser.specs.Runs.{begins, begins_with}
use Rattle.formula_parser.specs.Repeats.{is_digit, value_after, IsNumber, IsRepeat, exactly, at_least, between}
use Rattle.formula_parser.specs.Tokens.{number_at, Bounds, between_at, most_at, rest_at, bounds_after, bounds_at}
use Rattle.formula_parser.proofs.RunLaws.{run_of, run_is, after_token}
use Rattle.formula_parser.proofs.HeadLaws.{byte_front}

-- the choice that `number_at` makes
abbrev number_if : List ℕ → Option (ℕ × ℕ)
number_if d = if nat_le 1 (length d) && nat_le (length d) 4 && nat_le (value_after 0 d) 1000 then Some (value_after 0 d, length d) else None

number_passes : (d : List ℕ) (n : ℕ) → IsNumber d n → (nat_le 1 (length d) && nat_le (length d) 4 && nat_le (value_after 0 d) 1000) ≡ true
number_passes d n is =
    let a = is.from_one in
    let b = is.to_four in
    let c : value_after 0 d ≤ 1000 = omega (arith, is.value, is.small) in
    grind (arith, nat_tests)

pub number_read : (d after : List ℕ) (n : ℕ) → IsNumber d n → begins is_digit after ≡ false → number_at (d ++ after) ≡ Some (n, length d)
unfolding number_at
number_read d after n is stops =
    ap number_if (run_is is_digit d after is.digits stops)
    ∙ ap (λ b. if b then Some (value_after 0 d, length d) else None) (number_passes d n is)
    ∙ ap (λ v. Some (v, length d)) (sym is.value)

-- what stands at the front is a number
pub record NumberText (t : List ℕ) (n len : ℕ) : Type 0 where
  pub text : List ℕ
  pub rest : List ℕ
  pub splits : t ≡ text ++ rest
  pub is : IsNumber text n
  pub takes : len ≡ length text

pub number_is : (t : List ℕ) (x : ℕ × ℕ) → number_at t ≡ Some x → NumberText t x.0 x.1
unfolding number_at
number_is t x e = by (nat_le 1 (length d) && nat_le (length d) 4 && nat_le (value_after 0 d) 1000) refl e
  where
    d : List ℕ
    d = take_while is_digit t

    by : (b : Bool) → (nat_le 1 (length d) && nat_le (length d) 4 && nat_le (value_after 0 d) 1000) ≡ b →
        (if b then Some (value_after 0 d, length d) else None) ≡ Some x → NumberText t x.0 x.1
    by false f g = absurd (cc)
    by true f g =
        let outer = and_parts (nat_le 1 (length d) && nat_le (length d) 4) (nat_le (value_after 0 d) 1000) f in
        let inner = and_parts (nat_le 1 (length d)) (nat_le (length d) 4) outer.0 in
        let first = inner.0 in
        let second = inner.1 in
        let third = outer.1 in
        let r = run_of is_digit t in
        let pair : (value_after 0 d, length d) ≡ x = cc in
        rw (← pair) (record {
          text = d;
          rest = r.rest;
          splits = r.splits;
          is = record {
            digits = r.all;
            from_one = grind (arith, nat_tests);
            to_four = grind (arith, nat_tests);
            value = refl;
            small = grind (arith, nat_tests);
          };
          takes = refl;
        })

pub bounds_exactly : (t rest : List ℕ) (m : ℕ) → IsNumber t m →
    bounds_at ((t ++ 125 ∷ []) ++ rest) ≡ Some (record { least = m; most = Some m; len = length t + 2 })
bounds_exactly t rest m is =
    ap bounds_at (append_assoc t (125 ∷ []) rest)
    ∙ ap (λ x. bounds_after x (t ++ 125 ∷ rest)) (number_read t (125 ∷ rest) m is refl)
    ∙ ap (rest_at m (length t)) (after_token t (125 ∷ rest))

pub bounds_at_least : (t rest : List ℕ) (m : ℕ) → IsNumber t m →
    bounds_at ((t ++ 44 ∷ 125 ∷ []) ++ rest) ≡ Some (record { least = m; most = None; len = length t + 3 })
bounds_at_least t rest m is =
    ap bounds_at (append_assoc t (44 ∷ 125 ∷ []) rest)
    ∙ ap (λ x. bounds_after x (t ++ 44 ∷ 125 ∷ rest)) (number_read t (44 ∷ 125 ∷ rest) m is refl)
    ∙ ap (rest_at m (length t)) (after_token t (44 ∷ 125 ∷ rest))

-- a number does not begin with a closing brace
most_between : (m len k : ℕ) (u rest : List ℕ) → IsNumber u k → most_at m len (u ++ rest) ≡ between_at m len (number_at (u ++ rest)) (u ++ rest)
most_between m len k [] rest is = let h = is.from_one in absurd (omega arith)
most_between m len k (c ∷ u) rest is =
    let h = (and_parts (is_digit c) (list_all is_digit u) is.digits).0 in
    let no : (c == 125) ≡ false = grind (arith, nat_tests) in
    ap (λ b. if b then Some (record { least = m; most = None; len = len + 3 }) else between_at m len (number_at (c ∷ (u ++ rest))) (c ∷ (u ++ rest))) no

pub bounds_between : (t u rest : List ℕ) (m k : ℕ) → IsNumber t m → IsNumber u k → m ≤ k →
    bounds_at ((t ++ 44 ∷ (u ++ 125 ∷ [])) ++ rest) ≡ Some (record { least = m; most = Some k; len = length t + length u + 3 })
bounds_between t u rest m k is are le =
    let after = u ++ 125 ∷ rest in
    let same : (t ++ 44 ∷ (u ++ 125 ∷ [])) ++ rest ≡ t ++ 44 ∷ after = simp append_assoc in
    let fits : (nat_le m k && begins_with 125 (drop (length u) after)) ≡ true =
    ap (λ y. nat_le m k && begins_with 125 y) (after_token u (125 ∷ rest)) ∙ (let h = le in grind (arith, nat_tests)) in
    ap bounds_at same
    ∙ ap (λ x. bounds_after x (t ++ 44 ∷ after)) (number_read t (44 ∷ after) m is refl)
    ∙ ap (rest_at m (length t)) (after_token t (44 ∷ after))
    ∙ most_between m (length t) k u (125 ∷ rest) are
    ∙ ap (λ x. between_at m (length t) x after) (number_read u (125 ∷ rest) k are refl)
    ∙ ap (λ b. if b then Some (record { least = m; most = Some k; len = length t + length u + 3 }) else None) fits

-- what stands at the front is the repeat after its opening brace
pub record BoundsText (t : List ℕ) (b : Bounds) : Type 0 where
  pub text : List ℕ
  pub rest : List ℕ
  pub splits : t ≡ text ++ rest
  pub is : IsRepeat (123 ∷ text) b.least b.most
  pub takes : b.len ≡ suc (length text)

AreBounds : List ℕ → Option Bounds → Type 0
AreBounds t None = Unit {0}
AreBounds t (Some b) = BoundsText t b

if_bounds : (b : Bool) (x y : Option Bounds) (P : Option Bounds → Type 0) → (b ≡ true → P x) → (b ≡ false → P y) → P (if b then x else y)
if_bounds true x y P first second = first refl
if_bounds false x y P first second = second refl

between_bounds : (t d u : List ℕ) (m : ℕ) → IsNumber d m → t ≡ d ++ 44 ∷ u → (found : Option (ℕ × ℕ)) → number_at u ≡ found →
    AreBounds t (between_at m (length d) found u)
unfolding AreBounds
between_bounds t d u m is splits None e = tt
between_bounds t d u m is splits (Some k) e =
    if_bounds (nat_le m k.0 && begins_with 125 (drop k.1 u)) _ _ (AreBounds t) (λ h.
    let parts = and_parts (nat_le m k.0) (begins_with 125 (drop k.1 u)) h in
    let le = parts.0 in
    let n = number_is u k e in
    let front = byte_front 125 (drop k.1 u) parts.1 in
    let others : n.rest ≡ 125 ∷ front.0 = sym (after_token n.text n.rest) ∙ ap (drop (length n.text)) (sym n.splits) ∙ ap (λ y. drop y u) (sym n.takes) ∙ front.1 in
    let whole : u ≡ n.text ++ 125 ∷ front.0 = n.splits ∙ ap (λ y. n.text ++ y) others in
    record {
      text = d ++ 44 ∷ (n.text ++ 125 ∷ []);
      rest = front.0;
      splits = splits ∙ ap (λ y. d ++ 44 ∷ y) whole ∙ simp append_assoc;
      is = between is n.is (grind (arith, nat_tests));
      takes = omega (arith, n.takes, length-append d (44 ∷ (n.text ++ 125 ∷ [])), length-append n.text (125 ∷ []));
    })
    (λ h. tt)

most_bounds : (t d u : List ℕ) (m : ℕ) → IsNumber d m → t ≡ d ++ 44 ∷ u → AreBounds t (most_at m (length d) u)
unfolding AreBounds
most_bounds t d [] m is splits = tt
most_bounds t d (c ∷ u) m is splits =
    if_bounds (c == 125) _ _ (AreBounds t) (λ h.
    let byte : c ≡ 125 = grind (arith, nat_tests) in
    record {
      text = d ++ 44 ∷ 125 ∷ [];
      rest = u;
      splits = splits ∙ ap (λ y. d ++ 44 ∷ y ∷ u) byte ∙ sym (append_assoc d (44 ∷ 125 ∷ []) u);
      is = at_least is;
      takes = omega (arith, length-append d (44 ∷ 125 ∷ []));
    })
    (λ h. between_bounds t d (c ∷ u) m is splits (number_at (c ∷ u)) refl)

rest_bounds : (t d u : List ℕ) (m : ℕ) → IsNumber d m → t ≡ d ++ u → AreBounds t (rest_at m (length d) u)
unfolding AreBounds
rest_bounds t d [] m is splits = tt
rest_bounds t d (c ∷ u) m is splits =
    if_bounds (c == 125) _ _ (AreBounds t) (λ h.
    let byte : c ≡ 125 = grind (arith, nat_tests) in
    record {
      text = d ++ 125 ∷ [];
      rest = u;
      splits = splits ∙ ap (λ y. d ++ y ∷ u) byte ∙ sym (append_assoc d (125 ∷ []) u);
      is = exactly is;
      takes = omega (arith, length-append d (125 ∷ []));
    })
    (λ no. if_bounds (c == 44) _ _ (AreBounds t) (λ h.
    let byte : c ≡ 44 = grind (arith, nat_tests) in
    most_bounds t d u m is (splits ∙ ap (λ y. d ++ y ∷ u) byte))
    (λ h. tt))

are_bounds : (t : List ℕ) (found : Option (ℕ × ℕ)) → number_at t ≡ found → AreBounds t (bounds_after found t)
unfolding AreBounds
are_bounds t None e = tt
are_bounds t (Some m) e =
    let n = number_is t m e in
    let others : drop m.1 t ≡ n.rest = ap (λ y. drop y t) n.takes ∙ ap (drop (length n.text)) n.splits ∙ after_token n.text n.rest in
    rw (← n.takes) at (subst (λ y. AreBounds t (rest_at m.0 (length n.text) y)) (sym others) (rest_bounds t n.text n.rest m.0 n.is n.splits))

pub bounds_is : (t : List ℕ) (b : Bounds) → bounds_at t ≡ Some b → BoundsText t b
unfolding AreBounds
bounds_is t b e = subst (AreBounds t) e (are_bounds t (number_at t) refl)
