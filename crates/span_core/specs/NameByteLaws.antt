-- The fields of a name determine it, and it determines them.
use Rattle.std.proofs.Common.{◌≡◌, ℕ, ◌-◌, ◌≤◌, List, [], ◌∷◌, length, take, true, ◌&&◌, arith, refl, sym, subst, ap, ◌∙◌, length-take, length-append}
use Rattle.std.specs.Prelude.{replicate, IsTrue, nat_lt}
use Rattle.std.specs.List.{list_all}
use Rattle.std.proofs.lemmas.List.{take_at, length-replicate}
use Rattle.std.proofs.lemmas.Bool.{ltb-true, and_parts}
use Rattle.span_core.specs.declared.TheConstants.{MOST_NAME_BYTES}
use Rattle.span_core.specs.declared.name.Name.TheInside.{Inside}
use Rattle.span_core.specs.Names.{is_name, is_name_start, is_name_byte}
use Rattle.span_core.specs.NameBytes.{name_of, padded, IsNameInside, inside_of}

pub inside_of_name : (n : Inside) → IsNameInside n → inside_of (name_of n) ≡ n
inside_of_name n h =
    let len : length (take n.len n.bytes) ≡ n.len = omega (arith, length-take n.len n.bytes, h.few, h.full) in
    let make : List ℕ → ℕ → Inside = λ bytes len. record { bytes = bytes; len = len } in
    ap (make (padded (take n.len n.bytes))) len ∙ ap (λ bytes. make bytes n.len) (sym h.zeros)

name_few : (bytes : List ℕ) → is_name bytes ≡ true → length bytes ≤ MOST_NAME_BYTES
name_few [] h = omega arith
name_few (b ∷ bytes) h = omega (arith, ltb-true (length bytes) MOST_NAME_BYTES (and_parts (nat_lt (length bytes) MOST_NAME_BYTES) (is_name_start b && list_all is_name_byte bytes) h).0)

-- what keeps a name
pub kept : (bytes : List ℕ) → is_name bytes ≡ true → IsNameInside (inside_of bytes)
kept bytes h =
    let few : length bytes ≤ MOST_NAME_BYTES = name_few bytes h in
    let front : take (length bytes) (padded bytes) ≡ bytes = take_at bytes (replicate (MOST_NAME_BYTES - length bytes) 0) (length bytes) refl in
    record {
      few = few;
      full = omega (arith, length-append bytes (replicate (MOST_NAME_BYTES - length bytes) 0), length-replicate {A = ℕ} (MOST_NAME_BYTES - length bytes) 0);
      named = subst (λ (xs : List ℕ). IsTrue (is_name xs)) (sym front) h;
      zeros = ap padded (sym front);
    }
