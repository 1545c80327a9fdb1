-- Lists that programs share: what stands in them stays as they grow.
use Rattle.std.proofs.Common.{◌≡◌, ◌⊎◌, ℕ, zero, suc, ◌-◌, List, [], ◌∷◌, ◌++◌, take, drop, length, Some, inl, inr, sym, ap, ◌∙◌, subst, arith, slice_get, append-nil, length-append}
use Rattle.std.proofs.lemmas.List.{length-drop, length-take-le}
use Rattle.std.proofs.lemmas.Option.{same_Some}
use Rattle.output_graph.specs.declared.programs.Part.{Part}
use Rattle.output_graph.specs.declared.programs.Piece.{Piece}
use Rattle.output_graph.specs.declared.programs.Pool.{Pool}
use Rattle.output_graph.specs.Pools.{ArePooled, HasPiece, IsPart}
use Rattle.output_graph.proofs.ProgramLaws.{drop_more, take_more}

-- the second list goes on where the first ends
abbrev pub GoesOn : {A : Type 0} → List A → List A → Type 0
GoesOn {A = A} xs ys = (rest : List A) × (ys ≡ xs ++ rest)

pub goes_on_same : {A : Type 0} (xs : List A) → GoesOn xs xs
goes_on_same xs = ([], sym (append-nil xs))

pub piece_stays : {A : Type 0} (xs ys these : List A) (piece : Piece) → GoesOn xs ys → HasPiece xs piece these → HasPiece ys piece these
piece_stays {A = A} xs ys these piece on has =
    let within = has.within in
    let ordered = has.ordered in
    let more = ap length on.1 ∙ length-append xs on.0 in
    let left = length-drop piece.from xs in
    record {
      ordered = has.ordered;
      within = omega arith;
      are =
          ap (λ (zs : List A). take (piece.to - piece.from) (drop piece.from zs)) on.1
          ∙ (ap (λ (zs : List A). take (piece.to - piece.from) zs) (drop_more xs on.0 piece.from (omega arith))
          ∙ (take_more (drop piece.from xs) on.0 (piece.to - piece.from) (omega arith) ∙ has.are));
    }

pub part_stays : (old new : Pool) (part : Part) → GoesOn old.code.items new.code.items → GoesOn old.targets.items new.targets.items → IsPart old part → IsPart new part
part_stays old new part code targets is = record {
  is_plan = is.is_plan;
  code = is.code;
  is_code = is.is_code;
  there = piece_stays old.code.items new.code.items is.code part.code code is.there;
  targets = piece_stays old.targets.items new.targets.items part.plan.value.targets.items part.targets targets is.targets;
  sources = is.sources;
}

-- the lists go on, and no part is added
pub pool_stays : (old new : Pool) → ArePooled old → GoesOn old.code.items new.code.items → GoesOn old.targets.items new.targets.items →
    new.parts.items ≡ old.parts.items → ArePooled new
pool_stays old new are code targets same k part at =
    part_stays old new part code targets (are k part (subst (λ (ps : List Part). slice_get ps k ≡ Some part) same at))

last_or_before : (parts : List Part) (last : Part) (k : ℕ) (part : Part) → slice_get (parts ++ last ∷ []) k ≡ Some part → (slice_get parts k ≡ Some part) ⊎ (last ≡ part)
last_or_before [] last zero part at = inr (same_Some last part at)
last_or_before [] last (suc k) part at = cc
last_or_before (p ∷ parts) last zero part at = inl at
last_or_before (p ∷ parts) last (suc k) part at = last_or_before parts last k part at

-- and one part is
pub pool_next : (old new : Pool) (last : Part) → ArePooled old → GoesOn old.code.items new.code.items → GoesOn old.targets.items new.targets.items →
    new.parts.items ≡ old.parts.items ++ last ∷ [] → IsPart new last → ArePooled new
pool_next old new last are code targets next is k part at =
    elim (last_or_before old.parts.items last k part (subst (λ (ps : List Part). slice_get ps k ≡ Some part) next at)) as (λ _. IsPart new part) [
      | inl before ↦ part_stays old new part code targets (are k part before)
      | inr same ↦ subst (λ (p : Part). IsPart new p) same is
    ]

-- a piece of one list is one list
pub same_piece : {A : Type 0} (xs ys these those : List A) (piece : Piece) → HasPiece xs piece these → HasPiece ys piece those → xs ≡ ys → these ≡ those
same_piece {A = A} xs ys these those piece one two same =
    sym one.are ∙ (ap (λ (zs : List A). take (piece.to - piece.from) (drop piece.from zs)) same ∙ two.are)

-- how long a piece is
pub piece_long : {A : Type 0} (xs these : List A) (piece : Piece) → HasPiece xs piece these → length these ≡ piece.to - piece.from
piece_long {A = A} xs these piece has =
    let within = has.within in
    let left = length-drop piece.from xs in
    sym (ap length has.are) ∙ length-take-le (piece.to - piece.from) (drop piece.from xs) (omega arith)
