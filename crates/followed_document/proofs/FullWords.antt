-- No word of a row that has all its spans goes on as that of another such row.
use Rattle.std.proofs.Common.{◌≡◌, ℕ, suc, ◌+◌, ◌<◌, Bool, true, false, [], ◌∷◌, ◌++◌, length, get_or, Option, Some, None, inl, refl, sym, ap, subst, arith, ◌∙◌, length-append}
use Rattle.std.specs.Prelude.{if◌then◌else◌, ◌==◌}
use Rattle.std.specs.Int.{bit_at}
use Rattle.std.specs.List.{All}
use Rattle.span_core.specs.declared.span.Span.{Span}
use Rattle.span_core.specs.Block.{block, closing_bit, marker, markers, markers_from, opening_bit}
use Rattle.span_core.specs.Blocks.{IsRowOfBlocks, listed}
use Rattle.span_core.proofs.BlockBits.{bit_positive, end_is, marked_present, row_closes, row_opens, set_here, start_is}
use Rattle.span_core.proofs.BlocksOfRow.{same_lists}
use Rattle.enumerator.specs.Enumeration.{SpanRow}
use Rattle.node_arena.specs.Words.{Word}
use Rattle.followed_document.specs.Laws.{FullWordsEnd}

-- what is listed in front is listed of the whole
listed_front : (w x : Word) (at : ℕ) → 0 < listed w at → listed (w ++ x) at ≡ listed w at
listed_front [] x at some = absurd (omega (arith, some))
listed_front (b ∷ w) x at some = go (listed_front w x at) (b.0 == at) some
  where
    go : (0 < listed w at → listed (w ++ x) at ≡ listed w at) → (c : Bool) → 0 < (if c then b.1 else listed w at) →
        (if c then b.1 else listed (w ++ x) at) ≡ (if c then b.1 else listed w at)
    go rest true some = refl
    go rest false some = rest some

none_behind : (w x : Word) → w ≡ w ++ x → x ≡ []
none_behind w [] e = refl
none_behind w (b ∷ x) e = absurd (omega (arith, ap length e, length-append w (b ∷ x)))

-- spans that start and end alike add the same
same_marker : (v k at : ℕ) (s t : Span) → s.start ≡ t.start → s.end ≡ t.end → markers v k (Some s) at ≡ markers v k (Some t) at
same_marker v k at s t e f =
    ap (λ n. marker (opening_bit v k) n at + marker (closing_bit v k) s.end at) e ∙ ap (λ n. marker (opening_bit v k) t.start at + marker (closing_bit v k) n at) f

same_markers : (v k at : ℕ) (a b : SpanRow) → length a ≡ length b →
    ((j : ℕ) (d : Option Span) → j < length a → markers v (k + j) (get_or a j d) at ≡ markers v (k + j) (get_or b j d) at) → markers_from v k a at ≡ markers_from v k b at
same_markers v k at [] [] e same = refl
same_markers v k at [] (t ∷ b) e same = absurd (omega (arith, e))
same_markers v k at (s ∷ a) [] e same = absurd (omega (arith, e))
same_markers v k at (s ∷ a) (t ∷ b) e same =
    let zero_more : k + 0 ≡ k = omega arith in
    let first : markers v k s at ≡ markers v k t at = subst (λ n. markers v n s at ≡ markers v n t at) zero_more (same 0 None (omega arith)) in
    let rest : markers_from v (k + 1) a at ≡ markers_from v (k + 1) b at =
    same_markers v (k + 1) at a b (omega (arith, e)) (λ j d l.
    let next : k + suc j ≡ k + 1 + j = omega arith in
    subst (λ n. markers v n (get_or a j d) at ≡ markers v n (get_or b j d) at) next (same (suc j) d (omega (arith, l)))) in
    ap (λ n. n + markers_from v (k + 1) a at) first ∙ ap (λ n. markers v k t at + n) rest

module _ (v : ℕ) (w x : Word) (row more : SpanRow) (h : IsRowOfBlocks v w row) (g : IsRowOfBlocks v (w ++ x) more) (full : All (λ (s : Option Span). s ≡ None → ⊥) row) where
  here : (k : ℕ) (d : Option Span) → k < v → (s : Span) × (get_or row k d ≡ Some s)
  here k d l = by (get_or row k d) refl
    where
      by : (o : Option Span) → get_or row k d ≡ o → (s : Span) × (get_or row k d ≡ Some s)
      by None e = absurd (full k d (omega (arith, l, h.variables)) e)
      by (Some s) e = (s, e)

  -- a marker of the row stands where it stood
  stays : (at bit : ℕ) → bit_at (listed w at) bit ≡ 1 → bit_at (listed (w ++ x) at) bit ≡ 1
  stays at bit e = ap (λ n. bit_at n bit) (listed_front w x at (bit_positive (listed w at) bit e)) ∙ e

  same_at : (at k : ℕ) (d : Option Span) → k < v → markers v k (get_or row k d) at ≡ markers v k (get_or more k d) at
  same_at at k d l =
      let s = here k d l in
      let opens = stays s.0.start (opening_bit v k) (row_opens v k w row d s.0 h l s.1 s.0.start ∙ set_here s.0.start) in
      let closes = stays s.0.end (closing_bit v k) (row_closes v k w row d s.0 h l s.1 s.0.end ∙ set_here s.0.end) in
      let t = marked_present v k (w ++ x) more d g l (s.0.start, inl opens) in
      let starts = start_is v k (w ++ x) more d t.0 g l t.1 s.0.start opens in
      let ends = end_is v k (w ++ x) more d t.0 g l t.1 s.0.end closes in
      ap (λ o. markers v k o at) s.1 ∙ (same_marker v k at s.0 t.0 (sym starts) (sym ends) ∙ ap (λ o. markers v k o at) (sym t.1))

  same_block : (at : ℕ) → block row at ≡ block more at
  same_block at =
      let many : length row ≡ length more = h.variables ∙ sym g.variables in
      ap (λ n. markers_from n 0 row at) h.variables
      ∙ (same_markers v 0 at row more many (λ j d l. let z : 0 + j ≡ j = omega arith in
      subst (λ n. markers v n (get_or row j d) at ≡ markers v n (get_or more j d) at) (sym z) (same_at at j d (omega (arith, l, h.variables))))
      ∙ ap (λ n. markers_from n 0 more at) (sym g.variables))

  pub same_listed : (at : ℕ) → listed w at ≡ listed (w ++ x) at
  same_listed at = sym (h.blocks_are at) ∙ (same_block at ∙ g.blocks_are at)

pub full_words_end : FullWordsEnd
full_words_end v w x a b =
    none_behind w x (same_lists w (w ++ x) a.0 b.0 (same_listed v w x a.1.0 b.1.0 a.1.1 b.1.1 a.1.2))
