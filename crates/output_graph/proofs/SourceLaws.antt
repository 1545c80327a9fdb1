-- The edges of one source.
use Rattle.std.proofs.Common.{◌≡◌, ℕ, ◌<◌, ◌≤◌, List, [], ◌∷◌, Some, None, inl, inr, refl, sym, ap, subst, arith}
use Rattle.span_core.specs.Lists.{Has}
use Rattle.node_arena.specs.Words.{Word, words}
use Rattle.node_arena.specs.Cells.{NamedLink, HasCell, without, IsUnnamed, new_link}
use Rattle.node_arena.proofs.Without.{without_less}
use Rattle.output_graph.specs.Grown.{past, IsOpen, AreGrown}
use Rattle.output_graph.specs.Forward.{Layer, cell_of, set_cell, Choice, AreSources, Stepping, Growing}
use Rattle.output_graph.specs.Source.{Edges, Descend, InSource, Between}
use Rattle.output_graph.proofs.ForwardLaws.{edge_step}
use Rattle.output_graph.proofs.GrowthLaws.{edge_grows, move_grows, comes_next_own, comes_next_other, step_grows, first_comes_next}
use Rattle.output_graph.proofs.StepLaws.{move_step, step_begins, step_without, growing_without}

-- fewer sources are left
pub step_fewer : (sources left after : List ℕ) (W : ℕ → List Word) (at : ℕ) (done : List Choice) (cells : List NamedLink) (next : Layer) →
    Stepping sources left W at done cells next → ((c : ℕ) → Has after c → Has left c) → Stepping sources after W at done cells next
step_fewer sources left after W at done cells next s fewer = record {
  sound = s.sound;
  whole = s.whole;
  there = s.there;
  one_path = s.one_path;
  source_there = λ c h. s.source_there c (fewer c h);
  source_words = λ c h. s.source_words c (fewer c h);
  by_sources = s.by_sources;
}

pub grow_fewer : (left after : List ℕ) (at : ℕ) (cells : List NamedLink) (next : Layer) → Growing left at cells next → ((c : ℕ) → Has after c → Has left c) → Growing after at cells next
grow_fewer left after at cells next g fewer = record {
  grown = g.grown;
  left_there = λ c h. g.left_there c (fewer c h);
  left_open = λ c h. g.left_open c (fewer c h);
  left_later = λ c h. g.left_later c (fewer c h);
  next_there = g.next_there;
  next_open = g.next_open;
  next_apart = λ s c is h. g.next_apart s c is (fewer c h);
  next_once = g.next_once;
}

module _ (sources after : List ℕ) (W : ℕ → List Word) (at c : ℕ) (apart : AreSources sources W at) where
  -- a source begins
  pub source_begins : (edges : Edges) (done : List Choice) (cells : List NamedLink) (next : Layer) → Between sources (c ∷ after) W at done cells next → Has sources c →
      (Has after c → ⊥) → Descend edges → InSource sources after W at c edges done cells next
  source_begins edges done cells next b is_source not_after descend = record {
    stepping = b.stepping;
    growing = b.growing;
    is_source = is_source;
    not_after = not_after;
    descend = descend;
    comes = λ e h. b.comes c e.0 (inl refl);
    comes_later = λ d marks h. b.comes d marks (inr h);
    above = λ d e hd is he. absurd (b.finished d hd (inl (sym is)));
    finished = λ d hd h. b.finished d hd (inr h);
  }

  -- all edges are made
  pub source_ends : (done : List Choice) (cells : List NamedLink) (next : Layer) → InSource sources after W at c [] done cells next →
      Between sources after W at done cells next
  source_ends done cells next s = record {
    stepping = step_fewer sources (c ∷ after) after W at done cells next s.stepping (λ b h. inr h);
    growing = grow_fewer (c ∷ after) after at cells next s.growing (λ b h. inr h);
    comes = s.comes_later;
    finished = s.finished;
  }

  module _ (marks to : ℕ) (edges : Edges) (done : List Choice) (cells : List NamedLink) (next : Layer)
      (s : InSource sources after W at c ((marks, to) ∷ edges) done cells next) where
    abbrev choice : Choice
    choice = record { cell = c; marks = marks; to = to }

    new_choice : (d : Choice) → Has done d → d.cell ≡ c → d.marks ≡ marks → ⊥
    new_choice d h is same = let lt : marks < d.marks = s.above d (marks, to) h is (inl refl) in omega arith

    finished_after : (d : Choice) → Has (choice ∷ done) d → Has after d.cell → ⊥
    finished_after d (inl e) h = s.not_after (subst (λ (x : Choice). Has after x.cell) (sym e) h)
    finished_after d (inr hd) h = s.finished d hd h

    module _ (name : ℕ) (fresh : HasCell cells name → ⊥) where
      abbrev link : NamedLink
      link = new_link name at marks c (cell_of next to)

      not_from : (b : ℕ) → Has after b → link.from ≡ Some b → ⊥
      not_from b h is = let e : c ≡ b = (let p : Some c ≡ Some b = is in cc) in s.not_after (subst (λ n. Has after n) (sym e) h)

      -- an edge with marks
      pub marked_edge : 0 < marks → InSource sources after W at c edges (choice ∷ done) (link ∷ cells) (set_cell next to name)
      marked_edge some = record {
        stepping = edge_step sources (c ∷ after) W at done cells next apart s.stepping choice name s.is_source (inl refl) fresh new_choice;
        growing = edge_grows (c ∷ after) (c ∷ after) at cells next s.growing name c marks to (inl refl) fresh (s.comes (marks, to) (inl refl))
            ((λ b h. h), (λ none. absurd (omega arith)));
        is_source = s.is_source;
        not_after = s.not_after;
        descend = s.descend.1;
        comes = λ f h. comes_next_own cells name c at marks f.0 (cell_of next to) (s.descend.0 f h) (s.comes (marks, to) (inl refl));
        comes_later = λ b m h. comes_next_other cells link b at m (not_from b h) (s.comes_later b m h);
        above = λ d f hd is hf. elim hd as (λ _. f.0 < d.marks) [
          | inl e ↦ let lt : f.0 < marks = s.descend.0 f hf in let same : marks ≡ d.marks = ap (λ (x : Choice). x.marks) e in omega arith
          | inr h ↦ s.above d f h is (inr hf)
        ];
        finished = finished_after;
      }

      -- the edge without marks, which is the last, where the target has a cell or the caller makes one
      pub markless_edge : marks ≡ 0 → Between sources after W at (choice ∷ done) (link ∷ cells) (set_cell next to name)
      markless_edge none = record {
        stepping = step_fewer sources (c ∷ after) after W at (choice ∷ done) (link ∷ cells) (set_cell next to name)
            (edge_step sources (c ∷ after) W at done cells next apart s.stepping choice name s.is_source (inl refl) fresh new_choice) (λ b h. inr h);
        growing = edge_grows (c ∷ after) after at cells next s.growing name c marks to (inl refl) fresh (s.comes (marks, to) (inl refl)) ((λ b h. inr h), (λ e h. s.not_after h));
        comes = λ b m h. comes_next_other cells link b at m (not_from b h) (s.comes_later b m h);
        finished = finished_after;
      }

    -- the edge without marks, where the target has no cell: it takes the source's
    pub handed_edge : marks ≡ 0 → cell_of next to ≡ None → Between sources after W at (choice ∷ done) cells (set_cell next to c)
    handed_edge none empty = record {
      stepping = step_fewer sources (c ∷ after) after W at (choice ∷ done) cells (set_cell next to c)
          (move_step sources (c ∷ after) W at done cells next apart s.stepping choice s.is_source (inl refl) none empty) (λ b h. inr h);
      growing = move_grows (c ∷ after) after at cells next s.growing c to (inl refl) s.not_after (λ b h. inr h) empty;
      comes = s.comes_later;
      finished = finished_after;
    }

-- a step begins: the position is past all that the cells have
pub between_begins : (sources : List ℕ) (at : ℕ) (cells : List NamedLink) → AreGrown cells → ((c : ℕ) → Has sources c → HasCell cells c) → ((c : ℕ) → Has sources c → IsOpen cells c) →
    past cells ≤ at → Between sources sources (words cells) at [] cells []
between_begins sources at cells grown there open_ le = record {
  stepping = step_begins sources at cells there;
  growing = step_grows sources at cells grown there open_ le;
  comes = λ b marks h. first_comes_next cells b at marks le;
  finished = λ d h. absurd h;
}

-- a cell that nothing names, and that is at no source left and at no set of the next layer, is given back
pub between_without : (sources left : List ℕ) (W : ℕ → List Word) (at : ℕ) (done : List Choice) (cells : List NamedLink) (next : Layer) (k : ℕ) →
    Between sources left W at done cells next → IsUnnamed cells k → ((s : ℕ) → cell_of next s ≡ Some k → ⊥) → (Has left k → ⊥) → Between sources left W at done (without k cells) next
between_without sources left W at done cells next k b un not_next gone = record {
  stepping = step_without sources left left W at done cells next k b.stepping un not_next (λ c h. h) gone;
  growing = growing_without left left at cells next k b.growing un not_next (λ c h. h) gone;
  comes = λ c marks h some d hd from md. b.comes c marks h some d (without_less k cells d hd) from md;
  finished = b.finished;
}
