-- A search that grows.
use Rattle.std.proofs.Common.{◌≡◌, ℕ, zero, suc, ◌+◌, ◌<◌, ◌≤◌, ◌↔◌, Bool, true, false, List, [], ◌∷◌, ◌++◌, length, get_or, take, inl, inr, refl, sym, subst, arith, length-append, ◌∙◌, replicate}
use Rattle.std.proofs.lemmas.Bool.{false≢true}
use Rattle.std.proofs.Math.ListN.{set, length-set}
use Rattle.span_core.specs.Lists.{Has}
use Rattle.span_core.proofs.HasLaws.{Has-append_left, Has-append_right, Has-append_cases}
use Rattle.marked_automaton.specs.Inside.{flagged}
use Rattle.marked_automaton.specs.Reach.{Grows, IsFlagged, unset, IsSearch, Reaches, ReachesIn, LeadsOn}
use Rattle.marked_automaton.specs.Trimmed.{edges_in}
use Rattle.marked_automaton.specs.declared.reach.Direction.{Direction}
use Rattle.marked_automaton.specs.declared.reach.Edge.{Edge}
use Rattle.marked_automaton.specs.declared.reach.Search.{Search}
use Rattle.marked_automaton.specs.declared.way.Way.{Way}
use Rattle.marked_automaton.proofs.Flags.{flagged_is, is_flagged, set_cases, set_here, set_there}

-- what was read at a place
pub read : (flags : List Bool) (p : ℕ) (b : Bool) → p < length flags → b ≡ get_or flags p b → get_or flags p false ≡ b
read [] p b l e = absurd (omega arith)
read (c ∷ flags) zero b l e = sym e
read (c ∷ flags) (suc p) b l e = read flags p b (omega arith) e

unset_set : (flags : List Bool) (i : ℕ) → i < length flags → get_or flags i false ≡ false → unset flags ≡ 1 + unset (set flags i true)
unset_set [] i l e = absurd (omega arith)
unset_set (true ∷ flags) zero l e = absurd (cc)
unset_set (false ∷ flags) zero l e = omega arith
unset_set (b ∷ flags) (suc i) l e = omega (arith, unset_set flags i (omega arith) e)

module _ (P : ℕ → Type 0) where
  pub grows_none : (found : List Bool) (waiting : List ℕ) → Grows P found waiting found waiting
  grows_none found waiting = record {
    len = refl;
    kept = λ p h. h;
    only = λ p h. inl h;
    waits = λ p h. h;
    flagged = λ p h. inl h;
    new_waits = λ p h. inl h;
    work = refl;
  }

  pub grows_then : (f1 f2 f3 : List Bool) (q1 q2 q3 : List ℕ) → Grows P f1 q1 f2 q2 → Grows P f2 q2 f3 q3 → Grows P f1 q1 f3 q3
  grows_then f1 f2 f3 q1 q2 q3 a b = record {
    len = b.len ∙ a.len;
    kept = λ p h. b.kept p (a.kept p h);
    only = λ p h. elim (b.only p h) [ inl x ↦ a.only p x | inr y ↦ inr y ];
    waits = λ p h. b.waits p (a.waits p h);
    flagged = λ p h. elim (b.flagged p h) [
      | inl x ↦ elim (a.flagged p x) [ inl y ↦ inl y | inr z ↦ inr (b.kept p z) ]
      | inr y ↦ inr y
    ];
    new_waits = λ p h. elim (b.new_waits p h) [
      | inl x ↦ elim (a.new_waits p x) [ inl y ↦ inl y | inr z ↦ inr (b.waits p z) ]
      | inr y ↦ inr y
    ];
    work = b.work ∙ a.work;
  }

pub grows_weaker : (P Q : ℕ → Type 0) → ((p : ℕ) → P p → Q p) → (f1 f2 : List Bool) (q1 q2 : List ℕ) → Grows P f1 q1 f2 q2 → Grows Q f1 q1 f2 q2
grows_weaker P Q sub f1 f2 q1 q2 a = record {
  len = a.len;
  kept = a.kept;
  only = λ p h. elim (a.only p h) [ inl x ↦ inl x | inr y ↦ inr (sub p y) ];
  waits = a.waits;
  flagged = a.flagged;
  new_waits = a.new_waits;
  work = a.work;
}

pub grows_find : (found : List Bool) (waiting : List ℕ) (node : ℕ) → node < length found → get_or found node false ≡ false →
    Grows (λ p. p ≡ node) found waiting (set found node true) (waiting ++ node ∷ [])
grows_find found waiting node within new = record {
  len = length-set found node true;
  kept = λ p h. set_there found node p h;
  only = λ p h. set_cases found node p h;
  waits = λ p h. Has-append_left waiting (node ∷ []) p h;
  flagged = λ p h. elim (Has-append_cases waiting (node ∷ []) p h) [
    | inl a ↦ inl a
    | inr b ↦ elim b [ inl e ↦ inr (subst (IsFlagged (set found node true)) e (set_here found node within)) | inr n ↦ absurd n ]
  ];
  new_waits = λ p h. elim (set_cases found node p h) [
    | inl a ↦ inl a
    | inr e ↦ inr (Has-append_right waiting (node ∷ []) p (inl (sym e)))
  ];
  work =
      let len : length (waiting ++ node ∷ []) ≡ length waiting + 1 = length-append waiting (node ∷ []) in
      omega (arith, unset_set found node within new, len);
}

pub none_flagged : (n p : ℕ) → IsFlagged (replicate n false) p → ⊥
none_flagged zero p h = false≢true h
none_flagged (suc n) zero h = false≢true h
none_flagged (suc n) (suc p) h = none_flagged n p h

pub flagged_below : (flags : List Bool) (p : ℕ) → IsFlagged flags p → p < length flags
flagged_below [] p h = absurd (false≢true h)
flagged_below (b ∷ flags) zero h = omega arith
flagged_below (b ∷ flags) (suc p) h = omega (arith, flagged_below flags p h)

-- so many wait that all are found
pub all_found : (flags : List Bool) → unset flags ≡ 0 → (p : ℕ) → p < length flags → IsFlagged flags p
all_found [] none p l = absurd (omega (arith, l))
all_found (true ∷ flags) none zero l = refl
all_found (true ∷ flags) none (suc p) l = all_found flags (omega (arith, none)) p (omega (arith, l))
all_found (false ∷ flags) none p l = absurd (omega (arith, none))

none_set : (n : ℕ) → unset (replicate n false) ≡ n
none_set zero = refl
none_set (suc n) = let rest = none_set n in omega (arith, rest)

-- what is reached from what is reached is reached
pub reaches_through : (edges : List Edge) (seeds xs : List ℕ) → ((q : ℕ) → Has xs q → Reaches edges seeds q) → (p : ℕ) → Reaches edges xs p → Reaches edges seeds p
reaches_through edges seeds xs from p h = go h.0 p h.1
  where
    go : (n p : ℕ) → ReachesIn edges xs n p → Reaches edges seeds p
    go zero p h = from p h
    go (suc n) p h = let r = go n h.0.from h.2 in (suc r.0, (h.0, h.1, r.1, h.3))

pub reaches_below : (edges : List Edge) (seeds : List ℕ) (n : ℕ) → ((p : ℕ) → Has seeds p → p < n) → ((e : Edge) → Has edges e → e.to < n) → (p : ℕ) → Reaches edges seeds p → p < n
reaches_below edges seeds n first next p h = go h.0 p h.1
  where
    go : (k p : ℕ) → ReachesIn edges seeds k p → p < n
    go zero p h = first p h
    go (suc k) p h = subst (λ i. i < n) h.3 (next h.0 h.1)

module _ (edges : List Edge) (seeds : List ℕ) where
  -- the seeds are found, and what is reached from them over one way or more
  pub swept_from : (n : ℕ) (f1 f2 : List Bool) (q1 q2 : List ℕ) → Grows (Has seeds) (replicate n false) [] f1 q1 → Grows (Reaches edges (flagged 0 f1)) f1 q1 f2 q2 →
      Grows (Reaches edges seeds) (replicate n false) [] f2 q2
  swept_from n f1 f2 q1 q2 g s =
      grows_then (Reaches edges seeds) (replicate n false) f1 f2 [] q1 q2
      (grows_weaker (Has seeds) (Reaches edges seeds) (λ p h. (0, h)) (replicate n false) f1 [] q1 g)
      (grows_weaker (Reaches edges (flagged 0 f1)) (Reaches edges seeds) (reaches_through edges seeds (flagged 0 f1) from) f1 f2 q1 q2 s)
    where
      from : (q : ℕ) → Has (flagged 0 f1) q → Reaches edges seeds q
      from q h = elim (g.only q (flagged_is f1 q h)) [ inl x ↦ absurd (none_flagged n q x) | inr y ↦ (0, y) ]

  -- where as many wait as there are nodes, just what is reached is found
  pub swept_all : (n : ℕ) (found : List Bool) (waiting : List ℕ) → Grows (Reaches edges seeds) (replicate n false) [] found waiting → length found ≤ length waiting →
      length found ≡ n → ((p : ℕ) → Reaches edges seeds p → p < n) → (p : ℕ) → IsFlagged found p ↔ Reaches edges seeds p
  swept_all n found waiting g many len below p = (
    λ h. elim (g.only p h) [ inl x ↦ absurd (none_flagged n p x) | inr s ↦ s ],
    λ h. all_found found (omega (arith, g.work, none_set n, many, len)) p (omega (arith, below p h, len)),
  )

  -- what is found is reached, and waits
  pub search_starts : (n : ℕ) (found : List Bool) (waiting : List ℕ) → Grows (Reaches edges seeds) (replicate n false) [] found waiting →
      ((p : ℕ) → Has seeds p → IsFlagged found p) → IsSearch edges seeds found waiting
  search_starts n found waiting g all = record {
    sound = λ p h. elim (g.only p h) [ inl x ↦ absurd (none_flagged n p x) | inr s ↦ s ];
    seeded = all;
    flagged = λ p h. elim (g.flagged p h) [ inl x ↦ absurd x | inr y ↦ y ];
    closed = λ e h from. elim (g.new_waits e.from from) [ inl x ↦ absurd (none_flagged n e.from x) | inr y ↦ inr y ];
  }

  -- one that waited is followed
  pub search_more : (f1 f2 : List Bool) (q1 q2 : List ℕ) (node : ℕ) → IsSearch edges seeds f1 (q1 ++ node ∷ []) → Grows (LeadsOn edges node) f1 q1 f2 q2 →
      ((e : Edge) → Has edges e → e.from ≡ node → IsFlagged f2 e.to) → IsSearch edges seeds f2 q2
  search_more f1 f2 q1 q2 node s g found = record {
    sound = λ p h. elim (g.only p h) [ inl x ↦ s.sound p x | inr y ↦ reach p y ];
    seeded = λ p h. g.kept p (s.seeded p h);
    flagged = λ p h. elim (g.flagged p h) [ inl x ↦ g.kept p (s.flagged p (Has-append_left q1 (node ∷ []) p x)) | inr y ↦ y ];
    closed = λ e h from. elim (g.new_waits e.from from) [
      | inl x ↦ elim (s.closed e h x) [
        | inl to ↦ inl (g.kept e.to to)
        | inr waits ↦ elim (Has-append_cases q1 (node ∷ []) e.from waits) [
          | inl a ↦ inr (g.waits e.from a)
          | inr b ↦ elim b [ inl at ↦ inl (found e h (sym at)) | inr n ↦ absurd n ]
        ]
      ]
      | inr y ↦ inr y
    ];
  }
    where
      here : Reaches edges seeds node
      here = s.sound node (s.flagged node (Has-append_right q1 (node ∷ []) node (inl refl)))

      reach : (p : ℕ) → LeadsOn edges node p → Reaches edges seeds p
      reach p y = (suc here.0, (y.0, y.1, subst (ReachesIn edges seeds here.0) (sym y.2) here.1, y.3))

  -- where nothing waits all is found
  pub search_ends : (found : List Bool) → IsSearch edges seeds found [] → (p : ℕ) → Reaches edges seeds p → IsFlagged found p
  search_ends found s p h = go h.0 p h.1
    where
      go : (n p : ℕ) → ReachesIn edges seeds n p → IsFlagged found p
      go zero p h = s.seeded p h
      go (suc n) p h =
          elim (s.closed h.0 h.1 (go n h.0.from h.2)) [
            | inl to ↦ subst (IsFlagged found) h.3 to
            | inr n ↦ absurd n
          ]

-- ---- going over the ways

-- what the edges so far lead to from what was found is found
abbrev pub IsSwept : List Edge → List Bool → List Bool → Type 0
IsSwept edges old new = (e : Edge) → Has edges e → IsFlagged old e.from → IsFlagged new e.to

-- after the first k ways
pub record Sweeps (direction : Direction) (ways : List Way) (k : ℕ) (old new : Search) : Type 0 where
  pub grows : Grows (Reaches (edges_in direction ways) (flagged 0 old.found.items)) old.found.items old.waiting.items new.found.items new.waiting.items
  pub swept : IsSwept (edges_in direction (take k ways)) old.found.items new.found.items

module _ (edges : List Edge) (f0 f1 f2 : List Bool) (q0 q1 q2 : List ℕ) (e : Edge) (there : Has edges e) (g : Grows (Reaches edges (flagged 0 f0)) f0 q0 f1 q1) where
  -- a way from what is found is followed
  pub sweep_on : IsFlagged f1 e.from → Grows (λ p. p ≡ e.to) f1 q1 f2 q2 → Grows (Reaches edges (flagged 0 f0)) f0 q0 f2 q2
  sweep_on from one =
      grows_then (Reaches edges (flagged 0 f0)) f0 f1 f2 q0 q1 q2 g
      (grows_weaker (λ p. p ≡ e.to) (Reaches edges (flagged 0 f0)) (λ p is. subst (Reaches edges (flagged 0 f0)) (sym is) next) f1 f2 q1 q2 one)
    where
      here : Reaches edges (flagged 0 f0) e.from
      here = elim (g.only e.from from) [ inl x ↦ (0, is_flagged f0 e.from x) | inr r ↦ r ]

      next : Reaches edges (flagged 0 f0) e.to
      next = (suc here.0, (e, there, here.1, refl))

pub swept_more : (edges : List Edge) (e : Edge) (f0 f1 f2 : List Bool) → IsSwept edges f0 f1 → ((p : ℕ) → IsFlagged f1 p → IsFlagged f2 p) → (IsFlagged f0 e.from → IsFlagged f2 e.to) →
    IsSwept (edges ++ e ∷ []) f0 f2
swept_more edges e f0 f1 f2 before kept this d h from =
    elim (Has-append_cases edges (e ∷ []) d h) [
      | inl a ↦ kept d.to (before d a from)
      | inr b ↦ elim b [
        | inl is ↦ subst (λ (x : Edge). IsFlagged f2 x.to) is (this (subst (λ (x : Edge). IsFlagged f0 x.from) (sym is) from))
        | inr n ↦ absurd n
      ]
    ]
