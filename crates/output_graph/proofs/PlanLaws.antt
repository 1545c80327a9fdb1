-- Plans: one edge more, and one source more.
use Rattle.std.proofs.Common.{◌≡◌, ℕ, zero, suc, ◌+◌, ◌<◌, ◌≤◌, Bool, true, false, ◌||◌, List, [], ◌∷◌, ◌++◌, take, drop, length, refl, sym, ap, ◌∙◌, subst, arith, set, append_assoc, append-nil, length-append}
use Rattle.std.proofs.lemmas.List.{length-map}
use Rattle.std.proofs.Math.Bool.{or-false}
use Rattle.span_core.specs.declared.edge.Edge.{Edge}
use Rattle.output_graph.specs.declared.program.Action.{Action}
use Rattle.output_graph.specs.declared.program.Move.{Move}
use Rattle.output_graph.specs.declared.program.Plan.{Plan}
use Rattle.output_graph.specs.declared.program.Register.{Register}
use Rattle.output_graph.specs.Source.{Edges, Descend}
use Rattle.output_graph.specs.Sound.{edges_of}
use Rattle.output_graph.specs.Plans.{HasEdge, HasEdges, IsPlan, Places, actions_after, actions_of, acts, all_actions, all_places, hands_on, keeps, move_of, moved, nowhere, places_after, places_of, put, release_of}
use Rattle.output_graph.specs.Programs.{AllDescend, ArePlaced, AreCounted, cut, edges_in, place_in, targets_from, with_target}
use Rattle.output_graph.proofs.ProgramLaws.{counted_more, cut_more, descend_more, drop_more, edges_drop, edges_length, edges_snoc, placed_more, take_more, take_whole, targets_more}

-- ---- the register of a place

pub put_within : (held : List Register) (k : ℕ) (r : Register) → k < length held → put held k r ≡ set held k r
put_within [] k r h = absurd (omega arith)
put_within (x ∷ held) zero r h = refl
put_within (x ∷ held) (suc k) r h = ap (λ (xs : List Register). x ∷ xs) (put_within held k r (omega arith))

pub put_behind : (held : List Register) (k : ℕ) (r : Register) → length held ≤ k → put held k r ≡ held ++ r ∷ []
put_behind [] k r h = refl
put_behind (x ∷ held) zero r h = absurd (omega arith)
put_behind (x ∷ held) (suc k) r h = ap (λ (xs : List Register). x ∷ xs) (put_behind held k r (omega arith))

-- ---- moves, from the first

pub places_more : (k : ℕ) (s : Places) (xs : List Move) (m : Move) → places_after k s (xs ++ m ∷ []) ≡ moved (hands_on (places_after k s xs).held m) k (places_after k s xs) m
places_more k s [] m = refl
places_more k s (x ∷ xs) m = places_more k (moved (hands_on s.held x) k s x) xs m

pub actions_more : (k : ℕ) (s : Places) (xs : List Move) (m : Move) →
    actions_after k s (xs ++ m ∷ []) ≡ actions_after k s xs ++ acts (hands_on (places_after k s xs).held m) k (places_after k s xs) m
actions_more k s [] m = append-nil (acts (hands_on s.held m) k s m)
actions_more k s (x ∷ xs) m =
    let t : Places = moved (hands_on s.held x) k s x in
    ap (λ (xs : List Action). acts (hands_on s.held x) k s x ++ xs) (actions_more k t xs m)
    ∙ sym (append_assoc (acts (hands_on s.held x) k s x) (actions_after k t xs) (acts (hands_on (places_after k t xs).held m) k (places_after k t xs) m))

or_assoc : (a b c : Bool) → (a || (b || c)) ≡ ((a || b) || c)
or_assoc true b c = refl
or_assoc false b c = refl

pub keeps_more : (k : ℕ) (s : Places) (xs : List Move) (m : Move) → keeps k s (xs ++ m ∷ []) ≡ (keeps k s xs || hands_on (places_after k s xs).held m)
keeps_more k s [] m = or-false (hands_on s.held m)
keeps_more k s (x ∷ xs) m =
    let t : Places = moved (hands_on s.held x) k s x in
    ap (λ (b : Bool). hands_on s.held x || b) (keeps_more k t xs m) ∙ or_assoc (hands_on s.held x) (keeps k t xs) (hands_on (places_after k t xs).held m)

pub or_yes : (a b : Bool) → b ≡ true → true ≡ (a || b)
or_yes true b e = refl
or_yes false b e = sym e

pub or_no : (a b : Bool) → b ≡ false → a ≡ (a || b)
or_no true b e = refl
or_no false b e = sym e

-- ---- counts, from the first

pub nothing : (moves : List Move) → edges_in moves ≡ [] → moves ≡ []
nothing [] e = refl
nothing (m ∷ moves) e = absurd (let l = ap length e in omega arith)

pub all_places_more : (k : ℕ) (s : Places) (counts : List ℕ) (moves more : List Move) (n j : ℕ) → n ≡ length more → j ≡ k + length counts → AreCounted counts (edges_in moves) →
    all_places k s (counts ++ n ∷ []) (moves ++ more) ≡ places_after j (all_places k s counts moves) more
all_places_more k s [] moves more n j h e are =
    ap (λ (ms : List Move). places_after k s (take n (ms ++ more))) (nothing moves are)
    ∙ (ap (λ (ms : List Move). places_after k s ms) (take_whole more n h) ∙ ap (λ (i : ℕ). places_after i s more) (let a = e in omega arith))
all_places_more k s (m ∷ counts) moves more n j h e are =
    let le : m ≤ length moves = (let a = are.0 in let l = edges_length moves in omega arith) in
    let t : Places = places_after k s (take m moves) in
    ap (λ (ms : List Move). all_places (suc k) (places_after k s ms) (counts ++ n ∷ []) (drop m (moves ++ more))) (take_more moves more m le)
    ∙ (ap (λ (ms : List Move). all_places (suc k) t (counts ++ n ∷ []) ms) (drop_more moves more m le)
    ∙ all_places_more (suc k) t counts (drop m moves) more n j h (omega arith) (subst (λ (es : Edges). AreCounted counts es) (sym (edges_drop moves m)) are.1))

pub all_actions_more : (k : ℕ) (s : Places) (counts : List ℕ) (moves more : List Move) (n j : ℕ) → n ≡ length more → j ≡ k + length counts → AreCounted counts (edges_in moves) →
    all_actions k s (counts ++ n ∷ []) (moves ++ more) ≡ all_actions k s counts moves ++ actions_of j (all_places k s counts moves) more
all_actions_more k s [] moves more n j h e are =
    append-nil (actions_of k s (take n (moves ++ more)))
    ∙ (ap (λ (ms : List Move). actions_of k s (take n (ms ++ more))) (nothing moves are)
    ∙ (ap (λ (ms : List Move). actions_of k s ms) (take_whole more n h) ∙ ap (λ (i : ℕ). actions_of i s more) (let a = e in omega arith)))
all_actions_more k s (m ∷ counts) moves more n j h e are =
    let le : m ≤ length moves = (let a = are.0 in let l = edges_length moves in omega arith) in
    let t : Places = places_after k s (take m moves) in
    ap (λ (ms : List Move). actions_of k s ms ++ all_actions (suc k) (places_after k s ms) (counts ++ n ∷ []) (drop m (moves ++ more))) (take_more moves more m le)
    ∙ (ap (λ (ms : List Move). actions_of k s (take m moves) ++ all_actions (suc k) t (counts ++ n ∷ []) ms) (drop_more moves more m le)
    ∙ (ap (λ (xs : List Action). actions_of k s (take m moves) ++ xs)
    (all_actions_more (suc k) t counts (drop m moves) more n j h (omega arith) (subst (λ (es : Edges). AreCounted counts es) (sym (edges_drop moves m)) are.1))
    ∙ sym (append_assoc (actions_of k s (take m moves)) (all_actions (suc k) t counts (drop m moves)) (actions_of j (all_places k s (m ∷ counts) moves) more))))

-- ---- plans

-- the edges so far
pub edges_none : (k : ℕ) (old : Plan) → old.made ≤ length old.actions.items → HasEdges k old [] old false
edges_none k old few = record {
  more = [];
  edges = refl;
  counts = refl;
  moves = sym (append-nil old.moves.items);
  placed = tt;
  targets = refl;
  kept = refl;
  places = refl;
  actions = sym (append-nil old.actions.items);
  few = few;
}

edges_one : (given : List Edge) (e : Edge) → edges_of (given ++ e ∷ []) ≡ edges_of given ++ (e.marks, e.to) ∷ []
edges_one [] e = refl
edges_one (g ∷ given) e = ap (λ (es : Edges). (g.marks, g.to) ∷ es) (edges_one given e)

module _ (k : ℕ) (old : Plan) (given : List Edge) (mid : Plan) (on : Bool) (so : HasEdges k old given mid on) (e : Edge) (new : Plan)
    (kept now : Bool) (one : HasEdge k mid e new kept) (is : now ≡ (on || kept)) where
  abbrev start : Places
  start = places_of old.held.items old.made

  abbrev step : Move
  step = move_of mid.targets.items e

  abbrev here : Places
  here = places_of mid.held.items mid.made

  here_is : here ≡ places_after k start so.more
  here_is = so.places

  pub edges_next : HasEdges k old (given ++ e ∷ []) new now
  edges_next = record {
    more = so.more ++ step ∷ [];
    edges = edges_snoc so.more step ∙ (ap (λ (es : Edges). es ++ (e.marks, e.to) ∷ []) so.edges ∙ sym (edges_one given e));
    counts = one.counts ∙ so.counts;
    moves = one.moves ∙ (ap (λ (ms : List Move). ms ++ step ∷ []) so.moves ∙ append_assoc old.moves.items so.more (step ∷ []));
    placed = placed_more old.targets.items so.more step so.placed (ap (λ (ts : List ℕ). place_in ts e.to) so.targets);
    targets = one.targets ∙ (ap (λ (ts : List ℕ). with_target ts e.to) so.targets ∙ sym (targets_more old.targets.items so.more step));
    kept =
        is ∙ (ap (λ (b : Bool). b || kept) so.kept
        ∙ (ap (λ (b : Bool). keeps k start so.more || b) (one.kept ∙ ap (λ (p : Places). hands_on p.held step) here_is) ∙ sym (keeps_more k start so.more step)));
    places = one.places ∙ (ap (λ (p : Places). moved (hands_on p.held step) k p step) here_is ∙ sym (places_more k start so.more step));
    actions =
        one.actions
        ∙ (ap (λ (xs : List Action). xs ++ acts (hands_on mid.held.items step) k here step) so.actions
        ∙ (append_assoc old.actions.items (actions_after k start so.more) (acts (hands_on mid.held.items step) k here step)
        ∙ ap (λ (xs : List Action). old.actions.items ++ xs)
        (ap (λ (p : Places). actions_after k start so.more ++ acts (hands_on p.held step) k p step) here_is ∙ sym (actions_more k start so.more step))));
    few = one.few;
  }

targets_split : (sets : List ℕ) (xs ys : List Move) → targets_from sets (xs ++ ys) ≡ targets_from (targets_from sets xs) ys
targets_split sets [] ys = refl
targets_split sets (x ∷ xs) ys = targets_split (with_target sets x.to) xs ys

placed_split : (sets : List ℕ) (xs ys : List Move) → ArePlaced sets xs → ArePlaced (targets_from sets xs) ys → ArePlaced sets (xs ++ ys)
placed_split sets [] ys a b = b
placed_split sets (x ∷ xs) ys a b = (a.0, placed_split (with_target sets x.to) xs ys a.1 b)

edges_append : (xs ys : List Move) → edges_in (xs ++ ys) ≡ edges_in xs ++ edges_in ys
edges_append [] ys = refl
edges_append (x ∷ xs) ys = ap (λ (es : Edges). (x.marks, x.to) ∷ es) (edges_append xs ys)

-- the edges of one source more
module _ (k : ℕ) (old : Plan) (is : IsPlan old) (given : List Edge) (mid : Plan) (on : Bool) (so : HasEdges k old given mid on) (ns : List ℕ)
    (ms : List Move) (counts : ns ≡ old.counts.items ++ length given ∷ [])
    (moves : ms ≡ mid.moves.items) where
  moves_are : ms ≡ old.moves.items ++ so.more
  moves_are = moves ∙ so.moves

  edges_are : edges_in ms ≡ edges_in old.moves.items ++ edges_of given
  edges_are = ap (λ (xs : List Move). edges_in xs) moves_are ∙ (edges_append old.moves.items so.more ∙ ap (λ (es : Edges). edges_in old.moves.items ++ es) so.edges)

  long : length given ≡ length (edges_of given)
  long = sym (length-map given (λ (e : Edge). (e.marks, e.to)))

  pub groups_next : cut ns (edges_in ms) ≡ cut old.counts.items (edges_in old.moves.items) ++ edges_of given ∷ []
  groups_next =
      ap (λ (xs : List ℕ). cut xs (edges_in ms)) counts
      ∙ (ap (λ (es : Edges). cut (old.counts.items ++ length given ∷ []) es) edges_are ∙ cut_more old.counts.items (edges_in old.moves.items) (edges_of given) (length given) long is.counted)

-- one source more
module _ (k : ℕ) (old : Plan) (is : IsPlan old) (at : k ≡ length old.counts.items) (given : List Edge) (descend : Descend (edges_of given))
    (mid : Plan) (on : Bool) (so : HasEdges k old given mid on) (new : Plan)
    (counts : new.counts.items ≡ old.counts.items ++ length given ∷ []) (moves : new.moves ≡ mid.moves) (targets : new.targets ≡ mid.targets) (held : new.held ≡ mid.held) (made : new.made ≡ mid.made)
    (actions : new.actions.items ≡ mid.actions.items ++ release_of on k) where
  abbrev begun : Places
  begun = places_of old.held.items old.made

  many : length given ≡ length so.more
  many = sym (length-map given (λ (e : Edge). (e.marks, e.to))) ∙ (ap length (sym so.edges) ∙ edges_length so.more)

  abbrev moved_all : new.moves.items ≡ mid.moves.items
  moved_all = ap (λ v. v.items) moves

  these_are : new.moves.items ≡ old.moves.items ++ so.more
  these_are = moves_are k old is given mid on so new.counts.items new.moves.items counts moved_all

  those_are : edges_in new.moves.items ≡ edges_in old.moves.items ++ edges_of given
  those_are = edges_are k old is given mid on so new.counts.items new.moves.items counts moved_all

  as_many : length given ≡ length (edges_of given)
  as_many = sym (length-map given (λ (e : Edge). (e.marks, e.to)))

  groups_are : cut new.counts.items (edges_in new.moves.items) ≡ cut old.counts.items (edges_in old.moves.items) ++ edges_of given ∷ []
  groups_are = groups_next k old is given mid on so new.counts.items new.moves.items counts moved_all

  places_next : all_places 0 nowhere new.counts.items new.moves.items ≡ places_of new.held.items new.made
  places_next =
      ap (λ (ns : List ℕ). all_places 0 nowhere ns new.moves.items) counts
      ∙ (ap (λ (ms : List Move). all_places 0 nowhere (old.counts.items ++ length given ∷ []) ms) these_are
      ∙ (all_places_more 0 nowhere old.counts.items old.moves.items so.more (length given) k many (let a = at in omega arith) is.counted
      ∙ (ap (λ (p : Places). places_after k p so.more) is.places
      ∙ (sym so.places ∙ (λ i. places_of (ap (λ v. v.items) (sym held) i) (sym made i))))))

  actions_next : all_actions 0 nowhere new.counts.items new.moves.items ≡ new.actions.items
  actions_next =
      ap (λ (ns : List ℕ). all_actions 0 nowhere ns new.moves.items) counts
      ∙ (ap (λ (ms : List Move). all_actions 0 nowhere (old.counts.items ++ length given ∷ []) ms) these_are
      ∙ (all_actions_more 0 nowhere old.counts.items old.moves.items so.more (length given) k many (let a = at in omega arith) is.counted
      ∙ (ap (λ (p : Places). all_actions 0 nowhere old.counts.items old.moves.items ++ actions_of k p so.more) is.places
      ∙ (ap (λ (xs : List Action). xs ++ actions_of k begun so.more) is.actions
      ∙ (ap (λ (b : Bool). old.actions.items ++ (actions_after k begun so.more ++ release_of b k)) (sym so.kept)
      ∙ (sym (append_assoc old.actions.items (actions_after k begun so.more) (release_of on k))
      ∙ (ap (λ (xs : List Action). xs ++ release_of on k) (sym so.actions) ∙ sym actions)))))))

  pub plan_next : IsPlan new
  plan_next = record {
    counted =
        subst (λ (ns : List ℕ). AreCounted ns (edges_in new.moves.items)) (sym counts)
        (subst (λ (es : Edges). AreCounted (old.counts.items ++ length given ∷ []) es) (sym those_are)
        (counted_more old.counts.items (edges_in old.moves.items) (edges_of given) (length given) as_many is.counted));
    descend = subst (λ (gs : List Edges). AllDescend gs) (sym groups_are) (descend_more (cut old.counts.items (edges_in old.moves.items)) (edges_of given) is.descend descend);
    placed = subst (λ (ms : List Move). ArePlaced [] ms) (sym these_are)
        (placed_split [] old.moves.items so.more is.placed (subst (λ (ts : List ℕ). ArePlaced ts so.more) (sym is.targets) so.placed));
    targets =
        ap (λ (ms : List Move). targets_from [] ms) these_are
        ∙ (targets_split [] old.moves.items so.more
        ∙ (ap (λ (ts : List ℕ). targets_from ts so.more) is.targets ∙ (sym so.targets ∙ ap (λ v. v.items) (sym targets))));
    places = places_next;
    actions = actions_next;
    few = (let f = so.few in let m = made in let l = ap length actions ∙ length-append mid.actions.items (release_of on k) in omega arith);
  }
