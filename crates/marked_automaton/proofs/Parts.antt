-- What automata keep as they grow.
use Rattle.std.proofs.Common.{◌≡◌, ℕ, zero, suc, ◌+◌, ◌*◌, ◌^◌, ◌<◌, ◌≤◌, List, map, [], ◌∷◌, ◌++◌, length, inl, inr, refl, ap, subst, arith, length-append, ◌∙◌, Bool, false, replicate, take, ◌-◌}
use Rattle.std.specs.Prelude.{All}
use Rattle.marked_automaton.specs.Inside.{flagged, graph_of}
use Rattle.marked_automaton.proofs.Flags.{flagged_more, flagged_none}
use Rattle.std.specs.FinSet as set
use Rattle.span_core.specs.Lists.{Has}
use Rattle.span_core.proofs.HasLaws.{Has-append_left, Has-append_cases, Has-map_cases, Contains-Has}
use Rattle.std.proofs.Math.Nat.{one-le-pow}
use Rattle.std.proofs.lemmas.List.{length-map, take_all}
use Rattle.std.proofs.lemmas.List.Elements.{All-contains}
use Rattle.marked_automaton.specs.declared.TheConstants.{MOST_STATES, MOST_WAYS}
use Rattle.marked_automaton.specs.declared.way.Way.{Way}
use Rattle.marked_automaton.specs.declared.way.Stop.{Stop}
use Rattle.marked_automaton.specs.Automaton.{Automaton, Marked, IsMarked, IsWayOf, IsBlockOf, ByteClass, bare, idle_way, plain_stop, reversed, turned_way, with_start, with_states, with_stop, with_way, with_ways}

-- a list with one element more
more : {X : Type 0} (P : X → Type 0) (xs : List X) (x : X) → ((y : X) → Has xs y → P y) → P x → (y : X) → Has (xs ++ x ∷ []) y → P y
more P xs x all here y h =
    elim (Has-append_cases xs (x ∷ []) y h) [ inl a ↦ all y a | inr b ↦ elim b [ inl e ↦ subst P e here | inr n ↦ absurd n ] ]

pub resized : (xs ys : List Bool) (n m : ℕ) → xs ≡ [] → m ≡ 0 → ys ≡ take n xs ++ replicate (n - m) false → ys ≡ replicate n false
resized xs ys n m empty none e =
    let f : n - m ≡ n = omega (arith, none) in
    e ∙ (ap (λ zs. take n zs ++ replicate (n - m) false) empty ∙ (ap (λ zs. zs ++ replicate (n - m) false) (taken n) ∙ ap (λ k. replicate k false) f))
  where
    taken : (n : ℕ) → take n (let e : List Bool = [] in e) ≡ []
    taken zero = refl
    taken (suc n) = refl

-- with room for more flags
pub grown : (flags more : List Bool) (n m : ℕ) → m ≡ length flags → m ≤ n → more ≡ take n flags ++ replicate (n - m) false → flagged 0 more ≡ flagged 0 flags
grown flags more n m len le e =
    let all : take n flags ≡ flags = take_all n flags (omega (arith, len, le)) in
    ap (flagged 0) (e ∙ ap (λ xs. xs ++ replicate (n - m) false) all) ∙ flagged_more 0 flags (n - m)

pub more_states_graph : (n k : ℕ) (starts : List ℕ) (ways : List Way) (stops : List Stop) (flags more : List Bool) (m : ℕ) → n ≡ m + k →
    flagged 0 more ≡ flagged 0 flags → graph_of n starts ways stops more ≡ with_states k (graph_of m starts ways stops flags)
more_states_graph n k starts ways stops flags more m e f = λ i. record { states = e i; starts = starts; ways = ways; stops = stops; idle = f i }

pub new_graph : (n : ℕ) (starts : List ℕ) (ways : List Way) (stops : List Stop) (idle : List Bool) → starts ≡ [] → ways ≡ [] → stops ≡ [] →
    idle ≡ replicate n false → graph_of n starts ways stops idle ≡ bare n
new_graph n starts ways stops idle a b c e =
    let f : flagged 0 idle ≡ [] = ap (flagged 0) e ∙ flagged_none 0 n in
    λ i. record { states = n; starts = a i; ways = b i; stops = c i; idle = f i }

-- each element of the list
pub each_way : {X : Type 0} (P : X → Type 0) (xs : List X) → All P xs → (x : X) → Has xs x → P x
each_way P xs all x h = All-contains P xs x all (Contains-Has xs x h)

pub with_ways_graph : (n : ℕ) (A : Automaton) (ways : List Way) → A ≡ bare n →
    record { states = A.states; starts = A.starts; ways = ways; stops = A.stops; idle = A.idle } ≡ with_ways n ways
with_ways_graph n A ways e =
    let to : Automaton → Automaton = λ (B : Automaton). record { states = B.states; starts = B.starts; ways = ways; stops = B.stops; idle = B.idle } in
    ap to e

pub bare_is_marked : (names : List (List ℕ)) (n : ℕ) → n ≤ MOST_STATES → IsMarked (record { names = names; graph = bare n })
bare_is_marked names n few = record {
  few_states = few;
  few_ways = omega arith;
  whole = record {
    starts = λ p h. absurd h;
    froms = λ y h. absurd h;
    tos = λ y h. absurd h;
    stops = λ x h. absurd h;
    idles = λ p h. absurd h;
  };
  way_marks = λ y h. absurd h;
  stop_marks = λ x h. absurd h;
  some_byte = λ y h. absurd h;
  idle_ways = λ p h. absurd h;
}

module _ (A : Marked) (m : IsMarked A) where
  pub start_is_marked : (p : ℕ) → p < A.graph.states → IsMarked (record { names = A.names; graph = with_start p A.graph })
  start_is_marked p here = record {
    few_states = m.few_states;
    few_ways = m.few_ways;
    whole = record {
      starts = more (λ q. q < A.graph.states) A.graph.starts p m.whole.starts here;
      froms = m.whole.froms;
      tos = m.whole.tos;
      stops = m.whole.stops;
      idles = m.whole.idles;
    };
    way_marks = m.way_marks;
    stop_marks = m.stop_marks;
    some_byte = m.some_byte;
    idle_ways = m.idle_ways;
  }

  pub states_are_marked : (more : ℕ) → A.graph.states + more ≤ MOST_STATES → IsMarked (record { names = A.names; graph = with_states more A.graph })
  states_are_marked more few = record {
    few_states = few;
    few_ways = m.few_ways;
    whole = record {
      starts = λ p h. omega (arith, m.whole.starts p h);
      froms = λ y h. omega (arith, m.whole.froms y h);
      tos = λ y h. omega (arith, m.whole.tos y h);
      stops = λ x h. omega (arith, m.whole.stops x h);
      idles = λ p h. omega (arith, m.whole.idles p h);
    };
    way_marks = m.way_marks;
    stop_marks = m.stop_marks;
    some_byte = m.some_byte;
    idle_ways = m.idle_ways;
  }

  pub stop_is_marked : (x : Stop) → x.state < A.graph.states → IsBlockOf (length A.names) x.marks →
      IsMarked (record { names = A.names; graph = with_stop x A.graph })
  stop_is_marked x here marks = record {
    few_states = m.few_states;
    few_ways = m.few_ways;
    whole = record {
      starts = m.whole.starts;
      froms = m.whole.froms;
      tos = m.whole.tos;
      stops = more (λ (y : Stop). y.state < A.graph.states) A.graph.stops x m.whole.stops here;
      idles = m.whole.idles;
    };
    way_marks = m.way_marks;
    stop_marks = more (λ (y : Stop). IsBlockOf (length A.names) y.marks) A.graph.stops x m.stop_marks marks;
    some_byte = m.some_byte;
    idle_ways = m.idle_ways;
  }

  pub way_is_marked : (y : Way) → length A.graph.ways < MOST_WAYS → y.from < A.graph.states → y.to < A.graph.states →
      IsBlockOf (length A.names) y.marks → ¬ (y.bytes ≡ set.empty) → IsMarked (record { names = A.names; graph = with_way y A.graph })
  way_is_marked y few from to marks bytes = record {
    few_states = m.few_states;
    few_ways = let e : length (A.graph.ways ++ y ∷ []) ≡ length A.graph.ways + 1 = length-append A.graph.ways (y ∷ []) in omega (arith, e, few);
    whole = record {
      starts = m.whole.starts;
      froms = more (λ (z : Way). z.from < A.graph.states) A.graph.ways y m.whole.froms from;
      tos = more (λ (z : Way). z.to < A.graph.states) A.graph.ways y m.whole.tos to;
      stops = m.whole.stops;
      idles = m.whole.idles;
    };
    way_marks = more (λ (z : Way). IsBlockOf (length A.names) z.marks) A.graph.ways y m.way_marks marks;
    stop_marks = m.stop_marks;
    some_byte = more (λ (z : Way). ¬ (z.bytes ≡ set.empty)) A.graph.ways y m.some_byte bytes;
    idle_ways = λ p h. Has-append_left A.graph.ways (y ∷ []) (idle_way p) (m.idle_ways p h);
  }

  -- with other idle states
  pub idle_is_marked : (idle : List ℕ) → ((p : ℕ) → Has idle p → (p < A.graph.states) × Has A.graph.ways (idle_way p)) →
      IsMarked (record { names = A.names; graph = record { states = A.graph.states; starts = A.graph.starts; ways = A.graph.ways; stops = A.graph.stops; idle = idle } })
  idle_is_marked idle are = record {
    few_states = m.few_states;
    few_ways = m.few_ways;
    whole = record {
      starts = m.whole.starts;
      froms = m.whole.froms;
      tos = m.whole.tos;
      stops = m.whole.stops;
      idles = λ p h. (are p h).0;
    };
    way_marks = m.way_marks;
    stop_marks = m.stop_marks;
    some_byte = m.some_byte;
    idle_ways = λ p h. (are p h).1;
  }

  -- with as many ways, of which each was there, and with each that was there
  pub rearranged_is_marked : (ways : List Way) → length ways ≡ length A.graph.ways → ((y : Way) → Has ways y → Has A.graph.ways y) →
      ((y : Way) → Has A.graph.ways y → Has ways y) →
      IsMarked (record { names = A.names; graph = record { states = A.graph.states; starts = A.graph.starts; ways = ways; stops = A.graph.stops; idle = A.graph.idle } })
  rearranged_is_marked ways len back there = record {
    few_states = m.few_states;
    few_ways = omega (arith, len, m.few_ways);
    whole = record {
      starts = m.whole.starts;
      froms = λ y h. m.whole.froms y (back y h);
      tos = λ y h. m.whole.tos y (back y h);
      stops = m.whole.stops;
      idles = m.whole.idles;
    };
    way_marks = λ y h. m.way_marks y (back y h);
    stop_marks = m.stop_marks;
    some_byte = λ y h. m.some_byte y (back y h);
    idle_ways = λ p h. there (idle_way p) (m.idle_ways p h);
  }

pub ways_are_marked : (names : List (List ℕ)) (n : ℕ) (ways : List Way) → n ≤ MOST_STATES → length ways ≤ MOST_WAYS →
    ((y : Way) → Has ways y → IsWayOf n (length names) y) → IsMarked (record { names = names; graph = with_ways n ways })
ways_are_marked names n ways few few_ways are = record {
  few_states = few;
  few_ways = few_ways;
  whole = record {
    starts = λ p h. absurd h;
    froms = λ y h. (are y h).from;
    tos = λ y h. (are y h).to;
    stops = λ x h. absurd h;
    idles = λ p h. absurd h;
  };
  way_marks = λ y h. (are y h).marks;
  stop_marks = λ x h. absurd h;
  some_byte = λ y h. (are y h).bytes;
  idle_ways = λ p h. absurd h;
}

pub reversed_is_marked : (A : Marked) → IsMarked A → IsMarked (record { names = A.names; graph = reversed A.graph })
reversed_is_marked A m = record {
  few_states = m.few_states;
  few_ways = let e : length (map turned_way A.graph.ways) ≡ length A.graph.ways = length-map A.graph.ways turned_way in omega (arith, e, m.few_ways);
  whole = record {
    starts = λ p h. let x = Has-map_cases (λ (x : Stop). x.state) A.graph.stops p h in omega (arith, m.whole.stops x.0 x.1, x.2);
    froms = λ y h. let x = Has-map_cases turned_way A.graph.ways y h in omega (arith, m.whole.tos x.0 x.1, ap (λ (z : Way). z.from) x.2);
    tos = λ y h. let x = Has-map_cases turned_way A.graph.ways y h in omega (arith, m.whole.froms x.0 x.1, ap (λ (z : Way). z.to) x.2);
    stops = λ x h. let p = Has-map_cases plain_stop A.graph.starts x h in omega (arith, m.whole.starts p.0 p.1, ap (λ (z : Stop). z.state) p.2);
    idles = λ p h. absurd h;
  };
  way_marks = λ y h. let x = Has-map_cases turned_way A.graph.ways y h in
      subst (IsBlockOf (length A.names)) (ap (λ (z : Way). z.marks) x.2) (m.way_marks x.0 x.1);
  stop_marks = λ x h. let p = Has-map_cases plain_stop A.graph.starts x h in
      let one : 1 ≤ 2 ^ (2 * length A.names) = one-le-pow (2 * length A.names) 2 (omega arith) in
      omega (arith, one, ap (λ (z : Stop). z.marks) p.2);
  some_byte = λ y h. let x = Has-map_cases turned_way A.graph.ways y h in
      subst (λ (s : ByteClass). ¬ (s ≡ set.empty)) (ap (λ (z : Way). z.bytes) x.2) (m.some_byte x.0 x.1);
  idle_ways = λ p h. absurd h;
}

-- the parts that were made are those of the automaton turned round
pub reversed_graph : (A : Automaton) (stops : List Stop) (ways : List Way) (starts : List ℕ) (starts2 : List ℕ) (ways2 : List Way) (stops2 : List Stop) (idle : List Bool) →
    stops ≡ A.stops → ways ≡ A.ways → starts ≡ A.starts → starts2 ≡ map (λ (x : Stop). x.state) stops → ways2 ≡ map turned_way ways →
    stops2 ≡ map plain_stop starts → idle ≡ replicate A.states false → graph_of A.states starts2 ways2 stops2 idle ≡ reversed A
reversed_graph A stops ways starts starts2 ways2 stops2 idle a b c s w t i =
    let s2 : starts2 ≡ map (λ (x : Stop). x.state) A.stops = s ∙ ap (map (λ (x : Stop). x.state)) a in
    let q2 : ways2 ≡ map turned_way A.ways = w ∙ ap (map turned_way) b in
    let t2 : stops2 ≡ map plain_stop A.starts = t ∙ ap (map plain_stop) c in
    let f : flagged 0 idle ≡ [] = ap (flagged 0) i ∙ flagged_none 0 A.states in
    λ k. record { states = A.states; starts = s2 k; ways = q2 k; stops = t2 k; idle = f k }

-- the same parts make the same automaton
pub copied : (names names2 : List (List ℕ)) (n : ℕ) (starts starts2 : List ℕ) (ways ways2 : List Way) (stops stops2 : List Stop) (idle idle2 : List Bool) →
    names2 ≡ names → starts2 ≡ starts → ways2 ≡ ways → stops2 ≡ stops → idle2 ≡ idle →
    (let made : Marked = record { names = names2; graph = graph_of n starts2 ways2 stops2 idle2 } in
    let old : Marked = record { names = names; graph = graph_of n starts ways stops idle } in
    made ≡ old)
copied names names2 n starts starts2 ways ways2 stops stops2 idle idle2 a b c d e =
    λ i. record { names = a i; graph = graph_of n (b i) (c i) (d i) (e i) }
